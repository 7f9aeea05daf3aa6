use Rattle.gq_depot.proofs.depot.Depot.fill.Goals as goal

pub returns-in_ok-raise-in-Raise-clause-sure : goal.returns-in_ok-raise-in-Raise-clause-sure
returns-in_ok-raise-in-Raise-clause-sure g c = c.in_ok-raise-in-Raise.ensures.sure (g.S.Shelf.noted c.args.shelf.now)
