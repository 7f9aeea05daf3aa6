use Rattle.gq_depot.proofs.depot.Depot.answer.Goals as goal

pub returns-in_ok-forget-in-Forget-clause-damaged : goal.returns-in_ok-forget-in-Forget-clause-damaged
returns-in_ok-forget-in-Forget-clause-damaged g c = c.in_ok-forget-in-Forget.ensures.damaged (g.S.Shelf.noted c.args.shelf.now) (g.S.Shelf.noted c.args.shelf.now)
