use Rattle.gq_depot.proofs.Standing.{looked}
use Rattle.gq_depot.proofs.depot.Depot.look_at.Goals as goal

pub returns-clause-found : goal.returns-clause-found
returns-clause-found g c written session is = looked _ written c.args.self.now.stock.sessions.items c.args.place c.args.number c.session-session.result.now session c.in_ok-found.found c.session-session.ensures is (c.in_ok-found.ensures.found written)
