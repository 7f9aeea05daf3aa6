use Rattle.std.proofs.Common.{refl}
use Rattle.gq_depot.proofs.Standing.{given_leads}
use Rattle.gq_depot.proofs.depot.Depot.put_at.Goals as goal

pub returns : goal.returns
returns c = given_leads c.args.self.now _ c.args.place c.args.session c.args.number _ c.index_mut.result.now c.put.new.self c.requires.number c.requires.there c.index_mut.ensures.value (c.in_ok-is_put.ensures.put c.if-not-is_put.false) refl refl refl refl
