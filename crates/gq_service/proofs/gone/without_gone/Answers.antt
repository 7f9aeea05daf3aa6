-- Without those who are gone.
use Rattle.std.proofs.Common.{subst}
use Rattle.std.specs.Prelude.{Option}
use Rattle.gq_setup.specs.Setups.{Setup}
use Rattle.gq_wire.proofs.Arriving.{ok_more}
use Rattle.gq_service.specs.Gone.{IsRead}
use Rattle.gq_service.proofs.WhoWent.{nothing_left, left_of}
use Rattle.gq_service.proofs.gone.without_gone.Goals as goal

pub returns-in-None : goal.returns-in-None
returns-in-None c = λ reading is. nothing_left c.args.setup.now.gone reading (subst (λ (o : Option Setup). IsRead reading o) c.in-None.is is)

pub returns-in-Some : goal.returns-in-Some
returns-in-Some c =
    ok_more c.left_of.result _ _
    (λ left made reading is. left_of c.args.setup.now.gone reading c.in-Some.begun left (subst (λ (o : Option Setup). IsRead reading o) c.in-Some.is is) made) c.left_of.ensures
