-- As it is, or without those who are gone.
use Rattle.gq_setup.specs.Texts.{setup_of_node_text}
use Rattle.gq_wire.proofs.Arriving.{ok_more}
use Rattle.gq_service.specs.Gone.{IsRead, read_left}
use Rattle.gq_service.proofs.WhoWent.{left_went, left_whole}
use Rattle.gq_service.proofs.gone.first_setup.Goals as goal

pub returns-then-went : goal.returns-then-went
returns-then-went c =
    ok_more c.without_gone.result _ (IsRead (read_left c.args.went c.args.setup.now (setup_of_node_text c.args.first.now)))
    (λ left all. left_went c.args.went c.args.setup.now (setup_of_node_text c.args.first.now) left c.if-went.true (all (setup_of_node_text c.args.first.now) c.in_ok-read.ensures.setup)) c.without_gone.ensures

pub returns : goal.returns
returns c = left_whole c.args.went c.args.setup.now (setup_of_node_text c.args.first.now) c.in_ok-read.read c.if-went.false c.in_ok-read.ensures.setup
