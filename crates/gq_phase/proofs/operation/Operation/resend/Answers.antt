-- The round's message once more.
use Rattle.std.proofs.Common.{◌∙◌, ap, sym}
use Rattle.std.specs.Prelude.{option_map}
use Rattle.gq_grid.specs.Sets.{servers}
use Rattle.gq_phase.proofs.Saying.{resends}
use Rattle.gq_phase.proofs.operation.Operation.resend.Goals as goal

pub returns-clause-ok : goal.returns-clause-ok
returns-clause-ok c =
    resends c.args.self.now (servers c.args.up) c.in_ok-quorum.quorum c.in_ok-messages.messages
    (sym c.quorum.ensures ∙ ap (option_map servers) c.in_ok-quorum.ensures.ok_part) c.in_ok-messages.ensures
