-- The session hears the letter, and a run of numbers is reserved where one has to be.
use Rattle.std.proofs.Common.{◌≡◌, ◌∙◌, ap, sym, arith}
use Rattle.std.proofs.lemmas.Result.{IfOk-weaker}
use Rattle.gq_grid.specs.Grid.{Grid}
use Rattle.gq_grid.specs.Sets.{servers}
use Rattle.gq_tag.specs.declared.Message.{Message}
use Rattle.gq_tag.specs.Tag.{file_place}
use Rattle.gq_node.specs.declared.session_states.SessionState.{SessionState}
use Rattle.gq_node.specs.declared.output.Output.{Output}
use Rattle.gq_node.specs.Heard.{HeardGives}
use Rattle.gq_node.specs.SessionStates.{SessionStateAttends, TakenIn, is_of_round, session_state_aim_behind}
use Rattle.gq_node.specs.Sites.{aim}
use Rattle.gq_node.proofs.Choosing.{aims_same}
use Rattle.gq_node.proofs.Sitting.{may_hear, session_state_attends, taken_file}
use Rattle.gq_node.proofs.session_states.SessionState.attend.Goals as goal

pub returns : goal.returns
returns c =
    let m : Message = c.args.message.now in
    let grid : Grid = c.args.grid.now in
    let old : SessionState = c.args.self.now in
    let aims : servers c.aim.result ≡ session_state_aim_behind grid old m = c.aim.ensures ∙ ap (aim grid old.row) c.column_behind-column.ensures in
    let P : Output → Type 0 = λ out. HeardGives m.tenant m.session c.reserve_for-run.result c.in_ok-heard.heard out in
    let Q : Output → Type 0 = λ out. SessionStateAttends m.tenant m.session grid old c.reserve_for-run.new.self m out in
    record {
      attends = IfOk-weaker c.heard_output.result P Q (λ out gives.
          session_state_attends m.tenant m.session grid old c.hear.new.self c.reserve_for-run.new.self (servers c.aim.result) m c.in_ok-heard.heard c.reserve_for-run.result out
          (may_hear old (file_place m.file) c.last.result c.is_of_round.result c.last.ensures (omega arith) c.if-last-eq18446744073709551615.false c.is_of_round.ensures c.if-not-is_of_round.false) aims c.in_ok-heard.ensures.hears c.in_ok-heard.ensures.reserved c.reserve_for-run.ensures.run c.reserve_for-run.ensures.reserved gives) c.heard_output.ensures;
      tags = IfOk-weaker c.heard_output.result P (λ out. (o : Message) → TakenIn old.operation m o → SessionStateAttends m.tenant m.session grid old c.reserve_for-run.new.self o out) (λ out gives o d.
          session_state_attends m.tenant m.session grid old c.hear.new.self c.reserve_for-run.new.self (servers c.aim.result) o c.in_ok-heard.heard c.reserve_for-run.result out
          (may_hear old (file_place o.file) c.last.result c.is_of_round.result c.last.ensures (omega arith) c.if-last-eq18446744073709551615.false (c.is_of_round.ensures ∙ ap (is_of_round old.operation) (sym (taken_file old.operation m o d))) c.if-not-is_of_round.false) (aims ∙ aims_same grid old m o d)
          (c.in_ok-heard.ensures.tags o d) c.in_ok-heard.ensures.reserved c.reserve_for-run.ensures.run c.reserve_for-run.ensures.reserved gives) c.heard_output.ensures;
    }
