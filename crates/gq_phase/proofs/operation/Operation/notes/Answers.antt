-- A reply that does not end the round is noted.
use Rattle.std.proofs.Common.{◌∙◌, ap, sym}
use Rattle.gq_grid.specs.Grid.{with_server}
use Rattle.gq_grid.specs.Sets.{servers}
use Rattle.gq_tag.specs.View.{body_of}
use Rattle.gq_phase.specs.Best.{best_with, givers_with}
use Rattle.gq_phase.proofs.Saying.{current_parts, noted_hears, same_of}
use Rattle.gq_phase.proofs.operation.Operation.notes.Goals as goal

pub returns-clause-hears : goal.returns-clause-hears
returns-clause-hears c = λ _ up.
    let now = current_parts c.args.self.now c.args.message.now (sym c.is_current.ensures ∙ c.if-not-is_current.false) in
    let adds = c.insert.ensures ∙ ap (λ m. with_server m.server (servers c.args.self.now.heard)) c.message.view_is in
    let betters = same_of c.args.self.now.task (best_with c.args.self.now.best (body_of c.message.inside.body)) (best_with c.args.self.now.best c.args.message.now.body) (ap (λ m. best_with c.args.self.now.best m.body) c.message.view_is) in
    let gives = c.givers_with-givers.ensures ∙ ap (λ m. givers_with c.args.self.now.best (servers c.args.self.now.givers) m.server m.body) c.message.view_is in
    rw c.in_ok-note.ensures.ok (noted_hears c.args.self.now up c.args.message.now c.insert.new.self (best_with c.args.self.now.best (body_of c.message.inside.body)) c.givers_with-givers.result
    now.0 now.1 adds betters gives (sym c.ends.ensures ∙ c.if-ends.false))
