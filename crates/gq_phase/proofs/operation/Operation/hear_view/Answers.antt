-- A reply that does not end the round is noted.
use Rattle.std.proofs.Common.{◌∙◌, ap, sym}
use Rattle.gq_grid.specs.Grid.{with_server}
use Rattle.gq_grid.specs.Sets.{servers}
use Rattle.gq_tag.specs.View.{body_of}
use Rattle.gq_phase.specs.Best.{best_with, givers_with}
use Rattle.gq_phase.proofs.Saying.{current_parts, noted_hears, same_of, says_view, says_given}
use Rattle.gq_phase.proofs.operation.Operation.hear_view.Goals as goal

pub returns-then-not-ends-clause-hears : goal.returns-then-not-ends-clause-hears
returns-then-not-ends-clause-hears c =
    let now = current_parts c.args.self.now c.args.message.now (sym c.is_current.ensures ∙ c.if-not-is_current.false) in
    let adds = c.insert.ensures ∙ ap (λ m. with_server m.server (servers c.args.self.now.heard)) c.message.view_is in
    let betters = same_of c.args.self.now.task (best_with c.args.self.now.best (body_of c.message.inside.body)) (best_with c.args.self.now.best c.args.message.now.body) (ap (λ m. best_with c.args.self.now.best m.body) c.message.view_is) in
    let gives = c.givers_with-givers.ensures ∙ ap (λ m. givers_with c.args.self.now.best (servers c.args.self.now.givers) m.server m.body) c.message.view_is in
    rw c.in_ok-note.ensures.ok (noted_hears c.args.self.now (servers c.args.up) c.args.message.now c.insert.new.self (best_with c.args.self.now.best (body_of c.message.inside.body)) c.givers_with-givers.result
    now.0 now.1 adds betters gives (sym c.ends.ensures ∙ c.if-not-ends.true))

pub returns-then-not-ends-clause-tags : goal.returns-then-not-ends-clause-tags
returns-then-not-ends-clause-tags c =
    let now = current_parts c.args.self.now c.args.message.now (sym c.is_current.ensures ∙ c.if-not-is_current.false) in
    let adds = c.insert.ensures ∙ ap (λ m. with_server m.server (servers c.args.self.now.heard)) c.message.view_is in
    let gives = c.givers_with-givers.ensures ∙ ap (λ m. givers_with c.args.self.now.best (servers c.args.self.now.givers) m.server m.body) c.message.view_is in
    rw c.in_ok-note.ensures.ok (λ m d. noted_hears c.args.self.now (servers c.args.up) m c.insert.new.self (best_with c.args.self.now.best (body_of c.message.inside.body)) c.givers_with-givers.result
    (d.op ∙ now.0) (d.round ∙ now.1) (adds ∙ ap (λ s. with_server s (servers c.args.self.now.heard)) (sym d.server)) (says_view c.args.self.now (body_of c.message.inside.body) c.args.message.now.body m.body (ap (λ m. m.body) c.message.view_is) d.body) (gives ∙ says_given c.args.self.now (servers c.args.self.now.givers) c.args.message.now m d) (sym c.ends.ensures ∙ c.if-not-ends.true))

pub hear_last-requires-clause-heard : goal.hear_last-requires-clause-heard
hear_last-requires-clause-heard c = c.insert.ensures ∙ ap (λ m. with_server m.server (servers c.args.self.now.heard)) c.message.view_is

pub hear_last-requires-clause-givers : goal.hear_last-requires-clause-givers
hear_last-requires-clause-givers c = c.givers_with-givers.ensures ∙ ap (λ m. givers_with c.args.self.now.best (servers c.args.self.now.givers) m.server m.body) c.message.view_is
