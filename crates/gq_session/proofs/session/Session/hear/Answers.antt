use Rattle.std.proofs.Common.{◌∙◌, [], ◌∷◌, ◌++◌, ap, drop, ◌≡◌}
use Rattle.gq_cell.specs.Boards.{Posted, up_of}
use Rattle.gq_session.specs.Diaries.{left_in}
use Rattle.gq_session.specs.declared.records.Did.TheVariants.{Heard}
use Rattle.gq_session.proofs.Stepping.{hears-letter}
use Rattle.gq_session.proofs.session.Session.hear.Goals as goal

pub returns-clause-hears : goal.returns-clause-hears
returns-clause-hears c =
    let same = c.in_ok-reserve.ensures.same in
    let left : left_in c.note.new.self ≡ left_in c.self.inside.event_log = c.note.ensures.left ∙ (λ i. drop (same.asked i) (same.lines i)) in
    let up = c.up.ensures ∙ ap (λ (b : Posted). up_of b.grid b.entries) c.in_ok-stamp.ensures.stamp.board in
    let more = c.note.ensures.entry ∙ (λ i. same.entries i ++ record { stamp = c.in_ok-stamp.stamp; did = Heard c.args.letter; said = c.in_ok-said.field-0.said } ∷ []) in
    hears-letter _ _ _ _ _ _ _ _ c.in_ok-said.field-0.said _ c.self.view_is up c.in_ok-said.ensures.home left c.in_ok-said.ensures.hears more c.is_stuck-stuck.ensures
