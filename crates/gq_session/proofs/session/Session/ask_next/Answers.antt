use Rattle.std.proofs.Common.{◌≡◌, ◌∙◌, [], ◌∷◌, ◌++◌, ap, sym, drop}
use Rattle.gq_cell.specs.Boards.{Posted, up_of}
use Rattle.gq_session.specs.Diaries.{left_in}
use Rattle.gq_session.specs.declared.records.Did.TheVariants.{Asked}
use Rattle.gq_session.proofs.Stepping.{asks-next}
use Rattle.gq_session.proofs.session.Session.ask_next.Goals as goal

pub returns-clause-asks : goal.returns-clause-asks
returns-clause-asks c =
    let same = c.in_ok-reserve.ensures.same in
    let kept : left_in c.reserve.new.self ≡ left_in c.self.inside.event_log = λ i. drop (same.asked i) (same.lines i) in
    let next : left_in c.self.inside.event_log ≡ c.in_ok-line.line ∷ left_in c.ask-2.new.self = sym kept ∙ c.ask-2.ensures.left in
    let up = c.up.ensures ∙ ap (λ (b : Posted). up_of b.grid b.entries) c.in_ok-stamp.ensures.stamp.board in
    let more = c.ask-2.ensures.entry ∙ (λ i. same.entries i ++ record { stamp = c.in_ok-stamp.stamp; did = Asked c.in_ok-line.line; said = c.in_ok-said.field-0.said } ∷ []) in
    asks-next _ _ _ _ _ _ _ c.in_ok-line.line c.in_ok-said.field-0.said c.self.view_is next up c.in_ok-said.ensures.home c.in_ok-said.ensures.asks more
