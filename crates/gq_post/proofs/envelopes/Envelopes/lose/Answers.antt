-- The slip says that it is lost.
use Rattle.std.proofs.Common.{◌≡◌, ◌∙◌, set, map, ap, ap₂, sym}
use Rattle.gq_post.specs.Envelopes.{lost}
use Rattle.gq_post.specs.Slips.{opened}
use Rattle.gq_post.proofs.Slips.{opened_lost}
use Rattle.gq_post.proofs.envelopes.Envelopes.lose.Goals as goal

pub returns-clause-some : goal.returns-clause-some
returns-clause-some c =
    let channel : map (opened c.self.inside.headings.items) c.self.inside.slips.items ≡ c.args.self.now = c.self.view_is in
    let envelope : opened c.self.inside.headings.items c.in_ok-slip.slip ≡ c.opened.result = ap (λ headings. opened headings c.in_ok-slip.slip) (sym c.as_slice.ensures.value) ∙ sym c.opened.ensures in
    opened_lost c.self.inside.headings.items c.self.inside.slips.items c.args.number c.in_ok-slip.slip
    ∙ ap₂ (λ channel envelope. set channel c.args.number (lost envelope)) channel envelope
