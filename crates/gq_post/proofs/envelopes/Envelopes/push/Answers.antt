-- The slip under the heading is the envelope.
use Rattle.std.proofs.Common.{◌≡◌, ◌∙◌, ◌++◌, ◌∷◌, [], length, ap, arith}
use Rattle.std.specs.Prelude.{vec_len}
use Rattle.gq_post.proofs.Slips.{pushed}
use Rattle.gq_post.proofs.envelopes.Envelopes.push.Goals as goal

pub returns-clause-ok : goal.returns-clause-ok
returns-clause-ok c =
    let place : vec_len c.self.inside.headings ≡ length c.self.inside.headings.items = omega arith in
    rw (c.push_reserved.ensures.items, c.in_ok-heading.ensures.items, c.of.ensures, c.of-2.ensures, c.make_room.ensures.items, c.in_ok-heading.ensures.place, place)
    (pushed c.self.inside.headings.items c.self.inside.slips.items c.args.envelope c.self.invariant ∙ ap (λ channel. channel ++ c.args.envelope ∷ []) c.self.view_is)
