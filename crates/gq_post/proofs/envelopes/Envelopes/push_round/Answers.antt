-- The slips under the heading are the envelopes to the servers.
use Rattle.std.proofs.Common.{◌≡◌, ◌∙◌, ◌++◌, length, map, refl, ap, arith}
use Rattle.std.specs.Prelude.{vec_len}
use Rattle.gq_grid.specs.Grid.{rising}
use Rattle.gq_grid.specs.Sets.{servers}
use Rattle.gq_round.specs.Round.{apart}
use Rattle.gq_post.specs.Envelopes.{to_other}
use Rattle.gq_post.specs.Slips.{heading_of, slip_of}
use Rattle.gq_post.proofs.Slips.{have_round, pushed_round}
use Rattle.gq_post.proofs.envelopes.Envelopes.push_round.Goals as goal

pub invariant_of-self-2 : goal.invariant_of-self-2
invariant_of-self-2 c =
    let place : vec_len c.self.inside.headings ≡ length c.self.inside.headings.items = omega arith in
    rw (c.push_slips.ensures.pushed, c.in_ok-heading.ensures.items, c.of.ensures, c.of-slip.ensures, c.make_room.ensures.items, c.in_ok-heading.ensures.place, place)
    (have_round c.self.inside.headings.items c.self.inside.slips.items (heading_of c.args.envelope) (slip_of c.args.envelope (length c.self.inside.headings.items)) (rising c.args.grid.now (apart (servers c.args.to) (servers c.args.except))) refl c.self.invariant)

pub returns-clause-ok : goal.returns-clause-ok
returns-clause-ok c =
    let place : vec_len c.self.inside.headings ≡ length c.self.inside.headings.items = omega arith in
    rw (c.push_slips.ensures.pushed, c.in_ok-heading.ensures.items, c.of.ensures, c.of-slip.ensures, c.make_room.ensures.items, c.in_ok-heading.ensures.place, place)
    (pushed_round c.self.inside.headings.items c.self.inside.slips.items c.args.envelope (rising c.args.grid.now (apart (servers c.args.to) (servers c.args.except))) c.self.invariant
    ∙ ap (λ channel. channel ++ map (to_other c.args.envelope) (rising c.args.grid.now (apart (servers c.args.to) (servers c.args.except)))) c.self.view_is)
