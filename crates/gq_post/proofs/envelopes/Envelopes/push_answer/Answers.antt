-- The slip of the answer has the heading of the one that it answers.
use Rattle.std.proofs.Common.{◌≡◌, ◌∙◌, ◌<◌, ◌++◌, ◌∷◌, [], Some, length, map, slice_get, ap, subst, sym, arith}
use Rattle.std.proofs.lemmas.List.{length-map}
use Rattle.gq_post.specs.Envelopes.{answering}
use Rattle.gq_post.specs.Slips.{opened}
use Rattle.gq_post.proofs.Slips.{opened_read, answered}
use Rattle.gq_post.proofs.envelopes.Envelopes.push_answer.Goals as goal

pub returns-clause-ok : goal.returns-clause-ok
returns-clause-ok c = λ asked is.
    let channel : map (opened c.self.inside.headings.items) c.self.inside.slips.items ≡ c.args.self.now = c.self.view_is in
    let within : c.args.number < length c.self.inside.slips.items = omega (arith, length-map c.self.inside.slips.items (opened c.self.inside.headings.items), ap length channel, c.requires) in
    rw (c.push_reserved.ensures.items, c.make_room.ensures.items)
    (answered c.self.inside.headings.items c.self.inside.slips.items c.index-asked.result.now asked c.args.says c.args.place
    (opened_read c.self.inside.headings.items c.self.inside.slips.items c.args.number c.index-asked.result.now asked within (rw c.make_room.ensures.items at c.index-asked.ensures) (subst (λ l. slice_get l c.args.number ≡ Some asked) (sym channel) is))
    ∙ ap (λ l. l ++ answering asked c.args.says c.args.place ∷ []) channel)
