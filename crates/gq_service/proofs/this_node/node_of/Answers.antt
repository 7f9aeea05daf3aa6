-- The node that the plan has at the place of the number is that of the number.
use Rattle.std.proofs.Common.{◌≡◌, ◌∙◌, ℕ, List, true, sym, subst, ap}
use Rattle.std.proofs.lemmas.Bool.{and_parts, eqb-true}
use Rattle.gq_replace.specs.Plans.{node_at, place_of}
use Rattle.gq_node.specs.Sites.{plan_in}
use Rattle.gq_setup.specs.Setups.{Setup, has_node}
use Rattle.gq_service.proofs.this_node.node_of.Goals as goal

pub returns-clause-same : goal.returns-clause-same
returns-clause-same c =
    let setup : Setup = c.args.setup.now in
    let has : has_node setup c.args.number ≡ true = sym c.has_node.ensures ∙ c.if-not-has_node.false in
    c.node_at.ensures ∙ ap (λ (lost : List ℕ). node_at (plan_in lost) (place_of c.args.number)) c.lost.ensures.lost ∙ eqb-true _ _ (and_parts _ _ has).1

pub returns-clause-of_plan : goal.returns-clause-of_plan
returns-clause-of_plan c =
    let setup : Setup = c.args.setup.now in
    let has : has_node setup c.args.number ≡ true = sym c.has_node.ensures ∙ c.if-not-has_node.false in
    let same : c.node_at.result ≡ c.args.number = c.node_at.ensures ∙ ap (λ (lost : List ℕ). node_at (plan_in lost) (place_of c.args.number)) c.lost.ensures.lost ∙ eqb-true _ _ (and_parts _ _ has).1 in
    subst (λ n. has_node setup n ≡ true) (sym same) has
