-- One place more is counted.
use Rattle.std.proofs.Common.{◌≡◌, ◌≢◌, ◌∙◌, ℕ, ◌+◌, ◌<◌, ◌≤◌, List, length, sym, subst, arith, ◌++◌, ◌∷◌, []}
use Rattle.std.specs.Prelude.{slice_set}
use Rattle.std.proofs.lemmas.List.{get_or_default}
use Rattle.gq_replace.specs.Plans.{times}
use Rattle.gq_node.specs.declared.lost.TheConstants.{MOST_TIMES}
use Rattle.gq_node.specs.Lost.{IsCounted}
use Rattle.gq_node.specs.Sites.{plan_in}
use Rattle.gq_node.proofs.Counting.{counted_more}
use Rattle.gq_node.proofs.lost.Lost.add.Goals as goal

pub overflow_add-before : goal.overflow_add-before
overflow_add-before c =
    let within : c.args.place < length c.self.inside.times.items = subst (λ n. c.args.place < n) (sym c.self.invariant.long) c.requires in
    let is : c.index-before.result.now ≡ times (plan_in c.self.inside.places.items) c.args.place = c.index-before.ensures ∙ get_or_default c.self.inside.times.items c.args.place c.index-before.result.now 0 within ∙ c.self.invariant.counted c.args.place in
    let few : times (plan_in c.self.inside.places.items) c.args.place ≤ MOST_TIMES = c.self.invariant.few c.args.place in
    omega (arith, is, few)

pub invariant_of-self-2 : goal.invariant_of-self-2
invariant_of-self-2 c =
    let places : List ℕ = c.self.inside.places.items in
    let counts : List ℕ = c.self.inside.times.items in
    let place : ℕ = c.args.place in
    let within : place < length counts = subst (λ n. place < n) (sym c.self.invariant.long) c.requires in
    let is : c.index-before.result.now ≡ times (plan_in places) place = c.index-before.ensures ∙ get_or_default counts place c.index-before.result.now 0 within ∙ c.self.invariant.counted place in
    let few : times (plan_in places) place ≤ MOST_TIMES = c.self.invariant.few place in
    let not_most : times (plan_in places) place ≢ MOST_TIMES = λ e. c.if-before-eq-MOST_TIMES.false (is ∙ e) in
    let rare : times (plan_in places) place < MOST_TIMES = omega (arith, few, not_most) in
    subst (λ (ps : List ℕ). IsCounted ps (slice_set counts place (c.index-before.result.now + 1))) (sym c.in_ok-grow.ensures.items)
    (subst (λ n. IsCounted (places ++ place ∷ []) (slice_set counts place (n + 1))) (sym is) (counted_more places counts place c.self.invariant c.requires rare))
