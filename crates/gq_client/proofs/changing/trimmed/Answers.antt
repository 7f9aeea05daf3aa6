use Rattle.std.proofs.Common.{◌≡◌, ◌-◌, ◌∙◌, List, ℕ, Some, length, ap, sym, subst}
use Rattle.std.specs.List.{slice_get}
use Rattle.gq_client.proofs.Trimming.{shorter}
use Rattle.gq_client.proofs.changing.trimmed.Goals as goal

pub loop-numbers-preserved : goal.loop-numbers-preserved
loop-numbers-preserved c t =
    let last : slice_get c.deref.result.now (length c.deref.result.now - 1) ≡ Some 0 = sym c.in-Some-eq0.ensures.value ∙ ap (λ n. Some n) c.in-Some-eq0.field-0-test in
    shorter c.loop-numbers.numbers.items c.pop.new.self.items c.pop.result c.pop.ensures.items
    (subst (λ (xs : List ℕ). slice_get xs (length xs - 1) ≡ Some 0) c.deref.ensures.value last) t ∙ c.loop-numbers.invariant t
