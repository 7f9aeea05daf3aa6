-- One place more of an order that is gone through.
use Rattle.std.proofs.Common.{◌≡◌, ◌∙◌, ℕ, ◌+◌, ◌<◌, ◌≤◌, List, [], ◌∷◌, ◌++◌, append_assoc, get_or, length, drop, max, Some, None, refl, sym, ap}
use Rattle.std.specs.Prelude.{slice_get}
use Rattle.std.proofs.lemmas.List.{drop_more, length_push}
use Rattle.std.proofs.lemmas.Option.{slice_get_past, slice_get-get_or}
use Rattle.gq_laws.specs.declared.ops.Op.{Op}
use Rattle.gq_laws.specs.Operations.{ops_at}
use Rattle.gq_picture.specs.Columns.{begins, latest_from}
use Rattle.gq_picture.specs.declared.drawing.Bar.{Bar}
use Rattle.gq_picture.specs.Drawing.{bar_of, bars_from}

-- one more stands behind those so far
pub push_rest : {X : Type 0} (old new rest whole : List X) (x : X) → new ≡ old ++ x ∷ [] → old ++ x ∷ rest ≡ whole → new ++ rest ≡ whole
push_rest old new rest whole x is before = ap (λ z. z ++ rest) is ∙ (append_assoc old (x ∷ []) rest ∙ before)

-- the place is the first of those that are left
pub rest_is : (order : List ℕ) (i : ℕ) → i < length order → drop i order ≡ get_or order i 0 ∷ drop (i + 1) order
rest_is order i low = drop_more order i 0 low

-- the operation there is the one that was found
pub found : (ops : List Op) (p : ℕ) (a : Op) → p < length ops → a ≡ get_or ops p a → slice_get ops p ≡ Some a
found ops p a inside is = slice_get-get_or ops p a inside ∙ ap Some (sym is)

pub ops_more : (ops : List Op) (p : ℕ) (rest : List ℕ) (a : Op) → slice_get ops p ≡ Some a → ops_at ops (p ∷ rest) ≡ a ∷ ops_at ops rest
ops_more ops p rest a at = rw at refl

pub ops_none : (ops : List Op) (p : ℕ) (rest : List ℕ) → slice_get ops p ≡ None → ops_at ops (p ∷ rest) ≡ ops_at ops rest
ops_none ops p rest at = rw at refl

-- what is left begins with the operation at the place
pub ops_next : (ops : List Op) (order : List ℕ) (i : ℕ) (a : Op) → i < length order → slice_get ops (get_or order i 0) ≡ Some a → ops_at ops (drop i order) ≡ a ∷ ops_at ops (drop (i + 1) order)
ops_next ops order i a low at = ap (ops_at ops) (rest_is order i low) ∙ ops_more ops (get_or order i 0) (drop (i + 1) order) a at

-- or there is none
pub ops_skip : (ops : List Op) (order : List ℕ) (i : ℕ) → i < length order → length ops ≤ get_or order i 0 → ops_at ops (drop i order) ≡ ops_at ops (drop (i + 1) order)
ops_skip ops order i low past = ap (ops_at ops) (rest_is order i low) ∙ ops_none ops (get_or order i 0) (drop (i + 1) order) (slice_get_past ops (get_or order i 0) past)

-- one beginning more, or none
pub begins_more : (ops : List Op) (order : List ℕ) (i : ℕ) (a : Op) (old new whole : List ℕ) → i < length order → slice_get ops (get_or order i 0) ≡ Some a → new ≡ old ++ a.begin ∷ []
    → old ++ begins (ops_at ops (drop i order)) ≡ whole → new ++ begins (ops_at ops (drop (i + 1) order)) ≡ whole
begins_more ops order i a old new whole low at is before =
    push_rest old new (begins (ops_at ops (drop (i + 1) order))) whole a.begin is (ap (λ z. old ++ begins z) (sym (ops_next ops order i a low at)) ∙ before)

pub begins_skip : (ops : List Op) (order : List ℕ) (i : ℕ) (old new whole : List ℕ) → i < length order → length ops ≤ get_or order i 0 → new ≡ old
    → old ++ begins (ops_at ops (drop i order)) ≡ whole → new ++ begins (ops_at ops (drop (i + 1) order)) ≡ whole
begins_skip ops order i old new whole low past is before =
    ap (λ z. z ++ begins (ops_at ops (drop (i + 1) order))) is ∙ (ap (λ z. old ++ begins z) (sym (ops_skip ops order i low past)) ∙ before)

-- one of the last beginnings more, or none
pub latest_more : (ops : List Op) (order : List ℕ) (i : ℕ) (a : Op) (last high : ℕ) (old new whole : List ℕ) → i < length order → slice_get ops (get_or order i 0) ≡ Some a → high ≡ max last a.begin → new ≡ old ++ high ∷ []
    → old ++ latest_from last (ops_at ops (drop i order)) ≡ whole → new ++ latest_from high (ops_at ops (drop (i + 1) order)) ≡ whole
latest_more ops order i a last high old new whole low at highest is before =
    push_rest old new (latest_from high (ops_at ops (drop (i + 1) order))) whole high is
    (ap (λ h. old ++ h ∷ latest_from h (ops_at ops (drop (i + 1) order))) highest ∙ (ap (λ z. old ++ latest_from last z) (sym (ops_next ops order i a low at)) ∙ before))

pub latest_skip : (ops : List Op) (order : List ℕ) (i : ℕ) (last high : ℕ) (old new whole : List ℕ) → i < length order → length ops ≤ get_or order i 0 → high ≡ last → new ≡ old
    → old ++ latest_from last (ops_at ops (drop i order)) ≡ whole → new ++ latest_from high (ops_at ops (drop (i + 1) order)) ≡ whole
latest_skip ops order i last high old new whole low past same is before =
    ap (λ z. z ++ latest_from high (ops_at ops (drop (i + 1) order))) is
    ∙ (ap (λ h. old ++ latest_from h (ops_at ops (drop (i + 1) order))) same ∙ (ap (λ z. old ++ latest_from last z) (sym (ops_skip ops order i low past)) ∙ before))

-- one bar more, or none
pub bars_more : (ops seq : List Op) (order : List ℕ) (i : ℕ) (a : Op) (last high : ℕ) (bar : Bar) (old new whole : List Bar) → i < length order → slice_get ops (get_or order i 0) ≡ Some a
    → high ≡ max last a.begin → bar ≡ bar_of seq (length old) high (get_or order i 0) a → new ≡ old ++ bar ∷ []
    → old ++ bars_from ops seq (length old) last (drop i order) ≡ whole → new ++ bars_from ops seq (length new) high (drop (i + 1) order) ≡ whole
bars_more ops seq order i a last high bar old new whole low at highest made is before =
    ap (λ n. new ++ bars_from ops seq n high (drop (i + 1) order)) (ap length is ∙ length_push old bar)
    ∙ push_rest old new (bars_from ops seq (length old + 1) high (drop (i + 1) order)) whole bar is
    (ap (λ b. old ++ b ∷ bars_from ops seq (length old + 1) high (drop (i + 1) order)) made
    ∙ (ap (λ h. old ++ bar_of seq (length old) h (get_or order i 0) a ∷ bars_from ops seq (length old + 1) h (drop (i + 1) order)) highest
    ∙ (ap (λ z. old ++ z) (sym (next (get_or order i 0) at) ∙ ap (bars_from ops seq (length old) last) (sym (rest_is order i low))) ∙ before)))
  where
    next : (p : ℕ) → slice_get ops p ≡ Some a → bars_from ops seq (length old) last (p ∷ drop (i + 1) order) ≡ bar_of seq (length old) (max last a.begin) p a ∷ bars_from ops seq (length old + 1) (max last a.begin) (drop (i + 1) order)
    next p at = rw at refl

pub bars_skip : (ops seq : List Op) (order : List ℕ) (i : ℕ) (last high : ℕ) (old new whole : List Bar) → i < length order → length ops ≤ get_or order i 0 → high ≡ last → new ≡ old
    → old ++ bars_from ops seq (length old) last (drop i order) ≡ whole → new ++ bars_from ops seq (length new) high (drop (i + 1) order) ≡ whole
bars_skip ops seq order i last high old new whole low past same is before =
    ap (λ z. z ++ bars_from ops seq (length z) high (drop (i + 1) order)) is
    ∙ (ap (λ h. old ++ bars_from ops seq (length old) h (drop (i + 1) order)) same
    ∙ (ap (λ z. old ++ z) (sym (next (get_or order i 0) (slice_get_past ops (get_or order i 0) past)) ∙ ap (bars_from ops seq (length old) last) (sym (rest_is order i low))) ∙ before))
  where
    next : (p : ℕ) → slice_get ops p ≡ None → bars_from ops seq (length old) last (p ∷ drop (i + 1) order) ≡ bars_from ops seq (length old) last (drop (i + 1) order)
    next p at = rw at refl
