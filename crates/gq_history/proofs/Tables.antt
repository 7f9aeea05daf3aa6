-- The table of what each session gave up last, one operation on.
use Rattle.std.proofs.Common.{◌≡◌, ℕ, ◌<◌, ◌≤◌, List, [], ◌∷◌, ◌++◌, Bool, true, false, length, get_or, set, refl, sym, ap, ◌∙◌, eqb, arith}
use Rattle.std.specs.Prelude.{is_none, if◌then◌else◌}
use Rattle.std.proofs.lemmas.Bool.{true≢false, eqb-true, eq-eqb}
use Rattle.std.proofs.lemmas.List.{get_or-set_same, get_or-set_other, length-set}
use Rattle.std.proofs.lemmas.List.Sums.{fold-append}
use Rattle.gq_laws.specs.declared.ops.Op.{Op}
use Rattle.gq_history.specs.Moments.{given_up, gives_up}
use Rattle.gq_history.specs.Tables.{IsTable}

given_more : (k : ℕ) (before : List Op) (a : Op) → given_up k (before ++ a ∷ []) ≡ (if gives_up k a then a.op else given_up k before)
given_more k before a = fold-append (λ last b. if gives_up k b then b.op else last) 0 before (a ∷ [])

-- it did not end
pub noted : (before : List Op) (a : Op) (table : List ℕ) → is_none a.end ≡ true → a.session < length table → IsTable before table → IsTable (before ++ a ∷ []) (set table a.session a.op)
noted before a table still inside is = record { size = length-set table a.session a.op ∙ is.size; last = λ k low. go k low (eqb a.session k) refl }
  where
    go : (k : ℕ) → k < 256 → (b : Bool) → eqb a.session k ≡ b → get_or (set table a.session a.op) k 0 ≡ given_up k (before ++ a ∷ [])
    go k low true e = ap (λ z. get_or (set table a.session a.op) z 0) (sym (eqb-true a.session k e)) ∙ (get_or-set_same table a.session a.op 0 inside ∙ sym (given_more k before a ∙ rw (e, still) refl))
    go k low false e = get_or-set_other table a.session k a.op 0 (λ same. true≢false (sym (eq-eqb a.session k (sym same)) ∙ e)) ∙ (is.last k low ∙ sym (given_more k before a ∙ rw e refl))

-- it ended
pub passed : (before : List Op) (a : Op) (table : List ℕ) → is_none a.end ≡ false → IsTable before table → IsTable (before ++ a ∷ []) table
passed before a table done is = record { size = is.size; last = λ k low. is.last k low ∙ sym (given_more k before a ∙ go k (eqb a.session k) refl) }
  where
    go : (k : ℕ) (b : Bool) → eqb a.session k ≡ b → (if gives_up k a then a.op else given_up k before) ≡ given_up k before
    go k true e = rw (e, done) refl
    go k false e = rw e refl

-- it is of no session of the table
pub beyond : (before : List Op) (a : Op) (table : List ℕ) → length table ≤ a.session → IsTable before table → IsTable (before ++ a ∷ []) table
beyond before a table far is = record { size = is.size; last = λ k low. is.last k low ∙ sym (given_more k before a ∙ go k low (eqb a.session k) refl) }
  where
    go : (k : ℕ) → k < 256 → (b : Bool) → eqb a.session k ≡ b → (if gives_up k a then a.op else given_up k before) ≡ given_up k before
    go k low true e = absurd (let same = eqb-true a.session k e in let size = is.size in omega arith)
    go k low false e = rw e refl
