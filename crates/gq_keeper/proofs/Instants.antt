-- How time goes on over calls.
use Rattle.std.proofs.Common.{ℕ, List, inl, inr, ⊎_elim, arith}
use Rattle.gq_keeper.specs.Crashes.{Elapses}

-- no call
pub elapses_none : (now : ℕ) (since : ℕ → List ℕ → Type 0) (P : List ℕ → Type 0) → Elapses now now since since P
elapses_none now since P = record { later = omega arith; nothing_else = λ t left early may. inl may }

pub elapses_only : (before now : ℕ) (past since : ℕ → List ℕ → Type 0) (P Q : List ℕ → Type 0) → Elapses before now past since P → ((left : List ℕ) → P left → Q left) → Elapses before now past since Q
elapses_only before now past since P Q e weaker = record {
  later = e.later;
  nothing_else = λ t left early may. ⊎_elim (λ old. inl old) (λ new. inr (weaker left new)) (e.nothing_else t left early may);
}

-- one call behind another
pub elapses_then : (a b c : ℕ) (since_a since_b since_c : ℕ → List ℕ → Type 0) (P Q R : List ℕ → Type 0) → Elapses a b since_a since_b P → Elapses b c since_b since_c Q →
    ((left : List ℕ) → P left → R left) → ((left : List ℕ) → Q left → R left) → Elapses a c since_a since_c R
elapses_then a b c since_a since_b since_c P Q R first second from_p from_q = record {
  later = omega (arith, first.later, second.later);
  nothing_else = λ t left early may.
      ⊎_elim (λ mid. ⊎_elim (λ old. inl old) (λ p. inr (from_p left p)) (first.nothing_else t left early mid)) (λ q. inr (from_q left q))
      (second.nothing_else t left (omega (arith, first.later)) may);
}
