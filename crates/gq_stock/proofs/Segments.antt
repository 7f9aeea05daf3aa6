-- Chunks that lie in a segment, one number after another.
use Rattle.std.proofs.Common.{◌≡◌, ◌≤◌, ◌<◌, ℕ, true, false, Some, None, sym, ap, subst, ◌∙◌, arith, inl, inr, ◌⊎◌}
use Rattle.std.specs.Prelude.{IsSome}
use Rattle.std.proofs.lemmas.Bool.{cases_order, cases_lt}
use Rattle.gq_ledger.specs.Steps.{Book}
use Rattle.gq_stock.specs.Segments.{lies_in, has_in, NoneIn, SomeIn}
use Rattle.gq_stock.specs.declared.chunk.Chunk.{Chunk}
use Rattle.gq_stock.proofs.Numbers.{absent_below}

-- none up to a number lies there
abbrev pub NoneUpTo : (segment last : ℕ) → Book Chunk → Type 0
NoneUpTo segment last b = (n : ℕ) → n ≤ last → has_in segment (b.at n) ≡ false

pub none_at_zero : (b : Book Chunk) (segment : ℕ) → has_in segment (b.at 0) ≡ false → NoneUpTo segment 0 b
none_at_zero b segment none n le = let is : n ≡ 0 = omega (arith, le) in subst (λ (k : ℕ). has_in segment (b.at k) ≡ false) (sym is) none

pub none_more : (b : Book Chunk) (segment last number : ℕ) (chunk : Chunk) → NoneUpTo segment last b → last < number → b.at number ≡ Some chunk → lies_in segment chunk.place ≡ false → ((m : ℕ) → last < m → IsSome (b.at m) → number ≤ m) → NoneUpTo segment number b
none_more b segment last number chunk none above there apart least n le = by (cases_lt last n)
  where
    beyond : last < n → (n ≡ number) ⊎ ((n < number) ⊎ (number < n)) → has_in segment (b.at n) ≡ false
    beyond gt (inl is) = ap (λ (k : ℕ). has_in segment (b.at k)) is ∙ (ap (has_in segment) there ∙ apart)
    beyond gt (inr (inl lt)) = ap (has_in segment) (absent_below (b.at n) number n (least n gt) lt)
    beyond gt (inr (inr over)) = absurd (omega (arith, le, over))

    by : (last < n) ⊎ (n ≤ last) → has_in segment (b.at n) ≡ false
    by (inl gt) = beyond gt (cases_order n number)
    by (inr upto) = none n upto

pub none_at_all : (b : Book Chunk) (segment last : ℕ) → NoneUpTo segment last b → ((m : ℕ) → last < m → b.at m ≡ None) → NoneIn segment b
none_at_all b segment last none beyond n = by (cases_lt last n)
  where
    by : (last < n) ⊎ (n ≤ last) → has_in segment (b.at n) ≡ false
    by (inl gt) = ap (has_in segment) (beyond n gt)
    by (inr upto) = none n upto

pub some_there : (b : Book Chunk) (segment number : ℕ) (chunk : Chunk) → b.at number ≡ Some chunk → lies_in segment chunk.place ≡ true → SomeIn segment b
some_there b segment number chunk there is = (number, ap (has_in segment) there ∙ is)
