-- Chunks that lie in a segment, one session and one tenant after another.
use Rattle.std.proofs.Common.{◌≡◌, ◌≤◌, ◌<◌, ◌+◌, ℕ, Bool, false, List, [], ◌∷◌, zero, suc, Some, None, sym, ap, subst, ◌∙◌, arith, inl, inr, ◌⊎◌, length, refl}
use Rattle.std.specs.Prelude.{Option, slice_get, option_map}
use Rattle.std.proofs.lemmas.Bool.{cases_order}
use Rattle.std.proofs.lemmas.Option.{same_Some}
use Rattle.gq_ledger.specs.Ledgers.{book_of}
use Rattle.gq_stock.specs.Segments.{lies_in, has_in}
use Rattle.gq_stock.specs.declared.chunk.Chunk.{Chunk}
use Rattle.gq_stock.specs.declared.session.Session.{Session}
use Rattle.gq_depot.specs.Depots.{Placed, placed_of, standing_of, book_in}
use Rattle.gq_depot.specs.Segments.{NoneAgain}

-- so it is of the first of these
abbrev pub OfFirst : {X : Type 0} → (X → Type 0) → List X → (first : ℕ) → Type 0
OfFirst {X} P xs first = (k : ℕ) (x : X) → k < first → slice_get xs k ≡ Some x → P x

pub of_none : {X : Type 0} (P : X → Type 0) (xs : List X) → OfFirst P xs 0
of_none P xs k x lt is = absurd (never k lt)
  where
    never : (k : ℕ) → k < 0 → ⊥
    never k lt = omega arith

pub one_more : {X : Type 0} (P : X → Type 0) (xs : List X) (i : ℕ) (y : X) → slice_get xs i ≡ Some y → P y → OfFirst P xs i → OfFirst P xs (i + 1)
one_more P xs i y there its before k x lt is = by (cases_order k i)
  where
    by : (k ≡ i) ⊎ ((k < i) ⊎ (i < k)) → P x
    by (inl same) = subst P (same_Some y x (sym there ∙ (ap (slice_get xs) (sym same) ∙ is))) its
    by (inr (inl below)) = before k x below is
    by (inr (inr above)) = absurd (omega (arith, lt, above))

-- what there is is within
pub within : {X : Type 0} (xs : List X) (k : ℕ) (x : X) → slice_get xs k ≡ Some x → k < length xs
within [] k x is = absurd (none is)
  where
    none : {X : Type 0} {x : X} → None ≡ Some x → ⊥
    none e = cc
within (y ∷ xs) zero x is = omega arith
within (y ∷ xs) (suc k) x is = let lt : k < length xs = within xs k x is in omega (arith, lt)

pub of_all : {X : Type 0} (P : X → Type 0) (xs : List X) (i : ℕ) → length xs ≤ i → OfFirst P xs i → (k : ℕ) (x : X) → slice_get xs k ≡ Some x → P x
of_all P xs i all first k x is = let lt : k < length xs = within xs k x is in first k x (omega (arith, lt, all)) is

-- ---- a depot that has the same

abbrev placed_in : (segment : ℕ) → Option Placed → Bool
placed_in segment None = false
placed_in segment (Some placed) = lies_in segment placed.place

as_placed : (segment : ℕ) (o : Option Chunk) → has_in segment o ≡ placed_in segment (option_map placed_of o)
as_placed segment None = refl
as_placed segment (Some chunk) = refl

pub none_again : NoneAgain
none_again segment depot again same none k session there n = by (slice_get depot.stock.sessions.items k) refl
  where
    its : ((standing_of again).books k).at n ≡ option_map placed_of ((book_of session.chunks).at n)
    its = ap (λ (o : Option Session). (book_in o).at n) there

    by : (o : Option Session) → slice_get depot.stock.sessions.items k ≡ o → has_in segment ((book_of session.chunks).at n) ≡ false
    by None was = as_placed segment ((book_of session.chunks).at n) ∙ ap (placed_in segment) (sym its ∙ (same.at k n ∙ ap (λ (o : Option Session). (book_in o).at n) was))
    by (Some before) was =
        as_placed segment ((book_of session.chunks).at n)
        ∙ (ap (placed_in segment) (sym its ∙ (same.at k n ∙ ap (λ (o : Option Session). (book_in o).at n) was))
        ∙ (sym (as_placed segment ((book_of before.chunks).at n)) ∙ none k before was n))
