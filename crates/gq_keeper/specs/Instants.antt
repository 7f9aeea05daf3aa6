-- What a crash may have left of a file, by what was noted of it.
use Rattle.std.specs.Prelude.{◌⊎◌, ℕ, zero, suc, ◌+◌, ◌-◌, List, [], ◌∷◌, length}
use Rattle.std.proofs.Common.{subst, ⊎_elim}
use Rattle.std.proofs.Math.Nat.{add-sub_cancel}
use Rattle.gq_keeper.specs.Crashes.{Leaves}
use Rattle.gq_keeper.specs.Notes.{Instant, synced_in, seen_in}

-- one of the newest so many instants leaves it
abbrev pub LeftIn : ℕ → List Instant → List ℕ → Type 0
LeftIn n [] left = ⊥
LeftIn zero (instant ∷ instants) left = ⊥
LeftIn (suc n) (instant ∷ instants) left = Leaves instant.0 instant.1 left ⊎ LeftIn n instants left

-- one of the instants since this one leaves it; instants are numbered from the first
abbrev pub LeftSince : List Instant → ℕ → List ℕ → Type 0
LeftSince instants t left = LeftIn (1 + length instants - t) instants left

-- ---- a crash now leaves what the newest instant leaves

none_left : (instants : List Instant) (left : List ℕ) → LeftIn 0 instants left → ⊥
none_left [] left may = may
none_left (instant ∷ instants) left may = may

newest : (instants : List Instant) (left : List ℕ) → LeftIn 1 instants left → Leaves (synced_in instants) (seen_in instants) left
newest [] left may = absurd may
newest (instant ∷ instants) left may = ⊎_elim (λ it. it) (λ none. absurd (none_left instants left none)) may

pub only_now : (instants : List Instant) (left : List ℕ) → LeftSince instants (length instants) left → Leaves (synced_in instants) (seen_in instants) left
only_now instants left may = newest instants left (subst (λ n. LeftIn n instants left) (add-sub_cancel 1 (length instants)) may)
