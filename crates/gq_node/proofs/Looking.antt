-- What is left of a loop over places, files and nodes.
use Rattle.std.proofs.Common.{◌≡◌, ℕ, suc, ◌+◌, ◌-◌, ◌<◌, ◌≤◌, Bool, true, false, refl, arith}
use Rattle.std.specs.List.{list_all, range_with_len}

pub list_all_less : (p : ℕ → Bool) (i n : ℕ) → i < n → p i ≡ false → list_all p (range_with_len i (n - i)) ≡ false
list_all_less p i n h e = let s : n - i ≡ suc (n - (i + 1)) = omega arith in rw (s, e) refl

pub list_all_none : (p : ℕ → Bool) (i n : ℕ) → n ≤ i → list_all p (range_with_len i (n - i)) ≡ true
list_all_none p i n h = let s : n - i ≡ 0 = omega arith in rw s refl
