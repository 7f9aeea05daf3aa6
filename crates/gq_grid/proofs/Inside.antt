-- The servers of a row that lies wholly in a set are in it, and those of a column.
use Rattle.std.proofs.Common.{◌≡◌, ℕ, zero, suc, ◌+◌, ◌<◌, ◌≤◌, Bool, true, inl, inr, Some, arith, eqb}
use Rattle.std.specs.List.{list_any, range_with_len}
use Rattle.std.proofs.lemmas.Bool.{cases_Bool, eqb-true}
use Rattle.gq_grid.specs.Grid.{Grid, Servers, server_at, is_full_row, is_full_column, least_row, least_column, row_servers, column_servers}
use Rattle.gq_grid.proofs.Meeting.{all_at, found_passes}

-- of some numbers, one passes where any does
pub one_of : (p : ℕ → Bool) (a n : ℕ) → list_any p (range_with_len a n) ≡ true → (x : ℕ) × (a ≤ x) × (x < a + n) × (p x ≡ true)
one_of p a zero h = absurd (cc)
one_of p a (suc n) h =
    elim (cases_Bool (p a)) [
      | inl e ↦ (a, omega arith, omega arith, e)
      | inr e ↦
          let rest : list_any p (range_with_len (a + 1) n) ≡ true = rw e at h in
          let r = one_of p (a + 1) n rest in
          (r.0, omega arith, omega arith, r.3)
    ]

-- the least row that lies wholly in a set lies in it
pub chosen_row_up : (grid : Grid) (up : Servers) (r server : ℕ) → least_row grid up ≡ Some r → row_servers grid r server ≡ true → up server ≡ true
chosen_row_up grid up r server least inside =
    let passes = found_passes (is_full_row grid up) 0 grid.rows r least in
    let at = one_of (λ c. eqb (server_at grid r c) server) 0 grid.cols inside in
    let same : server_at grid r at.0 ≡ server = eqb-true (server_at grid r at.0) server at.3 in
    rw (← same) (all_at (λ c. up (server_at grid r c)) 0 grid.cols at.0 passes.2 at.1 at.2)

pub chosen_column_up : (grid : Grid) (up : Servers) (c server : ℕ) → least_column grid up ≡ Some c → column_servers grid c server ≡ true → up server ≡ true
chosen_column_up grid up c server least inside =
    let passes = found_passes (is_full_column grid up) 0 grid.cols c least in
    let at = one_of (λ r. eqb (server_at grid r c) server) 0 grid.rows inside in
    let same : server_at grid at.0 c ≡ server = eqb-true (server_at grid at.0 c) server at.3 in
    rw (← same) (all_at (λ r. up (server_at grid r c)) 0 grid.rows at.0 passes.2 at.1 at.2)
