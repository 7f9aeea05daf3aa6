-- Whom a session asks has a full row and a full column.
use Rattle.std.proofs.Common.{◌≡◌, ◌≢◌, ◌∙◌, ℕ, zero, suc, ◌+◌, ◌-◌, ◌<◌, Bool, true, false, refl, ap, Option, Some, None, inl, inr, arith, mul-zero}
use Rattle.std.specs.List.{list_any, range_with_len}
use Rattle.std.specs.Prelude.{◌*◌, ◌/◌, ◌%◌, find, is_some, option_map, unwrap_or}
use Rattle.std.proofs.lemmas.Bool.{cases_Bool}
use Rattle.std.proofs.lemmas.Nat.{div_below, div-add-mod'}
use Rattle.gq_grid.specs.Grid.{Grid, Servers, below, server_at, row_servers, column_servers, least_row, least_column, has_row, has_column}
use Rattle.gq_grid.proofs.Meeting.{any_from, find_from, found_passes, has_row_more, has_column_more, row_servers-row, column_servers-column}
use Rattle.gq_grid.proofs.Same.{or-true}
use Rattle.gq_phase.specs.Quorums.{collect_quorum, store_quorum}
use Rattle.gq_node.specs.Columns.{AllStoresGoWhereGiven, stands_in, column_among, column_behind, heard_with, gave}
use Rattle.gq_node.specs.Sites.{aim}
use Rattle.gq_node.specs.Aims.{AllAimsHaveQuorums}
use Rattle.std.proofs.Math.Nat.{mod-lt, mod-eq_of_lt}

some_mapped : (f : ℕ → Servers) (o : Option ℕ) → is_some o ≡ true → option_map f o ≢ None
some_mapped f None is = absurd (cc)
some_mapped f (Some n) is = λ none. cc

row_there : (grid : Grid) (row column : ℕ) → 0 < grid.rows → has_row grid (aim grid row column) ≡ true
row_there grid row column some =
    let r : ℕ = row % grid.rows in
    let c : ℕ = column % grid.cols in
    let within : r < grid.rows = mod-lt row some in
    has_row_more grid (row_servers grid r) (aim grid row column) (λ server inside is. rw is refl) (row_servers-row grid r within)

column_there : (grid : Grid) (row column : ℕ) → 0 < grid.cols → has_column grid (aim grid row column) ≡ true
column_there grid row column some =
    let r : ℕ = row % grid.rows in
    let c : ℕ = column % grid.cols in
    let within : c < grid.cols = mod-lt column some in
    has_column_more grid (column_servers grid c) (aim grid row column) (λ server inside is. rw is (or-true (row_servers grid r server))) (column_servers-column grid c within)

pub all_aims_have_quorums : AllAimsHaveQuorums
unfolding collect_quorum store_quorum
all_aims_have_quorums grid row column rows cols = (
  some_mapped (row_servers grid) (least_row grid (aim grid row column)) (row_there grid row column rows),
  some_mapped (column_servers grid) (least_column grid (aim grid row column)) (column_there grid row column cols),
)

-- what is left of a range after its first number
pub list_any_more : (p : ℕ → Bool) (i n : ℕ) → i < n → p i ≡ false → list_any p (range_with_len (i + 1) (n - (i + 1))) ≡ list_any p (range_with_len i (n - i))
list_any_more p i n h e = let s : n - i ≡ suc (n - (i + 1)) = omega arith in rw (s, e) refl

-- ---- a column of one who gave the copy

-- a server stands in its column
stands_there : (grid : Grid) (set : Servers) (server : ℕ) → 0 < grid.cols → server < grid.rows * grid.cols → set server ≡ true → stands_in grid set (server % grid.cols) ≡ true
stands_there grid set server some within is =
    let low : server / grid.cols < grid.rows = div_below server grid.cols grid.rows some within in
    any_from (λ r. set (server_at grid r (server % grid.cols))) 0 grid.rows (server / grid.cols) (omega arith) (omega (arith, low)) (ap set (div-add-mod' server grid.cols) ∙ is)

with_cols : (rows cols server : ℕ) → server < rows * cols → 0 < cols
with_cols rows zero server within = absurd (omega (arith, mul-zero rows, within))
with_cols rows (suc cols) server within = omega arith

some_found : (o : Option ℕ) → is_some o ≡ true → (n : ℕ) × (o ≡ Some n)
some_found None is = absurd (cc)
some_found (Some n) is = (n, refl)

stands_among : (grid : Grid) (set : Servers) (column server : ℕ) → server < grid.rows * grid.cols → set server ≡ true → stands_in grid set (column_among grid set column % grid.cols) ≡ true
stands_among grid set column server within is = elim (cases_Bool (stands_in grid set (column % grid.cols))) [
  | inl own ↦ (let same : column_among grid set column ≡ column = rw own refl in ap (λ c. stands_in grid set (c % grid.cols)) same ∙ own)
  | inr other ↦ (
      let some : 0 < grid.cols = with_cols grid.rows grid.cols server within in
      let first = some_found (find (stands_in grid set) (below grid.cols)) (find_from (stands_in grid set) 0 grid.cols (server % grid.cols) (omega arith) (omega (arith, mod-lt server some)) (stands_there grid set server some within is)) in
      let passes = found_passes (stands_in grid set) 0 grid.cols first.0 first.1 in
      let same : column_among grid set column ≡ first.0 = (rw other refl) ∙ ap (λ found. unwrap_or found column) first.1 in
      let low : first.0 % grid.cols ≡ first.0 = mod-eq_of_lt (omega (arith, passes.1)) in
      ap (λ c. stands_in grid set (c % grid.cols)) same ∙ ap (stands_in grid set) low ∙ passes.2)
]

pub all_stores_go_where_given : AllStoresGoWhereGiven
all_stores_go_where_given grid stays column o m server asks within is =
    let same : column_behind grid stays column (Some o) m ≡ column_among grid (gave (heard_with o m)) column = (rw asks refl) in
    ap (λ c. stands_in grid (gave (heard_with o m)) (c % grid.cols)) same ∙ stands_among grid (gave (heard_with o m)) column server within is
