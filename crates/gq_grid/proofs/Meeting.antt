-- A set with a row and a set with a column share a server, so do two sets that cover, and the chosen servers cover.
use Rattle.std.proofs.Common.{◌≡◌, ℕ, zero, suc, ◌+◌, ◌*◌, ◌<◌, ◌≤◌, Bool, true, false, refl, sym, ◌∙◌, inl, inr, Option, Some, None, is_some, arith, eqb, mul-zero, zero-mul}
use Rattle.std.specs.List.{find, list_all, list_any, range_with_len}
use Rattle.std.proofs.lemmas.Bool.{and_parts, and_from, cases_Bool, cases_eq, eq-eqb, or_left, or_right, true≢false}
use Rattle.gq_grid.specs.Grid.{Grid, Servers, server_at, is_full_row, is_full_column, least_row, least_column, has_row, has_column, covers, no_servers, row_servers, column_servers, either, choice_servers}
use Rattle.gq_grid.specs.Laws.{CoveringSetsMeet, ChosenSetsCover, RowsMeetColumns, RowUpIsRow, ColumnUpIsColumn}
use Rattle.gq_grid.proofs.Agreeing.{placed}

-- ---- the numbers from a on

-- a test that holds of all of them holds of each
pub all_at : (p : ℕ → Bool) (a n x : ℕ) → list_all p (range_with_len a n) ≡ true → a ≤ x → x < a + n → p x ≡ true
all_at p a zero x h low high = absurd (omega arith)
all_at p a (suc n) x h low high =
    let parts = and_parts (p a) (list_all p (range_with_len (a + 1) n)) h in
    elim (cases_eq a x) [
      | inl e ↦ (rw (← e) parts.0)
      | inr ne ↦ all_at p (a + 1) n x parts.1 (omega arith) (omega arith)
    ]

-- a test that holds of each holds of all
pub all_from : (p : ℕ → Bool) (a n : ℕ) → ((x : ℕ) → a ≤ x → x < a + n → p x ≡ true) → list_all p (range_with_len a n) ≡ true
all_from p a zero each = refl
all_from p a (suc n) each =
    and_from (p a) (list_all p (range_with_len (a + 1) n)) (each a (omega arith) (omega arith)) (all_from p (a + 1) n (λ x low high. each x (omega arith) (omega arith)))

-- what a test that holds of some of them holds of
pub found : (p : ℕ → Bool) (a n : ℕ) → is_some (find p (range_with_len a n)) ≡ true → (x : ℕ) × (a ≤ x) × (x < a + n) × (p x ≡ true)
found p a zero h = absurd (cc)
found p a (suc n) h =
    elim (cases_Bool (p a)) [
      | inl e ↦ (a, omega arith, omega arith, e)
      | inr e ↦
          let rest : is_some (find p (range_with_len (a + 1) n)) ≡ true = rw e at h in
          let r = found p (a + 1) n rest in
          (r.0, omega arith, omega arith, r.3)
    ]

-- the number that is found passes
pub found_passes : (p : ℕ → Bool) (a n x : ℕ) → find p (range_with_len a n) ≡ Some x → (a ≤ x) × (x < a + n) × (p x ≡ true)
found_passes p a zero x h = absurd (cc)
found_passes p a (suc n) x h =
    elim (cases_Bool (p a)) [
      | inl e ↦
          let same : Some a ≡ Some x = rw e at h in
          let here : a ≡ x = cc in
          (omega arith, omega arith, (rw (← here) e))
      | inr e ↦
          let rest : find p (range_with_len (a + 1) n) ≡ Some x = rw e at h in
          let r = found_passes p (a + 1) n x rest in
          (omega arith, omega arith, r.2)
    ]

-- some number that passes is found where any does
pub find_from : (p : ℕ → Bool) (a n x : ℕ) → a ≤ x → x < a + n → p x ≡ true → is_some (find p (range_with_len a n)) ≡ true
find_from p a zero x low high e = absurd (omega arith)
find_from p a (suc n) x low high e =
    elim (cases_Bool (p a)) [
      | inl here ↦ (rw here)
      | inr there ↦
          elim (cases_eq a x) [
            | inl same ↦ absurd (true≢false (sym e ∙ (rw (← same) there)))
            | inr ne ↦ (rw there (find_from p (a + 1) n x (omega arith) (omega arith) e))
          ]
    ]

-- some number passes where one that passes is among them
pub any_from : (p : ℕ → Bool) (a n x : ℕ) → a ≤ x → x < a + n → p x ≡ true → list_any p (range_with_len a n) ≡ true
any_from p a zero x low high e = absurd (omega arith)
any_from p a (suc n) x low high e =
    elim (cases_eq a x) [
      | inl same ↦ or_left (p a) (list_any p (range_with_len (a + 1) n)) (rw same e)
      | inr ne ↦ or_right (p a) (list_any p (range_with_len (a + 1) n)) (any_from p (a + 1) n x (omega arith) (omega arith) e)
    ]

-- ---- sets that cover

pub row_meets_column : (grid : Grid) (left right : Servers) (r c : ℕ) → r < grid.rows → c < grid.cols → is_full_row grid left r ≡ true → is_full_column grid right c ≡ true →
    (left (server_at grid r c) ≡ true) × (right (server_at grid r c) ≡ true)
row_meets_column grid left right r c in_rows in_cols row column =
    (all_at (λ y. left (server_at grid r y)) 0 grid.cols c row (omega arith) (omega arith), all_at (λ x. right (server_at grid x c)) 0 grid.rows r column (omega arith) (omega arith))

-- a set with a full row and a set with a full column share a server of the grid
pub rows_meet_columns : RowsMeetColumns
rows_meet_columns grid rowed columned row column =
    let r = found (is_full_row grid rowed) 0 grid.rows row in
    let c = found (is_full_column grid columned) 0 grid.cols column in
    let both = row_meets_column grid rowed columned r.0 c.0 (omega arith) (omega arith) r.3 c.3 in
    (server_at grid r.0 c.0, placed grid.rows grid.cols r.0 c.0 (omega arith) (omega arith), both.0, both.1)

-- any two sets that cover share a server
pub covers_meet : CoveringSetsMeet
covers_meet grid left right first second =
    rows_meet_columns grid left right (and_parts (has_row grid left) (has_column grid left) first).0 (and_parts (has_row grid right) (has_column grid right) second).1

-- a set with all servers of another has its rows and its columns
pub has_row_more : (grid : Grid) (fewer more : Servers) → ((server : ℕ) → server < grid.rows * grid.cols → fewer server ≡ true → more server ≡ true) → has_row grid fewer ≡ true → has_row grid more ≡ true
has_row_more grid fewer more within h =
    let r = found (is_full_row grid fewer) 0 grid.rows h in
    find_from (is_full_row grid more) 0 grid.rows r.0 (omega arith) (omega arith)
    (all_from (λ c. more (server_at grid r.0 c)) 0 grid.cols
    (λ c low high. within (server_at grid r.0 c) (placed grid.rows grid.cols r.0 c (omega arith) (omega arith))
    (all_at (λ c. fewer (server_at grid r.0 c)) 0 grid.cols c r.3 low high)))

pub has_column_more : (grid : Grid) (fewer more : Servers) → ((server : ℕ) → server < grid.rows * grid.cols → fewer server ≡ true → more server ≡ true) → has_column grid fewer ≡ true → has_column grid more ≡ true
has_column_more grid fewer more within h =
    let c = found (is_full_column grid fewer) 0 grid.cols h in
    find_from (is_full_column grid more) 0 grid.cols c.0 (omega arith) (omega arith)
    (all_from (λ r. more (server_at grid r c.0)) 0 grid.rows
    (λ r low high. within (server_at grid r c.0) (placed grid.rows grid.cols r c.0 (omega arith) (omega arith))
    (all_at (λ r. fewer (server_at grid r c.0)) 0 grid.rows r c.3 low high)))

-- nobody has a row or a column of a grid that has a server
some_row : (rows cols : ℕ) → 0 < rows * cols → 0 < 0 + rows
some_row zero cols h = absurd (omega (arith, zero-mul cols))
some_row (suc rows) cols h = omega arith

some_column : (rows cols : ℕ) → 0 < rows * cols → 0 < 0 + cols
some_column rows zero h = absurd (omega (arith, mul-zero rows))
some_column rows (suc cols) h = omega arith

pub has_row-none : (grid : Grid) → 0 < grid.rows * grid.cols → has_row grid no_servers ≡ false
has_row-none grid some =
    elim (cases_Bool (has_row grid no_servers)) [
      | inl e ↦
          let r = found (is_full_row grid no_servers) 0 grid.rows e in
          absurd (true≢false (sym (all_at (λ c. no_servers (server_at grid r.0 c)) 0 grid.cols 0 r.3 (omega arith) (some_column grid.rows grid.cols some))))
      | inr e ↦ e
    ]

pub has_column-none : (grid : Grid) → 0 < grid.rows * grid.cols → has_column grid no_servers ≡ false
has_column-none grid some =
    elim (cases_Bool (has_column grid no_servers)) [
      | inl e ↦
          let c = found (is_full_column grid no_servers) 0 grid.cols e in
          absurd (true≢false (sym (all_at (λ r. no_servers (server_at grid r c.0)) 0 grid.rows 0 c.3 (omega arith) (some_row grid.rows grid.cols some))))
      | inr e ↦ e
    ]

-- the servers of a row of the grid have that row, and those of a column that column
pub row_servers-row : (grid : Grid) (r : ℕ) → r < grid.rows → has_row grid (row_servers grid r) ≡ true
row_servers-row grid r within =
    find_from (is_full_row grid (row_servers grid r)) 0 grid.rows r (omega arith) (omega arith)
    (all_from (λ c. row_servers grid r (server_at grid r c)) 0 grid.cols
    (λ c low high. any_from (λ x. eqb (server_at grid r x) (server_at grid r c)) 0 grid.cols c low high (eq-eqb _ _ refl)))

pub column_servers-column : (grid : Grid) (c : ℕ) → c < grid.cols → has_column grid (column_servers grid c) ≡ true
column_servers-column grid c within =
    find_from (is_full_column grid (column_servers grid c)) 0 grid.cols c (omega arith) (omega arith)
    (all_from (λ r. column_servers grid c (server_at grid r c)) 0 grid.rows
    (λ r low high. any_from (λ x. eqb (server_at grid x c) (server_at grid r c)) 0 grid.rows r low high (eq-eqb _ _ refl)))

-- what is up has a row, or a column
pub row_up_is_row : RowUpIsRow
row_up_is_row grid up row h =
    let passes = found_passes (is_full_row grid up) 0 grid.rows row h in
    row_servers-row grid row (omega arith)

pub column_up_is_column : ColumnUpIsColumn
column_up_is_column grid up col h =
    let passes = found_passes (is_full_column grid up) 0 grid.cols col h in
    column_servers-column grid col (omega arith)

-- what is chosen covers
pub choose_covers : ChosenSetsCover
choose_covers grid up choice h = go (least_row grid up) refl (least_column grid up) refl
  where
    go : (row : Option ℕ) → least_row grid up ≡ row → (col : Option ℕ) → least_column grid up ≡ col → covers grid (choice_servers grid choice) ≡ true
    go None no_row col is_col = absurd (let none : None ≡ Some choice = rw no_row at h in cc)
    go (Some r) is_row None no_col = absurd (let none : None ≡ Some choice = rw (is_row, no_col) at h in cc)
    go (Some r) is_row (Some c) is_col =
        let same : Some (record { row = r; col = c }) ≡ Some choice = rw (is_row, is_col) at h in
        let chosen : record { row = r; col = c } ≡ choice = cc in
        let both : Servers = either (row_servers grid r) (column_servers grid c) in
        rw (← chosen) (and_from (has_row grid both) (has_column grid both)
        (has_row_more grid (row_servers grid r) both (λ server within in_row. or_left (row_servers grid r server) (column_servers grid c server) in_row) (row_up_is_row grid up r is_row))
        (has_column_more grid (column_servers grid c) both (λ server within in_col. or_right (row_servers grid r server) (column_servers grid c server) in_col) (column_up_is_column grid up c is_col)))
