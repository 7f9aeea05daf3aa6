-- What accepted lines tell is a plan, and how large its numbers are at most.
use Rattle.std.proofs.Common.{◌≡◌, ◌∙◌, ℕ, ◌+◌, ◌*◌, ◌<◌, ◌≤◌, List, [], ◌∷◌, ◌++◌, length, length-append, Ok, Err, Result, Option, Some, None, Bool, true, false, cond, refl, sym, ap, subst, arith}
use Rattle.std.specs.Prelude.{◌==◌, not, nat_le, nat_lt, codes, slice_get, unwrap_or}
use Rattle.std.specs.List.{list_any, list_all}
use Rattle.std.specs.Str.{bytes_eq}
use Rattle.std.proofs.lemmas.Bool.{leb-true, leb-false, le-leb, ltb-false, eqb-false, not-false, and_parts}
use Rattle.std.proofs.lemmas.Nat.{mul-le}
use Rattle.std.proofs.lemmas.Option.{slice_get-get_or}
use Rattle.gq_grid.specs.declared.TheConstants.{MOST_SIDE}
use Rattle.gq_grid.specs.Grid.{Grid, is_side}
use Rattle.gq_grid.specs.declared.GridFault.TheVariants.{Rows as RowsFault, Cols as ColsFault}
use Rattle.gq_desk.specs.Plans.{is_of, is_in, is_named, shares, number_fault, row_fault, rows_fault, table_fault, plan_fault}
use Rattle.gq_desk.specs.CheckedPlan.{CheckedPlan, nobody, row_at}
use Rattle.gq_desk.specs.declared.limits.TheConstants.{MOST_TENANTS, MOST_BLOCKS, MOST_FILE_BLOCKS, MOST_SESSIONS, MOST_STEPS, MOST_VOLUMES}
use Rattle.gq_desk.specs.declared.plans.TenantRow.{TenantRow}
use Rattle.gq_desk.specs.declared.plans.PlanFault.{PlanFault}
use Rattle.gq_desk.specs.declared.plans.PlanFault.TheVariants.{TooMany, SameName, NoTenant, OverBlocks, ZeroShare, Sessions, Steps, Most, Volumes}
use Rattle.gq_desk.proofs.SoundRows.{or_none, unless_none, row_numbers}
use Rattle.gq_text.specs.declared.plan_text.TheConstants.{BLOCKS_WITHOUT_ROOM}
use Rattle.gq_text.specs.declared.plan_text.TextFault.{TextFault}
use Rattle.gq_text.specs.declared.plan_text.TextFault.TheVariants.{Form, Grid as GridFault, Blocks}
use Rattle.gq_lines.specs.Words.{Word, words_of}
use Rattle.gq_text.specs.Input.{one_number_of, two_numbers_of}
use Rattle.gq_text.specs.PlanText.{at_line, line_at, grid_from, grid_told, blocks_from, blocks_told, is_room, row_told, row_then, rows_from, checked, plan_of}
use Rattle.gq_text.specs.Canonical.{IsPlan}
use Rattle.gq_text.proofs.PlanNames.{ok_same, row_named, row_and_rest, then_read_ok, unless_ok}

-- ---- the grid and the blocks

unless_fault : {A : Type 0} (b : Bool) (fault : TextFault) (next : Result A TextFault) (x : A) → cond b (Err fault) next ≡ Ok x → (b ≡ false) × (next ≡ Ok x)
unless_fault true fault next x is = cc
unless_fault false fault next x is = (refl, is)

if_fault : {A : Type 0} (b : Bool) (next : Result A TextFault) (fault : TextFault) (x : A) → cond b next (Err fault) ≡ Ok x → (b ≡ true) × (next ≡ Ok x)
if_fault true next fault x is = (refl, is)
if_fault false next fault x is = cc

told_at : {A : Type 0} (n : ℕ) (told : Result A TextFault) (x : A) → at_line n told ≡ Ok x → told ≡ Ok x
told_at n (Ok read) x is = let same = ok_same is in ap Ok same
told_at n (Err fault) x is = cc

got_same : {A : Type 0} {x y : A} → ◌≡◌ {A = Result A TextFault} (Ok x) (Ok y) → x ≡ y
got_same is = cc

grid_is : (o : Option (ℕ × ℕ)) (grid : Grid) → grid_from o ≡ Ok grid → (is_side grid.rows ≡ true) × (is_side grid.cols ≡ true)
grid_is None grid is = cc
grid_is (Some sides) grid is =
    let rows = unless_fault (not (is_side sides.0)) (GridFault RowsFault) _ grid is in
    let cols = unless_fault (not (is_side sides.1)) (GridFault ColsFault) _ grid rows.1 in
    let same : record { rows = sides.0; cols = sides.1 } ≡ grid = got_same cols.1 in
    let P : Grid → Type 0 = λ g. (is_side g.rows ≡ true) × (is_side g.cols ≡ true) in
    subst P same (not-false (is_side sides.0) rows.0, not-false (is_side sides.1) cols.0)

sides_told : (words : List Word) (grid : Grid) → grid_told words ≡ Ok grid → (is_side grid.rows ≡ true) × (is_side grid.cols ≡ true)
unfolding grid_told
sides_told [] grid is = cc
sides_told (verb ∷ words) grid is = grid_is (two_numbers_of words) grid (if_fault (bytes_eq verb (codes "grid")) (grid_from (two_numbers_of words)) Form grid is).1

blocks_are : (most : ℕ) (o : Option ℕ) (blocks : ℕ) → blocks_from most o ≡ Ok blocks → is_in 1 most blocks ≡ true
blocks_are most None blocks is = cc
blocks_are most (Some n) blocks is =
    let told = if_fault (is_in 1 most n) (Ok n) Blocks blocks is in
    let same : n ≡ blocks = got_same told.1 in
    let P : ℕ → Type 0 = λ m. is_in 1 most m ≡ true in
    subst P same told.0

wider : (blocks : ℕ) → is_in 1 BLOCKS_WITHOUT_ROOM blocks ≡ true → is_in 1 MOST_BLOCKS blocks ≡ true
wider blocks is =
    let parts = and_parts (nat_le 1 blocks) (nat_le blocks BLOCKS_WITHOUT_ROOM) is in
    let bound = leb-true blocks BLOCKS_WITHOUT_ROOM parts.1 in
    rw (parts.0, le-leb blocks MOST_BLOCKS (omega (arith, bound))) refl

number_told : (words : List Word) (blocks : ℕ) → blocks_told words ≡ Ok blocks → is_in 1 MOST_BLOCKS blocks ≡ true
unfolding blocks_told
number_told [] blocks is = cc
number_told (verb ∷ words) blocks is = by (bytes_eq verb (codes "blocks")) is
  where
    by : (b : Bool) → cond b (blocks_from BLOCKS_WITHOUT_ROOM (one_number_of words)) (cond (bytes_eq verb (codes "room")) (blocks_from MOST_BLOCKS (one_number_of words)) (Err Form)) ≡ Ok blocks → is_in 1 MOST_BLOCKS blocks ≡ true
    by true here = wider blocks (blocks_are BLOCKS_WITHOUT_ROOM (one_number_of words) blocks here)
    by false later = blocks_are MOST_BLOCKS (one_number_of words) blocks (if_fault (bytes_eq verb (codes "room")) (blocks_from MOST_BLOCKS (one_number_of words)) Form blocks later).1

-- ---- the rows

all_named : (room : Bool) (n : ℕ) (lines rest : List (List ℕ)) (rows : List TenantRow) → rows_from room n lines ≡ Ok (rows, rest) → list_all is_named rows ≡ true
all_named room n [] rest rows is = cc
all_named room n (line ∷ lines) rest rows is = by (bytes_eq line (codes "go")) is (λ more. all_named room (n + 1) lines rest more)
  where
    P : List TenantRow → Type 0
    P rs = list_all is_named rs ≡ true

    by : (b : Bool) → cond b (Ok ([], lines)) (row_then n (row_told room (words_of line)) (rows_from room (n + 1) lines)) ≡ Ok (rows, rest) → ((more : List TenantRow) → rows_from room (n + 1) lines ≡ Ok (more, rest) → P more) → P rows
    by true here later =
        let same : [] ≡ rows = ap (λ x. x.0) (ok_same here) in
        subst P same refl
    by false there later =
        let r = row_and_rest n (row_told room (words_of line)) (rows_from room (n + 1) lines) rows rest there in
        let named = row_named room (words_of line) r.0 r.2 in
        subst P (sym r.4) (rw (named, later r.1 r.3) refl)

few_rows : (before rows : List TenantRow) → length before ≤ MOST_TENANTS → rows_fault before rows ≡ None → length before + length rows ≤ MOST_TENANTS
few_rows before [] low none = omega (arith, low)
few_rows before (row ∷ rows) low none =
    let parts = or_none (row_fault before row) (rows_fault (before ++ row ∷ []) rows) none in
    let room = unless_none (nat_le MOST_TENANTS (length before)) (TooMany (length before)) (cond (list_any (is_of row.name) before) (Some (SameName (length before))) (number_fault (length before) row)) parts.0 in
    let less = leb-false MOST_TENANTS (length before) room.0 in
    let size : length (before ++ row ∷ []) ≡ length before + 1 = length-append before (row ∷ []) in
    let later : length (before ++ row ∷ []) + length rows ≤ MOST_TENANTS = few_rows (before ++ row ∷ []) rows (omega (arith, less, size)) parts.1 in
    omega (arith, later, size)

-- ---- the plan

pub plan_is : (lines rest : List (List ℕ)) (plan : CheckedPlan) → plan_of lines ≡ Ok (plan, rest) → IsPlan plan
unfolding plan_of
plan_is lines rest plan is =
    let first = then_read_ok (line_at 1 lines) _ (plan, rest) is in
    let grid = then_read_ok (at_line 1 (grid_told (words_of first.0.0))) _ (plan, rest) first.2 in
    let second = then_read_ok (line_at 2 first.0.1) _ (plan, rest) grid.2 in
    let blocks = then_read_ok (at_line 2 (blocks_told (words_of second.0.0))) _ (plan, rest) second.2 in
    let rows = then_read_ok (rows_from (is_room (words_of second.0.0)) 3 second.0.1) _ (plan, rest) blocks.2 in
    let made = then_read_ok (checked grid.0 blocks.0 rows.0.0) _ (plan, rest) rows.2 in
    let sound = unless_ok (plan_fault blocks.0 rows.0.0) (record { grid = grid.0; blocks = blocks.0; rows = rows.0.0 }) made.0 made.1 in
    let same : made.0 ≡ plan = ap (λ x. x.0) (ok_same made.2) in
    let sides = sides_told (words_of first.0.0) grid.0 (told_at 1 (grid_told (words_of first.0.0)) grid.0 grid.1) in
    let number = number_told (words_of second.0.0) blocks.0 (told_at 2 (blocks_told (words_of second.0.0)) blocks.0 blocks.1) in
    let range = and_parts (nat_le 1 blocks.0) (nat_le blocks.0 MOST_BLOCKS) number in
    let faults = or_none (rows_fault [] rows.0.0) (table_fault blocks.0 rows.0.0) sound.0 in
    let some = unless_none (length rows.0.0 == 0) NoTenant (cond (nat_lt blocks.0 (shares rows.0.0)) (Some (OverBlocks (shares rows.0.0) blocks.0)) None) faults.1 in
    let within = unless_none (nat_lt blocks.0 (shares rows.0.0)) (OverBlocks (shares rows.0.0) blocks.0) None some.1 in
    let not_none = eqb-false (length rows.0.0) 0 some.0 in
    let few : 0 + length rows.0.0 ≤ MOST_TENANTS = few_rows [] rows.0.0 (omega arith) faults.0 in
    subst IsPlan (sound.1 ∙ same) (record {
      rows = sides.0;
      cols = sides.1;
      sound = record {
        some = omega (arith, not_none);
        few = omega (arith, few);
        least = leb-true 1 blocks.0 range.0;
        bound = leb-true blocks.0 MOST_BLOCKS range.1;
        named = all_named (is_room (words_of second.0.0)) 3 second.0.1 rows.0.1 rows.0.0 rows.1;
        within = ltb-false blocks.0 (shares rows.0.0) within.0;
        fault = sound.0;
      };
    })

-- ---- its numbers

-- the numbers of a row are at most the greatest that a plan may give
pub record RowFits (row : TenantRow) : Type 0 where
  pub sessions : row.sessions ≤ MOST_SESSIONS
  pub steps : row.steps ≤ MOST_STEPS

row_fits : (place : ℕ) (row : TenantRow) → number_fault place row ≡ None → RowFits row
row_fits place row none =
    let wide : Option PlanFault = cond (not (is_in 1 MOST_VOLUMES row.most_volumes)) (Some (Volumes place)) None in
    let last : Option PlanFault = cond (not (is_in 1 MOST_FILE_BLOCKS row.most_blocks)) (Some (Most place)) wide in
    let late : Option PlanFault = cond (not (is_in 1 MOST_STEPS row.steps)) (Some (Steps place)) last in
    let share_on = unless_none (row.share == 0) (ZeroShare place) (cond (not (is_in 1 MOST_SESSIONS row.sessions)) (Some (Sessions place)) late) none in
    let sessions = unless_none (not (is_in 1 MOST_SESSIONS row.sessions)) (Sessions place) late share_on.1 in
    let steps = unless_none (not (is_in 1 MOST_STEPS row.steps)) (Steps place) last sessions.1 in
    record {
      sessions = leb-true row.sessions MOST_SESSIONS (and_parts (nat_le 1 row.sessions) (nat_le row.sessions MOST_SESSIONS) (not-false (is_in 1 MOST_SESSIONS row.sessions) sessions.0)).1;
      steps = leb-true row.steps MOST_STEPS (and_parts (nat_le 1 row.steps) (nat_le row.steps MOST_STEPS) (not-false (is_in 1 MOST_STEPS row.steps) steps.0)).1;
    }

-- those of a tenant of the plan
pub row_of_plan : (plan : CheckedPlan) → IsPlan plan → (t : ℕ) → t < length plan.rows → RowFits (row_at plan t)
row_of_plan plan is t within =
    let at = slice_get-get_or plan.rows t nobody within in
    let here : slice_get plan.rows t ≡ Some (row_at plan t) = at ∙ ap Some (sym (ap (λ o. unwrap_or o nobody) at)) in
    row_fits t (row_at plan t) (row_numbers plan.blocks plan.rows t (row_at plan t) is.sound.fault here)

-- the grid has at most 64 servers
pub small_grid : (plan : CheckedPlan) → IsPlan plan → plan.grid.rows * plan.grid.cols ≤ 64
small_grid plan is =
    let rows = and_parts (nat_le 1 plan.grid.rows) (nat_le plan.grid.rows MOST_SIDE) is.rows in
    let cols = and_parts (nat_le 1 plan.grid.cols) (nat_le plan.grid.cols MOST_SIDE) is.cols in
    mul-le plan.grid.rows plan.grid.cols 8 8 (leb-true plan.grid.rows MOST_SIDE rows.1) (leb-true plan.grid.cols MOST_SIDE cols.1)
