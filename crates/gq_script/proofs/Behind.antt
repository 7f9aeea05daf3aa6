-- Lines behind a text are read behind its lines, and leave the plan as it is.
use Rattle.std.proofs.Common.{◌≡◌, ◌∙◌, ℕ, ◌+◌, List, [], ◌∷◌, ◌++◌, Ok, Some, Bool, true, false, cond, refl, sym, ap}
use Rattle.std.specs.Prelude.{◌==◌, codes}
use Rattle.std.specs.Str.{bytes_eq}
use Rattle.gq_desk.specs.CheckedPlan.{CheckedPlan}
use Rattle.gq_desk.specs.declared.plans.TenantRow.{TenantRow}
use Rattle.gq_lines.specs.Words.{words_of}
use Rattle.gq_lines.specs.Lines.{before_first, lines_of}
use Rattle.gq_text.specs.PlanText.{then_read, at_line, line_at, grid_told, blocks_told, is_room, row_told, row_then, rows_from, checked, plan_of}
use Rattle.gq_script.specs.Completing.{missing_newline}
use Rattle.gq_text.proofs.PlanNames.{ok_same, row_and_rest, then_read_ok}
use Rattle.gq_text.proofs.PlanReading.{plan_after_lines}

-- ---- texts

-- a text that isn't empty has a line
some_line : (x : ℕ) (text : List ℕ) → (line : List ℕ) × (lines : List (List ℕ)) × (lines_of (x ∷ text) ≡ line ∷ lines)
some_line x text = by (x == 10) (lines_of text)
  where
    by : (b : Bool) (lines : List (List ℕ)) → (line : List ℕ) × (more : List (List ℕ)) × (cond b ([] ∷ lines) (before_first x lines) ≡ line ∷ more)
    by true lines = ([], lines, refl)
    by false [] = (x ∷ [], [], refl)
    by false (line ∷ lines) = (x ∷ line, lines, refl)

byte_before : (b : Bool) (x : ℕ) (line : List ℕ) (lines more front whole : List (List ℕ)) → front ≡ line ∷ lines → whole ≡ front ++ more
    → cond b ([] ∷ whole) (before_first x whole) ≡ cond b ([] ∷ front) (before_first x front) ++ more
byte_before true x line lines more front whole is now = ap (λ w. [] ∷ w) now
byte_before false x line lines more front whole is now = rw (now, is) refl

pub lines_behind : (text rest : List ℕ) → lines_of (text ++ (missing_newline text ++ rest)) ≡ lines_of text ++ lines_of rest
lines_behind [] rest = refl
lines_behind (x ∷ []) rest = by (x == 10)
  where
    by : (b : Bool) → cond b ([] ∷ lines_of (cond b [] (10 ∷ []) ++ rest)) (before_first x (lines_of (cond b [] (10 ∷ []) ++ rest))) ≡ cond b ([] ∷ []) ((x ∷ []) ∷ []) ++ lines_of rest
    by true = refl
    by false = refl
lines_behind (x ∷ y ∷ text) rest =
    let some = some_line y text in
    byte_before (x == 10) x some.0 some.1 (lines_of rest) (lines_of (y ∷ text)) (lines_of ((y ∷ text) ++ (missing_newline (y ∷ text) ++ rest))) some.2 (lines_behind (y ∷ text) rest)

-- ---- plans

pub line_behind : (n : ℕ) (lines more rest : List (List ℕ)) (line : List ℕ) → line_at n lines ≡ Ok (line, rest) → line_at n (lines ++ more) ≡ Ok (line, rest ++ more)
line_behind n [] more rest line is = cc
line_behind n (first ∷ lines) more rest line is =
    let same = ok_same is in
    ap (λ (x : List ℕ × List (List ℕ)). Ok (x.0, x.1 ++ more)) same

pub rows_behind : (room : Bool) (n : ℕ) (lines more rest : List (List ℕ)) (rows : List TenantRow) → rows_from room n lines ≡ Ok (rows, rest) → rows_from room n (lines ++ more) ≡ Ok (rows, rest ++ more)
rows_behind room n [] more rest rows is = cc
rows_behind room n (line ∷ lines) more rest rows is = by (bytes_eq line (codes "go")) is (λ later. rows_behind room (n + 1) lines more rest later)
  where
    by : (b : Bool) → cond b (Ok ([], lines)) (row_then n (row_told room (words_of line)) (rows_from room (n + 1) lines)) ≡ Ok (rows, rest)
        → ((later : List TenantRow) → rows_from room (n + 1) lines ≡ Ok (later, rest) → rows_from room (n + 1) (lines ++ more) ≡ Ok (later, rest ++ more))
        → cond b (Ok ([], lines ++ more)) (row_then n (row_told room (words_of line)) (rows_from room (n + 1) (lines ++ more))) ≡ Ok (rows, rest ++ more)
    by true here later = ap (λ (x : List TenantRow × List (List ℕ)). Ok (x.0, x.1 ++ more)) (ok_same here)
    by false there later =
        let r = row_and_rest n (row_told room (words_of line)) (rows_from room (n + 1) lines) rows rest there in
        ap (λ o. row_then n o (rows_from room (n + 1) (lines ++ more))) r.2 ∙ ap (row_then n (Some r.0)) (later r.1 r.3) ∙ ap (λ rs. Ok (rs, rest ++ more)) (sym r.4)

-- lines behind those of a plan
pub plan_behind : (lines more rest : List (List ℕ)) (plan : CheckedPlan) → plan_of lines ≡ Ok (plan, rest) → plan_of (lines ++ more) ≡ Ok (plan, rest ++ more)
unfolding plan_of
plan_behind lines more rest plan is =
    let first = then_read_ok (line_at 1 lines) _ (plan, rest) is in
    let grid = then_read_ok (at_line 1 (grid_told (words_of first.0.0))) _ (plan, rest) first.2 in
    let second = then_read_ok (line_at 2 first.0.1) _ (plan, rest) grid.2 in
    let blocks = then_read_ok (at_line 2 (blocks_told (words_of second.0.0))) _ (plan, rest) second.2 in
    let rows = then_read_ok (rows_from (is_room (words_of second.0.0)) 3 second.0.1) _ (plan, rest) blocks.2 in
    let made = then_read_ok (checked grid.0 blocks.0 rows.0.0) _ (plan, rest) rows.2 in
    let same : (made.0, rows.0.1) ≡ (plan, rest) = ok_same made.2 in
    plan_after_lines (lines ++ more) (first.0.1 ++ more) (second.0.1 ++ more) (rows.0.1 ++ more) first.0.0 second.0.0 grid.0 blocks.0 rows.0.0
    (line_behind 1 lines more first.0.1 first.0.0 first.1) grid.1 (line_behind 2 first.0.1 more second.0.1 second.0.0 second.1) blocks.1 (rows_behind (is_room (words_of second.0.0)) 3 second.0.1 more rows.0.1 rows.0.0 rows.1)
    ∙ ap (λ made. then_read made (λ plan. Ok (plan, rows.0.1 ++ more))) made.1
    ∙ ap (λ (x : CheckedPlan × List (List ℕ)). Ok (x.0, x.1 ++ more)) same
