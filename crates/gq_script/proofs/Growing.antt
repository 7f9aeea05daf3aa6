-- Lines behind lines: a fault of the plan stays, rows go on, and the output goes on from what it was.
use Rattle.std.proofs.Common.{◌≡◌, ◌≢◌, ◌⊎◌, ◌∙◌, ℕ, ◌+◌, ◌≤◌, List, [], ◌∷◌, ◌++◌, Option, Some, None, Result, Ok, Err, Bool, true, false, cond, map, refl, sym, ap, subst, inl, inr, arith}
use Rattle.std.specs.Prelude.{codes}
use Rattle.std.specs.Str.{bytes_eq}
use Rattle.std.proofs.lemmas.List.{map-append}
use Rattle.std.proofs.lemmas.List.Concat.{flat_map-append}
use Rattle.gq_grid.specs.Grid.{Grid}
use Rattle.gq_desk.specs.Plans.{plan_fault}
use Rattle.gq_desk.specs.CheckedPlan.{CheckedPlan}
use Rattle.gq_desk.specs.declared.plans.TenantRow.{TenantRow}
use Rattle.gq_desk.specs.declared.plans.PlanFault.{PlanFault}
use Rattle.gq_text.specs.declared.plan_text.TextFault.{TextFault}
use Rattle.gq_text.specs.declared.plan_text.TextFault.TheVariants.{Form, End, Check}
use Rattle.gq_lines.specs.Words.{words_of}
use Rattle.gq_lines.specs.Lines.{lines_of, joined}
use Rattle.gq_text.specs.Input.{event_of}
use Rattle.gq_text.specs.PlanText.{Reading, then_read, at_line, line_at, grid_told, blocks_told, is_room, row_told, row_then, rows_from, plan_unless, checked, plan_of}
use Rattle.gq_text.proofs.PlanNames.{ok_same}
use Rattle.gq_script.specs.Out.{answer_lines, output_of, out}
use Rattle.gq_lines.specs.Written.{Extends}
use Rattle.gq_script.specs.Stepping.{AllEnded, OutputsGrow, room_in, MissesGo}
use Rattle.gq_script.proofs.Behind.{lines_behind, line_behind, rows_behind, plan_behind}
use Rattle.gq_script.proofs.Longer.{answers-append}

-- ---- rows that go on

-- a row more before rows that miss `go`
pub misses_more : (room : Bool) (line : List ℕ) (lines : List (List ℕ)) (row : TenantRow) → bytes_eq line (codes "go") ≡ false → row_told room (words_of line) ≡ Some row → MissesGo room lines → MissesGo room (line ∷ lines)
misses_more room line lines row other is miss = λ k. let m = miss (k + 1) in (m.0, omega arith, rw (other, is, m.2) refl)

row_fault_later : (k : ℕ) (row : TenantRow) (later : Reading (List TenantRow × List (List ℕ))) (fault : ℕ × TextFault) → row_then k (Some row) later ≡ Err fault → later ≡ Err fault
row_fault_later k row (Ok read) fault is = cc
row_fault_later k row (Err told) fault is = is

err_same : {A : Type 0} {x y : ℕ × TextFault} → ◌≡◌ {A = Reading A} (Err x) (Err y) → x ≡ y
err_same is = cc

-- rows that miss `go`, behind such rows
rows_miss : (room : Bool) (k : ℕ) (lines more : List (List ℕ)) (n : ℕ) → rows_from room k lines ≡ Err (n, End) → MissesGo room more → (m : ℕ) × (n ≤ m) × (rows_from room k (lines ++ more) ≡ Err (m, End))
rows_miss room k [] more n is miss =
    let same : k ≡ n = ap (λ x. x.0) (err_same is) in
    let m = miss k in (m.0, omega arith, m.2)
rows_miss room k (line ∷ lines) more n is miss = by (bytes_eq line (codes "go")) (row_told room (words_of line)) is (λ later. rows_miss room (k + 1) lines more n later miss)
  where
    by : (b : Bool) (o : Option TenantRow) → cond b (Ok ([], lines)) (row_then k o (rows_from room (k + 1) lines)) ≡ Err (n, End)
        → (rows_from room (k + 1) lines ≡ Err (n, End) → (m : ℕ) × (n ≤ m) × (rows_from room (k + 1) (lines ++ more) ≡ Err (m, End)))
        → (m : ℕ) × (n ≤ m) × (cond b (Ok ([], lines ++ more)) (row_then k o (rows_from room (k + 1) (lines ++ more))) ≡ Err (m, End))
    by true o here later = absurd (let no : ⊥ = cc in no)
    by false None here later = absurd (let apart : Form ≡ End = ap (λ x. x.1) (err_same here) in cc)
    by false (Some row) here later =
        let m = later (row_fault_later k row (rows_from room (k + 1) lines) (n, End) here) in
        (m.0, m.1, ap (row_then k (Some row)) m.2)

-- a fault of rows, and not that they end, stays
rows_fault_behind : (room : Bool) (k : ℕ) (lines more : List (List ℕ)) (n : ℕ) (f : TextFault) → rows_from room k lines ≡ Err (n, f) → f ≢ End → rows_from room k (lines ++ more) ≡ Err (n, f)
rows_fault_behind room k [] more n f is other = absurd (other (sym (ap (λ x. x.1) (err_same is))))
rows_fault_behind room k (line ∷ lines) more n f is other = by (bytes_eq line (codes "go")) (row_told room (words_of line)) is (λ later. rows_fault_behind room (k + 1) lines more n f later other)
  where
    by : (b : Bool) (o : Option TenantRow) → cond b (Ok ([], lines)) (row_then k o (rows_from room (k + 1) lines)) ≡ Err (n, f)
        → (rows_from room (k + 1) lines ≡ Err (n, f) → rows_from room (k + 1) (lines ++ more) ≡ Err (n, f))
        → cond b (Ok ([], lines ++ more)) (row_then k o (rows_from room (k + 1) (lines ++ more))) ≡ Err (n, f)
    by true o here later = absurd (let no : ⊥ = cc in no)
    by false None here later = here
    by false (Some row) here later = ap (row_then k (Some row)) (later (row_fault_later k row (rows_from room (k + 1) lines) (n, f) here))

-- ---- where a fault of the plan comes from

then_read_err : {A B : Type 0} (read : Reading A) (next : A → Reading B) (fault : ℕ × TextFault) → then_read read next ≡ Err fault → (read ≡ Err fault) ⊎ ((x : A) × (read ≡ Ok x) × (next x ≡ Err fault))
then_read_err (Ok x) next fault is = inr (x, refl, is)
then_read_err (Err told) next fault is = inl (ap Err (err_same is))

either : {A B : Type 0} (P : Type 0) → A ⊎ B → (A → P) → (B → P) → P
either P (inl a) f g = f a
either P (inr b) f g = g b

fault_cases : (lines : List (List ℕ)) (fault : ℕ × TextFault) (P : Type 0) → plan_of lines ≡ Err fault
    → (line_at 1 lines ≡ Err fault → P)
    → ((first : List ℕ) (after1 : List (List ℕ)) → line_at 1 lines ≡ Ok (first, after1) → at_line 1 (grid_told (words_of first)) ≡ Err fault → P)
    → ((after1 : List (List ℕ)) → line_at 2 after1 ≡ Err fault → P)
    → ((first second : List ℕ) (after1 after2 : List (List ℕ)) (grid : Grid) → line_at 1 lines ≡ Ok (first, after1) → at_line 1 (grid_told (words_of first)) ≡ Ok grid → line_at 2 after1 ≡ Ok (second, after2) → at_line 2 (blocks_told (words_of second)) ≡ Err fault → P)
    → ((first second : List ℕ) (after1 after2 : List (List ℕ)) (grid : Grid) (blocks : ℕ) → line_at 1 lines ≡ Ok (first, after1) → at_line 1 (grid_told (words_of first)) ≡ Ok grid → line_at 2 after1 ≡ Ok (second, after2) → at_line 2 (blocks_told (words_of second)) ≡ Ok blocks → rows_from (is_room (words_of second)) 3 after2 ≡ Err fault → P)
    → ((first second : List ℕ) (after1 after2 after3 : List (List ℕ)) (grid : Grid) (blocks : ℕ) (rows : List TenantRow) → line_at 1 lines ≡ Ok (first, after1) → at_line 1 (grid_told (words_of first)) ≡ Ok grid → line_at 2 after1 ≡ Ok (second, after2) → at_line 2 (blocks_told (words_of second)) ≡ Ok blocks → rows_from (is_room (words_of second)) 3 after2 ≡ Ok (rows, after3) → checked grid blocks rows ≡ Err fault → P)
    → P
unfolding plan_of
fault_cases lines fault P is on_first on_grid on_second on_blocks on_rows on_check =
    either P (then_read_err (line_at 1 lines) _ fault is) on_first (λ one.
    either P (then_read_err (at_line 1 (grid_told (words_of one.0.0))) _ fault one.2) (λ h. on_grid one.0.0 one.0.1 one.1 h) (λ two.
    either P (then_read_err (line_at 2 one.0.1) _ fault two.2) (λ h. on_second one.0.1 h) (λ three.
    either P (then_read_err (at_line 2 (blocks_told (words_of three.0.0))) _ fault three.2) (λ h. on_blocks one.0.0 three.0.0 one.0.1 three.0.1 two.0 one.1 two.1 three.1 h) (λ four.
    either P (then_read_err (rows_from (is_room (words_of three.0.0)) 3 three.0.1) _ fault four.2) (λ h. on_rows one.0.0 three.0.0 one.0.1 three.0.1 two.0 four.0 one.1 two.1 three.1 four.1 h) (λ five.
    either P (then_read_err (checked two.0 four.0 five.0.0) _ fault five.2) (λ h. on_check one.0.0 three.0.0 one.0.1 three.0.1 five.0.1 two.0 four.0 five.0.0 one.1 two.1 three.1 four.1 five.1 h) (λ six. absurd (never six.2)))))))
  where
    never : {A : Type 0} {x : A} → ◌≡◌ {A = Reading A} (Ok x) (Err fault) → ⊥
    never same = cc

line_missing : (k : ℕ) (lines : List (List ℕ)) (n : ℕ) (f : TextFault) → line_at k lines ≡ Err (n, f) → (k ≡ n) × (End ≡ f)
line_missing k [] n f is = (ap (λ x. x.0) (err_same is), ap (λ x. x.1) (err_same is))
line_missing k (line ∷ lines) n f is = absurd (let no : ⊥ = cc in no)

here_at : {A : Type 0} (k : ℕ) (told : Result A TextFault) (n : ℕ) (f : TextFault) → at_line k told ≡ Err (n, f) → k ≡ n
here_at k (Ok x) n f is = absurd (let no : ⊥ = cc in no)
here_at k (Err g) n f is = ap (λ x. x.0) (err_same is)

not_the_end : (fault : Option PlanFault) (plan : CheckedPlan) (n : ℕ) → plan_unless fault plan ≡ Err (n, End) → ⊥
not_the_end None plan n is = cc
not_the_end (Some fault) plan n is = let apart : Check fault ≡ End = ap (λ x. x.1) (err_same is) in cc

-- the second line of a plan says whether it is one with room
room_is : (lines after1 after2 : List (List ℕ)) (first second : List ℕ) → line_at 1 lines ≡ Ok (first, after1) → line_at 2 after1 ≡ Ok (second, after2) → room_in lines ≡ is_room (words_of second)
room_is [] after1 after2 first second l1 l2 = cc
room_is (x ∷ []) after1 after2 first second l1 l2 =
    let none : [] ≡ after1 = ap (λ p. p.1) (ok_same l1) in
    let no = subst (λ lines. line_at 2 lines ≡ Ok (second, after2)) (sym none) l2 in
    absurd (let end : ⊥ = cc in end)
room_is (x ∷ y ∷ lines) after1 after2 first second l1 l2 =
    let after : y ∷ lines ≡ after1 = ap (λ p. p.1) (ok_same l1) in
    let at = subst (λ lines. line_at 2 lines ≡ Ok (second, after2)) (sym after) l2 in
    ap (λ line. is_room (words_of line)) (ap (λ p. p.0) (ok_same at))

-- a plan that misses lines from the third on still misses some behind more rows
pub plan_misses : (lines more : List (List ℕ)) (n : ℕ) → plan_of lines ≡ Err (n, End) → 3 ≤ n → MissesGo (room_in lines) more → (m : ℕ) × (n ≤ m) × (plan_of (lines ++ more) ≡ Err (m, End))
unfolding plan_of
plan_misses lines more n is late miss =
    fault_cases lines (n, End) ((m : ℕ) × (n ≤ m) × (plan_of (lines ++ more) ≡ Err (m, End))) is
    (λ h. let e = (line_missing 1 lines n End h).0 in absurd (omega arith))
    (λ first after1 l1 h. let e = here_at 1 (grid_told (words_of first)) n End h in absurd (omega arith))
    (λ after1 h. let e = (line_missing 2 after1 n End h).0 in absurd (omega arith))
    (λ first second after1 after2 grid l1 g l2 h. let e = here_at 2 (blocks_told (words_of second)) n End h in absurd (omega arith))
    (λ first second after1 after2 grid blocks l1 g l2 b h.
    let m = rows_miss (is_room (words_of second)) 3 after2 more n h (subst (λ r. MissesGo r more) (room_is lines after1 after2 first second l1 l2) miss) in
    (m.0, m.1, rw (line_behind 1 lines more after1 first l1, g, line_behind 2 after1 more after2 second l2, b, m.2) refl))
    (λ first second after1 after2 after3 grid blocks rows l1 g l2 b r h. absurd (not_the_end (plan_fault blocks rows) _ n h))

-- a fault of the plan, and not that the lines end, stays
pub plan_fault_behind : (lines more : List (List ℕ)) (n : ℕ) (f : TextFault) → plan_of lines ≡ Err (n, f) → f ≢ End → plan_of (lines ++ more) ≡ Err (n, f)
unfolding plan_of
plan_fault_behind lines more n f is other =
    fault_cases lines (n, f) (plan_of (lines ++ more) ≡ Err (n, f)) is
    (λ h. absurd (other (sym (line_missing 1 lines n f h).1)))
    (λ first after1 l1 h. rw (line_behind 1 lines more after1 first l1, h) refl)
    (λ after1 h. absurd (other (sym (line_missing 2 after1 n f h).1)))
    (λ first second after1 after2 grid l1 g l2 h. rw (line_behind 1 lines more after1 first l1, g, line_behind 2 after1 more after2 second l2, h) refl)
    (λ first second after1 after2 grid blocks l1 g l2 b h. rw (line_behind 1 lines more after1 first l1, g, line_behind 2 after1 more after2 second l2, b, rows_fault_behind (is_room (words_of second)) 3 after2 more n f h other) refl)
    (λ first second after1 after2 after3 grid blocks rows l1 g l2 b r h. rw (line_behind 1 lines more after1 first l1, g, line_behind 2 after1 more after2 second l2, b, rows_behind (is_room (words_of second)) 3 after2 more after3 rows r, h) refl)

-- ---- the output

pub lines_behind_whole : (front rest : List ℕ) → AllEnded front → lines_of (front ++ rest) ≡ lines_of front ++ lines_of rest
lines_behind_whole front rest ends = rw ends at (lines_behind front rest)

-- the plan stays, and behind its lines come more
pub plan_more : (front rest : List ℕ) (plan : CheckedPlan) (left : List (List ℕ)) → AllEnded front → plan_of (lines_of front) ≡ Ok (plan, left) → plan_of (lines_of (front ++ rest)) ≡ Ok (plan, left ++ lines_of rest)
plan_more front rest plan left ends is = ap plan_of (lines_behind_whole front rest ends) ∙ plan_behind (lines_of front) (lines_of rest) left plan is

-- and the output goes on by the answers to these
pub out_more : (front rest : List ℕ) (plan : CheckedPlan) (left : List (List ℕ)) → AllEnded front → plan_of (lines_of front) ≡ Ok (plan, left)
    → out (front ++ rest) ≡ out front ++ joined (answer_lines plan (map (event_of plan) left) (map (event_of plan) (lines_of rest)))
out_more front rest plan left ends is =
    ap output_of (plan_more front rest plan left ends is)
    ∙ ap (λ es. joined (answer_lines plan [] es)) (map-append (event_of plan) left (lines_of rest))
    ∙ ap joined (answers-append plan [] (map (event_of plan) left) (map (event_of plan) (lines_of rest)))
    ∙ flat_map-append (λ line. line) (answer_lines plan [] (map (event_of plan) left)) (answer_lines plan (map (event_of plan) left) (map (event_of plan) (lines_of rest)))
    ∙ ap (λ first. first ++ joined (answer_lines plan (map (event_of plan) left) (map (event_of plan) (lines_of rest)))) (sym (ap output_of is))

pub out_none : (text : List ℕ) (fault : ℕ × TextFault) → plan_of (lines_of text) ≡ Err fault → out text ≡ []
out_none text fault is = ap output_of is

pub outputs_grow : OutputsGrow
outputs_grow front rest ends = by (plan_of (lines_of front)) refl
  where
    by : (read : Reading (CheckedPlan × List (List ℕ))) → plan_of (lines_of front) ≡ read → Extends (out front) (out (front ++ rest))
    by (Ok read) is = (joined (answer_lines read.0 (map (event_of read.0) read.1) (map (event_of read.0) (lines_of rest))), out_more front rest read.0 read.1 ends is)
    by (Err fault) is = (out (front ++ rest), ap (λ first. first ++ out (front ++ rest)) (sym (out_none front fault is)))
