-- Names in the plan of an accepted input.
use Rattle.std.proofs.Common.{◌≡◌, ◌∙◌, ℕ, zero, suc, ◌+◌, List, [], ◌∷◌, Option, Some, None, Ok, Err, Bool, true, false, cond, refl, sym, ap, subst, arith}
use Rattle.std.specs.Prelude.{◌&&◌, not, codes, slice_get}
use Rattle.std.specs.Str.{bytes_eq}
use Rattle.std.proofs.lemmas.Slice.Eq.{bytes_eq-Decides}
use Rattle.gq_desk.specs.Names.{is_name}
use Rattle.gq_desk.specs.Plans.{is_of, rows_fault, table_fault, plan_fault}
use Rattle.gq_desk.specs.CheckedPlan.{CheckedPlan}
use Rattle.gq_desk.specs.declared.plans.TenantRow.{TenantRow}
use Rattle.gq_desk.specs.declared.plans.PlanFault.{PlanFault}
use Rattle.gq_desk.proofs.SoundRows.{or_none, found, row_found}
use Rattle.gq_lines.specs.Words.{Word, words_of, number_of}
use Rattle.gq_text.specs.Input.{◌>>=◌, place_named}
use Rattle.gq_text.specs.declared.plan_text.TheConstants.{FILE_BLOCKS_WITHOUT_ROOM, VOLUMES_WHERE_UNSAID}
use Rattle.gq_text.specs.PlanText.{Reading, then_read, at_line, line_at, grid_told, blocks_told, is_room, volumes_told, row_from, row_told, row_then, rows_from, plan_unless, checked, plan_of}

-- ---- the rows of lines are named

and_true : (a b : Bool) → (a && b) ≡ true → (a ≡ true) × (b ≡ true)
and_true true true is = (refl, refl)
and_true true false is = cc
and_true false true is = cc
and_true false false is = cc

if_some : {A : Type 0} (b : Bool) (x : Option A) (y : A) → cond b x None ≡ Some y → (b ≡ true) × (x ≡ Some y)
if_some true x y is = (refl, is)
if_some false x y is = cc

then_some : {A B : Type 0} (o : Option A) (next : A → Option B) (y : B) → (o >>= next) ≡ Some y → (x : A) × (o ≡ Some x) × (next x ≡ Some y)
then_some None next y is = cc
then_some (Some x) next y is = (x, refl, is)

some_same : {x y : TenantRow} → Some x ≡ Some y → x ≡ y
some_same is = cc

from_named : (verb name a b c : Word) (most volumes : Option ℕ) (row : TenantRow) → row_from verb name a b c most volumes ≡ Some row → is_name row.name ≡ true
from_named verb name a b c most volumes row is =
    let one = if_some (bytes_eq verb (codes "tenant") && is_name name) _ row is in
    let share = then_some (number_of a) _ row one.1 in
    let sessions = then_some (number_of b) _ row share.2 in
    let steps = then_some (number_of c) _ row sessions.2 in
    let blocks = then_some most _ row steps.2 in
    let wide = then_some volumes _ row blocks.2 in
    let same : name ≡ row.name = ap (λ (r : TenantRow). r.name) (some_same wide.2) in
    let P : Word → Type 0 = λ n. is_name n ≡ true in
    subst P same (and_true (bytes_eq verb (codes "tenant")) (is_name name) one.0).1

pub row_named : (room : Bool) (words : List Word) (row : TenantRow) → row_told room words ≡ Some row → is_name row.name ≡ true
unfolding row_told
row_named false [] row is = cc
row_named false (verb ∷ []) row is = cc
row_named false (verb ∷ name ∷ []) row is = cc
row_named false (verb ∷ name ∷ a ∷ []) row is = cc
row_named false (verb ∷ name ∷ a ∷ b ∷ []) row is = cc
row_named false (verb ∷ name ∷ a ∷ b ∷ c ∷ []) row is = from_named verb name a b c (Some FILE_BLOCKS_WITHOUT_ROOM) (Some VOLUMES_WHERE_UNSAID) row is
row_named false (verb ∷ name ∷ a ∷ b ∷ c ∷ d ∷ words) row is = cc
row_named true [] row is = cc
row_named true (verb ∷ []) row is = cc
row_named true (verb ∷ name ∷ []) row is = cc
row_named true (verb ∷ name ∷ a ∷ []) row is = cc
row_named true (verb ∷ name ∷ a ∷ b ∷ []) row is = cc
row_named true (verb ∷ name ∷ a ∷ b ∷ c ∷ []) row is = cc
row_named true (verb ∷ name ∷ a ∷ b ∷ c ∷ most ∷ words) row is = from_named verb name a b c (number_of most) (volumes_told words) row is

pub ok_same : {A : Type 0} {x y : A} → ◌≡◌ {A = Reading A} (Ok x) (Ok y) → x ≡ y
ok_same is = cc

pub row_and_rest : (n : ℕ) (o : Option TenantRow) (r : Reading (List TenantRow × List (List ℕ))) (rows : List TenantRow) (rest : List (List ℕ)) → row_then n o r ≡ Ok (rows, rest) → (row : TenantRow) × (more : List TenantRow) × (o ≡ Some row) × (r ≡ Ok (more, rest)) × (rows ≡ row ∷ more)
row_and_rest n None r rows rest is = cc
row_and_rest n (Some row) (Ok read) rows rest is =
    let same = ok_same is in
    let lines : read.1 ≡ rest = ap (λ x. x.1) same in
    (row, read.0, refl, ap (λ x. Ok (read.0, x)) lines, sym (ap (λ x. x.0) same))
row_and_rest n (Some row) (Err fault) rows rest is = cc

none_there : (t : ℕ) (row : TenantRow) → slice_get [] t ≡ Some row → ⊥
none_there t row is = cc

rows_named : (room : Bool) (n : ℕ) (lines rest : List (List ℕ)) (rows : List TenantRow) (t : ℕ) (row : TenantRow) → rows_from room n lines ≡ Ok (rows, rest) → slice_get rows t ≡ Some row → is_name row.name ≡ true
rows_named room n [] rest rows t row is at = cc
rows_named room n (line ∷ lines) rest rows t row is at = by (bytes_eq line (codes "go")) is (λ more t. rows_named room (n + 1) lines rest more t row)
  where
    Named : List TenantRow → ℕ → Type 0
    Named more t = rows_from room (n + 1) lines ≡ Ok (more, rest) → slice_get more t ≡ Some row → is_name row.name ≡ true

    one : (first : TenantRow) (more : List TenantRow) (t : ℕ) → row_told room (words_of line) ≡ Some first → rows_from room (n + 1) lines ≡ Ok (more, rest) → slice_get (first ∷ more) t ≡ Some row → ((more : List TenantRow) (t : ℕ) → Named more t) → is_name row.name ≡ true
    one first more zero first_is more_is at later =
        let same : first ≡ row = cc in
        let P : TenantRow → Type 0 = λ r. is_name r.name ≡ true in
        subst P same (row_named room (words_of line) first first_is)
    one first more (suc t) first_is more_is at later = later more t more_is at

    by : (b : Bool) → cond b (Ok ([], lines)) (row_then n (row_told room (words_of line)) (rows_from room (n + 1) lines)) ≡ Ok (rows, rest) → ((more : List TenantRow) (t : ℕ) → Named more t) → is_name row.name ≡ true
    by true here later =
        let same : [] ≡ rows = ap (λ x. x.0) (ok_same here) in
        let P : List TenantRow → Type 0 = λ rs. slice_get rs t ≡ Some row in
        absurd (none_there t row (subst P (sym same) at))
    by false there later =
        let r = row_and_rest n (row_told room (words_of line)) (rows_from room (n + 1) lines) rows rest there in
        let P : List TenantRow → Type 0 = λ rs. slice_get rs t ≡ Some row in
        one r.0 r.1 t r.2 r.3 (subst P r.4 at) later

-- ---- the plan of lines

pub then_read_ok : {A B : Type 0} (read : Reading A) (next : A → Reading B) (y : B) → then_read read next ≡ Ok y → (x : A) × (read ≡ Ok x) × (next x ≡ Ok y)
then_read_ok (Ok x) next y is = (x, refl, is)
then_read_ok (Err fault) next y is = cc

pub unless_ok : (fault : Option PlanFault) (made plan : CheckedPlan) → plan_unless fault made ≡ Ok plan → (fault ≡ None) × (made ≡ plan)
unless_ok None made plan is = (refl, cc)
unless_ok (Some fault) made plan is = cc

-- the rows of an accepted plan: they are those of some lines, and have no fault
pub record Rows (rows : List TenantRow) : Type 0 where
  pub room : Bool
  pub lines : List (List ℕ)
  pub rest : List (List ℕ)
  pub read : rows_from room 3 lines ≡ Ok (rows, rest)
  pub sound : rows_fault [] rows ≡ None

pub rows_of_plan : (lines rest : List (List ℕ)) (plan : CheckedPlan) → plan_of lines ≡ Ok (plan, rest) → Rows plan.rows
unfolding plan_of
rows_of_plan lines rest plan is =
    let first = then_read_ok (line_at 1 lines) _ (plan, rest) is in
    let grid = then_read_ok (at_line 1 (grid_told (words_of first.0.0))) _ (plan, rest) first.2 in
    let second = then_read_ok (line_at 2 first.0.1) _ (plan, rest) grid.2 in
    let blocks = then_read_ok (at_line 2 (blocks_told (words_of second.0.0))) _ (plan, rest) second.2 in
    let rows = then_read_ok (rows_from (is_room (words_of second.0.0)) 3 second.0.1) _ (plan, rest) blocks.2 in
    let made = then_read_ok (checked grid.0 blocks.0 rows.0.0) _ (plan, rest) rows.2 in
    let sound = unless_ok (plan_fault blocks.0 rows.0.0) (record { grid = grid.0; blocks = blocks.0; rows = rows.0.0 }) made.0 made.1 in
    let same : made.0 ≡ plan = ap (λ x. x.0) (ok_same made.2) in
    let rows_same : rows.0.0 ≡ plan.rows = ap (λ (p : CheckedPlan). p.rows) (sound.1 ∙ same) in
    subst Rows rows_same (record {
      room = is_room (words_of second.0.0);
      lines = second.0.1;
      rest = rows.0.1;
      read = rows.1;
      sound = (or_none (rows_fault [] rows.0.0) (table_fault blocks.0 rows.0.0) sound.0).0;
    })

-- ---- places and names

-- the tenant at place t has this row, its name leads to it alone, and isn't `server`
pub record HasPlace (plan : CheckedPlan) (t : ℕ) (row : TenantRow) : Type 0 where
  pub at : slice_get plan.rows t ≡ Some row
  pub found : place_named plan row.name ≡ Some t
  pub alone : (word : Word) → place_named plan word ≡ Some t → word ≡ row.name
  pub not_server : bytes_eq row.name (codes "server") ≡ false

not_true : (b : Bool) → not b ≡ true → b ≡ false
not_true true is = cc
not_true false is = refl

-- a row of a name is at the place that its name leads to
pub place_of_row : (plan : CheckedPlan) → rows_fault [] plan.rows ≡ None → (t : ℕ) (row : TenantRow) → slice_get plan.rows t ≡ Some row → is_name row.name ≡ true → HasPlace plan t row
place_of_row plan sound t row at named =
    let zero_t : 0 + t ≡ t = omega arith in
    record {
      at = at;
      found = found [] plan.rows t 0 row sound at ∙ ap Some zero_t;
      alone = λ word place.
          let found_row = row_found (is_of word) plan.rows 0 t place in
          let here : found_row.1 ≡ t = omega (arith, found_row.2) in
          let same : found_row.0 ≡ row = some_same (sym found_row.3 ∙ ap (slice_get plan.rows) here ∙ at) in
          (bytes_eq-Decides word found_row.0.name).0 found_row.4 ∙ ap (λ (r : TenantRow). r.name) same;
      not_server = not_true (bytes_eq row.name (codes "server")) (and_true _ _ (and_true _ _ named).1).1;
    }

pub has_place : (lines rest : List (List ℕ)) (plan : CheckedPlan) (t : ℕ) (row : TenantRow) → plan_of lines ≡ Ok (plan, rest) → slice_get plan.rows t ≡ Some row → HasPlace plan t row
has_place lines rest plan t row is at =
    let rows = rows_of_plan lines rest plan is in
    place_of_row plan rows.sound t row at (rows_named rows.room 3 rows.lines rows.rest plan.rows t row rows.read at)
