-- What the lines of an input say of its plan.
use Rattle.std.specs.Prelude.{◌≡◌, ℕ, ◌+◌, List, [], ◌∷◌, ◌&&◌, Bool, true, false, if◌then◌else◌, codes, not, length, Option, Some, None, Result, Ok, Err, IsSome}
use Rattle.std.specs.Str.{bytes_eq}
use Rattle.gq_grid.specs.Grid.{Grid, is_side}
use Rattle.gq_grid.specs.declared.GridFault.TheVariants.{Rows, Cols}
use Rattle.gq_desk.specs.declared.limits.TheConstants.{MOST_BLOCKS}
use Rattle.gq_desk.specs.Names.{is_name}
use Rattle.gq_desk.specs.Plans.{is_in, plan_fault}
use Rattle.gq_desk.specs.CheckedPlan.{CheckedPlan}
use Rattle.gq_desk.specs.declared.plans.TenantRow.{TenantRow}
use Rattle.gq_desk.specs.declared.plans.PlanFault.{PlanFault}
use Rattle.gq_desk.specs.declared.plans.PlanFault.TheVariants.{TooMany, SameName, ZeroShare, Sessions, Steps, Most, Volumes, NoTenant, OverBlocks, Memory as NoMemory}
use Rattle.gq_text.specs.declared.plan_text.TheConstants.{BLOCKS_WITHOUT_ROOM, FILE_BLOCKS_WITHOUT_ROOM, VOLUMES_WHERE_UNSAID}
use Rattle.gq_text.specs.declared.plan_text.TextFault.{TextFault}
use Rattle.gq_text.specs.declared.plan_text.TextFault.TheVariants.{Form, End, Grid as GridFault, Blocks, Check}
use Rattle.gq_text.specs.declared.plan_text.PlanText.{PlanText}
use Rattle.gq_text.specs.declared.plan_text.PlanText.TheVariants.{Fault, Memory}
use Rattle.gq_lines.specs.Words.{Word, words_of, number_of}
use Rattle.gq_lines.specs.Lines.{lines_of}
use Rattle.gq_text.specs.Input.{◌>>=◌, one_number_of, place_named, two_numbers_of}

-- what lines tell, or the number of the first line at fault and its fault
abbrev pub Reading : Type 0 → Type 0
Reading A = Result A (ℕ × TextFault)

-- the next step, where the step before read something
abbrev pub then_read : {A B : Type 0} → Reading A → (A → Reading B) → Reading B
then_read (Ok read) next = next read
then_read (Err fault) next = Err fault

-- what line n tells
abbrev pub at_line : {A : Type 0} → ℕ → Result A TextFault → Reading A
at_line n (Ok read) = Ok read
at_line n (Err fault) = Err (n, fault)

-- line n, and the lines after it
abbrev pub line_at : ℕ → List (List ℕ) → Reading (List ℕ × List (List ℕ))
line_at n [] = Err (n, End)
line_at n (line ∷ lines) = Ok (line, lines)

-- the grid of these sides, tested for form, then for value
abbrev pub grid_from : Option (ℕ × ℕ) → Result Grid TextFault
grid_from None = Err Form
grid_from (Some sides) =
    if not (is_side sides.0) then Err (GridFault Rows)
    else if not (is_side sides.1) then Err (GridFault Cols)
    else Ok (record { rows = sides.0; cols = sides.1 })

-- the grid of a line `grid ROWS COLS`
unfoldable pub grid_told : List Word → Result Grid TextFault
grid_told [] = Err Form
grid_told (verb ∷ words) = if bytes_eq verb (codes "grid") then grid_from (two_numbers_of words) else Err Form

-- this number of blocks, at most so many, tested for form, then for value
abbrev pub blocks_from : ℕ → Option ℕ → Result ℕ TextFault
blocks_from most None = Err Form
blocks_from most (Some blocks) = if is_in 1 most blocks then Ok blocks else Err Blocks

-- the blocks of a line `blocks BLOCKS`, or of a line `room BLOCKS`, which may say more
unfoldable pub blocks_told : List Word → Result ℕ TextFault
blocks_told [] = Err Form
blocks_told (verb ∷ words) =
    if bytes_eq verb (codes "blocks") then blocks_from BLOCKS_WITHOUT_ROOM (one_number_of words)
    else if bytes_eq verb (codes "room") then blocks_from MOST_BLOCKS (one_number_of words)
    else Err Form

-- whether a line is one of `room`, behind which each row says the most blocks of its files, and may say how many volumes it may open
unfoldable pub is_room : List Word → Bool
is_room [] = false
is_room (verb ∷ words) = bytes_eq verb (codes "room")

-- how many volumes a row may open that ends with these words, behind MOST
abbrev pub volumes_told : List Word → Option ℕ
volumes_told [] = Some VOLUMES_WHERE_UNSAID
volumes_told (word ∷ words) = one_number_of (word ∷ words)

-- the row of these words, whose files have at most so many blocks, and which may open so many volumes
abbrev pub row_from : (verb name a b c : Word) → (most volumes : Option ℕ) → Option TenantRow
row_from verb name a b c most volumes =
    if bytes_eq verb (codes "tenant") && is_name name then
    number_of a >>= (λ share. number_of b >>= (λ sessions. number_of c >>= (λ steps. most >>= (λ most_blocks. volumes >>= (λ most_volumes.
    Some (record { name = name; share = share; sessions = sessions; steps = steps; most_blocks = most_blocks; most_volumes = most_volumes }))))))
    else None

-- the row of a line `tenant NAME SHARE SESSIONS STEPS`, or in a plan with room of a line `tenant NAME SHARE SESSIONS STEPS MOST` or
-- `tenant NAME SHARE SESSIONS STEPS MOST VOLUMES`
unfoldable pub row_told : (room : Bool) → List Word → Option TenantRow
row_told false (verb ∷ name ∷ a ∷ b ∷ c ∷ []) = row_from verb name a b c (Some FILE_BLOCKS_WITHOUT_ROOM) (Some VOLUMES_WHERE_UNSAID)
row_told true (verb ∷ name ∷ a ∷ b ∷ c ∷ most ∷ words) = row_from verb name a b c (number_of most) (volumes_told words)
row_told room _ = None

-- a row before the others, or the fault of its line, which has number n
abbrev pub row_then : ℕ → Option TenantRow → Reading (List TenantRow × List (List ℕ)) → Reading (List TenantRow × List (List ℕ))
row_then n None rest = Err (n, Form)
row_then n (Some row) (Ok rest) = Ok (row ∷ rest.0, rest.1)
row_then n (Some row) (Err fault) = Err fault

-- the rows of the lines up to `go`, of which the first has number n, and the lines after it
abbrev pub rows_from : (room : Bool) → ℕ → List (List ℕ) → Reading (List TenantRow × List (List ℕ))
rows_from room n [] = Err (n, End)
rows_from room n (line ∷ lines) = if bytes_eq line (codes "go") then Ok ([], lines) else row_then n (row_told room (words_of line)) (rows_from room (n + 1) lines)

-- the line of a fault of so many rows: that of the row, or that of `go`
abbrev pub line_of_fault : ℕ → PlanFault → ℕ
line_of_fault rows (TooMany row) = 3 + row
line_of_fault rows (SameName row) = 3 + row
line_of_fault rows (ZeroShare row) = 3 + row
line_of_fault rows (Sessions row) = 3 + row
line_of_fault rows (Steps row) = 3 + row
line_of_fault rows (Most row) = 3 + row
line_of_fault rows (Volumes row) = 3 + row
line_of_fault rows NoTenant = 3 + rows
line_of_fault rows (OverBlocks sum blocks) = 3 + rows
line_of_fault rows (NoMemory _) = 3 + rows

-- the plan, unless its rows have this fault
abbrev pub plan_unless : Option PlanFault → CheckedPlan → Reading CheckedPlan
plan_unless None plan = Ok plan
plan_unless (Some fault) plan = Err (line_of_fault (length plan.rows) fault, Check fault)

-- the plan of the rows, if they make one
abbrev pub checked : Grid → ℕ → List TenantRow → Reading CheckedPlan
checked grid blocks rows = plan_unless (plan_fault blocks rows) (record { grid = grid; blocks = blocks; rows = rows })

-- the plan that the lines up to `go` tell, and the lines after it
unfoldable pub plan_of : List (List ℕ) → Reading (CheckedPlan × List (List ℕ))
plan_of lines =
    then_read (line_at 1 lines) (λ (first, lines).
    then_read (at_line 1 (grid_told (words_of first))) (λ grid.
    then_read (line_at 2 lines) (λ (second, lines).
    then_read (at_line 2 (blocks_told (words_of second))) (λ blocks.
    then_read (rows_from (is_room (words_of second)) 3 lines) (λ (rows, lines).
    then_read (checked grid blocks rows) (λ plan.
    Ok (plan, lines)))))))

-- the fault is the one that the lines tell, unless it is want of memory
abbrev pub IsFaultOf : {A : Type 0} → Reading A → PlanText → Type 0
IsFaultOf reading (Fault line fault) = reading ≡ Err (line, fault)
IsFaultOf reading (Memory _) = Unit {0}

-- the place of the tenant of this name in the plan that was read
abbrev pub place_of : Reading (CheckedPlan × List (List ℕ)) → List ℕ → Option ℕ
place_of (Ok read) name = place_named read.0 name
place_of (Err fault) name = None

-- the name is that of a tenant of the input's plan
abbrev pub NamesTenant : List ℕ → List ℕ → Type 0
NamesTenant name input = IsSome (place_of (plan_of (lines_of input)) name)
