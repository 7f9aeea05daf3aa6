-- A canonical script is read as its plan and its events.
use Rattle.std.proofs.Common.{◌≡◌, ℕ, suc, ◌+◌, ◌≤◌, List, [], ◌∷◌, ◌++◌, Option, Some, None, Ok, Bool, true, false, cond, refl, ap, ◌∙◌, sym, arith, append_assoc}
use Rattle.std.specs.Prelude.{codes, decimal, not, nat_le, ◌==◌, ◌&&◌, slice_get}
use Rattle.std.specs.List.{All, flat_map, list_all}
use Rattle.std.proofs.lemmas.Bool.{and_parts, eqb-true, leb-true, le-leb}
use Rattle.std.proofs.lemmas.List.Sums.{sum_by-cons}
use Rattle.gq_grid.specs.declared.TheConstants.{MOST_SIDE}
use Rattle.gq_grid.specs.Grid.{is_side}
use Rattle.gq_desk.specs.declared.limits.TheConstants.{MOST_BLOCKS, MOST_FILE_BLOCKS, MOST_SESSIONS, MOST_STEPS, MOST_VOLUMES}
use Rattle.gq_desk.specs.Names.{is_name}
use Rattle.gq_desk.specs.Plans.{is_in, is_named, number_fault, shares}
use Rattle.gq_desk.specs.CheckedPlan.{CheckedPlan}
use Rattle.gq_desk.specs.declared.plans.TenantRow.{TenantRow}
use Rattle.gq_desk.specs.declared.plans.PlanFault.{PlanFault}
use Rattle.gq_desk.specs.declared.plans.PlanFault.TheVariants.{ZeroShare, Sessions, Steps, Most, Volumes}
use Rattle.gq_desk.proofs.SoundRows.{unless_none, row_numbers}
use Rattle.gq_model.specs.declared.events.Event.{Event}
use Rattle.gq_lines.specs.Words.{Word, words_of}
use Rattle.gq_lines.specs.Lines.{lines_of}
use Rattle.gq_text.specs.Input.{one_number_of, two_numbers_of}
use Rattle.gq_text.specs.declared.plan_text.TheConstants.{BLOCKS_WITHOUT_ROOM, FILE_BLOCKS_WITHOUT_ROOM, VOLUMES_WHERE_UNSAID}
use Rattle.gq_text.specs.PlanText.{then_read, at_line, line_at, grid_told, blocks_told, is_room, volumes_told, row_told, row_then, rows_from, checked, plan_of}
use Rattle.gq_lines.specs.Written.{spaced, line_text}
use Rattle.gq_text.specs.Canonical.{event_line, is_plain_row, has_room, blocks_verb, volumes_words, most_words, row_line, plan_text, script_text, IsScriptOf, IsNumber, IsPlan, Fits}
use Rattle.gq_lines.proofs.Numbers.{numbers_read_back}
use Rattle.gq_lines.proofs.Plain.{is_plain, are_plain, decimal_plain}
use Rattle.gq_text.proofs.Plain.{name_plain}
use Rattle.gq_lines.proofs.LinesBack.{words_back, line_back}
use Rattle.gq_text.proofs.PlanReading.{plan_after_lines}
use Rattle.gq_text.proofs.EventsBack.{events_back}

-- ---- numbers of a plan that is accepted

small : (low high n : ℕ) → is_in low high n ≡ true → n ≤ high
small low high n is = leb-true n high (and_parts (nat_le low n) (nat_le n high) is).1

side : (n : ℕ) → is_side n ≡ true → IsNumber n
side n is =
    let few = small 1 MOST_SIDE n is in
    omega (arith, few)

not_false : (b : Bool) → not b ≡ false → b ≡ true
not_false true is = refl
not_false false is = cc

-- a row whose text is read again
record Writes (row : TenantRow) : Type 0 where
  name : is_name row.name ≡ true
  share : IsNumber row.share
  sessions : IsNumber row.sessions
  steps : IsNumber row.steps
  most_blocks : IsNumber row.most_blocks
  most_volumes : IsNumber row.most_volumes

row_writes : (place : ℕ) (row : TenantRow) → number_fault place row ≡ None → is_named row ≡ true → IsNumber row.share → Writes row
row_writes place row sound named share =
    let wide : Option PlanFault = cond (not (is_in 1 MOST_VOLUMES row.most_volumes)) (Some (Volumes place)) None in
    let last : Option PlanFault = cond (not (is_in 1 MOST_FILE_BLOCKS row.most_blocks)) (Some (Most place)) wide in
    let late : Option PlanFault = cond (not (is_in 1 MOST_STEPS row.steps)) (Some (Steps place)) last in
    let share_on = unless_none (row.share == 0) (ZeroShare place) (cond (not (is_in 1 MOST_SESSIONS row.sessions)) (Some (Sessions place)) late) sound in
    let sessions = unless_none (not (is_in 1 MOST_SESSIONS row.sessions)) (Sessions place) late share_on.1 in
    let steps = unless_none (not (is_in 1 MOST_STEPS row.steps)) (Steps place) last sessions.1 in
    let most = unless_none (not (is_in 1 MOST_FILE_BLOCKS row.most_blocks)) (Most place) wide steps.1 in
    let volumes = unless_none (not (is_in 1 MOST_VOLUMES row.most_volumes)) (Volumes place) None most.1 in
    record {
      name = named;
      share = share;
      sessions = omega (arith, small 1 MOST_SESSIONS row.sessions (not_false (is_in 1 MOST_SESSIONS row.sessions) sessions.0));
      steps = omega (arith, small 1 MOST_STEPS row.steps (not_false (is_in 1 MOST_STEPS row.steps) steps.0));
      most_blocks = omega (arith, small 1 MOST_FILE_BLOCKS row.most_blocks (not_false (is_in 1 MOST_FILE_BLOCKS row.most_blocks) most.0));
      most_volumes = omega (arith, small 1 MOST_VOLUMES row.most_volumes (not_false (is_in 1 MOST_VOLUMES row.most_volumes) volumes.0));
    }

-- the numbers of each row are in their ranges, at whatever place a fault would be told
abbrev InRange : List TenantRow → Type 0
InRange rows = (k : ℕ) (row : TenantRow) → slice_get rows k ≡ Some row → (place : ℕ) × (number_fault place row ≡ None)

-- ---- the line of a row

row_words : Bool → TenantRow → List Word
row_words room row = row.name ∷ decimal row.share ∷ decimal row.sessions ∷ decimal row.steps ∷ most_words room row

volumes_plain : (n : ℕ) → IsNumber n → are_plain (volumes_words n) ≡ true
volumes_plain n is = by (n == VOLUMES_WHERE_UNSAID)
  where
    by : (b : Bool) → are_plain (cond b [] (decimal n ∷ [])) ≡ true
    by true = refl
    by false = rw (decimal_plain n is) refl

volumes_told-words : (n : ℕ) → IsNumber n → volumes_told (volumes_words n) ≡ Some n
unfolding one_number_of
volumes_told-words n is = by (n == VOLUMES_WHERE_UNSAID) refl
  where
    by : (b : Bool) → (n == VOLUMES_WHERE_UNSAID) ≡ b → volumes_told (cond b [] (decimal n ∷ [])) ≡ Some n
    by true same = ap Some (sym (eqb-true n VOLUMES_WHERE_UNSAID same))
    by false other = numbers_read_back n is

row_words_plain : (room : Bool) (row : TenantRow) → Writes row → are_plain (row_words room row) ≡ true
unfolding row_words
row_words_plain true row is = rw (name_plain row.name is.name, decimal_plain row.share is.share, decimal_plain row.sessions is.sessions, decimal_plain row.steps is.steps, decimal_plain row.most_blocks is.most_blocks, volumes_plain row.most_volumes is.most_volumes) refl
row_words_plain false row is = rw (name_plain row.name is.name, decimal_plain row.share is.share, decimal_plain row.sessions is.sessions, decimal_plain row.steps is.steps) refl

-- without words for them the row has the most blocks and the volumes of one in a plan with `blocks`
abbrev IsToldIn : Bool → TenantRow → Type 0
IsToldIn true row = Unit {0}
IsToldIn false row = (FILE_BLOCKS_WITHOUT_ROOM ≡ row.most_blocks) × (VOLUMES_WHERE_UNSAID ≡ row.most_volumes)

row_told-words : (room : Bool) (row : TenantRow) → Writes row → IsToldIn room row → row_told room (codes "tenant" ∷ row_words room row) ≡ Some row
unfolding row_told row_words
row_told-words true row is told = rw (is.name, numbers_read_back row.share is.share, numbers_read_back row.sessions is.sessions, numbers_read_back row.steps is.steps, numbers_read_back row.most_blocks is.most_blocks, volumes_told-words row.most_volumes is.most_volumes) refl
row_told-words false row is told =
    rw (is.name, numbers_read_back row.share is.share, numbers_read_back row.sessions is.sessions, numbers_read_back row.steps is.steps)
    (λ i. Some (record row { most_blocks = told.0 i; most_volumes = told.1 i }))

-- of a plan
abbrev AreToldIn : Bool → List TenantRow → Type 0
AreToldIn room [] = Unit {0}
AreToldIn room (row ∷ rows) = IsToldIn room row × AreToldIn room rows

all_told : (rows : List TenantRow) → AreToldIn true rows
all_told [] = tt
all_told (row ∷ rows) = (tt, all_told rows)

few_told : (rows : List TenantRow) → list_all is_plain_row rows ≡ true → AreToldIn false rows
few_told [] few = tt
few_told (row ∷ rows) few =
    let parts = and_parts (is_plain_row row) (list_all is_plain_row rows) few in
    let numbers = and_parts (row.most_blocks == FILE_BLOCKS_WITHOUT_ROOM) (row.most_volumes == VOLUMES_WHERE_UNSAID) parts.0 in
    ((sym (eqb-true row.most_blocks FILE_BLOCKS_WITHOUT_ROOM numbers.0), sym (eqb-true row.most_volumes VOLUMES_WHERE_UNSAID numbers.1)), few_told rows parts.1)

-- what the lines of rows, of `go` and of a rest tell
rows_back : (room : Bool) (n : ℕ) (rows : List TenantRow) (rest : List ℕ) → AreToldIn room rows → InRange rows → list_all is_named rows ≡ true → shares rows ≤ MOST_BLOCKS
    → rows_from room n (lines_of (flat_map (row_line room) rows ++ (line_text (codes "go") [] ++ rest))) ≡ Ok (rows, lines_of rest)
unfolding row_words
rows_back room n [] rest told sound named few = refl
rows_back room n (row ∷ rows) rest told sound named few =
    let names = and_parts (is_named row) (list_all is_named rows) named in
    let sum : shares (row ∷ rows) ≡ row.share + shares rows = sum_by-cons (λ (r : TenantRow). r.share) row rows in
    let all : row.share + shares rows ≤ MOST_BLOCKS = omega (arith, sum, few) in
    let first_sound = sound 0 row refl in
    let writes : Writes row = row_writes first_sound.0 row first_sound.1 names.0 (omega (arith, all)) in
    let later = rows_back room (n + 1) rows rest told.1 (λ k r at. sound (suc k) r at) names.1 (omega (arith, all)) in
    let after : List ℕ = line_text (codes "go") [] ++ rest in
    let text : flat_map (row_line room) (row ∷ rows) ++ after ≡ row_line room row ++ (flat_map (row_line room) rows ++ after) = append_assoc (row_line room row) (flat_map (row_line room) rows) after in
    let more : List ℕ = flat_map (row_line room) rows ++ after in
    let line : List ℕ = codes "tenant" ++ spaced (row_words room row) in
    let first : lines_of (row_line room row ++ more) ≡ line ∷ lines_of more = line_back (codes "tenant") (row_words room row) more refl (row_words_plain room row writes) in
    let words : words_of line ≡ codes "tenant" ∷ row_words room row = words_back (codes "tenant") (row_words room row) refl (row_words_plain room row writes) in
    ap (λ x. rows_from room n (lines_of x)) text
    ∙ ap (rows_from room n) first
    ∙ ap (λ ws. row_then n (row_told room ws) (rows_from room (n + 1) (lines_of more))) words
    ∙ ap (λ o. row_then n o (rows_from room (n + 1) (lines_of more))) (row_told-words room row writes told.0)
    ∙ ap (row_then n (Some row)) later

-- ---- the plan

grid_told-words : (plan : CheckedPlan) → IsPlan plan → grid_told (codes "grid" ∷ decimal plan.grid.rows ∷ decimal plan.grid.cols ∷ []) ≡ Ok plan.grid
unfolding grid_told two_numbers_of
grid_told-words plan is =
    let rows : IsNumber plan.grid.rows = side plan.grid.rows is.rows in
    let cols : IsNumber plan.grid.cols = side plan.grid.cols is.cols in
    rw (numbers_read_back plan.grid.rows rows, numbers_read_back plan.grid.cols cols, is.rows, is.cols) refl

-- the blocks of a server are as many as its line may say
abbrev FitsVerb : Bool → ℕ → Type 0
FitsVerb true blocks = is_in 1 MOST_BLOCKS blocks ≡ true
FitsVerb false blocks = is_in 1 BLOCKS_WITHOUT_ROOM blocks ≡ true

verb_number : (room : Bool) (blocks : ℕ) → FitsVerb room blocks → IsNumber blocks
verb_number true blocks is = omega (arith, small 1 MOST_BLOCKS blocks is)
verb_number false blocks is = omega (arith, small 1 BLOCKS_WITHOUT_ROOM blocks is)

blocks_told-words : (room : Bool) (blocks : ℕ) → FitsVerb room blocks → blocks_told (blocks_verb room ∷ decimal blocks ∷ []) ≡ Ok blocks
unfolding blocks_told one_number_of
blocks_told-words true blocks is = rw (numbers_read_back blocks (verb_number true blocks is), is) refl
blocks_told-words false blocks is = rw (numbers_read_back blocks (verb_number false blocks is), is) refl

is_room-words : (room : Bool) (words : List Word) → is_room (blocks_verb room ∷ words) ≡ room
unfolding is_room
is_room-words true words = refl
is_room-words false words = refl

verb_plain : (room : Bool) → is_plain (blocks_verb room) ≡ true
verb_plain true = refl
verb_plain false = refl

grid_words_plain : (plan : CheckedPlan) → IsPlan plan → are_plain (decimal plan.grid.rows ∷ decimal plan.grid.cols ∷ []) ≡ true
grid_words_plain plan is =
    let rows : IsNumber plan.grid.rows = side plan.grid.rows is.rows in
    let cols : IsNumber plan.grid.cols = side plan.grid.cols is.cols in
    rw (decimal_plain plan.grid.rows rows, decimal_plain plan.grid.cols cols) refl

blocks_words_plain : (blocks : ℕ) → IsNumber blocks → are_plain (decimal blocks ∷ []) ≡ true
blocks_words_plain blocks number = rw (decimal_plain blocks number) refl

-- a plan's lines after one another, as they are read
plan_parts : (plan : CheckedPlan) (rest : List ℕ) → plan_text plan ++ rest
    ≡ line_text (codes "grid") (decimal plan.grid.rows ∷ decimal plan.grid.cols ∷ []) ++ (line_text (blocks_verb (has_room plan)) (decimal plan.blocks ∷ []) ++ (flat_map (row_line (has_room plan)) plan.rows ++ (line_text (codes "go") [] ++ rest)))
plan_parts plan rest = four (line_text (codes "grid") (decimal plan.grid.rows ∷ decimal plan.grid.cols ∷ [])) (line_text (blocks_verb (has_room plan)) (decimal plan.blocks ∷ [])) (flat_map (row_line (has_room plan)) plan.rows) (line_text (codes "go") []) rest
  where
    four : (a b c d e : List ℕ) → (((a ++ b) ++ c) ++ d) ++ e ≡ a ++ (b ++ (c ++ (d ++ e)))
    four a b c d e = append_assoc ((a ++ b) ++ c) d e ∙ append_assoc (a ++ b) c (d ++ e) ∙ append_assoc a b (c ++ (d ++ e))

-- the form of the canonical text has words for all that the plan says
room_says : (plan : CheckedPlan) → IsPlan plan → FitsVerb (has_room plan) plan.blocks × AreToldIn (has_room plan) plan.rows
room_says plan is = by (nat_le plan.blocks BLOCKS_WITHOUT_ROOM) refl (list_all is_plain_row plan.rows) refl
  where
    least : nat_le 1 plan.blocks ≡ true
    least = le-leb 1 plan.blocks is.sound.least

    all : (FitsVerb true plan.blocks) × AreToldIn true plan.rows
    all = (rw (least, le-leb plan.blocks MOST_BLOCKS is.sound.bound) refl, all_told plan.rows)

    by : (a : Bool) → nat_le plan.blocks BLOCKS_WITHOUT_ROOM ≡ a → (b : Bool) → list_all is_plain_row plan.rows ≡ b → FitsVerb (not (a && b)) plan.blocks × AreToldIn (not (a && b)) plan.rows
    by true few true rows = (rw (least, few) refl, few_told plan.rows rows)
    by true few false rows = all
    by false many b rows = all

-- the plan is read again, and the lines after it are left
pub plan_back : (plan : CheckedPlan) → IsPlan plan → (rest : List ℕ) → plan_of (lines_of (plan_text plan ++ rest)) ≡ Ok (plan, lines_of rest)
plan_back plan is rest =
    let least = is.sound.least in
    let bound = is.sound.bound in
    let within = is.sound.within in
    let few : shares plan.rows ≤ MOST_BLOCKS = omega (arith, within, bound) in
    let room : Bool = has_room plan in
    let kind = room_says plan is in
    let verb : List ℕ = blocks_verb room in
    let after_blocks : List ℕ = flat_map (row_line room) plan.rows ++ (line_text (codes "go") [] ++ rest) in
    let after_grid : List ℕ = line_text verb (decimal plan.blocks ∷ []) ++ after_blocks in
    let grid_words : List Word = decimal plan.grid.rows ∷ decimal plan.grid.cols ∷ [] in
    let blocks_words : List Word = decimal plan.blocks ∷ [] in
    let grid_plain : are_plain grid_words ≡ true = grid_words_plain plan is in
    let blocks_plain : are_plain blocks_words ≡ true = blocks_words_plain plan.blocks (verb_number room plan.blocks kind.0) in
    let grid_line : List ℕ = codes "grid" ++ spaced grid_words in
    let blocks_line : List ℕ = verb ++ spaced blocks_words in
    let lines : List (List ℕ) = lines_of (plan_text plan ++ rest) in
    let first : lines ≡ grid_line ∷ lines_of after_grid = ap lines_of (plan_parts plan rest) ∙ line_back (codes "grid") grid_words after_grid refl grid_plain in
    let second : lines_of after_grid ≡ blocks_line ∷ lines_of after_blocks = line_back verb blocks_words after_blocks (verb_plain room) blocks_plain in
    let grid : at_line 1 (grid_told (words_of grid_line)) ≡ Ok plan.grid =
    ap (λ ws. at_line 1 (grid_told ws)) (words_back (codes "grid") grid_words refl grid_plain) ∙ ap (at_line 1) (grid_told-words plan is) in
    let second_words : words_of blocks_line ≡ verb ∷ blocks_words = words_back verb blocks_words (verb_plain room) blocks_plain in
    let blocks : at_line 2 (blocks_told (words_of blocks_line)) ≡ Ok plan.blocks =
    ap (λ ws. at_line 2 (blocks_told ws)) second_words ∙ ap (at_line 2) (blocks_told-words room plan.blocks kind.0) in
    let with_room : is_room (words_of blocks_line) ≡ room = ap is_room second_words ∙ is_room-words room blocks_words in
    let rows : rows_from (is_room (words_of blocks_line)) 3 (lines_of after_blocks) ≡ Ok (plan.rows, lines_of rest) =
    ap (λ r. rows_from r 3 (lines_of after_blocks)) with_room ∙ rows_back room 3 plan.rows rest kind.1 (λ k row at. (k, row_numbers plan.blocks plan.rows k row is.sound.fault at)) is.sound.named few in
    let tested : plan_of lines ≡ then_read (checked plan.grid plan.blocks plan.rows) (λ made. Ok (made, lines_of rest)) =
    plan_after_lines lines (lines_of after_grid) (lines_of after_blocks) (lines_of rest) grid_line blocks_line plan.grid plan.blocks plan.rows
    (ap (line_at 1) first) grid (ap (line_at 2) second) blocks rows in
    rw is.sound.fault at tested

-- the canonical script of a plan and of events that fit it is read as that plan and these events
pub scripts_read_back : (plan : CheckedPlan) (events : List Event) → IsPlan plan → All (Fits plan) events → IsScriptOf (script_text plan events) plan events
scripts_read_back plan events is fits = record {
  lines = lines_of (flat_map (event_line plan) events);
  read = plan_back plan is (flat_map (event_line plan) events);
  tell = events_back plan is events fits;
}
