-- Batches of plans and batches of facts.
use Rattle.std.specs.Prelude.{◌≡◌, ℕ, List, [], ◌∷◌, ◌++◌, take, Bool, true, false, ◌&&◌, ◌||◌, not, codes, if◌then◌else◌}
use Rattle.std.specs.List.{list_all}
use Rattle.std.specs.Str.{bytes_eq}
use Rattle.gq_journal.specs.Batches.{Line, whole_lines, lines_text, CanBeSealed, is_batch_line}

-- whether the line is one with which a plan begins: `node N of R by C`
abbrev pub is_head : Line → Bool
is_head line = bytes_eq (take 5 line) (codes "node ")

-- a batch of a plan begins with such a line
abbrev pub is_plan : List Line → Bool
is_plan [] = false
is_plan (line ∷ lines) = is_head line

-- the text is that of a plan: it may stand in a batch, and begins as a plan
pub record IsPlan (text : List ℕ) : Type 0 where
  pub batch : CanBeSealed text
  pub plan : is_plan (whole_lines text) ≡ true

-- lines of facts: they may stand in a batch, and none begins a plan
abbrev pub are_facts : List Line → Bool
are_facts lines = list_all (λ line. is_batch_line line && not (is_head line)) lines

-- the lines of the batches of facts, in order
abbrev pub facts_in : List (List Line) → List Line
facts_in [] = []
facts_in (batch ∷ batches) = (if is_plan batch then [] else batch) ++ facts_in batches

-- the last plan among the batches; this one, where there is none
abbrev pub last_plan : List Line → List (List Line) → List Line
last_plan before [] = before
last_plan before (batch ∷ batches) = last_plan (if is_plan batch then batch else before) batches

-- the lines of the first batch, none where there is no batch: where the journal begins with a plan, the lines of this plan
abbrev pub first_plan : List (List Line) → List Line
first_plan [] = []
first_plan (batch ∷ batches) = batch

-- the first batch is one of a plan
abbrev pub begins_with_plan : List (List Line) → Bool
begins_with_plan [] = false
begins_with_plan (batch ∷ batches) = is_plan batch

-- the first line
abbrev pub head_of : List Line → Line
head_of [] = []
head_of (line ∷ lines) = line

-- a plan goes on from another of the same node and grid, where this test says so, and from itself
abbrev pub goes_on_from : (List ℕ → Bool) → List ℕ → List ℕ → Bool
goes_on_from goes_on plan last = bytes_eq last plan || (bytes_eq (head_of (whole_lines last)) (head_of (whole_lines plan)) && goes_on last)

-- the journal is one of this plan's node: it begins with a plan, and this plan goes on from its last
abbrev pub is_of : (List ℕ → Bool) → List ℕ → List (List Line) → Bool
is_of goes_on plan batches = begins_with_plan batches && goes_on_from goes_on plan (lines_text (last_plan [] batches))

-- what is appended of a plan: nothing, where it is the last one
abbrev pub new_plan : List ℕ → List ℕ → List ℕ
new_plan plan last = if bytes_eq last plan then [] else plan
