-- The canonical script of a plan and events, and what reading it gives.
use Rattle.std.specs.Prelude.{◌≡◌, ℕ, ◌<◌, ◌^◌, List, [], ◌∷◌, ◌++◌, Ok, Bool, true, false, not, ◌&&◌, ◌==◌, if◌then◌else◌, nat_le, codes, decimal, map, length}
use Rattle.std.specs.List.{flat_map, list_all}
use Rattle.hex.specs.Hex.{IsBytes}
use Rattle.gq_grid.specs.Grid.{is_side}
use Rattle.gq_desk.specs.Plans.{IsSound}
use Rattle.gq_desk.specs.CheckedPlan.{CheckedPlan, row_at}
use Rattle.gq_desk.specs.declared.plans.TenantRow.{TenantRow}
use Rattle.gq_model.specs.declared.events.Event.{Event}
use Rattle.gq_model.specs.declared.events.Event.TheVariants.{Tenant, Server, Stray}
use Rattle.gq_model.specs.declared.events.Line.{Line}
use Rattle.gq_model.specs.declared.events.Line.TheVariants.{Bad, Quorum, NewVolume, Volumes, Write, Read, List as ListFiles, Deliver, Lose, Retry, Abandon}
use Rattle.gq_model.specs.declared.events.ServerLine.{ServerLine}
use Rattle.gq_model.specs.declared.events.ServerLine.TheVariants.{Bad as ServerBad, Down, Up, Lost as ServerLost, Repaired as ServerRepaired}
use Rattle.gq_text.specs.declared.plan_text.TheConstants.{BLOCKS_WITHOUT_ROOM, FILE_BLOCKS_WITHOUT_ROOM, VOLUMES_WHERE_UNSAID}
use Rattle.gq_lines.specs.Words.{Word}
use Rattle.gq_lines.specs.Lines.{lines_of}
use Rattle.gq_text.specs.Input.{event_of}
use Rattle.gq_text.specs.PlanText.{plan_of}
use Rattle.gq_lines.specs.Written.{content_word, line_text}

-- the words of a tenant's line, after its name
abbrev pub line_words : Line → List Word
line_words Bad = codes "bad" ∷ []
line_words Quorum = codes "quorum" ∷ []
line_words (NewVolume files blocks) = codes "open" ∷ decimal files ∷ decimal blocks ∷ []
line_words Volumes = codes "volumes" ∷ []
line_words (Write session volume file bytes) = codes "write" ∷ decimal session ∷ decimal volume ∷ decimal file ∷ content_word bytes ∷ []
line_words (Read session volume file) = codes "read" ∷ decimal session ∷ decimal volume ∷ decimal file ∷ []
line_words (ListFiles session volume) = codes "list" ∷ decimal session ∷ decimal volume ∷ []
line_words (Deliver n) = codes "deliver" ∷ decimal n ∷ []
line_words (Lose n) = codes "lose" ∷ decimal n ∷ []
line_words (Retry session) = codes "retry" ∷ decimal session ∷ []
line_words (Abandon session) = codes "abandon" ∷ decimal session ∷ []

-- the words of a server line, after `server`
abbrev pub server_line_words : ServerLine → List Word
server_line_words ServerBad = codes "bad" ∷ []
server_line_words (Down server) = decimal server ∷ codes "down" ∷ []
server_line_words (Up server) = decimal server ∷ codes "up" ∷ []
server_line_words (ServerLost server) = decimal server ∷ codes "lost" ∷ []
server_line_words (ServerRepaired server) = decimal server ∷ codes "repaired" ∷ []

-- the line of an event; that of nobody is empty
abbrev pub event_line : CheckedPlan → Event → List ℕ
event_line plan (Tenant tenant line) = line_text (row_at plan tenant).name (line_words line)
event_line plan (Server line) = line_text (codes "server") (server_line_words line)
event_line plan Stray = line_text [] []

-- the row says no more than one in a plan with `blocks`
abbrev pub is_plain_row : TenantRow → Bool
is_plain_row row = row.most_blocks == FILE_BLOCKS_WITHOUT_ROOM && row.most_volumes == VOLUMES_WHERE_UNSAID

-- whether the text of the plan is one with `room`: a server has more blocks than one with `blocks` may say, or a row says
-- more
abbrev pub has_room : CheckedPlan → Bool
has_room plan = not (nat_le plan.blocks BLOCKS_WITHOUT_ROOM && list_all is_plain_row plan.rows)

-- the word before the blocks of a server
abbrev pub blocks_verb : (room : Bool) → Word
blocks_verb true = codes "room"
blocks_verb false = codes "blocks"

-- the word of how many volumes a row may open, where it has to be said
abbrev pub volumes_words : ℕ → List Word
volumes_words n = if n == VOLUMES_WHERE_UNSAID then [] else decimal n ∷ []

-- the words of a row's most blocks of a file, and of its volumes
abbrev pub most_words : (room : Bool) → TenantRow → List Word
most_words true row = decimal row.most_blocks ∷ volumes_words row.most_volumes
most_words false row = []

-- the line of a tenant's row
abbrev pub row_line : (room : Bool) → TenantRow → List ℕ
row_line room row = line_text (codes "tenant") (row.name ∷ decimal row.share ∷ decimal row.sessions ∷ decimal row.steps ∷ most_words room row)

-- the first two lines of a plan
abbrev pub head_text : CheckedPlan → List ℕ
head_text plan =
    line_text (codes "grid") (decimal plan.grid.rows ∷ decimal plan.grid.cols ∷ [])
    ++ line_text (blocks_verb (has_room plan)) (decimal plan.blocks ∷ [])

-- the lines of a plan, up to `go`
abbrev pub plan_text : CheckedPlan → List ℕ
plan_text plan = head_text plan ++ flat_map (row_line (has_room plan)) plan.rows ++ line_text (codes "go") []

-- the canonical script: the plan, then one line for each event
abbrev pub script_text : CheckedPlan → List Event → List ℕ
script_text plan events = plan_text plan ++ flat_map (event_line plan) events

-- reading the text gives this plan and these events
pub record IsScriptOf (text : List ℕ) (plan : CheckedPlan) (events : List Event) : Type 0 where
  pub lines : List (List ℕ)
  pub read : plan_of (lines_of text) ≡ Ok (plan, lines)
  pub tell : map (event_of plan) lines ≡ events

-- ---- plans and events whose script is read again

-- a plan that `Plan::check` accepts, of a grid that `Grid::new` accepts
pub record IsPlan (plan : CheckedPlan) : Type 0 where
  pub rows : is_side plan.grid.rows ≡ true
  pub cols : is_side plan.grid.cols ≡ true
  pub sound : IsSound plan.blocks plan.rows

-- a number that a line can write
abbrev pub IsNumber : ℕ → Type 0
IsNumber n = n < 2 ^ 32

-- the numbers of a tenant's line are such numbers, its content is one of bytes
abbrev pub FitsLine : Line → Type 0
FitsLine (NewVolume files blocks) = IsNumber files × IsNumber blocks
FitsLine (Write session volume file bytes) = IsNumber session × IsNumber volume × IsNumber file × IsBytes bytes
FitsLine (Read session volume file) = IsNumber session × IsNumber volume × IsNumber file
FitsLine (ListFiles session volume) = IsNumber session × IsNumber volume
FitsLine (Deliver n) = IsNumber n
FitsLine (Lose n) = IsNumber n
FitsLine (Retry session) = IsNumber session
FitsLine (Abandon session) = IsNumber session
FitsLine _ = Unit {0}

abbrev pub FitsServerLine : ServerLine → Type 0
FitsServerLine ServerBad = Unit {0}
FitsServerLine (Down server) = IsNumber server
FitsServerLine (Up server) = IsNumber server
FitsServerLine (ServerLost server) = IsNumber server
FitsServerLine (ServerRepaired server) = IsNumber server

-- an event's tenant is in the plan, and its line fits
abbrev pub Fits : CheckedPlan → Event → Type 0
Fits plan (Tenant tenant line) = (tenant < length plan.rows) × FitsLine line
Fits plan (Server line) = FitsServerLine line
Fits plan Stray = Unit {0}
