-- The text of a setup, as a file has it and as a node's journal has it.
--
-- The canonical text has a line for each volume, so that what goes on from what is said of volumes alone.
use Rattle.std.specs.Prelude.{◌≡◌, ℕ, List, [], ◌∷◌, ◌++◌, ◌==◌, map, length, codes, decimal, Ok, Err, if◌then◌else◌}
use Rattle.std.specs.List.{flat_map}
use Rattle.gq_desk.specs.CheckedPlan.{CheckedPlan, row_at}
use Rattle.gq_desk.specs.Volumes.{account_at}
use Rattle.gq_model.specs.declared.events.Event.{Event}
use Rattle.gq_model.specs.declared.events.Event.TheVariants.{Tenant}
use Rattle.gq_model.specs.declared.events.Line.TheVariants.{NewVolume}
use Rattle.gq_lines.specs.Words.{Word}
use Rattle.gq_lines.specs.Written.{line_text}
use Rattle.gq_text.specs.Canonical.{script_text}
use Rattle.gq_journal.specs.Batches.{Line, lines_text}
use Rattle.gq_node.specs.Resting.{FirstPlan}
use Rattle.gq_setup.specs.declared.openings.Opening.{Opening}
use Rattle.gq_setup.specs.declared.openings.ChunkRoom.{ChunkRoom}
use Rattle.gq_setup.specs.Setups.{Setup, SetupReading, holdings, setup_of}

-- the line that opens the volume
abbrev pub opening_event : Opening → Event
opening_event opening = Tenant opening.tenant (NewVolume opening.files opening.blocks)

-- the line of a loss at the place
abbrev pub loss_line : (place : ℕ) → List ℕ
loss_line place = line_text (codes "replace") (decimal place ∷ [])

-- the line of a tenant of this name that is gone
abbrev pub gone_line : (name : Word) → List ℕ
gone_line name = line_text (codes "gone") (name ∷ [])

-- the line of a room for chunks, of a tenant of the plan
abbrev pub room_line : CheckedPlan → ChunkRoom → List ℕ
room_line plan room = line_text (row_at plan room.tenant).name (codes "chunks" ∷ decimal room.kib ∷ [])

-- the lines of rooms for chunks, of losses, and of tenants that are gone
abbrev pub behind_text : Setup → List ℕ
behind_text setup = flat_map (room_line setup.plan) setup.rooms ++ (flat_map loss_line setup.lost ++ flat_map gone_line setup.gone)

-- the canonical script of a plan and what it opens, and behind it these
abbrev pub setup_text : Setup → List ℕ
setup_text setup = script_text setup.plan (map opening_event setup.openings) ++ behind_text setup

-- the line `node N of R by C`
abbrev pub head_text : (node : ℕ) → Setup → List ℕ
head_text node setup =
    line_text (codes "node") (decimal node ∷ codes "of" ∷ decimal setup.plan.grid.rows ∷ codes "by" ∷ decimal setup.plan.grid.cols ∷ [])

-- the text of a node's plan in its journal
abbrev pub node_text : (node : ℕ) → Setup → List ℕ
node_text node setup = head_text node setup ++ setup_text setup

-- what is behind the first line of a text
abbrev pub behind_first : List ℕ → List ℕ
behind_first [] = []
behind_first (c ∷ text) = if c == 10 then text else behind_first text

-- ---- what a plan in a journal says

-- the setup that its text tells
abbrev pub setup_of_node_text : List ℕ → SetupReading Setup
setup_of_node_text text = setup_of (behind_first text)

-- what a new node takes from a setup for the tenant at place t: how many volumes it has, and how many nodes were lost
abbrev pub first_of_setup : Setup → (t : ℕ) → FirstPlan
first_of_setup setup t = record { volumes = length (account_at (holdings setup) t).volumes; losses = length setup.lost }

-- and from what was read: nothing, where that is no setup
abbrev pub no_first : FirstPlan
no_first = record { volumes = 0; losses = 0 }

abbrev pub first_read : SetupReading Setup → (t : ℕ) → FirstPlan
first_read (Ok setup) t = first_of_setup setup t
first_read (Err fault) t = no_first

-- and from the plan that has these lines in a journal
abbrev pub first_of_lines : List Line → (t : ℕ) → FirstPlan
first_of_lines lines t = first_read (setup_of_node_text (lines_text lines)) t

-- for each tenant that is the same as from the setup
abbrev pub OpensFor : List Line → Setup → Type 0
OpensFor lines setup = (t : ℕ) → first_of_lines lines t ≡ first_of_setup setup t
