-- What `picture` writes: the operations on a file, drawn in the order in which a single register gives the same answers.
use Rattle.std.specs.Prelude.{◌≡◌, ℕ, ◌*◌, List, Option, Some, None, Ok, Err, map}
use Rattle.std.specs.Io.KnownBytes.{Appends}
use Rattle.gq_tag.specs.Tag.{File}
use Rattle.gq_desk.specs.CheckedPlan.{CheckedPlan, row_at}
use Rattle.gq_laws.specs.declared.ops.Op.{Op}
use Rattle.gq_laws.specs.Orders.{order}
use Rattle.gq_model.specs.declared.events.Event.{Event}
use Rattle.gq_picture.specs.Absences.{absences, counted_from}
use Rattle.gq_picture.specs.Drawing.{IsDrawing}
use Rattle.gq_picture.specs.Laws.{TellsNoLie, all_effects}
use Rattle.gq_picture.specs.declared.absences.Absence.{Absence}
use Rattle.gq_picture.specs.declared.drawing.Drawing.{Drawing}
use Rattle.gq_text.specs.Input.{event_of, place_named}
use Rattle.gq_lines.specs.Lines.{lines_of}
use Rattle.gq_text.specs.PlanText.{Reading, plan_of}
use Rattle.gq_streams.specs.Watched.{AppendsPrefix}
use Rattle.gq_svg.specs.Svg.{picture_text}
use Rattle.gq_svg.specs.declared.picture.Heading.{Heading}
use Rattle.gq_files.specs.Histories.{line_behind}
use Rattle.gq_script.specs.Linearizable.{operations_of}

-- how many servers the plan has
abbrev pub servers_of : CheckedPlan → ℕ
servers_of plan = plan.grid.rows * plan.grid.cols

-- what stands above the picture of a file of the tenant at place t
abbrev pub heading_of : CheckedPlan → ℕ → File → Heading
heading_of plan t file =
    record { volume = file.volume; file = file.place; sessions = (row_at plan t).sessions; servers = servers_of plan; first_line = line_behind plan }

-- when servers were down, in a run of these events
abbrev pub absences_of : CheckedPlan → List Event → List Absence
absences_of plan events = absences (servers_of plan) (counted_from 0 (all_effects plan events)) (all_effects plan events)

-- the text is that of a drawing of the operations in their order, which tells no lie
pub record TellsPicture (name : List ℕ) (heading : Heading) (ops : List Op) (absences : List Absence) (text : List ℕ) : Type 0 where
  pub drawing : Drawing
  pub is : IsDrawing ops (order ops) absences drawing
  pub is_true : TellsNoLie ops (order ops) absences drawing
  pub told : text ≡ picture_text name heading drawing

-- ---- of an input

-- the picture of the file of the tenant at place t, of this name, where these lines come after the plan
abbrev pub IsPictureOf : CheckedPlan → List (List ℕ) → List ℕ → ℕ → File → List ℕ → Type 0
IsPictureOf plan lines name t file text =
    TellsPicture name (heading_of plan t file) (operations_of plan lines t file) (absences_of plan (map (event_of plan) lines)) text

-- the picture of the file of the tenant of this name, in what was read of an input
abbrev pub IsPictureIn : Reading (CheckedPlan × List (List ℕ)) → List ℕ → File → List ℕ → Type 0
IsPictureIn (Ok read) name file text = by (place_named read.0 name)
  where
    by : Option ℕ → Type 0
    by None = ⊥
    by (Some t) = IsPictureOf read.0 read.1 name t file text
IsPictureIn (Err fault) name file text = ⊥

-- the text that is written for the input, the name and the file
abbrev pub IsPictureText : List ℕ → List ℕ → File → List ℕ → Type 0
IsPictureText input name file text = IsPictureIn (plan_of (lines_of input)) name file text

-- it was appended, or a prefix of it
abbrev pub AppendsPicture : List ℕ → List ℕ → File → Option (List ℕ) → Option (List ℕ) → Type 0
AppendsPicture input name file old new = (text : List ℕ) × IsPictureText input name file text × Appends old new text

abbrev pub AppendsPicturePrefix : List ℕ → List ℕ → File → Option (List ℕ) → Option (List ℕ) → Type 0
AppendsPicturePrefix input name file old new = (text : List ℕ) × IsPictureText input name file text × AppendsPrefix old new text
