-- Lines dealt out to shards, of which each answers some tenants.
use Rattle.std.specs.Prelude.{◌≡◌, ℕ, ◌+◌, ◌-◌, ◌%◌, ◌<◌, ◌≤◌, List, [], ◌∷◌, ◌++◌, Bool, ◌==◌, ◌||◌, true, false, min, leb, map, filter, flat_map, length, slice_index_or, if◌then◌else◌, Option, Result, Ok, Err, IfOk, take, drop}
use Rattle.std.specs.List.{All}
use Rattle.std.specs.Io.KnownBytes.{Appends}
use Rattle.gq_shards.specs.declared.answering.Answers.{Answers}
use Rattle.gq_shards.specs.declared.answering.Answers.TheVariants.{One, Shards}
use Rattle.gq_shards.specs.declared.chunk.Chunk.{Chunk}
use Rattle.gq_shards.specs.declared.dealing.Dealt.{Dealt}
use Rattle.gq_shards.specs.declared.dealing.Section.{Section}
use Rattle.gq_shards.specs.declared.lengths.LengthPlace.{LengthPlace}
use Rattle.gq_shards.specs.declared.lengths.Lengths.{Lengths}
use Rattle.gq_shards.specs.declared.merging.Place.{Place}
use Rattle.gq_shards.specs.declared.telling.Told.{Told}
use Rattle.gq_shards.specs.declared.ways.Way.{Way}
use Rattle.gq_desk.specs.CheckedPlan.{CheckedPlan, row_at}
use Rattle.gq_desk.specs.declared.plans.TenantRow.{TenantRow}
use Rattle.gq_model.specs.declared.events.Event.{Event}
use Rattle.gq_model.specs.declared.events.Event.TheVariants.{Tenant, Server, Stray}
use Rattle.gq_script.specs.declared.script.RunFault.{RunFault}
use Rattle.gq_shards.specs.declared.merging.AnswersFault.{AnswersFault}
use Rattle.gq_shards.specs.declared.merging.AnswersFault.TheVariants.{Memory as NoMemory, Write as NotWritten}
use Rattle.gq_script.specs.declared.script.RunFault.TheVariants.{Memory, Write}
use Rattle.gq_text.specs.Input.{event_of}
use Rattle.gq_lines.specs.Lines.{lines_of, joined}
use Rattle.gq_text.specs.PlanText.{Reading, plan_of}
use Rattle.gq_script.specs.Out.{output_lines}

-- which of so many shards answers the tenant at place t
abbrev pub shard_of : ℕ → ℕ → ℕ
shard_of shards t = t % shards

-- whose an event is: 0 is a server line, which all shards see, and n + 1 is of shard n alone
abbrev pub mark_of : ℕ → Event → ℕ
mark_of shards (Tenant t line) = shard_of shards t + 1
mark_of shards (Server line) = 0
mark_of shards Stray = 1

-- the marks of lines
abbrev pub marks_of : CheckedPlan → ℕ → List (List ℕ) → List ℕ
marks_of plan shards lines = map (λ line. mark_of shards (event_of plan line)) lines

-- the shard tells the answer to a line of this mark; it sees the line
abbrev pub tells : ℕ → ℕ → Bool
tells shard mark = mark - 1 == shard

abbrev pub sees_mark : ℕ → ℕ → Bool
sees_mark shard mark = mark == 0 || tells shard mark

-- of lines with these marks, the bytes before each that the shard sees, from the end of the one before it; so many are before the first of all
abbrev pub gaps_of : ℕ → ℕ → List ℕ → List (List ℕ) → List ℕ
gaps_of shard passed (mark ∷ marks) (line ∷ lines) = if sees_mark shard mark then passed ∷ gaps_of shard 0 marks lines else gaps_of shard (passed + length line + 1) marks lines
gaps_of shard passed _ _ = []

-- a shard that sees the line of an event tells the answer, or does not
pub record IsTold (shards shard : ℕ) (event : Event) : Type 0 where
  pub seen : sees_mark shard (mark_of shards event) ≡ true
  pub told : tells shard (mark_of shards event) ≡ true

pub record IsUntold (shards shard : ℕ) (event : Event) : Type 0 where
  pub seen : sees_mark shard (mark_of shards event) ≡ true
  pub untold : tells shard (mark_of shards event) ≡ false

-- ---- lists of lengths

-- a byte for each length is the lesser of it and 255, and those that are no less than 255 are by themselves too
pub record AreLengths (near far lengths : List ℕ) : Type 0 where
  pub bytes : near ≡ map (min 255) lengths
  pub long : far ≡ filter (leb 255) lengths

-- a list has these lengths; from a place on it has these
abbrev pub AreListed : Lengths → List ℕ → Type 0
AreListed list lengths = AreLengths list.near.items list.far.items lengths

abbrev pub AreLeft : Lengths → LengthPlace → List ℕ → Type 0
AreLeft list place lengths = AreLengths (drop place.near list.near.items) (drop place.far list.far.items) lengths

abbrev pub first_length : LengthPlace
first_length = record { near = 0; far = 0 }

-- ---- a script that is dealt out

-- a way before the first line; one that goes on, where its shard sees a line that begins at a place, to that line and behind it
pub record IsFirstWay (way : Way) : Type 0 where
  pub gaps : AreListed way.gaps []
  pub end : way.end ≡ 0

abbrev pub Stops : Bool → ℕ → ℕ → Way → Way → Type 0
Stops true place after old new = (new.end ≡ after) × ((gaps : List ℕ) → AreListed old.gaps gaps → AreListed new.gaps (gaps ++ (place - old.end) ∷ []))
Stops false place after old new = new ≡ old

-- the way of each shard through a section
pub record HasWays (plan : CheckedPlan) (shards : ℕ) (section : Section) : Type 0 where
  pub size : length section.ways.items ≡ shards
  pub gaps : (k : ℕ) (d : Way) → k < shards → AreListed (slice_index_or section.ways.items k d).gaps (gaps_of k 0 (marks_of plan shards (lines_of section.lines.now)) (lines_of section.lines.now))

-- the lines of sections that follow each other; their marks, and the ways through them
abbrev pub lines_of_sections : List Section → List (List ℕ)
lines_of_sections sections = flat_map (λ (section : Section). lines_of section.lines.now) sections

pub record AreDealt (plan : CheckedPlan) (shards : ℕ) (lines : List (List ℕ)) (dealt : Dealt) : Type 0 where
  pub whole : lines_of_sections dealt.sections.items ≡ lines
  pub marks : dealt.marks.items ≡ marks_of plan shards lines
  pub ways : All (HasWays plan shards) dealt.sections.items

-- of lines with these marks, those that the shard tells
abbrev pub of_shard : ℕ → List ℕ → List (List ℕ) → List (List ℕ)
of_shard shard (mark ∷ marks) (line ∷ lines) = if tells shard mark then line ∷ of_shard shard marks lines else of_shard shard marks lines
of_shard shard _ _ = []

-- the row, where the tenant is the shard's; else the least row of its name
abbrev pub part_row : Bool → TenantRow → TenantRow
part_row mine row = if mine then row else record { name = row.name; share = 1; sessions = 1; steps = 1; most_blocks = 1; most_volumes = 1 }

-- the rows from place t on, as the shard has them
abbrev pub part_rows : ℕ → ℕ → ℕ → List TenantRow → List TenantRow
part_rows shards shard t [] = []
part_rows shards shard t (row ∷ rows) = part_row (shard_of shards t == shard) row ∷ part_rows shards shard (t + 1) rows

-- the plan of a shard: all tenants stand at their places by their names, its own with their rows
pub record IsPart (shards shard : ℕ) (plan part : CheckedPlan) : Type 0 where
  pub grid : part.grid ≡ plan.grid
  pub names : map (λ (row : TenantRow). row.name) part.rows ≡ map (λ (row : TenantRow). row.name) plan.rows
  pub rows : (t : ℕ) → shard_of shards t ≡ shard → row_at part t ≡ row_at plan t

-- a text and the lengths of its lines
pub record IsText (text : List ℕ) (lengths : Lengths) (lines : List (List ℕ)) : Type 0 where
  pub bytes : text ≡ joined lines
  pub counts : AreListed lengths (map length lines)

-- what is left of a shard's text behind a place, where these lines are
pub record IsLeft (told : Told) (place : Place) (lines : List (List ℕ)) : Type 0 where
  pub within : place.byte ≤ length told.text.items
  pub bytes : drop place.byte told.text.items ≡ joined lines
  pub counts : AreLeft told.lengths place.length (map length lines)

abbrev pub first_place : Place
first_place = record { length = first_length; byte = 0 }

-- each shard that had memory told its own of the lines with these marks
abbrev pub EachTold : {E : Type 0} → List ℕ → List (List ℕ) → List (Result Told E) → Type 0
EachTold {E} marks lines tried = (k : ℕ) (d : Result Told E) → k < length tried → IfOk (slice_index_or tried k d) (λ told. IsText told.text.items told.lengths (of_shard k marks lines))

-- each line has a mark, each mark a shard, and each shard told its own of the lines
pub record AreTold (marks : List ℕ) (lines : List (List ℕ)) (all : List Told) : Type 0 where
  pub size : length lines ≡ length marks
  pub shards : (i : ℕ) → i < length marks → slice_index_or marks i 0 - 1 < length all
  pub texts : (k : ℕ) (d : Told) → k < length all → IsText (slice_index_or all k d).text.items (slice_index_or all k d).lengths (of_shard k marks lines)

-- these lines, as one world wrote them or as the shards told them
abbrev pub AreAnswers : Answers → List (List ℕ) → Type 0
AreAnswers (One text) lines = text.items ≡ joined lines
AreAnswers (Shards marks all) lines = AreTold marks.items lines all.items

-- what waits in a chunk to be written
abbrev pub waiting : Chunk → List ℕ
waiting chunk = take chunk.filled chunk.bytes.items

-- of a text a part was appended, and the rest is left
abbrev pub Passes : Option (List ℕ) → Option (List ℕ) → List ℕ → List ℕ → Type 0
Passes old new text left = (sent : List ℕ) × Appends old new sent × (text ≡ sent ++ left)

-- why answers were not written, as it is told of the run
abbrev pub of_answers : AnswersFault → RunFault
of_answers (NoMemory refused) = Memory refused
of_answers NotWritten = Write

-- the output's lines, where the plan is accepted
abbrev pub lines_from : Reading (CheckedPlan × List (List ℕ)) → List (List ℕ)
lines_from (Ok read) = output_lines read.0 read.1
lines_from (Err fault) = []

abbrev pub out_lines : List ℕ → List (List ℕ)
out_lines input = lines_from (plan_of (lines_of input))
