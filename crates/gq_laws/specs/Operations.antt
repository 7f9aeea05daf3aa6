-- The operations on one file, read off turns and what was told to them alone; what makes them tagged, and an order of them legal.
use Rattle.std.specs.Prelude.{◌≡◌, ◌≢◌, ◌⊎◌, ◌<◌, ℕ, ◌+◌, List, [], ◌∷◌, ◌++◌, Bool, true, false, ◌==◌, nat_lt, Option, Some, None, IsSome, option_map, slice_get, slice_index, replicate, length, filter_map, Contains, ⊤, if◌then◌else◌}
use Rattle.gq_tag.specs.declared.Tag.{Tag}
use Rattle.gq_tag.specs.declared.StoredCopy.{StoredCopy}
use Rattle.gq_tag.specs.Tag.{first_tag, is_less, File, is_file}
use Rattle.gq_desk.specs.declared.volumes.VolumeRow.{VolumeRow}
use Rattle.gq_phase.specs.declared.Row.{Row}
use Rattle.gq_phase.specs.declared.Outcome.{Outcome}
use Rattle.gq_phase.specs.declared.Outcome.TheVariants.{Wrote, Gave, Listed}
use Rattle.gq_laws.specs.declared.ops.Kind.{Kind}
use Rattle.gq_laws.specs.declared.ops.Kind.TheVariants.{Write as Writes, Read as Reads, Row as Rows}
use Rattle.gq_laws.specs.declared.ops.Op.{Op}
use Rattle.gq_model.specs.declared.events.Line.TheVariants.{NewVolume, Write, Read, List as ListFiles, Deliver, Retry, Abandon}
use Rattle.gq_model.specs.Told.{Told, Opened, Began, Replied, Round, Done, Resent, Abandoned}
use Rattle.gq_model.specs.Trace.{Turn, Own, Leaping, files_of}

-- ---- whose answer it is

-- a turn at its place in a list of events, with what was told to it
pub record Answered : Type 0 where
  pub place : ℕ
  pub turn : Turn
  pub told : Told

-- the turns with what was told to them, the first of them at this place
abbrev pub answered_from : ℕ → List Turn → List Told → List Answered
answered_from place (turn ∷ turns) (told ∷ more) = record { place = place; turn = turn; told = told } ∷ answered_from (place + 1) turns more
answered_from place _ _ = []

-- the first of them at place 0
abbrev pub answered : List Turn → List Told → List Answered
answered turns tolds = answered_from 0 turns tolds

-- an answered turn with the session that it is about, 0 where it is about none
pub record SessionAnswer : Type 0 where
  pub place : ℕ
  pub turn : Turn
  pub told : Told
  pub session : ℕ

-- the sessions of the messages of which it was told that they were sent
abbrev pub owners : ℕ → Told → List ℕ
owners k (Began op first count) = replicate count k
owners k (Replied number) = k ∷ []
owners k (Round round tag first count) = replicate count k
owners k (Resent first count) = replicate count k
owners k _ = []

-- the session of a turn, where the messages sent so far belong to these sessions
abbrev pub session_of : List ℕ → Turn → ℕ
session_of owned (Own (Write k v f bytes)) = k
session_of owned (Own (Read k v f)) = k
session_of owned (Own (ListFiles k v)) = k
session_of owned (Own (Retry k)) = k
session_of owned (Own (Abandon k)) = k
session_of owned (Own (Deliver n)) = slice_index owned n
session_of owned (Leaping k op number) = k
session_of owned _ = 0

-- answered turns with their sessions, where the messages sent before belong to these
abbrev pub session_answers_from : List ℕ → List Answered → List SessionAnswer
session_answers_from owned [] = []
session_answers_from owned (x ∷ rest) =
    record { place = x.place; turn = x.turn; told = x.told; session = session_of owned x.turn }
    ∷ session_answers_from (owned ++ owners (session_of owned x.turn) x.told) rest

-- the same, where no message was sent before
abbrev pub session_answers : List Answered → List SessionAnswer
session_answers run = session_answers_from [] run

-- ---- operations

-- how the operation of session k ends that goes on here, with its place and its outcome, if it ends
abbrev pub ending : ℕ → List SessionAnswer → Option (ℕ × Outcome)
ending k [] = None
ending k (x ∷ rest) = if x.session == k then by x.told (ending k rest) else ending k rest
  where
    by : Told → Option (ℕ × Outcome) → Option (ℕ × Outcome)
    by (Done outcome) later = Some (x.place, outcome)
    by Abandoned later = None
    by (Began op first count) later = None
    by _ later = later

-- the tag with which the store round of session k's write began that goes on here, if it began
abbrev pub write_tag : ℕ → List SessionAnswer → Option Tag
write_tag k [] = None
write_tag k (x ∷ rest) = if x.session == k then by x.told (write_tag k rest) else write_tag k rest
  where
    by : Told → Option Tag → Option Tag
    by (Round round tag first count) later = tag
    by (Done outcome) later = None
    by Abandoned later = None
    by (Began op first count) later = None
    by _ later = later

-- the place of an ending
abbrev pub end_place : Option (ℕ × Outcome) → Option ℕ
end_place None = None
end_place (Some e) = Some e.0

-- the copy that an ending gives, if it is that of a read
abbrev pub copy_told : Option (ℕ × Outcome) → Option StoredCopy
copy_told None = None
copy_told (Some (place, Gave session op copy)) = Some copy
copy_told (Some (place, Wrote session op tag)) = None
copy_told (Some (place, Listed session op rows)) = None

-- the row of the file at this place that an ending gives, if it is that of a listing
abbrev pub row_told : ℕ → Option (ℕ × Outcome) → Option Row
row_told f None = None
row_told f (Some (place, Listed session op rows)) = slice_get rows f
row_told f (Some (place, Wrote session op tag)) = None
row_told f (Some (place, Gave session op copy)) = None

-- the operation on the file that begins here, if one does; rest is what comes after
abbrev pub begun_at : File → SessionAnswer → List SessionAnswer → List Op
begun_at file x rest = by x.turn x.told
  where
    by : Turn → Told → List Op
    by (Own (Write k v f bytes)) (Began op first count) =
        if is_file (record { volume = v; place = f }) file
        then record { kind = Writes bytes; session = k; op = op; begin = x.place; end = end_place (ending k rest); tag = write_tag k rest } ∷ []
        else []
    by (Own (Read k v f)) (Began op first count) =
        if is_file (record { volume = v; place = f }) file
        then record { kind = Reads (option_map (λ c. c.bytes) (copy_told (ending k rest))); session = k; op = op; begin = x.place; end = end_place (ending k rest); tag = option_map (λ c. c.tag) (copy_told (ending k rest)) } ∷ []
        else []
    by (Own (ListFiles k v)) (Began op first count) =
        if v == file.volume
        then record { kind = Rows (option_map (λ row. row.length) (row_told file.place (ending k rest))); session = k; op = op; begin = x.place; end = end_place (ending k rest); tag = option_map (λ row. row.tag) (row_told file.place (ending k rest)) } ∷ []
        else []
    by _ _ = []

-- the operations on the file that begin in the list
abbrev pub begun_in : File → List SessionAnswer → List Op
begun_in file [] = []
begun_in file (x ∷ rest) = begun_at file x rest ++ begun_in file rest

-- the volumes that were opened
abbrev pub opened_in : List SessionAnswer → List VolumeRow
opened_in [] = []
opened_in (x ∷ rest) = by x.turn x.told ++ opened_in rest
  where
    by : Turn → Told → List VolumeRow
    by (Own (NewVolume files blocks)) (Opened volume) = record { files = files; blocks = blocks } ∷ []
    by _ _ = []

-- the operations on the file in order of beginning, none where there is no such file
abbrev pub operations : List Answered → File → List Op
operations run file = by (session_answers run)
  where
    by : List SessionAnswer → List Op
    by all = if nat_lt file.place (files_of (opened_in all) file.volume) then begun_in file all else []

-- ---- what is said of operations

-- the operation is a write
abbrev pub is_write : Op → Bool
is_write a = by a.kind
  where
    by : Kind → Bool
    by (Writes bytes) = true
    by _ = false

-- a gives these bytes, or their length; a write and what is not completed give nothing
abbrev pub Gives : Op → List ℕ → Type 0
Gives a bytes = by a.kind
  where
    by : Kind → Type 0
    by (Reads (Some given)) = given ≡ bytes
    by (Rows (Some given)) = given ≡ length bytes
    by _ = ⊥

-- a ended before b began
abbrev pub Precedes : Op → Op → Type 0
Precedes a b = (e : ℕ) × (a.end ≡ Some e) × (e < b.begin)

-- b is the operation at the place
abbrev pub At : List Op → ℕ → Op → Type 0
At ops place b = slice_get ops place ≡ Some b

-- the operation wrote the bytes with the tag
abbrev pub WroteWith : Op → Tag → List ℕ → Type 0
WroteWith w tag bytes = (w.kind ≡ Writes bytes) × (w.tag ≡ Some tag)

-- what is true of the tags of a run's operations; that the order by tag is legal follows from it
pub record Tagged (ops : List Op) : Type 0 where
  -- an operation ends after it begins
  pub ends_later : (i e : ℕ) (a : Op) → At ops i a → a.end ≡ Some e → a.begin < e
  -- a completed operation has a tag
  pub completed : (i : ℕ) (a : Op) → At ops i a → IsSome a.end → IsSome a.tag
  -- no two writes have the same tag
  pub write_tags_differ : (i j : ℕ) (a b : Op) (tag : Tag) → At ops i a → At ops j b → is_write a ≡ true → is_write b ≡ true → a.tag ≡ Some tag → b.tag ≡ Some tag → i ≡ j
  -- no write has the tag of the first copy
  pub write_tags_not_first : (i : ℕ) (a : Op) → At ops i a → is_write a ≡ true → a.tag ≢ Some first_tag
  -- where one ended before another began, its tag is no greater
  pub rising : (i j : ℕ) (a b : Op) (x y : Tag) → At ops i a → At ops j b → Precedes a b → a.tag ≡ Some x → b.tag ≡ Some y → is_less y x ≡ false
  -- and less, where the other is a write
  pub writes_rise : (i j : ℕ) (a b : Op) (x y : Tag) → At ops i a → At ops j b → Precedes a b → is_write b ≡ true → a.tag ≡ Some x → b.tag ≡ Some y → is_less x y ≡ true
  -- a completed read or row gives the first copy, or the bytes of a write that began before it ended
  pub sourced : (i e : ℕ) (a : Op) (tag : Tag) → At ops i a → is_write a ≡ false → a.end ≡ Some e → a.tag ≡ Some tag →
      ((tag ≡ first_tag) × Gives a []) ⊎ ((j : ℕ) × (w : Op) × (bytes : List ℕ) × At ops j w × WroteWith w tag bytes × (w.begin < e) × Gives a bytes)

-- what a register holds after the operation, where it held these bytes before
abbrev pub held_by : List ℕ → Op → List ℕ
held_by bytes a = by a.kind
  where
    by : Kind → List ℕ
    by (Writes written) = written
    by _ = bytes

-- in this order a single register, which holds the bytes before them, gives the same answers: each operation but a write gives what
-- the register then holds (the register condition of Herlihy and Wing, Linearizability, ACM TOPLAS 12(3), 1990)
abbrev pub RegisterGives : List Op → List ℕ → Type 0
RegisterGives [] bytes = ⊤
RegisterGives (a ∷ rest) bytes = (is_write a ≡ false → Gives a bytes) × RegisterGives rest (held_by bytes a)

-- the operations at these places, in this order
abbrev pub ops_at : List Op → List ℕ → List Op
ops_at ops places = filter_map (slice_get ops) places

-- the places are a legal order of the operations
pub record Legal (ops : List Op) (places : List ℕ) : Type 0 where
  -- no operation stands twice
  pub once : (i j : ℕ) → i < length places → j < length places → slice_index places i ≡ slice_index places j → i ≡ j
  -- those that stand are completed, or writes that are open
  pub allowed : (i : ℕ) → Contains places i → (a : Op) × At ops i a × (IsSome a.end ⊎ (is_write a ≡ true))
  -- each completed operation stands
  pub whole : (i : ℕ) (a : Op) → At ops i a → IsSome a.end → Contains places i
  -- where one ended before another began, it stands before that
  pub in_order : (m n : ℕ) (a b : Op) → m < length places → n < length places → At ops (slice_index places m) a → At ops (slice_index places n) b → Precedes a b → m < n
  -- a register that is empty at first gives the same answers
  pub register : RegisterGives (ops_at ops places) []
