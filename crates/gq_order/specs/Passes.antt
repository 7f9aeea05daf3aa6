-- The operations on a file, read off events and answers in two passes: forwards, whose each message is; backwards, how each operation ends.
use Rattle.std.specs.Prelude.{ℕ, ◌+◌, ◌-◌, List, [], ◌∷◌, ◌++◌, Bool, ◌&&◌, ◌==◌, nat_lt, is_some, Option, Some, None, option_map, unwrap_or, slice_get, slice_set, length, replicate, if◌then◌else◌}
use Rattle.gq_tag.specs.declared.StoredCopy.{StoredCopy}
use Rattle.gq_tag.specs.Tag.{File, is_file}
use Rattle.gq_phase.specs.declared.Row.{Row}
use Rattle.gq_phase.specs.declared.Outcome.TheVariants.{Gave, Listed}
use Rattle.gq_model.specs.declared.events.Event.{Event}
use Rattle.gq_model.specs.declared.events.Event.TheVariants.{Tenant}
use Rattle.gq_model.specs.declared.events.Line.{Line}
use Rattle.gq_model.specs.declared.events.Line.TheVariants.{NewVolume, Write, Read, List as ListFiles}
use Rattle.gq_model.specs.declared.events.Answer.{Answer}
use Rattle.gq_model.specs.declared.events.Answer.TheVariants.{Volume, Began, Reply, Round, Done, Resent, Abandoned}
use Rattle.gq_model.specs.Trace.{Turn}
use Rattle.gq_model.specs.Events.{turn_of}
use Rattle.gq_laws.specs.declared.ops.Kind.TheVariants.{Write as Writes, Read as Reads, Row as Rows}
use Rattle.gq_laws.specs.declared.ops.Op.{Op}
use Rattle.gq_laws.specs.Operations.{session_of}
use Rattle.gq_order.specs.declared.endings.Ending.{Ending}

-- ---- forwards

-- the event is seen by the tenant at place t
abbrev pub sees : ℕ → Event → Bool
sees t event = is_some (turn_of t event)

-- how many messages the answer tells of
abbrev pub told_sent : Answer → ℕ
told_sent (Began op first count) = count
told_sent (Reply number) = 1
told_sent (Round round tag first count) = count
told_sent (Resent first count) = count
told_sent _ = 0

-- how many of the tenant's
abbrev pub sent_at : ℕ → Event → Answer → ℕ
sent_at t event answer = if sees t event then told_sent answer else 0

-- the session of what the tenant sees, 0 where there is none
abbrev pub seen_session : List ℕ → Option Turn → ℕ
seen_session owned None = 0
seen_session owned (Some turn) = session_of owned turn

abbrev pub session_at : ℕ → List ℕ → Event → ℕ
session_at t owned event = seen_session owned (turn_of t event)

-- the session of each event; the messages sent before belong to these sessions
abbrev pub sessions_from : ℕ → List ℕ → List Event → List Answer → List ℕ
sessions_from t owned (event ∷ events) (answer ∷ answers) =
    session_at t owned event ∷ sessions_from t (owned ++ replicate (sent_at t event answer) (session_at t owned event)) events answers
sessions_from t owned _ _ = []

-- how many files the volume has that is opened here, if one is opened
abbrev pub opens : ℕ → Event → Answer → Option ℕ
opens t (Tenant tenant (NewVolume files blocks)) (Volume number) = if tenant == t then Some files else None
opens t _ _ = None

-- how many files the volume has that is opened after so many others, none where there is no such volume
abbrev pub files_step : Option ℕ → (ℕ → ℕ) → ℕ → ℕ
files_step None later left = later left
files_step (Some files) later left = if left == 0 then files else later (left - 1)

abbrev pub files_from : ℕ → List Event → List Answer → ℕ → ℕ
files_from t (event ∷ events) (answer ∷ answers) = files_step (opens t event answer) (files_from t events answers)
files_from t _ _ = λ left. 0

-- ---- backwards

-- an operation that goes on here, and isn't told of any more
abbrev pub no_ending : Ending
no_ending = record { end = None; tag = None }

-- the ending of session k's operation in a table, none of a session that the table has not
abbrev pub ending_in : List Ending → ℕ → Ending
ending_in ends k = unwrap_or (slice_get ends k) no_ending

-- how the session's operation ends that went on before this answer, at this place, and later ends so
abbrev pub ended_by : ℕ → Answer → Ending → Ending
ended_by place (Done outcome) later = record { end = Some place; tag = None }
ended_by place Abandoned later = no_ending
ended_by place (Began op first count) later = no_ending
ended_by place (Round round tag first count) later = record { end = later.end; tag = tag }
ended_by place _ later = later

-- the table before this answer to what is about the session
abbrev pub entered : ℕ → Answer → ℕ → List Ending → List Ending
entered place answer session ends =
    if nat_lt session (length ends) then slice_set ends session (ended_by place answer (ending_in ends session)) else ends

abbrev pub entered_by : ℕ → ℕ → Event → Answer → ℕ → List Ending → List Ending
entered_by t place event answer session ends = if sees t event then entered place answer session ends else ends

-- how the operation of session k ends that goes on here
abbrev pub ending_from : ℕ → ℕ → List Event → List Answer → List ℕ → ℕ → Ending
ending_from t place (event ∷ events) (answer ∷ answers) (session ∷ sessions) k =
    if sees t event && (session == k) then ended_by place answer (ending_from t (place + 1) events answers sessions k) else ending_from t (place + 1) events answers sessions k
ending_from t place _ _ _ k = no_ending

-- the copy that the answer at the place gives; the row of the file
abbrev pub copy_given : Option Answer → Option StoredCopy
copy_given (Some (Done (Gave session op copy))) = Some copy
copy_given _ = None

abbrev pub row_given : ℕ → Option Answer → Option Row
row_given f (Some (Done (Listed session op rows))) = slice_get rows f
row_given f _ = None

abbrev pub answer_in : List Answer → Option ℕ → Option Answer
answer_in answers None = None
answer_in answers (Some place) = slice_get answers place

abbrev pub copy_given_at : List Answer → Option ℕ → Option StoredCopy
copy_given_at answers place = copy_given (answer_in answers place)

abbrev pub row_given_at : ℕ → List Answer → Option ℕ → Option Row
row_given_at f answers place = row_given f (answer_in answers place)

-- the operation with this ending that begins at the place
abbrev pub write_begun : ℕ → ℕ → ℕ → List ℕ → Ending → Op
write_begun k op place bytes ending = record { kind = Writes bytes; session = k; op = op; begin = place; end = ending.end; tag = ending.tag }

abbrev pub read_begun : ℕ → ℕ → ℕ → Option ℕ → Option StoredCopy → Op
read_begun k op place end copy = record { kind = Reads (option_map (λ c. c.bytes) copy); session = k; op = op; begin = place; end = end; tag = option_map (λ c. c.tag) copy }

abbrev pub row_begun : ℕ → ℕ → ℕ → Option ℕ → Option Row → Op
row_begun k op place end row = record { kind = Rows (option_map (λ r. r.length) row); session = k; op = op; begin = place; end = end; tag = option_map (λ r. r.tag) row }

-- the operation on the file that the line begins; the answers are all answers, and the sessions' operations end so
abbrev pub begins : File → List Answer → ℕ → ℕ → Line → (ℕ → Ending) → Option Op
begins file answers place op (Write k v f bytes) ends =
    if nat_lt k 256 && is_file (record { volume = v; place = f }) file then Some (write_begun k op place bytes (ends k)) else None
begins file answers place op (Read k v f) ends =
    if nat_lt k 256 && is_file (record { volume = v; place = f }) file then Some (read_begun k op place (ends k).end (copy_given_at answers (ends k).end)) else None
begins file answers place op (ListFiles k v) ends =
    if nat_lt k 256 && (v == file.volume) then Some (row_begun k op place (ends k).end (row_given_at file.place answers (ends k).end)) else None
begins file answers place op _ ends = None

-- the same of an event and its answer
abbrev pub begun_by : ℕ → File → List Answer → ℕ → Event → Answer → (ℕ → Ending) → Option Op
begun_by t file answers place (Tenant tenant line) (Began op first count) ends = if tenant == t then begins file answers place op line ends else None
begun_by t file answers place _ _ ends = None

abbrev pub with_op : Option Op → List Op → List Op
with_op None ops = ops
with_op (Some op) ops = op ∷ ops

abbrev pub as_list : Option Op → List Op
as_list None = []
as_list (Some op) = op ∷ []

-- the operations that begin from this place on
abbrev pub ops_from : ℕ → File → List Answer → ℕ → List Event → List Answer → List ℕ → List Op
ops_from t file all place (event ∷ events) (answer ∷ answers) (session ∷ sessions) =
    with_op (begun_by t file all place event answer (ending_from t (place + 1) events answers sessions)) (ops_from t file all (place + 1) events answers sessions)
ops_from t file all place _ _ _ = []

-- the whole
abbrev pub read_off : ℕ → File → List Event → List Answer → List Op
read_off t file events answers =
    if nat_lt file.place (files_from t events answers file.volume) then ops_from t file answers 0 events answers (sessions_from t [] events answers) else []
