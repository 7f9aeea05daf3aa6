-- A session's operation: what is said to it in each step, and where that leaves it.
use Rattle.std.specs.Prelude.{ℕ, ◌≡◌, ◌+◌, ◌*◌, ◌%◌, ◌==◌, ◌&&◌, ◌⊎◌, List, [], ◌∷◌, Bool, false, Option, Some, None, is_some, is_none, nat_lt, length, slice_get, unwrap_or}
use Rattle.std.specs.Option.{option_and_then}
use Rattle.gq_grid.specs.Grid.{Grid, Servers}
use Rattle.gq_tag.specs.declared.Body.{Body}
use Rattle.gq_tag.specs.declared.Body.TheVariants.{Copy, Stored}
use Rattle.gq_tag.specs.declared.Message.{Message}
use Rattle.gq_desk.specs.Volumes.{limit_in}
use Rattle.gq_desk.specs.declared.volumes.VolumeRow.{VolumeRow}
use Rattle.gq_phase.specs.Best.{copied_number}
use Rattle.gq_phase.specs.Phase.{Task, is_collect}
use Rattle.gq_phase.specs.Quorums.{collect_quorum}
use Rattle.gq_phase.specs.Standing.{floor_of, Begins, HearsAs, RaisesFloor, ResendsAs, RefusesAs}
use Rattle.gq_phase.specs.declared.Heard.{Heard}
use Rattle.gq_phase.specs.declared.Heard.TheVariants.{Stale as HeardStale, Noted as HeardNoted, Next as HeardNext, Done as HeardDone}
use Rattle.gq_phase.specs.declared.ResendRefused.TheVariants.{NoQuorum as NoQuorumIsUp}
use Rattle.gq_phase.specs.declared.operation.Operation.{Operation}
use Rattle.gq_model.specs.Lone.{Cause, first_cause}
use Rattle.gq_model.specs.Trace.{task_of}
use Rattle.gq_model.specs.declared.events.Line.{Line}
use Rattle.gq_model.specs.declared.events.Line.TheVariants.{Write, Read, List as ListFiles}
use Rattle.gq_model.specs.declared.events.Refusal.{Refusal}
use Rattle.gq_model.specs.declared.events.Refusal.TheVariants.{Busy, Idle, NoVolume, NoFile, TooLong, NoQuorum}
use Rattle.gq_phase.specs.Standing.{last_number}
use Rattle.gq_phase.specs.Standing.{messages_of}
use Rattle.gq_model.specs.declared.said.Said.{Said}
use Rattle.gq_model.specs.declared.said.Said.TheVariants.{Began, Stale, Noted, Round, Done, Resent, Abandoned, Refused}
use Rattle.gq_session.specs.declared.records.LiveFault.{LiveFault}
use Rattle.gq_session.specs.declared.records.LiveFault.TheVariants.{Memory, Stamps, Letter}

-- whose session it is: its number among its tenant's, in the grid, with the tenant's volumes
pub record Home : Type 0 where
  pub grid : Grid
  pub tenant : ℕ
  pub number : ℕ
  pub volumes : List VolumeRow

-- how many operations the session began, the round of the last, its own last number while it has no operation, and its
-- operation, if it has one
pub record Work : Type 0 where
  pub begun : ℕ
  pub round : ℕ
  pub last : ℕ
  pub operation : Option Operation

-- no operation began
abbrev pub no_work : Work
no_work = record { begun = 0; round = 0; last = 0; operation = None }

-- ---- a request

-- how many bytes the file of the volume may hold, where it is there
abbrev pub volume_limit : List VolumeRow → ℕ → ℕ → Option ℕ
volume_limit volumes v f = option_and_then (limit_in f) (slice_get volumes v)

abbrev pub no_volume_in : List VolumeRow → ℕ → Cause
no_volume_in volumes v = (is_none (slice_get volumes v), NoVolume)

abbrev pub no_file_in : List VolumeRow → ℕ → ℕ → Cause
no_file_in volumes v f = (is_none (volume_limit volumes v f), NoFile)

abbrev pub too_long_in : List VolumeRow → ℕ → ℕ → List ℕ → Cause
too_long_in volumes v f bytes = (nat_lt (unwrap_or (volume_limit volumes v f) 0) (length bytes), TooLong)

abbrev pub no_row_up : Grid → Servers → Cause
no_row_up grid up = (is_none (collect_quorum grid up), NoQuorum)

-- the causes why the request of a session with no operation is refused, in their order
abbrev pub request_causes : Home → Servers → Line → List Cause
request_causes home up (Write k v f bytes) = no_volume_in home.volumes v ∷ no_file_in home.volumes v f ∷ too_long_in home.volumes v f bytes ∷ no_row_up home.grid up ∷ []
request_causes home up (Read k v f) = no_volume_in home.volumes v ∷ no_file_in home.volumes v f ∷ no_row_up home.grid up ∷ []
request_causes home up (ListFiles k v) = no_volume_in home.volumes v ∷ no_row_up home.grid up ∷ []
request_causes home up _ = []

abbrev pub request_refusal : Home → Servers → Line → Option Refusal
request_refusal home up line = first_cause (request_causes home up line)

-- why a session's request is refused
abbrev pub ask_refusal : Home → Work → Servers → Line → Option Refusal
ask_refusal home work up line = first_cause ((is_some work.operation, Busy) ∷ request_causes home up line)

-- the request begins the session's next operation, with these messages
pub record BeginsAs (home : Home) (old new : Work) (up : Servers) (line : Line) (said : Said) (messages : List Message) : Type 0 where
  pub task : Task
  pub is_task : task_of home.volumes line ≡ Some task
  pub operation : Operation
  pub begins : Begins home.grid (record { tenant = home.tenant; session = home.number; op = old.begun + 1 }) task old.last up operation messages
  pub told : said ≡ Began (old.begun + 1) (length messages)
  pub left : new ≡ record { begun = old.begun + 1; round = 1; last = old.last; operation = Some operation }

-- a refused request leaves all as it was and sends nothing
pub record RefusesFor (refusal : Refusal) (old new : Work) (said : Said) (messages : List Message) : Type 0 where
  pub told : said ≡ Refused refusal
  pub quiet : messages ≡ []
  pub left : new ≡ old

-- the request is refused, or begins an operation
abbrev pub AsksFor : Option Refusal → Home → Work → Work → Servers → Line → Said → List Message → Type 0
AsksFor (Some refusal) home old new up line said messages = RefusesFor refusal old new said messages
AsksFor None home old new up line said messages = BeginsAs home old new up line said messages

abbrev pub AsksAs : Home → Work → Work → Servers → Line → Said → List Message → Type 0
AsksAs home old new up line said messages = AsksFor (ask_refusal home old up line) home old new up line said messages

-- ---- a message

-- a reply's body fits its round: a copy a collect round, a stored a store round
abbrev pub fits_round : Body → ℕ → Bool
fits_round (Copy copy) round = is_collect round
fits_round Stored round = round % 2 == 0
fits_round _ round = false

-- whether the message is a reply to the session
abbrev pub is_reply_to : Home → Message → Bool
is_reply_to home m =
    (m.tenant == home.tenant) && (m.session == home.number) && nat_lt m.server (home.grid.rows * home.grid.cols) && fits_round m.body m.round

-- whether it is of the session's operation and round
abbrev pub is_of_work : Work → Message → Bool
is_of_work work m = is_some work.operation && (m.op == work.begun) && (m.round == work.round)

-- what is said where the operation says this, and what the session's work then is
abbrev pub said_of : Heard → Said
said_of HeardStale = Stale
said_of HeardNoted = Noted
said_of (HeardNext round tag messages) = Round round tag (length messages)
said_of (HeardDone outcome) = Done outcome

abbrev pub work_after : Work → Operation → Heard → Work
work_after work o (HeardNext round tag messages) = record { begun = work.begun; round = round; last = work.last; operation = Some o }
work_after work o (HeardDone outcome) = record { begun = work.begun; round = work.round; last = floor_of o; operation = None }
work_after work o _ = record { begun = work.begun; round = work.round; last = work.last; operation = Some o }

-- the operation hears the message, and the session says what it says
pub record OperationHears (o : Operation) (old new : Work) (up : Servers) (message : Message) (said : Said) (messages : List Message) : Type 0 where
  pub heard : Heard
  pub after : Operation
  pub hears : HearsAs o after up message heard
  pub floor : RaisesFloor o after heard
  pub told : said ≡ said_of heard
  pub sent : messages ≡ messages_of heard
  pub left : new ≡ work_after old after heard

-- to a session with no operation every message is stale
pub record StaysStale (old new : Work) (said : Said) (messages : List Message) : Type 0 where
  pub told : said ≡ Stale
  pub quiet : messages ≡ []
  pub left : new ≡ old

-- the session, which has this operation or none, hears the message
abbrev pub HearsIn : Option Operation → Work → Work → Servers → Message → Said → List Message → Type 0
HearsIn None old new up message said messages = StaysStale old new said messages
HearsIn (Some o) old new up message said messages = OperationHears o old new up message said messages

-- ---- a retry, and the end

-- the round's message goes out once more, or no quorum is up
abbrev pub OperationRetries : Operation → Servers → Said → List Message → Type 0
OperationRetries o up (Resent sent) messages = (sent ≡ length messages) × ResendsAs o up messages
OperationRetries o up (Refused NoQuorum) messages = (messages ≡ []) × RefusesAs o up NoQuorumIsUp
OperationRetries o up _ messages = ⊥

abbrev pub RetriesIn : Option Operation → Servers → Said → List Message → Type 0
RetriesIn None up said messages = (said ≡ Refused Idle) × (messages ≡ [])
RetriesIn (Some o) up said messages = OperationRetries o up said messages

-- what is said where the session gives up its operation, if it has one
abbrev pub said_ending : Option Operation → Said
said_ending None = Refused Idle
said_ending (Some o) = Abandoned

-- no operation is left
abbrev pub ended_work : Work → Work
ended_work work = record { begun = work.begun; round = work.round; last = last_number work.last work.operation; operation = None }

-- ---- faults, want of memory apart

-- a request finds no greater number of an operation
abbrev pub IsAskFault : Work → LiveFault → Type 0
IsAskFault work (Memory _) = Unit {0}
IsAskFault work Stamps = work.begun ≡ 4294967295
IsAskFault work _ = ⊥

-- the last number of a session's operation has none above it
abbrev pub IsSpent : Option Operation → Type 0
IsSpent None = ⊥
IsSpent (Some o) = floor_of o ≡ 18446744073709551615

-- a message is no reply to the session, or no number of a tag is above that in the message, or above the operation's
abbrev pub IsHearFault : Home → Work → Message → LiveFault → Type 0
IsHearFault home work message (Memory _) = Unit {0}
IsHearFault home work message Stamps = (copied_number message.body ≡ 18446744073709551615) ⊎ IsSpent work.operation
IsHearFault home work message Letter = is_reply_to home message ≡ false
IsHearFault home work message _ = ⊥
