-- Why the tables refuse a request, and what they are once it began.
use Rattle.std.specs.Prelude.{ℕ, ◌≡◌, ◌+◌, List, [], ◌∷◌, ◌++◌, Bool, Option, Some, None, Result, Ok, Err, not, nat_lt, is_some, is_none, option_map, unwrap_or, length}
use Rattle.gq_tag.specs.declared.Message.{Message}
use Rattle.gq_tag.specs.Tag.{file_of}
use Rattle.gq_desk.specs.Volumes.{account_at, limit_of}
use Rattle.gq_phase.specs.declared.operation.Operation.{Operation as Code}
use Rattle.gq_phase.specs.declared.BeginRefused.{BeginRefused}
use Rattle.gq_model.specs.declared.events.Refusal.TheVariants.{NoSession, Busy, NoVolume, NoFile, TooLong}
use Rattle.gq_model.specs.declared.events.Line.{Line}
use Rattle.gq_model.specs.Lone.{Cause}
use Rattle.gq_node.specs.declared.output.Admission.{Admission}
use Rattle.gq_node.specs.declared.output.Admission.TheVariants.{Goes}
use Rattle.gq_node.specs.Local.{admission, asker, begins}
use Rattle.gq_node.specs.Sites.{site_of, has_session}
use Rattle.gq_cluster.specs.Facts.{greatest_op}
use Rattle.gq_node.specs.declared.session_states.SessionState.{SessionState}
use Rattle.gq_node.specs.declared.output.Fact.{Fact}
use Rattle.gq_node.specs.declared.output.Fact.TheVariants.{Began}
use Rattle.gq_node.specs.declared.output.Output.{Output}
use Rattle.gq_node.specs.Heard.{new_run}
use Rattle.gq_node.specs.SessionStates.{busy_session_state}
use Rattle.gq_node.specs.Tables.{Tables, session_state_at, with_session_state}

-- the causes why a request of session k is refused, the choice of a quorum apart, in their order: one that wants no operation
-- there, and names a volume, or a file, or a content for it
abbrev pub volume_causes : Tables → ℕ → ℕ → ℕ → List Cause
volume_causes w t k v =
    (not (has_session (site_of w.plan w.here t) k), NoSession)
    ∷ (is_some (session_state_at w t k).operation, Busy)
    ∷ (not (nat_lt v (length (account_at w.desk t).volumes)), NoVolume)
    ∷ []

abbrev pub table_limit : Tables → ℕ → ℕ → ℕ → Option ℕ
table_limit w t v f = limit_of w.desk (file_of t (record { volume = v; place = f }))

abbrev pub file_causes : Tables → ℕ → ℕ → ℕ → ℕ → List Cause
file_causes w t k v f = volume_causes w t k v ++ (is_none (table_limit w t v f), NoFile) ∷ []

abbrev pub write_causes : Tables → ℕ → ℕ → ℕ → ℕ → List ℕ → List Cause
write_causes w t k v f bytes = file_causes w t k v f ++ (nat_lt (unwrap_or (table_limit w t v f) 0) (length bytes), TooLong) ∷ []

-- what the number op says of a request of session k
abbrev pub admission_at : Tables → (t k op : ℕ) → Bool → Admission
admission_at w t k op begins = admission (site_of w.plan w.here t) k op begins (session_state_at w t k).op (is_some (session_state_at w t k).operation) (session_state_at w t k).outcome

-- the number lets the line be the model's to answer
abbrev pub MayGo : Tables → (t op : ℕ) → Line → Type 0
MayGo w t op line = by (asker line)
  where
    by : Option ℕ → Type 0
    by None = Unit {0}
    by (Some k) = admission_at w t k op (begins line) ≡ Goes

-- the fact by which session k reserves a run of numbers of operations, where its next one is not reserved
abbrev pub begun_fact : (t k : ℕ) → SessionState → Option Fact
begun_fact t k session_state = option_map (Began t k) (new_run greatest_op (session_state.op + 1) session_state.reserved_op)

-- session k has the operation from now on, and these messages go out
pub record HasBegunWith (old : Tables) (t k : ℕ) (code : Code) (messages : List Message) (out : Output) (new : Tables) : Type 0 where
  pub busy : new ≡ with_session_state old t k (busy_session_state (session_state_at old t k) code)
  pub answer : out.answer ≡ None
  pub letters : out.letters.items ≡ messages
  pub transfer : out.transfer ≡ None
  pub fact : out.fact ≡ begun_fact t k (session_state_at old t k)

-- what comes of an operation that began; none is wanting a quorum, and without memory nothing comes of it
abbrev pub Starts : Tables → (t k : ℕ) → Result (Code × List Message) BeginRefused → Output → Tables → Type 0
Starts old t k (Ok (code, messages)) out new = HasBegunWith old t k code messages out new
Starts old t k (Err refused) out new = ⊥
