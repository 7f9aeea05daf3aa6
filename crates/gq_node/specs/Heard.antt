-- What is told, sent and kept where an operation says this to a letter, over the code's types.
use Rattle.std.specs.Prelude.{ℕ, ◌-◌, ◌≡◌, ◌&&◌, nat_le, Bool, false, Option, Some, None, option_map, if◌then◌else◌}
use Rattle.gq_phase.specs.Standing.{messages_of}
use Rattle.gq_phase.specs.declared.Outcome.{Outcome}
use Rattle.gq_phase.specs.declared.Heard.{Heard}
use Rattle.gq_phase.specs.declared.Heard.TheVariants.{Stale, Noted, Next, Done}
use Rattle.gq_node.specs.declared.output.Answer.{Answer}
use Rattle.gq_node.specs.declared.output.Answer.TheVariants.{Done as IsDone}
use Rattle.gq_node.specs.declared.output.Fact.{Fact}
use Rattle.gq_node.specs.declared.output.Fact.TheVariants.{Numbered}
use Rattle.gq_cluster.specs.Facts.{greatest_number, last_of_run}
use Rattle.gq_node.specs.declared.output.Output.{Output}

abbrev pub heard_answer : Heard → Option Answer
heard_answer (Done outcome) = Some (IsDone outcome)
heard_answer _ = None

-- the last number of the run that has to be reserved where this number is used and those up to that one are reserved; none has to be
-- where the number is reserved
abbrev pub new_run : (greatest used reserved : ℕ) → Option ℕ
new_run greatest used reserved = if nat_le used reserved then None else Some (last_of_run greatest used)

-- of numbers of tags, where a session said this whose own last number is `floor` then
abbrev pub heard_run : (reserved floor : ℕ) → Heard → Option ℕ
heard_run reserved floor (Next round tag messages) = new_run greatest_number floor reserved
heard_run reserved floor _ = None

-- the fact by which the run is reserved
abbrev pub heard_fact : (t k : ℕ) → (run : Option ℕ) → Heard → Option Fact
heard_fact t k run (Next round tag messages) = option_map (Numbered t k) run
heard_fact t k run _ = None

-- a reply from a server not yet heard, and the end of a round, end the waiting
abbrev pub heard_waits : Heard → (heard_before waited : Bool) → Bool
heard_waits Stale heard_before waited = waited
heard_waits Noted heard_before waited = heard_before && waited
heard_waits _ heard_before waited = false

-- a round that begins is one less of those for which the session stays in its own column
abbrev pub heard_stays : Heard → (stays : ℕ) → ℕ
heard_stays (Next round tag messages) stays = stays - 1
heard_stays _ stays = stays

-- the outcome of the last operation
abbrev pub heard_outcome : Heard → Option Outcome → Option Outcome
heard_outcome (Done outcome) before = Some outcome
heard_outcome _ before = before

-- what is given where the operation of session k said this, and that run is reserved for it, if one is
pub record HeardGives (t k : ℕ) (run : Option ℕ) (heard : Heard) (out : Output) : Type 0 where
  pub answer : out.answer ≡ heard_answer heard
  pub letters : out.letters.items ≡ messages_of heard
  pub transfer : out.transfer ≡ None
  pub fact : out.fact ≡ heard_fact t k run heard
