-- Whether a request begins an operation.
use Rattle.std.specs.Prelude.{ℕ, ◌≡◌, List, Some, None}
use Rattle.gq_grid.specs.Grid.{Servers}
use Rattle.gq_tag.specs.declared.Message.{Message}
use Rattle.gq_round.specs.declared.Who.{Who}
use Rattle.gq_phase.specs.Phase.{Task}
use Rattle.gq_phase.specs.Standing.{Begins}
use Rattle.gq_phase.specs.declared.BeginRefused.{BeginRefused}
use Rattle.gq_phase.specs.declared.BeginRefused.TheVariants.{NoQuorum, Memory as OutOfMemory}
use Rattle.gq_phase.specs.declared.operation.Operation.{Operation}
use Rattle.gq_model.specs.Trace.{task_of}
use Rattle.gq_model.specs.declared.events.Line.{Line}
use Rattle.gq_model.specs.declared.events.Refusal.TheVariants.{NoQuorum as NoQuorumIsUp}
use Rattle.gq_session.specs.declared.client.NotBegun.{NotBegun}
use Rattle.gq_session.specs.declared.client.NotBegun.TheVariants.{Refused, Memory}
use Rattle.gq_session.specs.Works.{Home, request_refusal}

-- that no quorum is up refuses the request
abbrev pub not_begun : BeginRefused → NotBegun
not_begun NoQuorum = Refused NoQuorumIsUp
not_begun (OutOfMemory refused) = Memory refused

-- nothing refuses the request, and this is the operation that it asks for, with these messages
pub record BeginsRequest (home : Home) (who : Who) (last : ℕ) (up : Servers) (line : Line) (operation : Operation) (messages : List Message) : Type 0 where
  pub allowed : request_refusal home up line ≡ None
  pub task : Task
  pub is_task : task_of home.volumes line ≡ Some task
  pub begins : Begins home.grid who task last up operation messages

-- the request is refused for this, or memory is wanting
abbrev pub IsNotBegun : Home → Servers → Line → NotBegun → Type 0
IsNotBegun home up line (Refused refusal) = request_refusal home up line ≡ Some refusal
IsNotBegun home up line (Memory _) = request_refusal home up line ≡ None
