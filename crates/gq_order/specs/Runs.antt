-- Events with the answers of a run, and that a run grows event by event.
use Rattle.std.specs.Prelude.{ℕ, List, [], ◌∷◌, ◌++◌, ◌≡◌, ◌<◌, Bool, true, ◌&&◌, nat_lt, map}
use Rattle.gq_desk.specs.CheckedPlan.{CheckedPlan, row_at}
use Rattle.gq_model.specs.declared.events.Event.{Event}
use Rattle.gq_model.specs.declared.events.Event.TheVariants.{Tenant}
use Rattle.gq_model.specs.declared.events.Line.{Line}
use Rattle.gq_model.specs.declared.events.Line.TheVariants.{Write, Read, List as ListFiles}
use Rattle.gq_model.specs.declared.events.Answer.{Answer}
use Rattle.gq_model.specs.declared.events.Answer.TheVariants.{Began}
use Rattle.gq_model.specs.Events.{answer_to}
use Rattle.gq_model.specs.Shown.{shown}
use Rattle.gq_laws.specs.Tenants.{answers}

-- the answers are those that are told to the events
abbrev pub IsRun : CheckedPlan → List Event → List Answer → Type 0
IsRun plan events given = map shown given ≡ answers plan events

-- the answers to no events are a run's, and those to one event more, where the last of them is what is told to it
pub record RunsGrow : Type 0 where
  pub none : (plan : CheckedPlan) → IsRun plan [] []
  pub more : (plan : CheckedPlan) (events : List Event) (given : List Answer) (event : Event) (answer : Answer) → IsRun plan events given → shown answer ≡ answer_to plan events event → IsRun plan (events ++ event ∷ []) (given ++ answer ∷ [])

-- each session whose operation begins is numbered by a byte, as each of a run is
abbrev pub line_is_of_byte : Line → Bool
line_is_of_byte (Write k v f bytes) = nat_lt k 256
line_is_of_byte (Read k v f) = nat_lt k 256
line_is_of_byte (ListFiles k v) = nat_lt k 256
line_is_of_byte _ = true

abbrev pub event_is_of_byte : Event → Answer → Bool
event_is_of_byte (Tenant tenant line) (Began op first count) = line_is_of_byte line
event_is_of_byte _ _ = true

abbrev pub sessions_are_bytes : List Event → List Answer → Bool
sessions_are_bytes (event ∷ events) (answer ∷ answers) = event_is_of_byte event answer && sessions_are_bytes events answers
sessions_are_bytes _ _ = true

-- sessions of the plan's tenants are numbered by bytes
abbrev pub HasFewSessions : CheckedPlan → Type 0
HasFewSessions plan = (t : ℕ) → (row_at plan t).sessions < 256
