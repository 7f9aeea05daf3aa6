-- The operations of one tenant in a run of all tenants, and the law of them.
use Rattle.std.specs.Prelude.{ℕ, ◌+◌, List, [], ◌∷◌, ◌++◌, Option, Some, None}
use Rattle.gq_tag.specs.Tag.{File}
use Rattle.gq_desk.specs.CheckedPlan.{CheckedPlan}
use Rattle.gq_model.specs.declared.events.Event.{Event}
use Rattle.gq_model.specs.Told.{Told}
use Rattle.gq_model.specs.Trace.{Turn}
use Rattle.gq_model.specs.Events.{turn_of, answer_to}
use Rattle.gq_laws.specs.declared.ops.Op.{Op}
use Rattle.gq_laws.specs.Operations.{Answered, operations, Tagged, Legal}
use Rattle.gq_laws.specs.Orders.{order}

-- what is told to the events, those before them being so
abbrev pub answers_from : CheckedPlan → List Event → List Event → List Told
answers_from plan before [] = []
answers_from plan before (event ∷ events) = answer_to plan before event ∷ answers_from plan (before ++ event ∷ []) events

-- what is told to all events
abbrev pub answers : CheckedPlan → List Event → List Told
answers plan events = answers_from plan [] events

-- what the tenant at place t sees of the events, each at its place, with what was told to it; the first event stands at this place
abbrev pub seen_from : ℕ → ℕ → List Event → List Told → List Answered
seen_from t place (event ∷ events) (told ∷ more) = by (turn_of t event) (seen_from t (place + 1) events more)
  where
    by : Option Turn → List Answered → List Answered
    by None later = later
    by (Some turn) later = record { place = place; turn = turn; told = told } ∷ later
seen_from t place _ _ = []

-- the same, the first event standing at place 0
abbrev pub seen : ℕ → List Event → List Told → List Answered
seen t events tolds = seen_from t 0 events tolds

-- the operations on the file of the tenant at place t
abbrev pub tenant_operations : CheckedPlan → List Event → ℕ → File → List Op
tenant_operations plan events t file = operations (seen t events (answers plan events)) file

-- whatever the events of all tenants, the operations on each file of each tenant are tagged
abbrev pub AllTenantsTagged : Type 0
AllTenantsTagged = (plan : CheckedPlan) (events : List Event) (t : ℕ) (file : File) → Tagged (tenant_operations plan events t file)

-- and have a legal order
abbrev pub AllTenantsLegal : Type 0
AllTenantsLegal = (plan : CheckedPlan) (events : List Event) (t : ℕ) (file : File) → Legal (tenant_operations plan events t file) (order (tenant_operations plan events t file))
