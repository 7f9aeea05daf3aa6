-- The events that one tenant sees, and where they stand.
use Rattle.std.specs.Prelude.{ℕ, ◌+◌, List, [], ◌∷◌, Bool, false, Option, Some, None, filter, if◌then◌else◌}
use Rattle.gq_model.specs.declared.events.Event.{Event}
use Rattle.gq_order.specs.Passes.{sees}

-- the tenant, where there is one, sees the event
abbrev pub is_seen : Option ℕ → Event → Bool
is_seen None event = false
is_seen (Some t) event = sees t event

-- the events that it sees
abbrev pub seen_events : Option ℕ → List Event → List Event
seen_events tenant events = filter (is_seen tenant) events

-- the places among all of those that it sees, the first event standing at this place
abbrev pub seen_places : Option ℕ → ℕ → List Event → List ℕ
seen_places tenant place [] = []
seen_places tenant place (event ∷ events) = if is_seen tenant event then place ∷ seen_places tenant (place + 1) events else seen_places tenant (place + 1) events
