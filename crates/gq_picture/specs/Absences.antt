-- When servers were down.
use Rattle.std.specs.Prelude.{ℕ, ◌+◌, List, [], ◌∷◌, ◌++◌, Bool, false, ◌==◌, nat_lt, length, get_or, set, Option, Some, None, if◌then◌else◌}
use Rattle.gq_model.specs.declared.events.Event.{Event}
use Rattle.gq_model.specs.declared.events.Event.TheVariants.{Tenant, Server as OfServer, Stray}
use Rattle.gq_model.specs.declared.events.ServerLine.{ServerLine}
use Rattle.gq_model.specs.declared.events.ServerLine.TheVariants.{Bad as NoServerLine, Down, Up, Lost, Repaired}
use Rattle.gq_model.specs.Told.{Told}
use Rattle.gq_model.specs.Lone.{is_refusal}
use Rattle.gq_picture.specs.declared.absences.Absence.{Absence}
use Rattle.gq_picture.specs.declared.absences.Effect.{Effect}
use Rattle.gq_picture.specs.declared.absences.Effect.TheVariants.{Nothing, GoesDown, ComesBack}

-- what a server line does that is not refused: a server that is lost goes down, one that is repaired comes back
abbrev pub line_effect : ServerLine → Effect
line_effect NoServerLine = Nothing
line_effect (Down server) = GoesDown server
line_effect (Up server) = ComesBack server
line_effect (Lost server) = GoesDown server
line_effect (Repaired server) = ComesBack server

-- what an event does to servers of which this is told
abbrev pub effect_of : Event → Told → Effect
effect_of (OfServer line) told = if is_refusal told then Nothing else line_effect line
effect_of (Tenant tenant line) told = Nothing
effect_of Stray told = Nothing

-- what events do of which these are told
abbrev pub effects : List Event → List Told → List Effect
effects (event ∷ events) (told ∷ more) = effect_of event told ∷ effects events more
effects _ _ = []

-- the server comes back by it
abbrev pub is_return : ℕ → Effect → Bool
is_return s (ComesBack server) = server == s
is_return s (GoesDown server) = false
is_return s Nothing = false

-- the place of the first of these by which the server comes back, which stand at these places
abbrev pub return_place : ℕ → List ℕ → List Effect → Option ℕ
return_place s (place ∷ places) (effect ∷ effects) = if is_return s effect then Some place else return_place s places effects
return_place s _ _ = None

-- the absence that begins at the place: that of a server of so many that goes down, until it comes back
abbrev pub absence_at : ℕ → ℕ → Effect → List ℕ → List Effect → List Absence
absence_at servers place (GoesDown server) places effects =
    if nat_lt server servers then record { server = server; from = place; until = return_place server places effects } ∷ [] else []
absence_at servers place (ComesBack server) places effects = []
absence_at servers place Nothing places effects = []

-- for each line by which one of so many servers goes down: from there on it is down, up to the next one by which it comes back
abbrev pub absences : ℕ → List ℕ → List Effect → List Absence
absences servers (place ∷ places) (effect ∷ effects) = absence_at servers place effect places effects ++ absences servers places effects
absences servers _ _ = []

-- places of so many as these, counted from this one
abbrev pub counted_from : ℕ → List Effect → List ℕ
counted_from place [] = []
counted_from place (effect ∷ effects) = place ∷ counted_from (place + 1) effects

-- ---- by a table of where each server comes back next

-- the absence that begins at the place
abbrev pub absence_in : List (Option ℕ) → ℕ → Effect → List Absence
absence_in returns place (GoesDown server) =
    if nat_lt server (length returns) then record { server = server; from = place; until = get_or returns server None } ∷ [] else []
absence_in returns place (ComesBack server) = []
absence_in returns place Nothing = []

-- the table before the place
abbrev pub with_return : ℕ → Effect → List (Option ℕ) → List (Option ℕ)
with_return place (ComesBack server) returns = if nat_lt server (length returns) then set returns server (Some place) else returns
with_return place (GoesDown server) returns = returns
with_return place Nothing returns = returns
