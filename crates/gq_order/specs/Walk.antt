-- The test of an order in one go, without memory.
use Rattle.std.specs.Prelude.{ℕ, ◌+◌, List, [], ◌∷◌, Bool, true, false, ◌&&◌, ◌||◌, ◌==◌, max, is_some, Option, Some, None, slice_get, if◌then◌else◌}
use Rattle.gq_laws.specs.declared.ops.Kind.{Kind}
use Rattle.gq_laws.specs.declared.ops.Kind.TheVariants.{Write as Writes}
use Rattle.gq_laws.specs.declared.ops.Op.{Op}
use Rattle.gq_laws.specs.Operations.{is_write}
use Rattle.gq_laws.specs.Orders.{key_at, is_lex_less}
use Rattle.gq_laws.specs.Checks.{is_once, is_open_at, gives}

-- the operation may stand where those up to it began by this place and the register holds these bytes
abbrev pub passes : Op → ℕ → List ℕ → Bool
passes a begun bytes = (is_some a.end || is_write a) && (is_open_at begun a.end && (is_write a || gives a bytes))

-- the bytes that the register holds after the operation
abbrev pub bytes_after : Op → List ℕ → List ℕ
bytes_after a bytes = by a.kind
  where
    by : Kind → List ℕ
    by (Writes written) = written
    by _ = bytes

-- each operation passes where it stands
abbrev pub walk_step : Option Op → (ℕ → List ℕ → Bool) → ℕ → List ℕ → Bool
walk_step None later begun bytes = false
walk_step (Some a) later begun bytes = passes a (max begun a.begin) bytes && later (max begun a.begin) (bytes_after a bytes)

abbrev pub walks : List Op → List ℕ → ℕ → List ℕ → Bool
walks ops [] = λ begun bytes. true
walks ops (i ∷ places) = walk_step (slice_get ops i) (walks ops places)

-- how many of the operations are completed
abbrev pub completed : List Op → ℕ
completed [] = 0
completed (a ∷ ops) = (if is_some a.end then 1 else 0) + completed ops

-- the operation at the place is completed
abbrev pub is_done : List Op → ℕ → Bool
is_done ops i = by (slice_get ops i)
  where
    by : Option Op → Bool
    by None = false
    by (Some a) = is_some a.end

-- how many of the places are those of completed operations
abbrev pub completed_at : List Op → List ℕ → ℕ
completed_at ops [] = 0
completed_at ops (i ∷ places) = (if is_done ops i then 1 else 0) + completed_at ops places

-- each place's operation is before the next one's, after that at this place
abbrev pub rises_from : List Op → ℕ → List ℕ → Bool
rises_from ops i [] = true
rises_from ops i (j ∷ places) = is_lex_less (key_at ops i) (key_at ops j) && rises_from ops j places

abbrev pub rises : List Op → List ℕ → Bool
rises ops [] = true
rises ops (i ∷ places) = rises_from ops i places

-- the operation at the place stands after that at the last one, where there is a last one
abbrev pub is_after : List Op → Option ℕ → ℕ → Bool
is_after ops None j = true
is_after ops (Some i) j = is_lex_less (key_at ops i) (key_at ops j)

-- the same of the places that are left after one, or of all
abbrev pub rises_after : List Op → Option ℕ → List ℕ → Bool
rises_after ops None places = rises ops places
rises_after ops (Some i) places = rises_from ops i places

abbrev pub is_legal_at_once : List Op → List ℕ → Bool
is_legal_at_once ops places =
    walks ops places 0 [] && (completed_at ops places == completed ops && (rises ops places || is_once places))
