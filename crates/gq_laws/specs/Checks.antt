-- The test whether an order is legal: each part goes through a list once.
use Rattle.std.specs.Prelude.{ℕ, ◌+◌, List, [], ◌∷◌, Bool, true, false, ◌&&◌, ◌||◌, ◌==◌, not, nat_le, max, is_some, Option, Some, None, slice_get, length}
use Rattle.std.specs.Bool.{Decides}
use Rattle.std.specs.List.{list_any, list_all}
use Rattle.std.specs.Str.{bytes_eq}
use Rattle.gq_laws.specs.declared.ops.Kind.{Kind}
use Rattle.gq_laws.specs.declared.ops.Kind.TheVariants.{Write as Writes, Read as Reads, Row as Rows}
use Rattle.gq_laws.specs.declared.ops.Op.{Op}
use Rattle.gq_laws.specs.Operations.{is_write, ops_at, Legal}

-- the place is in the list
abbrev pub has_place : List ℕ → ℕ → Bool
has_place places i = list_any (λ j. j == i) places

-- no place stands in the list twice
abbrev pub is_once : List ℕ → Bool
is_once [] = true
is_once (i ∷ places) = not (has_place places i) && is_once places

-- an operation stands at the place, and it is completed or a write
abbrev pub is_allowed : List Op → ℕ → Bool
is_allowed ops i = by (slice_get ops i)
  where
    by : Option Op → Bool
    by None = false
    by (Some a) = is_some a.end || is_write a

-- of these operations, which stand from place i on, each that is completed is in the list
abbrev pub is_whole : List ℕ → ℕ → List Op → Bool
is_whole places i [] = true
is_whole places i (a ∷ ops) = (not (is_some a.end) || has_place places i) && is_whole places (i + 1) ops

-- it does not end before this place
abbrev pub is_open_at : ℕ → Option ℕ → Bool
is_open_at place None = true
is_open_at place (Some e) = nat_le place e

-- none of the operations ends before one begins that does not stand after it; those before them began by this place
abbrev pub is_in_order : ℕ → List Op → Bool
is_in_order begun [] = true
is_in_order begun (a ∷ ops) = is_open_at (max begun a.begin) a.end && is_in_order (max begun a.begin) ops

-- the operation gives these bytes, or their length
abbrev pub gives : Op → List ℕ → Bool
gives a bytes = by a.kind
  where
    by : Kind → Bool
    by (Reads (Some given)) = bytes_eq given bytes
    by (Rows (Some given)) = given == length bytes
    by _ = false

-- a single register gives the same answers, which holds the bytes before them
abbrev pub register_gives : List Op → List ℕ → Bool
register_gives [] bytes = true
register_gives (a ∷ rest) bytes = by a.kind (register_gives rest)
  where
    by : Kind → (List ℕ → Bool) → Bool
    by (Writes written) later = later written
    by _ later = gives a bytes && later bytes

-- the whole test
abbrev pub is_legal : List Op → List ℕ → Bool
is_legal ops places =
    is_once places && (list_all (is_allowed ops) places && (is_whole places 0 ops && (is_in_order 0 (ops_at ops places) && register_gives (ops_at ops places) [])))

-- the test is true exactly where the order is legal
abbrev pub ChecksDecide : Type 0
ChecksDecide = (ops : List Op) (places : List ℕ) → Decides (is_legal ops places) (Legal ops places)
