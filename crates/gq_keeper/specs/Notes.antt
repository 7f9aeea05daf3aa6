-- What a file is taken to hold, instant after instant, the newest first.
use Rattle.std.specs.Prelude.{ℕ, List, [], ◌∷◌, ◌++◌, take, slice_index, ◌==◌, if◌then◌else◌}

-- what was made sure of, and what was written
abbrev pub Instant : Type 0
Instant = List ℕ × List ℕ

abbrev pub synced_in : List Instant → List ℕ
synced_in [] = []
synced_in (instant ∷ instants) = instant.0

abbrev pub seen_in : List Instant → List ℕ
seen_in [] = []
seen_in (instant ∷ instants) = instant.1

-- bytes stand behind those that are there
abbrev pub appended : List ℕ → List Instant → List Instant
appended bytes instants = (synced_in instants, seen_in instants ++ bytes) ∷ instants

-- it was made sure of what is there
abbrev pub made_sure : List Instant → List Instant
made_sure instants = (seen_in instants, seen_in instants) ∷ instants

-- it may be cut to this length
abbrev pub may_be_cut : ℕ → List Instant → List Instant
may_be_cut len instants = (take len (synced_in instants), seen_in instants) ∷ instants

-- it is cut to this length
abbrev pub is_cut : ℕ → List Instant → List Instant
is_cut len instants = (synced_in instants, take len (seen_in instants)) ∷ instants

-- these bytes may stand in the place of all: a crash leaves them whole, or what was there
abbrev pub may_be_replaced : List ℕ → List Instant → List Instant
may_be_replaced bytes instants = (synced_in instants, seen_in instants) ∷ (bytes, bytes) ∷ instants

-- these bytes stand in the place of all, and it was made sure of them
abbrev pub is_replaced : List ℕ → List Instant → List Instant
is_replaced bytes instants = (bytes, bytes) ∷ instants

-- these bytes were read, and nothing is known of a crash
abbrev pub is_opened : List ℕ → List Instant → List Instant
is_opened bytes instants = ([], bytes) ∷ instants

-- the instants after a note: which one it is, and a length
abbrev pub noted : List ℕ → List ℕ → List Instant → List Instant
noted numbers bytes instants =
    if slice_index numbers 0 == 0 then appended bytes instants
    else if slice_index numbers 0 == 1 then made_sure instants
    else if slice_index numbers 0 == 2 then may_be_cut (slice_index numbers 1) instants
    else if slice_index numbers 0 == 3 then is_cut (slice_index numbers 1) instants
    else if slice_index numbers 0 == 4 then may_be_replaced bytes instants
    else if slice_index numbers 0 == 5 then is_replaced bytes instants
    else is_opened bytes instants
