-- What a contract sees of a watched reader or writer.
use Rattle.std.specs.Prelude.{◌≡◌, ℕ, ◌++◌, Bool, List, Option, take}
use Rattle.std.specs.Io.KnownBytes.{Appends, Consumes}
use Rattle.gq_streams.specs.declared.watched.Watched.{Watched}

-- the reader or writer
abbrev pub inner_of : {R : Type 0} → Watched R → R
inner_of w = w.inner

-- whether it remembers that a read or a write failed, or that a write of some bytes took none: the flag that the code keeps. That
-- it says what happened to the device is tested, by counting the device's own calls
abbrev pub has_failed : {R : Type 0} → Watched R → Bool
has_failed w = w.failed

-- a prefix of the text was appended
abbrev pub AppendsPrefix : Option (List ℕ) → Option (List ℕ) → List ℕ → Type 0
AppendsPrefix old new text = (n : ℕ) × Appends old new (take n text)

-- what was read went from the reader to the end of a list
abbrev pub Moves : Option (List ℕ) → Option (List ℕ) → List ℕ → List ℕ → Type 0
Moves left left' held held' = (bs : List ℕ) × Consumes left left' bs × (held' ≡ held ++ bs)
