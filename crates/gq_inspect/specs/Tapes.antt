-- What a tape has.
use Rattle.std.specs.Prelude.{List, [], ◌∷◌, Option, Some, None}
use Rattle.gq_inspect.specs.declared.replaying.First.{First}
use Rattle.gq_inspect.specs.declared.replaying.Tape.{Tape}
use Rattle.gq_inspect.specs.Replay.{Before}

-- the events, and what their steps sent
abbrev pub before_of : Tape → Before
before_of tape = record { events = tape.events.items; firsts = tape.firsts.items }

abbrev pub listed : Option First → List First
listed None = []
listed (Some first) = first ∷ []
