-- The lines of the input that a machine takes.
use Rattle.std.specs.Prelude.{ℕ, List, length, filter, max, nat_le, Bool}
use Rattle.gq_journal.specs.Batches.{Line, whole_lines}
use Rattle.gq_keeper.specs.declared.serving.TheConstants.{ALWAYS_HELD}

-- a line that is longer is none
abbrev pub is_short : (longest : ℕ) → Line → Bool
is_short longest line = nat_le (length line) longest

-- the lines of a text that a newline ends, but for those that are longer
abbrev pub short_lines : (longest : ℕ) → List ℕ → List Line
short_lines longest text = filter (is_short longest) (whole_lines text)

-- no further line is taken once those before it gave or told so many bytes that are not kept and shown
abbrev pub most_held : (longest : ℕ) → ℕ
most_held longest = max longest ALWAYS_HELD
