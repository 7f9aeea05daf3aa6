-- What a tenant asks: `write S OP V F HEX`, `read S OP V F`, `list S OP V`, `abandon S OP`. Without OP, the number that the operation is
-- to have, these are the words of a line in a script.
use Rattle.std.specs.Prelude.{ℕ, List, [], ◌∷◌, codes, decimal, Option, Some, None, is_some, if◌then◌else◌}
use Rattle.std.specs.Str.{bytes_eq}
use Rattle.gq_model.specs.declared.events.Line.{Line}
use Rattle.gq_model.specs.declared.events.Line.TheVariants.{Write, Read, List as ListFiles, Abandon}
use Rattle.gq_node.specs.Local.{asker}
use Rattle.gq_lines.specs.Words.{Word, number_of}
use Rattle.gq_text.specs.Input.{◌>>=◌, line_of}
use Rattle.gq_text.specs.Canonical.{line_words}
use Rattle.gq_wire.specs.Values.{number_then, last_content, alone}

-- the line, if it is a request of a session
abbrev pub of_session : Line → Option Line
of_session line = if is_some (asker line) then Some line else None

-- the number that the operation is to have, and what is asked
unfoldable pub request_of : List Word → Option (ℕ × Line)
request_of (verb ∷ session ∷ op ∷ words) = do
  n ← number_of op
  line ← of_session (line_of (verb ∷ session ∷ words))
  Some (n, line)
request_of _ = None

-- ---- as a tenant writes it

-- the operation's number behind the session's
abbrev pub with_op : ℕ → List Word → List Word
with_op op (verb ∷ session ∷ words) = verb ∷ session ∷ decimal op ∷ words
with_op op words = words

-- the words of a request behind its addresses
abbrev pub request_words : ℕ → Line → List Word
request_words op line = with_op op (line_words line)

-- ---- as it is read: of session k, by the words behind the operation's number

abbrev pub write_by : ℕ → List Word → Option Line
write_by k words = do
  v ← number_then words
  f ← number_then v.1
  bytes ← last_content f.1
  Some (Write k v.0 f.0 bytes)

abbrev pub read_by : ℕ → List Word → Option Line
read_by k words = do
  v ← number_then words
  f ← number_then v.1
  alone f.1 (Read k v.0 f.0)

abbrev pub list_by : ℕ → List Word → Option Line
list_by k words = do
  v ← number_then words
  alone v.1 (ListFiles k v.0)

abbrev pub abandon_by : ℕ → List Word → Option Line
abandon_by k words = alone words (Abandon k)

abbrev pub line_by : Word → ℕ → List Word → Option Line
line_by verb k words =
    if bytes_eq verb (codes "write") then write_by k words
    else if bytes_eq verb (codes "read") then read_by k words
    else if bytes_eq verb (codes "list") then list_by k words
    else if bytes_eq verb (codes "abandon") then abandon_by k words
    else None

unfoldable pub request_by : List Word → Option (ℕ × Line)
request_by [] = None
request_by (verb ∷ words) = do
  k ← number_then words
  op ← number_then k.1
  line ← line_by verb k.0 op.1
  Some (op.0, line)
