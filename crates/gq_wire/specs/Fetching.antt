-- What a new node and others say to each other: `joins P`, `joined P`, `T fetch V F` and `T fetched V F NUMBER SESSION HEX`.
use Rattle.std.specs.Prelude.{ℕ, List, [], ◌∷◌, codes, Option, Some, None, if◌then◌else◌}
use Rattle.std.specs.Str.{bytes_eq}
use Rattle.gq_tag.specs.declared.FileId.{FileId}
use Rattle.gq_tag.specs.declared.StoredCopy.{StoredCopy}
use Rattle.gq_lines.specs.Words.{Word, number_of}
use Rattle.gq_text.specs.Input.{◌>>=◌}
use Rattle.gq_wire.specs.Values.{number_then, copy_of, alone}

-- the number that is the only word, and that is the only word behind this verb
abbrev pub only_number : List Word → Option ℕ
only_number (w ∷ []) = number_of w
only_number _ = None

abbrev pub number_behind : (verb word : Word) → List Word → Option ℕ
number_behind verb word words = if bytes_eq word verb then only_number words else None

-- the file of the tenant at place t that the first words name, and the words behind
unfoldable pub file_then : (t : ℕ) → List Word → Option (FileId × List Word)
file_then t words = do
  v ← number_then words
  f ← number_then v.1
  Some (record { tenant = t; volume = v.0; file = f.0 }, f.1)

-- no word is behind it
abbrev pub only_file : Option (FileId × List Word) → Option FileId
only_file None = None
only_file (Some x) = alone x.1 x.0

-- the file of which a copy is asked for
abbrev pub fetch_of : (t : ℕ) → List Word → Option FileId
fetch_of t [] = None
fetch_of t (verb ∷ words) = if bytes_eq verb (codes "fetch") then only_file (file_then t words) else None

-- the file, with the copy if it is one
abbrev pub with_copy : FileId → Option StoredCopy → Option (FileId × StoredCopy)
with_copy file None = None
with_copy file (Some copy) = Some (file, copy)

abbrev pub file_and_copy : Option (FileId × List Word) → Option (FileId × StoredCopy)
file_and_copy None = None
file_and_copy (Some x) = with_copy x.0 (copy_of x.1)

-- the file of which a copy is given, and the copy
abbrev pub fetched_of : (t : ℕ) → List Word → Option (FileId × StoredCopy)
fetched_of t [] = None
fetched_of t (verb ∷ words) = if bytes_eq verb (codes "fetched") then file_and_copy (file_then t words) else None
