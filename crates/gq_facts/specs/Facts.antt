-- The lines of facts, and what a line says: `began T S OP`, up to which number those of a session's operations are reserved;
-- `numbered T S NUMBER`, up to which those of its tags are; `kept T V F NUMBER SESSION HEX`, the copy that a file has; and
-- `had T V F NUMBER SESSION HEX`, the copy that the server was given of a file which it lacked.
use Rattle.std.specs.Prelude.{ℕ, List, [], ◌∷◌, ◌++◌, codes, decimal, Option, Some, None, option_map, if◌then◌else◌}
use Rattle.std.specs.Str.{bytes_eq}
use Rattle.gq_tag.specs.declared.StoredCopy.{StoredCopy}
use Rattle.gq_tag.specs.Tag.{File}
use Rattle.gq_desk.specs.CheckedPlan.{CheckedPlan, row_at}
use Rattle.gq_lines.specs.Words.{Word, words_of}
use Rattle.gq_text.specs.Input.{◌>>=◌, place_named}
use Rattle.gq_lines.specs.Written.{spaced, line_text}
use Rattle.gq_cluster.specs.Facts.{OwnFact, Begun, Numbered, Kept, Had}
use Rattle.gq_node.specs.declared.output.Fact.{Fact}
use Rattle.gq_node.specs.Recalling.{tenant_of, own_fact}
use Rattle.gq_node.specs.Tables.{fact_of}
use Rattle.gq_wire.specs.Values.{number_then, byte_then, long_then, copy_of, alone}
use Rattle.gq_wire.specs.Texts.{copy_words}

-- ---- written

-- what came about
abbrev pub verb_of : OwnFact → Word
verb_of (Begun session op) = codes "began"
verb_of (Numbered session number) = codes "numbered"
verb_of (Kept file copy) = codes "kept"
verb_of (Had file copy) = codes "had"

-- where, and how: the words behind the tenant's name
abbrev pub own_words : OwnFact → List Word
own_words (Begun session op) = decimal session ∷ decimal op ∷ []
own_words (Numbered session number) = decimal session ∷ decimal number ∷ []
own_words (Kept file copy) = decimal file.volume ∷ decimal file.place ∷ copy_words copy
own_words (Had file copy) = decimal file.volume ∷ decimal file.place ∷ copy_words copy

abbrev pub fact_words : CheckedPlan → Fact → List Word
fact_words plan fact = (row_at plan (tenant_of fact)).name ∷ own_words (own_fact fact)

-- the line of a fact, without its newline and with it
abbrev pub fact_line : CheckedPlan → Fact → List ℕ
fact_line plan fact = verb_of (own_fact fact) ++ spaced (fact_words plan fact)

abbrev pub fact_text : CheckedPlan → Fact → List ℕ
fact_text plan fact = line_text (verb_of (own_fact fact)) (fact_words plan fact)

-- ---- read

abbrev pub begun_by : ℕ → List Word → Option OwnFact
begun_by k words = do
  op ← number_then words
  alone op.1 (Begun k op.0)

abbrev pub numbered_by : ℕ → List Word → Option OwnFact
numbered_by k words = do
  number ← long_then words
  alone number.1 (Numbered k number.0)

-- the fact of session k
abbrev pub session_fact_by : Word → ℕ → List Word → Option OwnFact
session_fact_by verb k words =
    if bytes_eq verb (codes "began") then begun_by k words
    else if bytes_eq verb (codes "numbered") then numbered_by k words
    else None

-- a file and its copy
abbrev pub file_copy_by : List Word → Option (File × StoredCopy)
file_copy_by words = do
  v ← number_then words
  f ← number_then v.1
  copy ← copy_of f.1
  Some (record { volume = v.0; place = f.0 }, copy)

-- the fact of a file
abbrev pub copy_fact_by : (File → StoredCopy → OwnFact) → List Word → Option OwnFact
copy_fact_by fact words = option_map (λ x. fact x.0 x.1) (file_copy_by words)

-- what the words say behind the tenant's name
abbrev pub own_fact_by : Word → List Word → Option OwnFact
own_fact_by verb words =
    if bytes_eq verb (codes "kept") then copy_fact_by (λ file copy. Kept file copy) words
    else if bytes_eq verb (codes "had") then copy_fact_by (λ file copy. Had file copy) words
    else (byte_then words >>= λ k. session_fact_by verb k.0 k.1)

-- the same, of the tenant at place t
abbrev pub fact_by : Word → ℕ → List Word → Option Fact
fact_by verb t words = option_map (fact_of t) (own_fact_by verb words)

unfoldable pub fact_of_words : CheckedPlan → List Word → Option Fact
fact_of_words plan (verb ∷ name ∷ words) = do
  t ← place_named plan name
  fact_by verb t words
fact_of_words plan _ = None

-- the fact that a line without its newline says
abbrev pub fact_of_line : CheckedPlan → List ℕ → Option Fact
fact_of_line plan line = fact_of_words plan (words_of line)
