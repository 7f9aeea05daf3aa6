-- The lines of facts of chunks, and what a line says. S is a session, N a number, SURE 1 where the chunk is told and else 0.
-- `chunk T S N SURE =BYTES`, a content in memory; `extent T S N SURE SEGMENT AT LENGTH SUM`, where one lies on the shelf; `forgot T S FLOOR FIRST LAST`,
-- numbers that are forgotten, and the floor; `filled T`, that no chunk is lacked any more.
use Rattle.std.specs.Prelude.{ℕ, List, [], ◌∷◌, ◌++◌, Bool, true, false, ◌==◌, codes, decimal, Option, Some, None, option_map, if◌then◌else◌}
use Rattle.std.specs.Str.{bytes_eq}
use Rattle.gq_shelf.specs.declared.place.Place.{Place}
use Rattle.gq_shelf.specs.declared.place.Place.TheVariants.{Fresh, Shelved}
use Rattle.gq_desk.specs.CheckedPlan.{CheckedPlan, row_at}
use Rattle.gq_lines.specs.Words.{Word, words_of, number_of}
use Rattle.gq_text.specs.Input.{◌>>=◌, place_named}
use Rattle.gq_lines.specs.Written.{bytes_word, spaced, line_text}
use Rattle.gq_wire.specs.Values.{number_then, long_then, last_content, alone}
use Rattle.gq_depot.specs.declared.fact.ChunkFact.{ChunkFact}
use Rattle.gq_depot.specs.declared.fact.ChunkFact.TheVariants.{Put, Forgot, Filled}

-- ---- written

abbrev pub sure_digit : Bool → ℕ
sure_digit true = 1
sure_digit false = 0

abbrev pub place_words : Place → List Word
place_words (Fresh bytes) = bytes_word bytes ∷ []
place_words (Shelved extent) = decimal extent.segment ∷ decimal extent.at ∷ decimal extent.len ∷ decimal extent.sum ∷ []

-- a session's number, whether it is told, and where its content is
abbrev pub held_words : (session number : ℕ) → Bool → Place → List Word
held_words session number is_sure place = decimal session ∷ decimal number ∷ decimal (sure_digit is_sure) ∷ place_words place

abbrev pub place_verb : Place → Word
place_verb (Fresh bytes) = codes "chunk"
place_verb (Shelved extent) = codes "extent"

abbrev pub verb_of : ChunkFact → Word
verb_of (Put session number is_sure place) = place_verb place
verb_of (Forgot session floor run) = codes "forgot"
verb_of Filled = codes "filled"

-- the words behind the tenant's name
abbrev pub own_words : ChunkFact → List Word
own_words (Put session number is_sure place) = held_words session number is_sure place
own_words (Forgot session floor run) = decimal session ∷ decimal floor ∷ decimal run.first ∷ decimal run.last ∷ []
own_words Filled = []

-- the line of a fact of the tenant at this place, without its newline and with it
abbrev pub chunk_fact_line : CheckedPlan → ℕ → ChunkFact → List ℕ
chunk_fact_line plan t fact = verb_of fact ++ spaced ((row_at plan t).name ∷ own_words fact)

abbrev pub chunk_fact_text : CheckedPlan → ℕ → ChunkFact → List ℕ
chunk_fact_text plan t fact = line_text (verb_of fact) ((row_at plan t).name ∷ own_words fact)

-- ---- read

abbrev pub sure_of : ℕ → Option Bool
sure_of n = if n == 0 then Some false else if n == 1 then Some true else None

abbrev pub sure_then : List Word → Option (Bool × List Word)
sure_then [] = None
sure_then (w ∷ words) = do
  n ← number_of w
  b ← sure_of n
  Some (b, words)

abbrev pub key_then : List Word → Option ((ℕ × ℕ × Bool) × List Word)
key_then words = do
  s ← number_then words
  n ← long_then s.1
  sure ← sure_then n.1
  Some ((s.0, n.0, sure.0), sure.1)

abbrev pub fresh_by : List Word → Option ChunkFact
fresh_by words = do
  key ← key_then words
  bytes ← last_content key.1
  Some (Put key.0.0 key.0.1 key.0.2 (Fresh bytes))

abbrev pub shelved_by : List Word → Option ChunkFact
shelved_by words = do
  key ← key_then words
  segment ← number_then key.1
  at ← long_then segment.1
  len ← number_then at.1
  sum ← long_then len.1
  alone sum.1 (Put key.0.0 key.0.1 key.0.2 (Shelved (record { segment = segment.0; at = at.0; len = len.0; sum = sum.0 })))

abbrev pub forgot_by : List Word → Option ChunkFact
forgot_by words = do
  s ← number_then words
  floor ← long_then s.1
  first ← long_then floor.1
  last ← long_then first.1
  alone last.1 (Forgot s.0 floor.0 (record { first = first.0; last = last.0 }))

abbrev pub filled_by : List Word → Option ChunkFact
filled_by words = alone words Filled

-- what the words say behind the tenant's name
abbrev pub own_fact_by : Word → List Word → Option ChunkFact
own_fact_by verb words =
    if bytes_eq verb (codes "chunk") then fresh_by words
    else if bytes_eq verb (codes "extent") then shelved_by words
    else if bytes_eq verb (codes "forgot") then forgot_by words
    else if bytes_eq verb (codes "filled") then filled_by words
    else None

-- the tenant's place, and its fact
unfoldable pub chunk_fact_of_words : CheckedPlan → List Word → Option (ℕ × ChunkFact)
chunk_fact_of_words plan (verb ∷ name ∷ words) = do
  t ← place_named plan name
  option_map (λ fact. (t, fact)) (own_fact_by verb words)
chunk_fact_of_words plan _ = None

-- the fact that a line without its newline says, and whose it is
abbrev pub chunk_fact_of_line : CheckedPlan → List ℕ → Option (ℕ × ChunkFact)
chunk_fact_of_line plan line = chunk_fact_of_words plan (words_of line)
