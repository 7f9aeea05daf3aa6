-- Which lines are of chunks.
use Rattle.std.specs.Prelude.{ℕ, List, [], ◌∷◌, Bool, false, ◌||◌, is_none, codes, if◌then◌else◌}
use Rattle.std.specs.Str.{bytes_eq}
use Rattle.gq_pair.specs.declared.pair.Taker.{Taker}
use Rattle.gq_pair.specs.declared.pair.Taker.TheVariants.{First, Second, Both}
use Rattle.gq_lines.specs.Words.{Word, words_of, number_of}

-- what a tenant may ask about its chunks
abbrev pub is_chunk_verb : Word → Bool
is_chunk_verb verb = bytes_eq verb (codes "keep") || bytes_eq verb (codes "get") || bytes_eq verb (codes "forget") || bytes_eq verb (codes "chunks") || bytes_eq verb (codes "room")

-- what nodes of a column may say to each other about chunks of a tenant
abbrev pub is_peer_verb : Word → Bool
is_peer_verb verb = bytes_eq verb (codes "seeks") || bytes_eq verb (codes "found") || bytes_eq verb (codes "wants") || bytes_eq verb (codes "gives") || bytes_eq verb (codes "misses") || bytes_eq verb (codes "spoilt")

-- a tenant's line, by its first word behind its addresses
abbrev pub tenant_taker : Word → Taker
tenant_taker verb = if is_chunk_verb verb then Second else First

-- a node's line: by the word behind the tenant's name; or by its only word, which may be a tick
abbrev pub node_taker : Word → List Word → Taker
node_taker word [] = if bytes_eq word (codes "tick") then Both else First
node_taker word (verb ∷ words) = if is_peer_verb verb then Second else First

-- A line `TO FROM VERB ..` of a tenant, which no number names, is the second machine's where its verb is one of chunks. So is a line `TO FROM T VERB ..` of a node. A tick is both's. All
-- others are the first one's.
abbrev pub words_taker : List Word → Taker
words_taker (to ∷ from ∷ word ∷ words) = if is_none (number_of from) then tenant_taker word else node_taker word words
words_taker _ = First

abbrev pub line_taker : List ℕ → Taker
line_taker line = words_taker (words_of line)

-- what a fact of chunks may say
abbrev pub is_fact_verb : Word → Bool
is_fact_verb verb = bytes_eq verb (codes "chunk") || bytes_eq verb (codes "extent") || bytes_eq verb (codes "forgot") || bytes_eq verb (codes "filled")

-- a fact's line is one of chunks by its first word
abbrev pub words_tell_chunk : List Word → Bool
words_tell_chunk [] = false
words_tell_chunk (verb ∷ words) = is_fact_verb verb

abbrev pub tells_chunk : List ℕ → Bool
tells_chunk line = words_tell_chunk (words_of line)
