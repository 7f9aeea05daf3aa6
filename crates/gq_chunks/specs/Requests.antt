-- What a tenant asks about its chunks: `keep S N CONTENT`, `get S N FROM LENGTH`, `forget S FLOOR FIRST LAST`, `chunks S AFTER`, `room`. A content is `~` and
-- Python's escapes (`gq_quote`), or has a form of contents of files.
use Rattle.std.specs.Prelude.{ℕ, List, [], ◌∷◌, ◌==◌, nat_lt, codes, decimal, Option, Some, None, if◌then◌else◌}
use Rattle.std.specs.Str.{bytes_eq}
use Rattle.gq_quote.specs.Quote.{quoted, unquoted}
use Rattle.gq_lines.specs.Words.{Word, content_of}
use Rattle.gq_text.specs.Input.{◌>>=◌}
use Rattle.gq_wire.specs.Values.{number_then, long_then, alone}
use Rattle.gq_depot.specs.declared.request.ChunkRequest.{ChunkRequest}
use Rattle.gq_depot.specs.declared.request.ChunkRequest.TheVariants.{Keep, Get, Forget, List as ListChunks, Room}

-- ---- as a tenant writes it

-- the word of a content
abbrev pub quoted_word : List ℕ → Word
quoted_word bytes = 126 ∷ quoted bytes

abbrev pub request_words : ChunkRequest → List Word
request_words (Keep session number bytes) = codes "keep" ∷ decimal session ∷ decimal number ∷ quoted_word bytes ∷ []
request_words (Get session number from length) = codes "get" ∷ decimal session ∷ decimal number ∷ decimal from ∷ decimal length ∷ []
request_words (Forget session floor run) = codes "forget" ∷ decimal session ∷ decimal floor ∷ decimal run.first ∷ decimal run.last ∷ []
request_words (ListChunks session after) = codes "chunks" ∷ decimal session ∷ decimal after ∷ []
request_words Room = codes "room" ∷ []

-- ---- as it is read

-- the content that a word writes
abbrev pub chunk_content_of : Word → Option (List ℕ)
chunk_content_of [] = content_of []
chunk_content_of (c ∷ text) = if c == 126 then unquoted text else content_of (c ∷ text)

abbrev pub last_chunk_content : List Word → Option (List ℕ)
last_chunk_content (w ∷ []) = chunk_content_of w
last_chunk_content _ = None

abbrev pub keep_by : List Word → Option ChunkRequest
keep_by words = do
  s ← number_then words
  n ← long_then s.1
  bytes ← last_chunk_content n.1
  Some (Keep s.0 n.0 bytes)

abbrev pub get_by : List Word → Option ChunkRequest
get_by words = do
  s ← number_then words
  n ← long_then s.1
  from ← long_then n.1
  length ← long_then from.1
  alone length.1 (Get s.0 n.0 from.0 length.0)

-- no number above the floor is forgotten
abbrev pub forget_by : List Word → Option ChunkRequest
forget_by words = do
  s ← number_then words
  floor ← long_then s.1
  first ← long_then floor.1
  last ← long_then first.1
  if nat_lt floor.0 last.0 then None else alone last.1 (Forget s.0 floor.0 (record { first = first.0; last = last.0 }))

abbrev pub list_by : List Word → Option ChunkRequest
list_by words = do
  s ← number_then words
  after ← long_then s.1
  alone after.1 (ListChunks s.0 after.0)

abbrev pub room_by : List Word → Option ChunkRequest
room_by words = alone words Room

abbrev pub verb_request_by : Word → List Word → Option ChunkRequest
verb_request_by verb words =
    if bytes_eq verb (codes "keep") then keep_by words
    else if bytes_eq verb (codes "get") then get_by words
    else if bytes_eq verb (codes "forget") then forget_by words
    else if bytes_eq verb (codes "chunks") then list_by words
    else if bytes_eq verb (codes "room") then room_by words
    else None

abbrev pub chunk_request_by : List Word → Option ChunkRequest
chunk_request_by [] = None
chunk_request_by (verb ∷ words) = verb_request_by verb words
