-- The lines between nodes of a column about the chunks of a tenant: `TO FROM T` and words. S is a session, N a number, P how many nodes of the column were lost by the plan of the node that asks.
-- A node that lacks chunks asks `seeks P S AFTER` and `wants S N`. A peer answers `found S AFTER FLOOR ALL N SIZE ..`, where ALL is 1 if these are all and else 0; and `gives S N CONTENT`,
-- `misses S N`, or `spoilt S N`.
use Rattle.std.specs.Prelude.{ℕ, List, [], ◌∷◌, ◌++◌, Bool, codes, decimal, Option, Some, None, if◌then◌else◌}
use Rattle.std.specs.List.{flat_map}
use Rattle.std.specs.Str.{bytes_eq}
use Rattle.gq_desk.specs.CheckedPlan.{CheckedPlan, row_at}
use Rattle.gq_lines.specs.Words.{Word, long_number_of}
use Rattle.gq_text.specs.Input.{◌>>=◌}
use Rattle.gq_lines.specs.Written.{line_text}
use Rattle.gq_wire.specs.Values.{number_then, long_then, alone}
use Rattle.gq_stock.specs.declared.finding.Found.{Found as Finding}
use Rattle.gq_stock.specs.declared.finding.Found.TheVariants as Finds
use Rattle.gq_depot.specs.declared.answer.ChunkAnswer.{ChunkAnswer}
use Rattle.gq_depot.specs.declared.answer.ChunkAnswer.TheVariants as Told
use Rattle.gq_depot.specs.declared.answer.ListedChunk.{ListedChunk}
use Rattle.gq_depot.specs.declared.seeking.Ask.{Ask}
use Rattle.gq_depot.specs.declared.seeking.Ask.TheVariants as Asks
use Rattle.gq_chunks.specs.declared.peer_line.PeerLine.{PeerLine}
use Rattle.gq_chunks.specs.declared.peer_line.PeerLine.TheVariants as Line
use Rattle.gq_chunks.specs.Facts.{sure_digit, sure_then}
use Rattle.gq_chunks.specs.Answers.{told_content}
use Rattle.gq_chunks.specs.Requests.{last_chunk_content}

-- what such a line says
pub data Saying : Type 0 where
  Seeks : (losses session after : ℕ) → Saying
  Found : (session after floor : ℕ) → (is_all : Bool) → List ListedChunk → Saying
  Wants : (session number : ℕ) → Saying
  Gives : (session number : ℕ) → List ℕ → Saying
  Misses : (session number : ℕ) → Saying
  Spoilt : (session number : ℕ) → Saying

abbrev pub saying_of : PeerLine → Saying
saying_of (Line.Seeks losses session after) = Seeks losses session after
saying_of (Line.Found session after floor is_all chunks) = Found session after floor is_all chunks.items
saying_of (Line.Wants session number) = Wants session number
saying_of (Line.Gives session number bytes) = Gives session number bytes
saying_of (Line.Misses session number) = Misses session number
saying_of (Line.Spoilt session number) = Spoilt session number

-- ---- written

-- the numbers of chunks, each with its length
abbrev pub pair_words : List ListedChunk → List Word
pair_words chunks = flat_map (λ chunk. decimal chunk.number ∷ decimal chunk.size ∷ []) chunks

abbrev pub saying_words : Saying → List Word
saying_words (Seeks p s after) = codes "seeks" ∷ decimal p ∷ decimal s ∷ decimal after ∷ []
saying_words (Found s after floor is_all chunks) = codes "found" ∷ decimal s ∷ decimal after ∷ decimal floor ∷ decimal (sure_digit is_all) ∷ pair_words chunks
saying_words (Wants s n) = codes "wants" ∷ decimal s ∷ decimal n ∷ []
saying_words (Gives s n bytes) = codes "gives" ∷ decimal s ∷ decimal n ∷ told_content bytes ∷ []
saying_words (Misses s n) = codes "misses" ∷ decimal s ∷ decimal n ∷ []
saying_words (Spoilt s n) = codes "spoilt" ∷ decimal s ∷ decimal n ∷ []

-- the line by which the node of the one number says it to that of the other of the tenant at this place, with its newline
abbrev pub saying_text : CheckedPlan → (from to t : ℕ) → Saying → List ℕ
saying_text plan from to t saying = line_text (decimal to) (decimal from ∷ (row_at plan t).name ∷ saying_words saying)

-- ---- read

-- a number and a length, and the words behind them
abbrev pub pair_then : List Word → Option (ListedChunk × List Word)
pair_then words = do
  number ← long_then words
  size ← long_then number.1
  Some (record { number = number.0; size = size.0 }, size.1)

-- numbers and lengths, behind these
abbrev pub pairs_behind : List ListedChunk → List Word → Option (List ListedChunk)
pairs_behind chunks [] = Some chunks
pairs_behind chunks (w ∷ []) = None
pairs_behind chunks (w ∷ v ∷ words) = do
  number ← long_number_of w
  size ← long_number_of v
  pairs_behind (chunks ++ record { number = number; size = size } ∷ []) words

abbrev pub seeks_by : List Word → Option Saying
seeks_by words = do
  p ← long_then words
  s ← number_then p.1
  after ← long_then s.1
  alone after.1 (Seeks p.0 s.0 after.0)

abbrev pub found_by : List Word → Option Saying
found_by words = do
  s ← number_then words
  after ← long_then s.1
  floor ← long_then after.1
  is_all ← sure_then floor.1
  chunks ← pairs_behind [] is_all.1
  Some (Found s.0 after.0 floor.0 is_all.0 chunks)

abbrev pub gives_by : List Word → Option Saying
gives_by words = do
  s ← number_then words
  n ← long_then s.1
  bytes ← last_chunk_content n.1
  Some (Gives s.0 n.0 bytes)

-- a session and a number, and no more
abbrev pub number_by : (ℕ → ℕ → Saying) → List Word → Option Saying
number_by saying words = do
  s ← number_then words
  n ← long_then s.1
  alone n.1 (saying s.0 n.0)

abbrev pub verb_saying_by : Word → List Word → Option Saying
verb_saying_by verb words =
    if bytes_eq verb (codes "seeks") then seeks_by words
    else if bytes_eq verb (codes "found") then found_by words
    else if bytes_eq verb (codes "wants") then number_by Wants words
    else if bytes_eq verb (codes "gives") then gives_by words
    else if bytes_eq verb (codes "misses") then number_by Misses words
    else if bytes_eq verb (codes "spoilt") then number_by Spoilt words
    else None

-- what the words behind the tenant's name say
abbrev pub saying_by : List Word → Option Saying
saying_by [] = None
saying_by (verb ∷ words) = verb_saying_by verb words

-- ---- asks and answers

-- what a node asks, whose plan tells so many losses of the column
abbrev pub saying_of_ask : (losses : ℕ) → Ask → Saying
saying_of_ask losses (Asks.Seeks s after) = Seeks losses s after
saying_of_ask losses (Asks.Wants s n) = Wants s n

abbrev pub asks_text : CheckedPlan → (from to t losses : ℕ) → List Ask → List ℕ
asks_text plan from to t losses asks = flat_map (λ ask. saying_text plan from to t (saying_of_ask losses ask)) asks

-- of a content that was asked for
abbrev pub saying_of_found : (s n : ℕ) → Finding → Saying
saying_of_found s n (Finds.There bytes) = Gives s n bytes
saying_of_found s n Finds.Damaged = Spoilt s n
saying_of_found s n Finds.Nothing = Misses s n

-- what a peer says, of which a tenant would be told this; nothing of a session that is not there
abbrev pub saying_of_answer : ChunkAnswer → Option Saying
saying_of_answer (Told.Listed s after floor chunks is_all) = Some (Found s after floor is_all chunks.items)
saying_of_answer (Told.Found s n from long found lacks) = Some (saying_of_found s n found)
saying_of_answer _ = None

abbrev pub text_if : CheckedPlan → (from to t : ℕ) → Option Saying → List ℕ
text_if plan from to t None = []
text_if plan from to t (Some saying) = saying_text plan from to t saying

-- the line of it, if there is one
abbrev pub peer_answer_text : CheckedPlan → (from to t : ℕ) → ChunkAnswer → List ℕ
peer_answer_text plan from to t answer = text_if plan from to t (saying_of_answer answer)
