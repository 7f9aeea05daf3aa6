-- The line of what a tenant is told of its chunks: `T NODE` and words. S is a session, N a number, P how many nodes of the column were lost.
-- `kept S N P`; `damaged S N`; `got S N SIZE FROM CONTENT`, `none S N`, `lacks S N`; `forgot S FLOOR FIRST LAST`; `chunks S AFTER FLOOR N.SIZE .. end`, without `end`
-- where these are not all; `room USED ALLOWED P LACKS`; and `refused` with its cause: `bad`, `nosession S N`, `toolong S N LENGTH`, `differs S N`, `below S N FLOOR`, `room S N FREE`, `full S N`, `lacks S FLOOR`.
use Rattle.std.specs.Prelude.{ℕ, ◌*◌, List, [], ◌∷◌, ◌++◌, Bool, true, false, nat_le, length, take, drop, map, codes, decimal, if◌then◌else◌}
use Rattle.gq_desk.specs.CheckedPlan.{CheckedPlan, row_at}
use Rattle.gq_quote.specs.Quote.{quoted}
use Rattle.gq_stock.specs.declared.finding.Found.{Found}
use Rattle.gq_stock.specs.declared.finding.Found.TheVariants as Finds
use Rattle.gq_stock.specs.declared.keeping.Keeping.{Keeping}
use Rattle.gq_stock.specs.declared.keeping.Keeping.TheVariants.{New, Same, Differs, Damaged, Below, Full, NoSpace}
use Rattle.gq_lines.specs.Words.{Word}
use Rattle.gq_lines.specs.Written.{bytes_word, line_text}
use Rattle.gq_depot.specs.declared.answer.ChunkAnswer.{ChunkAnswer}
use Rattle.gq_depot.specs.declared.answer.ChunkAnswer.TheVariants as Told
use Rattle.gq_depot.specs.declared.answer.ListedChunk.{ListedChunk}
use Rattle.gq_chunks.specs.Facts.{sure_digit}
use Rattle.gq_chunks.specs.Requests.{quoted_word}

-- ---- a content

-- the bytes from this place on, at most so many
abbrev pub part_of : (from long : ℕ) → List ℕ → List ℕ
part_of from long bytes = take long (drop from bytes)

-- whether Python's escapes write the bytes in at most twice as many
abbrev pub quotes_short : List ℕ → Bool
quotes_short bytes = nat_le (length (quoted bytes)) (2 * length bytes)

-- the word of a content that is told: with Python's escapes, unless these are long
abbrev pub told_content : List ℕ → Word
told_content bytes = if quotes_short bytes then quoted_word bytes else bytes_word bytes

-- ---- the words

abbrev pub kept_words : (session number losses floor free : ℕ) → Keeping → List Word
kept_words s n p floor free New = codes "kept" ∷ decimal s ∷ decimal n ∷ decimal p ∷ []
kept_words s n p floor free Same = codes "kept" ∷ decimal s ∷ decimal n ∷ decimal p ∷ []
kept_words s n p floor free Differs = codes "refused" ∷ codes "differs" ∷ decimal s ∷ decimal n ∷ []
kept_words s n p floor free Damaged = codes "damaged" ∷ decimal s ∷ decimal n ∷ []
kept_words s n p floor free Below = codes "refused" ∷ codes "below" ∷ decimal s ∷ decimal n ∷ decimal floor ∷ []
kept_words s n p floor free Full = codes "refused" ∷ codes "room" ∷ decimal s ∷ decimal n ∷ decimal free ∷ []
kept_words s n p floor free NoSpace = codes "refused" ∷ codes "full" ∷ decimal s ∷ decimal n ∷ []

-- of a number under which nothing is told
abbrev pub nothing_word : (lacks : Bool) → Word
nothing_word true = codes "lacks"
nothing_word false = codes "none"

abbrev pub found_words : (session number from long : ℕ) → (lacks : Bool) → Found → List Word
found_words s n from long lacks (Finds.There bytes) = codes "got" ∷ decimal s ∷ decimal n ∷ decimal (length bytes) ∷ decimal from ∷ told_content (part_of from long bytes) ∷ []
found_words s n from long lacks Finds.Damaged = codes "damaged" ∷ decimal s ∷ decimal n ∷ []
found_words s n from long lacks Finds.Nothing = nothing_word lacks ∷ decimal s ∷ decimal n ∷ []

-- a chunk of a listing
abbrev pub chunk_word : ListedChunk → Word
chunk_word chunk = decimal chunk.number ++ codes "." ++ decimal chunk.size

-- the last word of a listing of all
abbrev pub end_words : (is_all : Bool) → List Word
end_words true = codes "end" ∷ []
end_words false = []

abbrev pub answer_words : ChunkAnswer → List Word
answer_words Told.Bad = codes "refused" ∷ codes "bad" ∷ []
answer_words (Told.NoSession s n) = codes "refused" ∷ codes "nosession" ∷ decimal s ∷ decimal n ∷ []
answer_words (Told.TooLong s n long) = codes "refused" ∷ codes "toolong" ∷ decimal s ∷ decimal n ∷ decimal long ∷ []
answer_words (Told.Kept s n told p floor free) = kept_words s n p floor free told
answer_words (Told.Found s n from long found lacks) = found_words s n from long lacks found
answer_words (Told.Forgot s floor run) = codes "forgot" ∷ decimal s ∷ decimal floor ∷ decimal run.first ∷ decimal run.last ∷ []
answer_words (Told.Lacking s floor) = codes "refused" ∷ codes "lacks" ∷ decimal s ∷ decimal floor ∷ []
answer_words (Told.Listed s after floor chunks is_all) = codes "chunks" ∷ decimal s ∷ decimal after ∷ decimal floor ∷ map chunk_word chunks.items ++ end_words is_all
answer_words (Told.Room used allowed p lacks) = codes "room" ∷ decimal used ∷ decimal allowed ∷ decimal p ∷ decimal (sure_digit lacks) ∷ []

-- the line by which the node of that number tells it to the tenant at that place, with its newline
abbrev pub chunk_answer_text : CheckedPlan → (node t : ℕ) → ChunkAnswer → List ℕ
chunk_answer_text plan node t answer = line_text (row_at plan t).name (decimal node ∷ answer_words answer)
