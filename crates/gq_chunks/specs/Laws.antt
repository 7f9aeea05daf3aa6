-- What is read of lines that are written.
use Rattle.std.specs.Prelude.{◌≡◌, ◌<◌, ◌≤◌, ◌+◌, ◌*◌, ◌^◌, ℕ, List, [], ◌∷◌, length, true, Some}
use Rattle.gq_shelf.specs.declared.place.Place.{Place}
use Rattle.gq_shelf.specs.declared.place.Place.TheVariants.{Fresh, Shelved}
use Rattle.gq_desk.specs.CheckedPlan.{CheckedPlan}
use Rattle.gq_lines.specs.Written.{spaced}
use Rattle.gq_text.specs.Canonical.{IsPlan, IsNumber}
use Rattle.gq_lines.specs.Words.{words_after}
use Rattle.gq_journal.specs.Batches.{is_batch_line}
use Rattle.gq_chunks.specs.Facts.{chunk_fact_line, chunk_fact_of_line}
use Rattle.gq_chunks.specs.Answers.{told_content}
use Rattle.gq_chunks.specs.PeerLines.{Saying, Seeks, Found, Wants, Gives, Misses, Spoilt, saying_words, saying_by}
use Rattle.gq_depot.specs.declared.answer.ListedChunk.{ListedChunk}
use Rattle.gq_chunks.specs.Requests.{chunk_content_of, request_words, chunk_request_by}
use Rattle.gq_depot.specs.declared.request.ChunkRequest.{ChunkRequest}
use Rattle.gq_depot.specs.declared.request.ChunkRequest.TheVariants.{Keep, Get, Forget, List as ListChunks, Room}
use Rattle.gq_depot.specs.declared.fact.ChunkFact.{ChunkFact}
use Rattle.gq_depot.specs.declared.fact.ChunkFact.TheVariants.{Put, Forgot, Filled}

-- the numbers of an extent fit in 32 and 64 bits, as those of each extent do
abbrev pub FitsPlace : Place → Type 0
FitsPlace (Fresh bytes) = Unit {0}
FitsPlace (Shelved extent) = IsNumber extent.segment × (extent.at < 2 ^ 64) × IsNumber extent.len × (extent.sum < 2 ^ 64)

-- so do those of a fact
abbrev pub FitsFact : ChunkFact → Type 0
FitsFact (Put session number is_sure place) = IsNumber session × (number < 2 ^ 64) × FitsPlace place
FitsFact (Forgot session floor run) = IsNumber session × (floor < 2 ^ 64) × (run.first < 2 ^ 64) × (run.last < 2 ^ 64)
FitsFact Filled = Unit {0}

-- the line of a fact is read as that fact, of its tenant
abbrev pub FactsReadBack : Type 0
FactsReadBack = (plan : CheckedPlan) (t : ℕ) (fact : ChunkFact) → IsPlan plan → t < length plan.rows → FitsFact fact → chunk_fact_of_line plan (chunk_fact_line plan t fact) ≡ Some (t, fact)

-- it may stand in a batch of a journal
abbrev pub FactsStandInBatches : Type 0
FactsStandInBatches = (plan : CheckedPlan) (t : ℕ) (fact : ChunkFact) → IsPlan plan → t < length plan.rows → FitsFact fact → is_batch_line (chunk_fact_line plan t fact) ≡ true

-- the numbers of a request fit in the words of a line, and none that is to be forgotten is above the floor
abbrev pub FitsRequest : ChunkRequest → Type 0
FitsRequest (Keep session number bytes) = IsNumber session × (number < 2 ^ 64)
FitsRequest (Get session number from length) = IsNumber session × (number < 2 ^ 64) × (from < 2 ^ 64) × (length < 2 ^ 64)
FitsRequest (Forget session floor run) = IsNumber session × (floor < 2 ^ 64) × (run.first < 2 ^ 64) × (run.last ≤ floor)
FitsRequest (ListChunks session after) = IsNumber session × (after < 2 ^ 64)
FitsRequest Room = Unit {0}

-- what a tenant writes of a request is read as that request
abbrev pub RequestsReadBack : Type 0
RequestsReadBack = (request : ChunkRequest) → FitsRequest request → chunk_request_by (words_after (spaced (request_words request))) ≡ Some request

-- a content that is told is read as these bytes
abbrev pub ContentsReadBack : Type 0
ContentsReadBack = (bytes : List ℕ) → chunk_content_of (told_content bytes) ≡ Some bytes

-- it is written in at most two bytes for each, and one more
abbrev pub ContentsAreShort : Type 0
ContentsAreShort = (bytes : List ℕ) → length (told_content bytes) ≤ 2 * length bytes + 1

-- the numbers of a listing fit in words of a line
abbrev pub FitsChunks : List ListedChunk → Type 0
FitsChunks [] = Unit {0}
FitsChunks (chunk ∷ chunks) = (chunk.number < 2 ^ 64) × (chunk.size < 2 ^ 64) × FitsChunks chunks

-- so do those that nodes of a column say
abbrev pub FitsSaying : Saying → Type 0
FitsSaying (Seeks losses session after) = (losses < 2 ^ 64) × IsNumber session × (after < 2 ^ 64)
FitsSaying (Found session after floor is_all chunks) = IsNumber session × (after < 2 ^ 64) × (floor < 2 ^ 64) × FitsChunks chunks
FitsSaying (Wants session number) = IsNumber session × (number < 2 ^ 64)
FitsSaying (Gives session number bytes) = IsNumber session × (number < 2 ^ 64)
FitsSaying (Misses session number) = IsNumber session × (number < 2 ^ 64)
FitsSaying (Spoilt session number) = IsNumber session × (number < 2 ^ 64)

-- what nodes of a column write to each other is read as that
abbrev pub SayingsReadBack : Type 0
SayingsReadBack = (saying : Saying) → FitsSaying saying → saying_by (words_after (spaced (saying_words saying))) ≡ Some saying
