-- The words of a request are read as that request.
use Rattle.std.proofs.Common.{◌≡◌, ℕ, ◌<◌, ◌≤◌, ◌^◌, List, [], ◌∷◌, Some, true, refl, ap, ◌∙◌, arith}
use Rattle.std.proofs.lemmas.Bool.{le-ltb, and_parts}
use Rattle.gq_quote.proofs.Quoting.{bytes_read_back, bytes_are_a_word}
use Rattle.gq_lines.specs.Words.{Word, words_after}
use Rattle.gq_lines.specs.Written.{spaced}
use Rattle.gq_lines.proofs.Numbers.{numbers_read_back, long_numbers_read_back}
use Rattle.gq_lines.proofs.Plain.{is_plain, are_plain, decimal_plain, long_plain}
use Rattle.gq_lines.proofs.LinesBack.{words_back}
use Rattle.gq_chunks.specs.Requests.{quoted_word, request_words, chunk_request_by}
use Rattle.gq_chunks.specs.Laws.{FitsRequest, RequestsReadBack}
use Rattle.gq_depot.specs.declared.request.ChunkRequest.{ChunkRequest}
use Rattle.gq_depot.specs.declared.request.ChunkRequest.TheVariants.{Keep, Get, Forget, List as ListChunks, Room}

quoted_plain : (bytes : List ℕ) → is_plain (quoted_word bytes) ≡ true
quoted_plain bytes = bytes_are_a_word bytes

last_fits : (last floor : ℕ) → last ≤ floor → floor < 2 ^ 64 → last < 2 ^ 64
last_fits last floor within fits = omega arith

words_plain : (request : ChunkRequest) → FitsRequest request → are_plain (request_words request) ≡ true
words_plain (Keep s n bytes) fits = rw (decimal_plain s fits.0, long_plain n fits.1, quoted_plain bytes) refl
words_plain (Get s n from length) fits = rw (decimal_plain s fits.0, long_plain n fits.1, long_plain from fits.2, long_plain length fits.3) refl
words_plain (Forget s floor run) fits = rw (decimal_plain s fits.0, long_plain floor fits.1, long_plain run.first fits.2, long_plain run.last (last_fits run.last floor fits.3 fits.1)) refl
words_plain (ListChunks s after) fits = rw (decimal_plain s fits.0, long_plain after fits.1) refl
words_plain Room fits = refl

words_are : (request : ChunkRequest) → FitsRequest request → chunk_request_by (request_words request) ≡ Some request
words_are (Keep s n bytes) fits = rw (numbers_read_back s fits.0, long_numbers_read_back n fits.1, bytes_read_back bytes) refl
words_are (Get s n from length) fits = rw (numbers_read_back s fits.0, long_numbers_read_back n fits.1, long_numbers_read_back from fits.2, long_numbers_read_back length fits.3) refl
words_are (Forget s floor run) fits =
    rw (numbers_read_back s fits.0, long_numbers_read_back floor fits.1, long_numbers_read_back run.first fits.2, long_numbers_read_back run.last (last_fits run.last floor fits.3 fits.1), le-ltb floor run.last fits.3) refl
words_are (ListChunks s after) fits = rw (numbers_read_back s fits.0, long_numbers_read_back after fits.1) refl
words_are Room fits = refl

-- the words behind a space
after_space : (words : List Word) → are_plain words ≡ true → words_after (spaced words) ≡ words
after_space [] plain = refl
after_space (word ∷ words) plain =
    let parts = and_parts (is_plain word) (are_plain words) plain in
    words_back word words parts.0 parts.1

pub requests_read_back : RequestsReadBack
requests_read_back request fits = ap chunk_request_by (after_space (request_words request) (words_plain request fits)) ∙ words_are request fits
