-- Lines between nodes of a column, read and written.
use Rattle.std.proofs.Common.{◌≡◌, ◌<◌, ◌^◌, ℕ, List, [], ◌∷◌, ◌++◌, length, Bool, true, false, Option, Some, None, refl, sym, ap, subst, ◌∙◌, arith, append_assoc, append-nil}
use Rattle.std.specs.Prelude.{if◌then◌else◌}
use Rattle.std.proofs.lemmas.Bool.{and_parts}
use Rattle.std.proofs.lemmas.Option.{same_Some}
use Rattle.gq_lines.specs.Words.{Word, words_after, long_number_of}
use Rattle.gq_lines.specs.Written.{spaced, bytes_word}
use Rattle.gq_lines.proofs.Numbers.{numbers_read_back, long_numbers_read_back}
use Rattle.gq_lines.proofs.Plain.{is_plain, are_plain, decimal_plain, long_plain, bytes_plain}
use Rattle.gq_lines.proofs.LinesBack.{words_back}
use Rattle.gq_quote.proofs.Quoting.{bytes_are_a_word}
use Rattle.gq_depot.specs.declared.answer.ListedChunk.{ListedChunk}
use Rattle.gq_chunks.specs.Answers.{quotes_short, told_content}
use Rattle.gq_chunks.specs.Requests.{quoted_word}
use Rattle.gq_chunks.specs.Facts.{sure_digit, sure_of}
use Rattle.gq_chunks.specs.PeerLines.{Saying, Seeks, Found, Wants, Gives, Misses, Spoilt, pair_words, saying_words, pair_then, pairs_behind, saying_by}
use Rattle.gq_chunks.specs.Laws.{FitsChunks, FitsSaying, SayingsReadBack}
use Rattle.gq_chunks.proofs.Telling.{contents_read_back}

-- ---- numbers and lengths

pairs_back : (before chunks : List ListedChunk) → FitsChunks chunks → pairs_behind before (pair_words chunks) ≡ Some (before ++ chunks)
pairs_back before [] fits = ap (λ (z : List ListedChunk). Some z) (sym (append-nil before))
pairs_back before (chunk ∷ chunks) fits =
    rw (long_numbers_read_back chunk.number fits.0, long_numbers_read_back chunk.size fits.1)
    (pairs_back (before ++ chunk ∷ []) chunks fits.2 ∙ ap (λ (z : List ListedChunk). Some z) (append_assoc before (chunk ∷ []) chunks))

pairs_plain : (chunks : List ListedChunk) → FitsChunks chunks → are_plain (pair_words chunks) ≡ true
pairs_plain [] fits = refl
pairs_plain (chunk ∷ chunks) fits = rw (long_plain chunk.number fits.0, long_plain chunk.size fits.1) (pairs_plain chunks fits.2)

abbrev no_words : List Word
no_words = []

never_some : {A X : Type 0} (x : X) → None ≡ Some x → A
never_some {A} {X} x same = absurd (let e = same in cc)

-- one pair more is read
pub pair_read : (chunks : List ListedChunk) (words rest : List Word) (chunk : ListedChunk) → pair_then words ≡ Some (chunk, rest) → (pairs_behind chunks words ≡ pairs_behind (chunks ++ chunk ∷ []) rest) × (length rest < length words)
pair_read chunks [] rest chunk is = never_some (chunk, rest) is
pair_read chunks (w ∷ []) rest chunk is = by (long_number_of w) refl
  where
    by : (n : Option ℕ) → long_number_of w ≡ n → (pairs_behind chunks (w ∷ []) ≡ pairs_behind (chunks ++ chunk ∷ []) rest) × (length rest < length (w ∷ no_words))
    by None a = never_some (chunk, rest) (sym (rw a refl) ∙ is)
    by (Some n) a = never_some (chunk, rest) (sym (rw a refl) ∙ is)
pair_read chunks (w ∷ v ∷ words) rest chunk is = by (long_number_of w) (long_number_of v) refl refl
  where
    by : (n s : Option ℕ) → long_number_of w ≡ n → long_number_of v ≡ s → (pairs_behind chunks (w ∷ v ∷ words) ≡ pairs_behind (chunks ++ chunk ∷ []) rest) × (length rest < length (w ∷ v ∷ words))
    by None s a b = never_some (chunk, rest) (sym (rw a refl) ∙ is)
    by (Some n) None a b = never_some (chunk, rest) (sym (rw (a, b) refl) ∙ is)
    by (Some n) (Some s) a b =
        let same : (record { number = n; size = s }, words) ≡ (chunk, rest) = same_Some _ _ (sym (rw (a, b) refl) ∙ is) in
        subst (λ (x : ListedChunk × List Word). (pairs_behind chunks (w ∷ v ∷ words) ≡ pairs_behind (chunks ++ x.0 ∷ []) x.1) × (length x.1 < length (w ∷ v ∷ words))) same (rw (a, b) refl, omega arith)

-- or none is
pub no_pair : (chunks : List ListedChunk) (words : List Word) (w : Word) (more : List Word) → words ≡ w ∷ more → pair_then words ≡ None → pairs_behind chunks words ≡ None
no_pair chunks [] w more is none = absurd (let e = is in cc)
no_pair chunks (a ∷ []) w more is none = refl
no_pair chunks (a ∷ v ∷ words) w more is none = by (long_number_of a) (long_number_of v) refl refl
  where
    by : (n s : Option ℕ) → long_number_of a ≡ n → long_number_of v ≡ s → pairs_behind chunks (a ∷ v ∷ words) ≡ None
    by None s x y = rw x refl
    by (Some n) None x y = rw (x, y) refl
    by (Some n) (Some s) x y = never_some (record { number = n; size = s }, words) (sym none ∙ rw (x, y) refl)

-- ---- words without a space

content_plain : (bytes : List ℕ) → is_plain (told_content bytes) ≡ true
content_plain bytes = by (quotes_short bytes)
  where
    by : (short : Bool) → is_plain (if short then quoted_word bytes else bytes_word bytes) ≡ true
    by true = bytes_are_a_word bytes
    by false = bytes_plain bytes

sure_small : (sure : Bool) → sure_digit sure < 2 ^ 32
sure_small true = omega arith
sure_small false = omega arith

sure_back : (sure : Bool) → sure_of (sure_digit sure) ≡ Some sure
sure_back true = refl
sure_back false = refl

words_plain : (saying : Saying) → FitsSaying saying → are_plain (saying_words saying) ≡ true
words_plain (Seeks p s after) fits = rw (long_plain p fits.0, decimal_plain s fits.1, long_plain after fits.2) refl
words_plain (Found s after floor is_all chunks) fits =
    rw (decimal_plain s fits.0, long_plain after fits.1, long_plain floor fits.2, decimal_plain (sure_digit is_all) (sure_small is_all)) (pairs_plain chunks fits.3)
words_plain (Wants s n) fits = rw (decimal_plain s fits.0, long_plain n fits.1) refl
words_plain (Gives s n bytes) fits = rw (decimal_plain s fits.0, long_plain n fits.1, content_plain bytes) refl
words_plain (Misses s n) fits = rw (decimal_plain s fits.0, long_plain n fits.1) refl
words_plain (Spoilt s n) fits = rw (decimal_plain s fits.0, long_plain n fits.1) refl

-- ---- read back

words_are : (saying : Saying) → FitsSaying saying → saying_by (saying_words saying) ≡ Some saying
words_are (Seeks p s after) fits = rw (long_numbers_read_back p fits.0, numbers_read_back s fits.1, long_numbers_read_back after fits.2) refl
words_are (Found s after floor is_all chunks) fits =
    rw (numbers_read_back s fits.0, long_numbers_read_back after fits.1, long_numbers_read_back floor fits.2, numbers_read_back (sure_digit is_all) (sure_small is_all), sure_back is_all, pairs_back [] chunks fits.3) refl
words_are (Wants s n) fits = rw (numbers_read_back s fits.0, long_numbers_read_back n fits.1) refl
words_are (Gives s n bytes) fits = rw (numbers_read_back s fits.0, long_numbers_read_back n fits.1, contents_read_back bytes) refl
words_are (Misses s n) fits = rw (numbers_read_back s fits.0, long_numbers_read_back n fits.1) refl
words_are (Spoilt s n) fits = rw (numbers_read_back s fits.0, long_numbers_read_back n fits.1) refl

-- the words behind a space
after_space : (words : List Word) → are_plain words ≡ true → words_after (spaced words) ≡ words
after_space [] plain = refl
after_space (word ∷ words) plain =
    let parts = and_parts (is_plain word) (are_plain words) plain in
    words_back word words parts.0 parts.1

pub sayings_read_back : SayingsReadBack
sayings_read_back saying fits = ap saying_by (after_space (saying_words saying) (words_plain saying fits)) ∙ words_are saying fits
