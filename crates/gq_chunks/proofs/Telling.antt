-- A content that is told is read again, and is short.
use Rattle.std.proofs.Common.{◌≡◌, ◌≤◌, ◌+◌, ◌*◌, ℕ, List, [], ◌∷◌, length, Bool, true, false, Some, refl, ◌∙◌, arith}
use Rattle.std.specs.Prelude.{if◌then◌else◌}
use Rattle.std.proofs.lemmas.Bool.{leb-true}
use Rattle.gq_escape.specs.Escape.{escaped}
use Rattle.gq_escape.proofs.Escaping.{at_most_twice}
use Rattle.gq_quote.specs.Quote.{quoted}
use Rattle.gq_quote.proofs.Quoting.{bytes_read_back}
use Rattle.gq_lines.specs.Written.{bytes_word}
use Rattle.gq_lines.specs.Words.{content_of}
use Rattle.gq_lines.proofs.Contents.{bytes_back}
use Rattle.gq_chunks.specs.Answers.{quotes_short}
use Rattle.gq_chunks.specs.Requests.{quoted_word, chunk_content_of}
use Rattle.gq_chunks.specs.Laws.{ContentsReadBack, ContentsAreShort}

-- no other form begins as one with Python's escapes
plain_content : (bytes : List ℕ) → chunk_content_of (bytes_word bytes) ≡ content_of (bytes_word bytes)
plain_content [] = refl
plain_content (byte ∷ bytes) = refl

pub contents_read_back : ContentsReadBack
contents_read_back bytes = by (quotes_short bytes)
  where
    by : (short : Bool) → chunk_content_of (if short then quoted_word bytes else bytes_word bytes) ≡ Some bytes
    by true = bytes_read_back bytes
    by false = plain_content bytes ∙ bytes_back bytes

plain_short : (bytes : List ℕ) → length (bytes_word bytes) ≤ 2 * length bytes + 1
plain_short [] = omega arith
plain_short (byte ∷ bytes) =
    let twice : length (escaped (byte ∷ bytes)) ≤ 2 * length (byte ∷ bytes) = at_most_twice (byte ∷ bytes) in
    omega (arith, twice)

pub contents_are_short : ContentsAreShort
contents_are_short bytes = by (quotes_short bytes) refl
  where
    by : (short : Bool) → quotes_short bytes ≡ short → length (if short then quoted_word bytes else bytes_word bytes) ≤ 2 * length bytes + 1
    by true e =
        let few : length (quoted bytes) ≤ 2 * length bytes = leb-true (length (quoted bytes)) (2 * length bytes) e in
        omega (arith, few)
    by false e = plain_short bytes
