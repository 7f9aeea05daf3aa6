-- The line that seals a batch is one line of words.
use Rattle.std.proofs.Common.{◌≡◌, ℕ, zero, suc, ◌^◌, ◌<◌, List, [], ◌∷◌, ◌++◌, length, take, Bool, true, false, refl, arith, cond}
use Rattle.std.specs.Prelude.{decimal, codes}
use Rattle.std.specs.Int.{w64, bytes_high_first, to_be_bytes}
use Rattle.hex.specs.Hex.{IsBytes}
use Rattle.sha2.specs.Sha256.{sha256, digest_bytes}
use Rattle.gq_sum.specs.Sums.{sum_of}
use Rattle.gq_lines.specs.Words.{words_of}
use Rattle.gq_lines.proofs.Plain.{is_plain, are_plain, long_plain, content_plain, line_inner}
use Rattle.gq_lines.proofs.LinesBack.{words_back}
use Rattle.gq_journal.specs.Batches.{is_one_line, may_have_bytes, digest_of, digest_word, sealed_text, seal}

-- ---- a digest is bytes

bytes_append : (xs ys : List ℕ) → IsBytes xs → IsBytes ys → IsBytes (xs ++ ys)
bytes_append [] ys left right i = right i
bytes_append (x ∷ xs) ys left right zero = left 0
bytes_append (x ∷ xs) ys left right (suc i) = bytes_append xs ys (λ j. left (suc j)) right i

bytes_take : (k : ℕ) (xs : List ℕ) → IsBytes xs → IsBytes (take k xs)
bytes_take zero xs are i = omega arith
bytes_take (suc k) [] are i = are i
bytes_take (suc k) (x ∷ xs) are zero = are 0
bytes_take (suc k) (x ∷ xs) are (suc i) = bytes_take k xs (λ j. are (suc j)) i

number_bytes : (k n : ℕ) → IsBytes (bytes_high_first k n)
number_bytes zero n i = omega arith
number_bytes (suc zero) n zero = omega arith
number_bytes (suc (suc k)) n zero = omega arith
number_bytes (suc k) n (suc i) = number_bytes k n i

digest_is_bytes : (hash : List ℕ) (n : ℕ) → IsBytes (digest_bytes hash n)
unfolding digest_bytes
digest_is_bytes hash zero i = omega arith
digest_is_bytes hash (suc n) i = bytes_append (digest_bytes hash n) _ (digest_is_bytes hash n) (number_bytes 4 _) i

eight_bytes : (b : Bool) (n : ℕ) (text : List ℕ) → IsBytes (cond b (to_be_bytes w64 (sum_of n text)) (take 8 (sha256 (sealed_text n text))))
unfolding sha256
eight_bytes true n text = number_bytes 8 (sum_of n text)
eight_bytes false n text = bytes_take 8 (sha256 (sealed_text n text)) (digest_is_bytes _ 8)

digest_plain : (n : ℕ) (text : List ℕ) → is_plain (digest_word n text) ≡ true
unfolding digest_word digest_of
digest_plain n text = content_plain (digest_of n text) (eight_bytes (may_have_bytes text) n text)

-- ---- the line

seal_plain : (n : ℕ) (text : List ℕ) → n < 2 ^ 64 → length text < 2 ^ 64 → are_plain (decimal n ∷ decimal (length text) ∷ digest_word n text ∷ []) ≡ true
seal_plain n text fits short = rw (long_plain n fits, long_plain (length text) short, digest_plain n text) refl

pub seal_one : (n : ℕ) (text : List ℕ) → n < 2 ^ 64 → length text < 2 ^ 64 → is_one_line (seal n text) ≡ true
seal_one n text fits short = line_inner (codes "sync") (decimal n ∷ decimal (length text) ∷ digest_word n text ∷ []) refl (seal_plain n text fits short)

pub seal_words : (n : ℕ) (text : List ℕ) → n < 2 ^ 64 → length text < 2 ^ 64 → words_of (seal n text) ≡ codes "sync" ∷ decimal n ∷ decimal (length text) ∷ digest_word n text ∷ []
seal_words n text fits short = words_back (codes "sync") (decimal n ∷ decimal (length text) ∷ digest_word n text ∷ []) refl (seal_plain n text fits short)
