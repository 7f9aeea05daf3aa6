-- What a journal's bytes say: its batches, and where it is damaged.
use Rattle.std.specs.Prelude.{◌≡◌, ℕ, ◌+◌, ◌-◌, List, [], ◌∷◌, ◌++◌, take, drop, length, slice_index, Bool, true, false, ◌&&◌, ◌||◌, ◌==◌, nat_le, not, codes, decimal, Option, Some, if◌then◌else◌}
use Rattle.std.specs.Int.{w64, to_be_bytes}
use Rattle.std.specs.List.{flat_map, list_all, list_any}
use Rattle.std.specs.Str.{bytes_eq}
use Rattle.sha2.specs.Sha256.{sha256}
use Rattle.gq_sum.specs.Sums.{sum_of}
use Rattle.gq_lines.specs.Words.{Word, words_of, is_digit, long_number_of}
use Rattle.gq_lines.specs.Written.{content_word, spaced}

-- ---- lines

-- a line is its bytes, without the newline that ends it
abbrev pub Line : Type 0
Line = List ℕ

-- no byte of it is a newline
abbrev pub is_one_line : Line → Bool
is_one_line line = list_all (λ c. not (c == 10)) line

-- a byte before the first of lines, if there is one
abbrev pub before_line : ℕ → List Line → List Line
before_line x [] = []
before_line x (line ∷ lines) = (x ∷ line) ∷ lines

-- the lines of a text that a newline ends
abbrev pub whole_lines : List ℕ → List Line
whole_lines [] = []
whole_lines (x ∷ xs) = if x == 10 then [] ∷ whole_lines xs else before_line x (whole_lines xs)

-- a line with the newline that ends it
abbrev pub ended_line : Line → List ℕ
ended_line line = line ++ 10 ∷ []

-- the text of lines
abbrev pub lines_text : List Line → List ℕ
lines_text lines = flat_map ended_line lines

-- ---- what seals a batch

-- what SHA-256 is taken of: the batch's number, its length and its text
abbrev pub sealed_text : ℕ → List ℕ → List ℕ
sealed_text n text = decimal n ++ 32 ∷ decimal (length text) ++ 10 ∷ text

-- whether the text may have a content as bytes: a `=` comes before them, and is in no other word
abbrev pub may_have_bytes : List ℕ → Bool
may_have_bytes text = list_any (λ c. c == 61) text

-- the eight bytes by which the text is known as batch n: the sum, if it may have contents as bytes; else the first eight of SHA-256
unfoldable pub digest_of : ℕ → List ℕ → List ℕ
digest_of n text = if may_have_bytes text then to_be_bytes w64 (sum_of n text) else take 8 (sha256 (sealed_text n text))

-- their digits
unfoldable pub digest_word : ℕ → List ℕ → Word
digest_word n text = content_word (digest_of n text)

-- the line that seals the text as batch n
abbrev pub seal : ℕ → List ℕ → Line
seal n text = codes "sync" ++ spaced (decimal n ∷ decimal (length text) ∷ digest_word n text ∷ [])

-- whether the line begins as one that seals: `sync `, and a digit (the line of a tenant that is named `sync` has none there)
abbrev pub is_sealing : Line → Bool
is_sealing line = bytes_eq (take 5 line) (codes "sync ") && is_digit (slice_index line 5)

-- a line that may stand in a batch, before the one that seals it
abbrev pub is_batch_line : Line → Bool
is_batch_line line = is_one_line line && not (is_sealing line)

abbrev pub are_batch_lines : List Line → Bool
are_batch_lines lines = list_all is_batch_line lines

-- the text is that of lines that may stand in a batch
pub record CanBeSealed (text : List ℕ) : Type 0 where
  pub is : lines_text (whole_lines text) ≡ text
  pub fit : are_batch_lines (whole_lines text) ≡ true

-- ---- batches

-- the batches of the lines, the first of number n, of which these lines came before: up to the first that is not sealed right
abbrev pub batches_from : ℕ → List Line → List Line → List (List Line)
batches_from n before [] = []
batches_from n before (line ∷ lines) =
    if is_sealing line then
    (if bytes_eq line (seal n (lines_text before)) then before ∷ batches_from (n + 1) [] lines else [])
    else batches_from n (before ++ line ∷ []) lines

-- the right batches at the front of a text, the first of number n
abbrev pub batches_at : ℕ → List ℕ → List (List Line)
batches_at n text = batches_from n [] (whole_lines text)

-- those of a journal
abbrev pub batches_of : List ℕ → List (List Line)
batches_of text = batches_at 1 text

-- the text of a batch, and of batches of which the first has number n
abbrev pub batch_text : ℕ → List Line → List ℕ
batch_text n lines = lines_text lines ++ ended_line (seal n (lines_text lines))

abbrev pub journal_text : ℕ → List (List Line) → List ℕ
journal_text n [] = []
journal_text n (batch ∷ batches) = batch_text n batch ++ journal_text (n + 1) batches

-- ---- damage

-- the line seals so many bytes right before it, as a batch of that number
abbrev pub seals : List ℕ → Line → Option ℕ → Option ℕ → Bool
seals before line (Some n) (Some len) = nat_le len (length before) && bytes_eq line (seal n (drop (length before - len) before))
seals before line _ _ = false

-- the same, of the line's words
unfoldable pub seals_by : List ℕ → Line → List Word → Bool
seals_by before line (word ∷ n ∷ len ∷ words) = seals before line (long_number_of n) (long_number_of len)
seals_by before line _ = false

-- whether one of the lines seals bytes right before it, where these bytes come before the lines
abbrev pub right_in : List ℕ → List Line → Bool
right_in before [] = false
right_in before (line ∷ lines) = (is_sealing line && seals_by before line (words_of line)) || right_in (before ++ ended_line line) lines

-- whether there is a right batch anywhere in the text, of whatever number
abbrev pub has_right_batch : List ℕ → Bool
has_right_batch text = right_in [] (whole_lines text)
