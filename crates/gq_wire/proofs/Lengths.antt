-- The line of a letter is not too long.
use Rattle.std.proofs.Common.{◌≡◌, ℕ, zero, suc, ◌+◌, ◌*◌, ◌^◌, ◌<◌, ◌≤◌, List, [], ◌∷◌, length, true, arith, length-append}
use Rattle.std.specs.Prelude.{decimal, slice_get, unwrap_or}
use Rattle.std.proofs.lemmas.Bool.{and_parts, leb-true}
use Rattle.std.proofs.lemmas.Fmt.{length-decimal-le}
use Rattle.hex.specs.Hex.{lower_digits}
use Rattle.hex.proofs.HexLemmas.{length-encode_with}
use Rattle.gq_escape.proofs.Escaping.{at_most_twice}
use Rattle.gq_tag.specs.declared.Tag.{Tag}
use Rattle.gq_tag.specs.declared.StoredCopy.{StoredCopy}
use Rattle.gq_tag.specs.declared.Body.{Body}
use Rattle.gq_tag.specs.declared.Body.TheVariants.{Ask, Copy, Store, Stored}
use Rattle.gq_tag.specs.declared.Message.{Message}
use Rattle.gq_desk.specs.Names.{is_name}
use Rattle.gq_tag.specs.declared.TheConstants.{BLOCK_BYTES}
use Rattle.gq_desk.specs.CheckedPlan.{CheckedPlan, nobody, row_at}
use Rattle.gq_desk.specs.declared.plans.TenantRow.{TenantRow}
use Rattle.gq_lines.specs.Words.{Word}
use Rattle.gq_lines.specs.Written.{bytes_word, content_word, spaced}
use Rattle.gq_text.specs.Canonical.{IsPlan}
use Rattle.gq_wire.specs.declared.incoming.TheConstants.{BESIDE_CONTENT}
use Rattle.gq_wire.specs.Incoming.{most_blocks_of, longest_line}
use Rattle.gq_wire.specs.Texts.{copy_words, body_words, letter_words, tag_words, short_body_words, short_words}
use Rattle.gq_wire.specs.Laws.{FitsCopy, FitsBody, FitsLetter, content_length, letter_text, FitsTag, FitsShortBody, FitsShort, short_text}
use Rattle.gq_node.specs.declared.shorts.Short.{Short}
use Rattle.gq_node.specs.declared.shorts.ShortBody.{ShortBody}
use Rattle.gq_node.specs.declared.shorts.ShortBody.TheVariants.{AskAbove, Tagged, Confirm, Want}
use Rattle.gq_wire.proofs.ValuesBack.{name_at}

pub short_number : (n : ℕ) → n < 2 ^ 32 → length (decimal n) ≤ 10
short_number n fits = length-decimal-le 10 n (omega arith) (omega arith) (omega arith)

pub long_number : (n : ℕ) → n < 2 ^ 64 → length (decimal n) ≤ 20
long_number n fits = length-decimal-le 20 n (omega arith) (omega arith) fits

pub short_name : (name : Word) → is_name name ≡ true → length name ≤ 16
short_name name is = leb-true (length name) 16 (and_parts _ _ (and_parts _ _ is).0).1

-- a content of so many bytes, and for an empty one a dash
pub content_length-le : (n : ℕ) (bytes : List ℕ) → length bytes ≤ n → length (content_word bytes) ≤ 2 * n + 1
content_length-le n [] short = omega arith
content_length-le n (b ∷ bytes) short = omega (arith, length-encode_with lower_digits (b ∷ bytes))

-- the same content as its bytes
pub bytes_length-le : (n : ℕ) (bytes : List ℕ) → length bytes ≤ n → length (bytes_word bytes) ≤ 2 * n + 1
bytes_length-le n [] short = omega arith
bytes_length-le n (b ∷ bytes) short = omega (arith, at_most_twice (b ∷ bytes))

-- one word more, after a space
pub one_more : (word : Word) (words : List Word) (n k : ℕ) → length word ≤ n → length (spaced words) ≤ k → length (spaced (word ∷ words)) ≤ n + 1 + k
one_more word words n k first rest = omega (arith, length-append (32 ∷ word) (spaced words))

pub copy_short : (n : ℕ) (copy : StoredCopy) → FitsCopy copy → length copy.bytes ≤ n → length (spaced (copy_words copy)) ≤ 34 + 2 * n
copy_short n copy fits short =
    let content = one_more (bytes_word copy.bytes) [] (2 * n + 1) 0 (bytes_length-le n copy.bytes short) (omega arith) in
    let session = one_more (decimal copy.tag.session) (bytes_word copy.bytes ∷ []) 10 (2 * n + 2) (short_number copy.tag.session (omega (arith, fits.1))) (omega (arith, content)) in
    let number = one_more (decimal copy.tag.number) (decimal copy.tag.session ∷ bytes_word copy.bytes ∷ []) 20 (2 * n + 13) (long_number copy.tag.number fits.0) (omega (arith, session)) in
    omega (arith, number)

body_short : (n : ℕ) (body : Body) → FitsBody body → content_length body ≤ n → length (spaced (body_words body)) ≤ 41 + 2 * n
body_short n Ask fits short = omega arith
body_short n (Store copy) fits short = omega (arith, copy_short n copy fits short)
body_short n (Copy copy) fits short = omega (arith, copy_short n copy fits short)
body_short n Stored fits short = omega arith

-- the numbers of a heading, and what stands behind them
pub number_more : (n : ℕ) (words : List Word) (k : ℕ) → n < 2 ^ 32 → length (spaced words) ≤ k → length (spaced (decimal n ∷ words)) ≤ 11 + k
number_more n words k fits rest = omega (arith, one_more (decimal n) words 10 k (short_number n fits) rest)

words_short : (plan : CheckedPlan) (to from : ℕ) (m : Message) → IsPlan plan → FitsLetter plan to from m → length (spaced (decimal from ∷ letter_words plan m)) ≤ 124 + 2 * (BLOCK_BYTES * (row_at plan m.tenant).most_blocks)
words_short plan to from m is fits =
    let n : ℕ = BLOCK_BYTES * (row_at plan m.tenant).most_blocks in
    let body = body_short n m.body fits.body fits.short in
    let file = number_more m.file.file (body_words m.body) (41 + 2 * n) fits.file body in
    let volume = number_more m.file.volume (decimal m.file.file ∷ body_words m.body) (52 + 2 * n) fits.volume (omega (arith, file)) in
    let round = number_more m.round (decimal m.file.volume ∷ decimal m.file.file ∷ body_words m.body) (63 + 2 * n) fits.round (omega (arith, volume)) in
    let op = number_more m.op (decimal m.round ∷ decimal m.file.volume ∷ decimal m.file.file ∷ body_words m.body) (74 + 2 * n) fits.op (omega (arith, round)) in
    let session = number_more m.session (decimal m.op ∷ decimal m.round ∷ decimal m.file.volume ∷ decimal m.file.file ∷ body_words m.body) (85 + 2 * n) (omega (arith, fits.session)) (omega (arith, op)) in
    let name = one_more (row_at plan m.tenant).name (decimal m.session ∷ decimal m.op ∷ decimal m.round ∷ decimal m.file.volume ∷ decimal m.file.file ∷ body_words m.body) 16 (96 + 2 * n) (short_name (row_at plan m.tenant).name (name_at plan m.tenant is fits.tenant)) (omega (arith, session)) in
    omega (arith, number_more from (letter_words plan m) (113 + 2 * n) (omega (arith, fits.from_fits)) (omega (arith, name)))

-- ---- what the plan allows

most_of_rows : (rows : List TenantRow) (t : ℕ) → (unwrap_or (slice_get rows t) nobody).most_blocks ≤ most_blocks_of rows
most_of_rows [] t = omega arith
most_of_rows (row ∷ rows) zero = omega arith
most_of_rows (row ∷ rows) (suc t) = let later = most_of_rows rows t in omega arith

-- a content of a tenant of the plan, and what stands beside it
pub fits_longest : (plan : CheckedPlan) (t n : ℕ) → n ≤ BESIDE_CONTENT + 2 * (BLOCK_BYTES * (row_at plan t).most_blocks) → n ≤ longest_line plan
fits_longest plan t n short = let most = most_of_rows plan.rows t in omega arith

pub letter_short : (plan : CheckedPlan) (to from : ℕ) (m : Message) → IsPlan plan → FitsLetter plan to from m → length (letter_text plan to from m) ≤ longest_line plan
letter_short plan to from m is fits =
    fits_longest plan m.tenant (length (letter_text plan to from m))
    (omega (arith, length-append (decimal to) (spaced (decimal from ∷ letter_words plan m)), short_number to fits.to_fits, words_short plan to from m is fits))

-- ---- a short letter

tag_short : (tag : Tag) → FitsTag tag → length (spaced (tag_words tag)) ≤ 32
tag_short tag fits =
    let session = one_more (decimal tag.session) [] 10 0 (short_number tag.session (omega (arith, fits.1))) (omega arith) in
    omega (arith, one_more (decimal tag.number) (decimal tag.session ∷ []) 20 11 (long_number tag.number fits.0) (omega (arith, session)))

short_body_short : (body : ShortBody) → FitsShortBody body → length (spaced (short_body_words body)) ≤ 41
short_body_short (AskAbove tag) fits = omega (arith, tag_short tag fits)
short_body_short (Tagged tag) fits = omega (arith, tag_short tag fits)
short_body_short (Confirm tag) fits = omega (arith, tag_short tag fits)
short_body_short Want fits = omega arith

pub short_short : (plan : CheckedPlan) (to from : ℕ) (s : Short) → IsPlan plan → FitsShort plan to from s → length (short_text plan to from s) ≤ longest_line plan
short_short plan to from s is fits =
    let body = short_body_short s.body fits.body in
    let file = number_more s.file.file (short_body_words s.body) 41 fits.file body in
    let volume = number_more s.file.volume (decimal s.file.file ∷ short_body_words s.body) 52 fits.volume (omega (arith, file)) in
    let round = number_more s.round (decimal s.file.volume ∷ decimal s.file.file ∷ short_body_words s.body) 63 fits.round (omega (arith, volume)) in
    let op = number_more s.op (decimal s.round ∷ decimal s.file.volume ∷ decimal s.file.file ∷ short_body_words s.body) 74 fits.op (omega (arith, round)) in
    let session = number_more s.session (decimal s.op ∷ decimal s.round ∷ decimal s.file.volume ∷ decimal s.file.file ∷ short_body_words s.body) 85 (omega (arith, fits.session)) (omega (arith, op)) in
    let name = one_more (row_at plan s.tenant).name (decimal s.session ∷ decimal s.op ∷ decimal s.round ∷ decimal s.file.volume ∷ decimal s.file.file ∷ short_body_words s.body) 16 96 (short_name (row_at plan s.tenant).name (name_at plan s.tenant is fits.tenant)) (omega (arith, session)) in
    let words = number_more from (short_words plan s) 113 (omega (arith, fits.from_fits)) (omega (arith, name)) in
    fits_longest plan s.tenant (length (short_text plan to from s))
    (omega (arith, length-append (decimal to) (spaced (decimal from ∷ short_words plan s)), short_number to fits.to_fits, words))
