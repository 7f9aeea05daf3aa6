-- The line of a letter is read as that letter.
use Rattle.std.proofs.Common.{◌≡◌, ℕ, ◌^◌, ◌<◌, List, [], ◌∷◌, length, Bool, cond, Some, None, true, false, inl, inr, refl, sym, ap, ◌∙◌, arith, append_assoc}
use Rattle.std.specs.Prelude.{decimal, codes, nat_lt, ◌==◌, ◌&&◌}
use Rattle.std.specs.Str.{bytes_eq}
use Rattle.std.proofs.lemmas.Slice.Eq.{bytes_eq-Decides}
use Rattle.std.proofs.lemmas.Bool.{cases_Bool, eq-eqb, lt-ltb, le-ltb}
use Rattle.gq_tag.specs.declared.Body.{Body}
use Rattle.gq_tag.specs.declared.Body.TheVariants.{Ask, Copy, Store, Stored}
use Rattle.gq_tag.specs.declared.Message.{Message}
use Rattle.gq_desk.specs.CheckedPlan.{CheckedPlan, row_at}
use Rattle.gq_lines.specs.Words.{Word, words_of, number_up_to, number_of}
use Rattle.gq_lines.specs.Written.{spaced}
use Rattle.gq_text.specs.Canonical.{IsPlan}
use Rattle.gq_lines.proofs.Numbers.{numbers_read_back}
use Rattle.gq_lines.proofs.Plain.{is_plain, are_plain, decimal_plain, line_inner}
use Rattle.gq_lines.proofs.LinesBack.{words_back}
use Rattle.gq_wire.specs.Incoming.{longest_line}
use Rattle.gq_wire.specs.declared.incoming.Incoming.TheVariants.{Letter}
use Rattle.gq_wire.specs.declared.letters.Heading.{Heading}
use Rattle.gq_wire.specs.Letters.{body_of_words, heading_then, message_from, letter_of_words, short_letter_of}
use Rattle.gq_wire.specs.Incoming.{from_node, letter_or, short_or_nothing, incoming_of_words}
use Rattle.gq_wire.specs.Fetching.{only_number, number_behind, fetch_of, fetched_of}
use Rattle.gq_node.specs.declared.lost.TheConstants.{NODE_NUMBERS}
use Rattle.gq_wire.specs.Texts.{body_words, letter_words}
use Rattle.gq_wire.specs.Laws.{FitsBody, FitsLetter, letter_text, LettersReadBack}
use Rattle.gq_wire.proofs.ValuesBack.{byte_back, copy_plain, copy_back, name_is_plain, place_back}
use Rattle.gq_wire.proofs.Lengths.{letter_short}

-- ---- the words are plain

body_plain : (body : Body) → FitsBody body → are_plain (body_words body) ≡ true
body_plain Ask fits = refl
body_plain (Store copy) fits = copy_plain copy fits
body_plain (Copy copy) fits = copy_plain copy fits
body_plain Stored fits = refl

letter_plain : (plan : CheckedPlan) (to from : ℕ) (m : Message) → IsPlan plan → FitsLetter plan to from m → are_plain (decimal from ∷ letter_words plan m) ≡ true
letter_plain plan to from m is fits =
    rw (
      decimal_plain from (omega (arith, fits.from_fits)),
      name_is_plain plan m.tenant is fits.tenant,
      decimal_plain m.session (omega (arith, fits.session)),
      decimal_plain m.op fits.op,
      decimal_plain m.round fits.round,
      decimal_plain m.file.volume fits.volume,
      decimal_plain m.file.file fits.file,
    ) (body_plain m.body fits.body)

-- ---- the words are read

body_back : (body : Body) → FitsBody body → body_of_words (body_words body) ≡ Some body
unfolding body_of_words
body_back Ask fits = refl
body_back (Store copy) fits = rw (copy_back copy fits) refl
body_back (Copy copy) fits = rw (copy_back copy fits) refl
body_back Stored fits = refl

-- the words of a letter behind its tenant's name
abbrev message_words : Message → List Word
message_words m = decimal m.session ∷ decimal m.op ∷ decimal m.round ∷ decimal m.file.volume ∷ decimal m.file.file ∷ body_words m.body

-- the heading of a message
unfoldable pub heading : Message → Heading
heading m = record { session = m.session; op = m.op; round = m.round; volume = m.file.volume; file = m.file.file }

pub heading_back : (m : Message) (rest : List Word) → m.session < 256 → m.op < 2 ^ 32 → m.round < 2 ^ 32 → m.file.volume < 2 ^ 32 → m.file.file < 2 ^ 32 →
    heading_then (decimal m.session ∷ decimal m.op ∷ decimal m.round ∷ decimal m.file.volume ∷ decimal m.file.file ∷ rest) ≡ Some (heading m, rest)
unfolding heading_then heading
heading_back m rest s o r v f = rw (numbers_read_back m.session (omega arith), byte_back m.session s, numbers_read_back m.op o, numbers_read_back m.round r, numbers_read_back m.file.volume v, numbers_read_back m.file.file f) refl

same_message : (plan : CheckedPlan) (to from : ℕ) (m : Message) → FitsLetter plan to from m → message_from to from m.tenant (heading m) m.body ≡ m
unfolding heading
same_message plan to from m fits = λ i. record {
  tenant = m.tenant;
  session = m.session;
  op = m.op;
  round = m.round;
  server = sym fits.server i;
  file = record { tenant = sym fits.own i; volume = m.file.volume; file = m.file.file };
  body = m.body;
}

letter_back : (plan : CheckedPlan) (to from : ℕ) (m : Message) → FitsLetter plan to from m → letter_of_words to from m.tenant (message_words m) ≡ Some m
unfolding letter_of_words heading
letter_back plan to from m fits =
    rw (
      heading_back m (body_words m.body) fits.session fits.op fits.round fits.volume fits.file,
      body_back m.body fits.body,
      fits.in_round,
    ) (ap Some (same_message plan to from m fits))

-- a letter's line has more words than a tick's, or than that which asks for a greeting
pub no_tick : (here from : ℕ) → (from == here && false) ≡ false
no_tick here from = by (from == here)
  where
    by : (b : Bool) → (b && false) ≡ false
    by true = refl
    by false = refl

-- and more than one behind its first
pub no_number : (verb word a b : Word) (words : List Word) → number_behind verb word (a ∷ b ∷ words) ≡ None
no_number verb word a b words = by (bytes_eq word verb)
  where
    by : (same : Bool) → cond same (only_number (a ∷ b ∷ words)) None ≡ None
    by true = refl
    by false = refl

-- a number is no verb
no_verb : (n : ℕ) (verb : Word) → n < 2 ^ 32 → number_of verb ≡ None → bytes_eq (decimal n) verb ≡ false
no_verb n verb fits none = elim (cases_Bool (bytes_eq (decimal n) verb)) [
  | inl same ↦ (let word : decimal n ≡ verb = (bytes_eq-Decides (decimal n) verb).0 same in let read = numbers_read_back n fits in absurd (cc (ap number_of word, read, none)))
  | inr other ↦ other
]

pub no_file : (m : Message) → m.session < 256 → (words : List Word) → (fetch_of m.tenant (decimal m.session ∷ words) ≡ None) × (fetched_of m.tenant (decimal m.session ∷ words) ≡ None)
unfolding number_up_to
no_file m small words = (rw (no_verb m.session (codes "fetch") (omega (arith, small)) refl) refl, rw (no_verb m.session (codes "fetched") (omega (arith, small)) refl) refl)

from_back : (plan : CheckedPlan) (to from : ℕ) (m : Message) → IsPlan plan → FitsLetter plan to from m → from_node plan to from (letter_words plan m) ≡ Letter from m
from_back plan to from m is fits =
    let rest : List Word = decimal m.op ∷ decimal m.round ∷ decimal m.file.volume ∷ decimal m.file.file ∷ body_words m.body in
    let none = no_file m fits.session rest in
    rw (
      lt-ltb from NODE_NUMBERS fits.from_fits,
      no_tick to from,
      no_number (codes "joins") (row_at plan m.tenant).name (decimal m.session) (decimal m.op) (decimal m.round ∷ decimal m.file.volume ∷ decimal m.file.file ∷ body_words m.body),
      no_number (codes "joined") (row_at plan m.tenant).name (decimal m.session) (decimal m.op) (decimal m.round ∷ decimal m.file.volume ∷ decimal m.file.file ∷ body_words m.body),
      no_number (codes "speaks") (row_at plan m.tenant).name (decimal m.session) (decimal m.op) (decimal m.round ∷ decimal m.file.volume ∷ decimal m.file.file ∷ body_words m.body),
      place_back plan m.tenant is fits.tenant,
      none.0,
      none.1,
    ) (ap (λ o. letter_or from o (short_or_nothing from (short_letter_of to from m.tenant (message_words m)))) (letter_back plan to from m fits))

line_back : (plan : CheckedPlan) (to from : ℕ) (m : Message) → IsPlan plan → FitsLetter plan to from m → incoming_of_words plan to (decimal to ∷ decimal from ∷ letter_words plan m) ≡ Letter from m
unfolding incoming_of_words
line_back plan to from m is fits =
    rw (numbers_read_back to fits.to_fits, eq-eqb to to refl, numbers_read_back from (omega (arith, fits.from_fits))) (from_back plan to from m is fits)

-- the words of the line
pub letter_words_back : (plan : CheckedPlan) (to from : ℕ) (m : Message) → IsPlan plan → FitsLetter plan to from m → words_of (letter_text plan to from m) ≡ decimal to ∷ decimal from ∷ letter_words plan m
letter_words_back plan to from m is fits = words_back (decimal to) (decimal from ∷ letter_words plan m) (decimal_plain to fits.to_fits) (letter_plain plan to from m is fits)

pub letters_read_back : LettersReadBack
letters_read_back plan to from m is fits =
    let first : is_plain (decimal to) ≡ true = decimal_plain to fits.to_fits in
    let others : are_plain (decimal from ∷ letter_words plan m) ≡ true = letter_plain plan to from m is fits in
    let short : nat_lt (longest_line plan) (length (letter_text plan to from m)) ≡ false = le-ltb (longest_line plan) (length (letter_text plan to from m)) (letter_short plan to from m is fits) in (
      sym (append_assoc (decimal to) (spaced (decimal from ∷ letter_words plan m)) (10 ∷ [])),
      line_inner (decimal to) (decimal from ∷ letter_words plan m) first others,
      rw short (ap (incoming_of_words plan to) (letter_words_back plan to from m is fits) ∙ line_back plan to from m is fits),
    )
