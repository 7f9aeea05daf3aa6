-- The line of a short letter is read as that short letter, and as none that is whole.
use Rattle.std.proofs.Common.{◌≡◌, ℕ, List, [], ◌∷◌, length, Some, None, true, false, refl, sym, ap, ◌∙◌, arith, append_assoc}
use Rattle.std.specs.Prelude.{decimal, codes, nat_lt}
use Rattle.std.proofs.lemmas.Bool.{eq-eqb, lt-ltb, le-ltb}
use Rattle.gq_tag.specs.declared.Tag.{Tag}
use Rattle.gq_tag.specs.declared.Body.TheVariants.{Ask}
use Rattle.gq_tag.specs.declared.Message.{Message}
use Rattle.gq_desk.specs.CheckedPlan.{CheckedPlan, row_at}
use Rattle.gq_lines.specs.Words.{Word}
use Rattle.gq_lines.specs.Written.{spaced}
use Rattle.gq_text.specs.Canonical.{IsPlan}
use Rattle.gq_lines.proofs.Numbers.{numbers_read_back, long_numbers_read_back}
use Rattle.gq_lines.proofs.Plain.{is_plain, are_plain, decimal_plain, long_plain, line_inner}
use Rattle.gq_lines.proofs.LinesBack.{words_back}
use Rattle.gq_node.specs.declared.lost.TheConstants.{NODE_NUMBERS}
use Rattle.gq_node.specs.declared.shorts.Short.{Short}
use Rattle.gq_node.specs.declared.shorts.ShortBody.{ShortBody}
use Rattle.gq_node.specs.declared.shorts.ShortBody.TheVariants.{AskAbove, Tagged, Confirm, Want}
use Rattle.gq_node.specs.ShortSteps.{whole_of}
use Rattle.gq_wire.specs.declared.incoming.Incoming.TheVariants.{ShortLetter}
use Rattle.gq_wire.specs.Letters.{body_of_words, letter_of_words, tag_of, short_of_words, short_from, short_letter_of}
use Rattle.gq_wire.specs.Incoming.{longest_line, from_node, short_or_nothing, incoming_of_words}
use Rattle.gq_wire.specs.Texts.{tag_words, short_body_words, short_words}
use Rattle.gq_wire.specs.Laws.{FitsTag, FitsShortBody, FitsShort, short_text, ShortsReadBack}
use Rattle.gq_wire.proofs.ValuesBack.{byte_back, name_is_plain, place_back}
use Rattle.gq_wire.proofs.Lengths.{short_short}
use Rattle.gq_wire.proofs.LettersBack.{heading, heading_back, no_tick, no_number, no_file}

-- ---- the words are plain

tag_plain : (tag : Tag) → FitsTag tag → are_plain (tag_words tag) ≡ true
tag_plain tag fits = rw (long_plain tag.number fits.0, decimal_plain tag.session (omega (arith, fits.1))) refl

short_body_plain : (body : ShortBody) → FitsShortBody body → are_plain (short_body_words body) ≡ true
short_body_plain (AskAbove tag) fits = tag_plain tag fits
short_body_plain (Tagged tag) fits = tag_plain tag fits
short_body_plain (Confirm tag) fits = tag_plain tag fits
short_body_plain Want fits = refl

short_plain : (plan : CheckedPlan) (to from : ℕ) (s : Short) → IsPlan plan → FitsShort plan to from s → are_plain (decimal from ∷ short_words plan s) ≡ true
short_plain plan to from s is fits =
    rw (
      decimal_plain from (omega (arith, fits.from_fits)),
      name_is_plain plan s.tenant is fits.tenant,
      decimal_plain s.session (omega (arith, fits.session)),
      decimal_plain s.op fits.op,
      decimal_plain s.round fits.round,
      decimal_plain s.file.volume fits.volume,
      decimal_plain s.file.file fits.file,
    ) (short_body_plain s.body fits.body)

-- ---- the words are read

tag_back : (tag : Tag) → FitsTag tag → tag_of (tag_words tag) ≡ Some tag
unfolding tag_of
tag_back tag fits = rw (long_numbers_read_back tag.number fits.0, numbers_read_back tag.session (omega (arith, fits.1)), byte_back tag.session fits.1) refl

short_body_back : (body : ShortBody) → FitsShortBody body → short_of_words (short_body_words body) ≡ Some body
unfolding short_of_words
short_body_back (AskAbove tag) fits = rw (tag_back tag fits) refl
short_body_back (Tagged tag) fits = rw (tag_back tag fits) refl
short_body_back (Confirm tag) fits = rw (tag_back tag fits) refl
short_body_back Want fits = refl

-- they are those of no whole body
no_body : (body : ShortBody) → body_of_words (short_body_words body) ≡ None
unfolding body_of_words
no_body (AskAbove tag) = refl
no_body (Tagged tag) = refl
no_body (Confirm tag) = refl
no_body Want = refl

-- the words of a short letter behind its tenant's name
abbrev behind : Short → List Word
behind s = decimal s.session ∷ decimal s.op ∷ decimal s.round ∷ decimal s.file.volume ∷ decimal s.file.file ∷ short_body_words s.body

-- a letter with this heading
abbrev headed_so : Short → Message
headed_so s = whole_of s Ask

no_letter : (plan : CheckedPlan) (to from : ℕ) (s : Short) → FitsShort plan to from s → letter_of_words to from s.tenant (behind s) ≡ None
unfolding letter_of_words
no_letter plan to from s fits = rw (heading_back (headed_so s) (short_body_words s.body) fits.session fits.op fits.round fits.volume fits.file, no_body s.body) refl

same_short : (plan : CheckedPlan) (to from : ℕ) (s : Short) → FitsShort plan to from s → short_from to from s.tenant (heading (headed_so s)) s.body ≡ s
unfolding heading
same_short plan to from s fits = λ i. record {
  tenant = s.tenant;
  session = s.session;
  op = s.op;
  round = s.round;
  server = sym fits.server i;
  file = record { tenant = sym fits.own i; volume = s.file.volume; file = s.file.file };
  body = s.body;
}

short_back : (plan : CheckedPlan) (to from : ℕ) (s : Short) → FitsShort plan to from s → short_letter_of to from s.tenant (behind s) ≡ Some s
unfolding short_letter_of heading
short_back plan to from s fits =
    rw (
      heading_back (headed_so s) (short_body_words s.body) fits.session fits.op fits.round fits.volume fits.file,
      short_body_back s.body fits.body,
      fits.in_round,
    ) (ap Some (same_short plan to from s fits))

from_back : (plan : CheckedPlan) (to from : ℕ) (s : Short) → IsPlan plan → FitsShort plan to from s → from_node plan to from (short_words plan s) ≡ ShortLetter from s
from_back plan to from s is fits =
    let rest : List Word = decimal s.op ∷ decimal s.round ∷ decimal s.file.volume ∷ decimal s.file.file ∷ short_body_words s.body in
    let none = no_file (headed_so s) fits.session rest in
    rw (
      lt-ltb from NODE_NUMBERS fits.from_fits,
      no_tick to from,
      no_number (codes "joins") (row_at plan s.tenant).name (decimal s.session) (decimal s.op) (decimal s.round ∷ decimal s.file.volume ∷ decimal s.file.file ∷ short_body_words s.body),
      no_number (codes "joined") (row_at plan s.tenant).name (decimal s.session) (decimal s.op) (decimal s.round ∷ decimal s.file.volume ∷ decimal s.file.file ∷ short_body_words s.body),
      no_number (codes "speaks") (row_at plan s.tenant).name (decimal s.session) (decimal s.op) (decimal s.round ∷ decimal s.file.volume ∷ decimal s.file.file ∷ short_body_words s.body),
      place_back plan s.tenant is fits.tenant,
      none.0,
      none.1,
      no_letter plan to from s fits,
    ) (ap (short_or_nothing from) (short_back plan to from s fits))

line_back : (plan : CheckedPlan) (to from : ℕ) (s : Short) → IsPlan plan → FitsShort plan to from s → incoming_of_words plan to (decimal to ∷ decimal from ∷ short_words plan s) ≡ ShortLetter from s
unfolding incoming_of_words
line_back plan to from s is fits =
    rw (numbers_read_back to fits.to_fits, eq-eqb to to refl, numbers_read_back from (omega (arith, fits.from_fits))) (from_back plan to from s is fits)

pub shorts_read_back : ShortsReadBack
shorts_read_back plan to from s is fits =
    let first : is_plain (decimal to) ≡ true = decimal_plain to fits.to_fits in
    let others : are_plain (decimal from ∷ short_words plan s) ≡ true = short_plain plan to from s is fits in
    let short : nat_lt (longest_line plan) (length (short_text plan to from s)) ≡ false = le-ltb (longest_line plan) (length (short_text plan to from s)) (short_short plan to from s is fits) in (
      sym (append_assoc (decimal to) (spaced (decimal from ∷ short_words plan s)) (10 ∷ [])),
      line_inner (decimal to) (decimal from ∷ short_words plan s) first others,
      rw short (ap (incoming_of_words plan to) (words_back (decimal to) (decimal from ∷ short_words plan s) first others) ∙ line_back plan to from s is fits),
    )
