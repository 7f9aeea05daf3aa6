-- A node passes over what is written to tenants and to other nodes.
use Rattle.std.proofs.Common.{◌≡◌, ℕ, List, [], ◌∷◌, ◌++◌, length, cond, Bool, None, true, false, refl, ap, ◌∙◌, append-nil}
use Rattle.std.specs.Prelude.{decimal, nat_lt}
use Rattle.std.proofs.lemmas.Bool.{ne_eqb}
use Rattle.gq_desk.specs.CheckedPlan.{CheckedPlan, row_at}
use Rattle.gq_lines.specs.Words.{Word, words_of, number_of}
use Rattle.gq_lines.specs.Written.{spaced}
use Rattle.gq_lines.proofs.Numbers.{numbers_read_back}
use Rattle.gq_lines.proofs.Plain.{is_plain, plain_parts, decimal_plain}
use Rattle.gq_wire.specs.Incoming.{longest_line}
use Rattle.gq_wire.specs.declared.incoming.Incoming.{Incoming}
use Rattle.gq_wire.specs.declared.incoming.Incoming.TheVariants.{Nothing}
use Rattle.gq_wire.specs.Incoming.{is_to, incoming_of_words}
use Rattle.gq_wire.specs.Laws.{PassesOver}
use Rattle.gq_wire.proofs.ValuesBack.{name_at, name_is_plain}
use Rattle.gq_wire.proofs.RequestsBack.{name_is_no_number}

-- a first word, and other words or none
word_first : (first : Word) (rest : List ℕ) → is_plain first ≡ true → words_of (first ++ 32 ∷ rest) ≡ first ∷ words_of rest
word_first [] rest plain = refl
word_first (c ∷ first) rest plain =
    let parts = plain_parts c first plain in
    rw (parts.0.1, word_first first rest parts.1) refl

word_only : (first : Word) → is_plain first ≡ true → words_of first ≡ first ∷ []
word_only [] plain = refl
word_only (c ∷ first) plain =
    let parts = plain_parts c first plain in
    rw (parts.0.1, word_only first parts.1) refl

some_words : (first : Word) (words : List Word) → is_plain first ≡ true → (more : List Word) × (words_of (first ++ spaced words) ≡ first ∷ more)
some_words first [] plain = ([], rw append-nil (word_only first plain))
some_words first (word ∷ words) plain = (words_of (word ++ spaced words), word_first first (word ++ spaced words) plain)

-- a line to another
to_another : (plan : CheckedPlan) (here : ℕ) (to : Word) (more : List Word) → is_to here (number_of to) ≡ false → incoming_of_words plan here (to ∷ more) ≡ Nothing
unfolding incoming_of_words
to_another plan here to [] is = refl
to_another plan here to (from ∷ body) is = rw is refl

nothing_at_any_length : (b : Bool) (x : Incoming) → x ≡ Nothing → cond b Nothing x ≡ Nothing
nothing_at_any_length true x is = refl
nothing_at_any_length false x is = is

passed_over : (plan : CheckedPlan) (here : ℕ) (line : List ℕ) (to : Word) (more : List Word) → words_of line ≡ to ∷ more → is_to here (number_of to) ≡ false → cond (nat_lt (longest_line plan) (length line)) Nothing (incoming_of_words plan here (words_of line)) ≡ Nothing
passed_over plan here line to more words is =
    nothing_at_any_length (nat_lt (longest_line plan) (length line)) (incoming_of_words plan here (words_of line)) (ap (incoming_of_words plan here) words ∙ to_another plan here to more is)

pub passes_over : PassesOver
passes_over = record {
  told = λ plan here t words is within.
      let name = (row_at plan t).name in
      let some = some_words name words (name_is_plain plan t is within) in
      let none : number_of name ≡ None = name_is_no_number name (name_at plan t is within) in
      passed_over plan here (name ++ spaced words) name some.0 some.1 (rw none refl);
  others = λ plan here to words fits other.
      let some = some_words (decimal to) words (decimal_plain to fits) in
      passed_over plan here (decimal to ++ spaced words) (decimal to) some.0 some.1 (rw (numbers_read_back to fits, ne_eqb to here other) refl);
}
