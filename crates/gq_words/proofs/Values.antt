-- What is read of the matches is what stands in their rows.
use Rattle.std.proofs.Common.{◌≡◌, ◌∙◌, ℕ, List, [], ◌∷◌, codes, Bool, true, false, cond, Option, Some, None, Result, option_map, map, refl, sym, ap, subst}
use Rattle.std.specs.Prelude.{find, option_and_then, slice_get, unwrap_or}
use Rattle.std.specs.Borrow.{Bor}
use Rattle.std.specs.Str.{bytes_eq}
use Rattle.std.specs.Str.Parse.{ParsesUnsigned, ExplainsUnsignedError, HasUnsignedDigitsIfOk}
use Rattle.std.specs.declared.num.ParseIntError.{ParseIntError}
use Rattle.clap.specs.Facts.{Entry}
use Rattle.clap.specs.Matches.{ReadsOne, first_value, one_text}
use Rattle.clap.specs.Walk.{Row, Text, first_of, one_of, row_of, row_text, rows_of, texts}
use Rattle.clap.specs.Values.{read_as}
use Rattle.clap.specs.declared.builder.value_parser.Reading.{Reading}
use Rattle.clap.specs.Simple.{App, HasMatchesOf, is_simple, subcommand_rows_of}
use Rattle.clap.specs.declared.parser.matches.ArgMatches.{ArgMatches}
use Rattle.clap.specs.declared.parser.matches.Found.{Found}
use Rattle.gq_words.specs.Given.{IsFlagGiven, IsFlagIn, IsNumberGiven, IsNumberIn, given_by, rows_behind, text_given}

first_text : (values : List (Bor Text)) → slice_get (texts values) 0 ≡ option_map (λ s. s.now) (slice_get values 0)
first_text [] = refl
first_text (x ∷ values) = refl

read_text : (how : Reading) (values : List (Bor Text)) → option_map (read_as how) (slice_get (texts values) 0) ≡ option_map (λ s. read_as how s.now) (slice_get values 0)
read_text how [] = refl
read_text how (x ∷ values) = refl

-- what is read of the first row of an id is what is read of its entry
found_row : {A : Type 0} (of : Row → Option A) (entries : List Entry) (id : Text)
    → option_and_then of (find (λ r. bytes_eq r.id id) (map row_of entries)) ≡ option_and_then (λ e. of (row_of e)) (find (λ e. bytes_eq e.0.now id) entries)
found_row of [] id = refl
found_row {A} of (e ∷ entries) id = by (bytes_eq e.0.now id) (found_row of entries id)
  where
    by : (b : Bool) → option_and_then of (find (λ r. bytes_eq r.id id) (map row_of entries)) ≡ option_and_then (λ e. of (row_of e)) (find (λ e. bytes_eq e.0.now id) entries)
        → option_and_then of (cond b (Some (row_of e)) (find (λ r. bytes_eq r.id id) (map row_of entries))) ≡ option_and_then (λ e. of (row_of e)) (cond b (Some e) (find (λ e. bytes_eq e.0.now id) entries))
    by true later = refl
    by false later = later

same_of : {A : Type 0} (entry : Option Entry) (f : Entry → Option A) (g : Entry → Option A) → ((e : Entry) → f e ≡ g e) → option_and_then f entry ≡ option_and_then g entry
same_of None f g same = refl
same_of (Some e) f g same = same e

through : {A B C : Type 0} (o : Option A) (f : A → B) (g : B → Option C) → option_and_then g (option_map f o) ≡ option_and_then (λ a. g (f a)) o
through None f g = refl
through (Some a) f g = refl

pub first_in_rows : (f : Found) (id : Text) → first_of id (rows_of f) ≡ first_value f id
first_in_rows f id =
    found_row (λ r. slice_get r.values 0) f.entries.items id
    ∙ same_of (find (λ e. bytes_eq e.0.now id) f.entries.items) _ (λ e. option_map (λ s. s.now) (slice_get e.1.vals.items 0)) (λ e. first_text e.1.vals.items)
    ∙ sym (through (find (λ e. bytes_eq e.0.now id) f.entries.items) (λ e. e.1) (λ a. option_map (λ s. s.now) (slice_get a.vals.items 0)))

pub one_in_rows : (f : Found) (id : Text) → one_of id (rows_of f) ≡ one_text f id
one_in_rows f id =
    found_row row_text f.entries.items id
    ∙ same_of (find (λ e. bytes_eq e.0.now id) f.entries.items) _ (λ e. option_map (λ s. read_as e.1.reading s.now) (slice_get e.1.vals.items 0)) (λ e. read_text e.1.reading e.1.vals.items)
    ∙ sym (through (find (λ e. bytes_eq e.0.now id) f.entries.items) (λ e. e.1) (λ a. option_map (λ s. read_as a.reading s.now) (slice_get a.vals.items 0)))

pub text_read : (f : Found) (id : Text) (read : Option (Bor Text)) (otherwise : Bor Text) → option_map (λ s. s.now) read ≡ first_value f id → otherwise.now ≡ []
    → (unwrap_or read otherwise).now ≡ text_given (rows_of f) id
text_read f id read otherwise is empty = by read ∙ ap (λ o. unwrap_or o []) (is ∙ sym (first_in_rows f id))
  where
    by : (o : Option (Bor Text)) → (unwrap_or o otherwise).now ≡ unwrap_or (option_map (λ s. s.now) o) []
    by None = empty
    by (Some text) = refl

abbrev Gives : List ℕ → Result ℕ ParseIntError → Type 0
Gives bs r = ParsesUnsigned 32 10 bs r × ExplainsUnsignedError 10 bs r × HasUnsignedDigitsIfOk bs r

number_in : (text : Option Text) (read : Option ℕ) (otherwise : ℕ) → (text ≡ None → read ≡ None) → ((t : List ℕ) → text ≡ Some t → ReadsOne Gives t read)
    → IsNumberIn text otherwise (unwrap_or read otherwise)
number_in None read otherwise none value = rw (none refl) refl
number_in (Some text) None otherwise none value = ((λ is. absurd ((value text refl).1.0 is)), (λ no. refl))
number_in (Some text) (Some number) otherwise none value = ((λ is. sym (value text refl).0.1), (λ no. absurd (no (value text refl).0.0)))

pub number_read : (f : Found) (id : Text) (read : Option ℕ) (otherwise : ℕ) → (one_text f id ≡ None → read ≡ None) → ((t : List ℕ) → one_text f id ≡ Some t → ReadsOne Gives t read)
    → IsNumberGiven (rows_of f) id otherwise (unwrap_or read otherwise)
number_read f id read otherwise none value =
    let P : Option Text → Type 0 = λ text. IsNumberIn text otherwise (unwrap_or read otherwise) in
    subst P (sym (one_in_rows f id)) (number_in (one_text f id) read otherwise none value)

-- what was found is what the words give
pub given_is : (app : App) (words : List Text) (m : ArgMatches) (P : List Row → Type 0) → is_simple app ≡ true → HasMatchesOf app words m → P (rows_behind (subcommand_rows_of m)) → P (given_by app words)
given_is app words m P simple has values =
    let Q : Option (Text × List Row) → Type 0 = λ found. P (rows_behind found) in
    subst Q (has simple).1 values

pub flag_read : (f : Found) (id : Text) (flag : Bool) → (one_text f id ≡ None → flag ≡ false) → (one_text f id ≡ Some (codes "true") → flag ≡ true) → (one_text f id ≡ Some (codes "false") → flag ≡ false)
    → IsFlagGiven (rows_of f) id flag
flag_read f id flag none set unset =
    let P : Option Text → Type 0 = λ text. IsFlagIn text flag in
    subst P (sym (one_in_rows f id)) (by (one_text f id) refl)
  where
    by : (text : Option Text) → one_text f id ≡ text → IsFlagIn text flag
    by None is = none is
    by (Some text) is = ((λ same. set (is ∙ ap Some same)), (λ same. unset (is ∙ ap Some same)))
