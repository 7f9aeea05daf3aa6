-- What arrives, word by word as it is read.
use Rattle.std.proofs.Common.{◌≡◌, ◌∙◌, ℕ, ◌<◌, List, [], ◌∷◌, option_map, cond, length, Option, Some, None, Bool, true, false, not, eqb, refl, sym, ap, subst}
use Rattle.std.specs.Prelude.{Result, Ok, Err, IfOk, IfSome, codes}
use Rattle.std.specs.Str.{bytes_eq}
use Rattle.std.proofs.lemmas.Bool.{eq-eqb, eqb-true, not-false}
use Rattle.std.specs.Option.{option_eq}
use Rattle.gq_tag.specs.declared.Body.{Body}
use Rattle.gq_tag.specs.declared.FileId.{FileId}
use Rattle.gq_tag.specs.declared.Message.{Message}
use Rattle.gq_tag.specs.declared.StoredCopy.{StoredCopy}
use Rattle.gq_desk.specs.CheckedPlan.{CheckedPlan}
use Rattle.gq_model.specs.declared.events.Line.{Line}
use Rattle.gq_lines.specs.Words.{Word, number_of}
use Rattle.gq_text.specs.Input.{◌>>=◌}
use Rattle.gq_wire.specs.declared.letters.Heading.{Heading}
use Rattle.gq_wire.specs.Values.{number_then, copy_of}
use Rattle.gq_wire.specs.Requests.{line_by, request_by, request_of}
use Rattle.gq_wire.proofs.Reading.{same_request}
use Rattle.gq_node.specs.declared.shorts.Short.{Short}
use Rattle.gq_node.specs.declared.shorts.ShortBody.{ShortBody}
use Rattle.gq_node.specs.Shorts.{body_with}
use Rattle.gq_wire.specs.declared.incoming.Incoming.{Incoming}
use Rattle.gq_wire.specs.Letters.{body_of_words, heading_then, is_of_round, message_from, in_round, letter_of_words, short_of_words, short_from, short_in_round, short_letter_of}
use Rattle.gq_wire.specs.Fetching.{file_then, only_file, fetch_of, with_copy, file_and_copy, fetched_of}
use Rattle.gq_wire.specs.Incoming.{fetch_or, fetched_or, letter_or, short_or_nothing, behind_name, incoming_from, incoming_of_words, FitsPlan}

-- a verb, a session, a number, and what is asked, or one of these wanting
pub request_arrives : (words ws ks os : List Word) (verb : Word) (k op : ℕ) (line : Option Line) → words ≡ verb ∷ ws → number_then ws ≡ Some (k, ks) → number_then ks ≡ Some (op, os) → line_by verb k os ≡ line →
    option_map (λ (x : Line). (op, x)) line ≡ request_of words
unfolding request_by
request_arrives words ws ks os verb k op None first session number asked = (rw (first, session, number, asked) refl) ∙ same_request words
request_arrives words ws ks os verb k op (Some line) first session number asked = (rw (first, session, number, asked) refl) ∙ same_request words

pub no_words : (words : List Word) → words ≡ [] → None ≡ request_of words
unfolding request_by
no_words words is = (rw is refl) ∙ same_request words

pub no_session : (words ws : List Word) (verb : Word) → words ≡ verb ∷ ws → number_then ws ≡ None → None ≡ request_of words
unfolding request_by
no_session words ws verb first session = (rw (first, session) refl) ∙ same_request words

pub no_number : (words ws ks : List Word) (verb : Word) (k : ℕ) → words ≡ verb ∷ ws → number_then ws ≡ Some (k, ks) → number_then ks ≡ None → None ≡ request_of words
unfolding request_by
no_number words ws ks verb k first session number = (rw (first, session, number) refl) ∙ same_request words

-- a heading and a body
pub letter_arrives : (here from t : ℕ) (words bs : List Word) (h : Heading) (body : Body) → heading_then words ≡ Some (h, bs) → body_of_words bs ≡ Some body
    → in_round (message_from here from t h body) ≡ letter_of_words here from t words
unfolding letter_of_words
letter_arrives here from t words bs h body heading last = rw (heading, last) refl

-- ---- whose it is

named : (t volume file : ℕ) → FileId
named t volume file = record { tenant = t; volume = volume; file = file }

-- the file that is named is the tenant's
then_own : (t : ℕ) (words : List Word) → IfSome (file_then t words) (λ x. x.0.tenant ≡ t)
unfolding file_then named
then_own t words = by (number_then words)
  where
    last : (v : ℕ) (f : Option (ℕ × List Word)) → IfSome {T = FileId × List Word} (f >>= λ (x : ℕ × List Word). Some (named t v x.0, x.1)) (λ x. x.0.tenant ≡ t)
    last v None = tt
    last v (Some f) = refl

    by : (v : Option (ℕ × List Word)) → IfSome {T = FileId × List Word} (v >>= λ (x : ℕ × List Word). number_then x.1 >>= λ (y : ℕ × List Word). Some (named t x.0 y.0, y.1)) (λ x. x.0.tenant ≡ t)
    by None = tt
    by (Some v) = last v.0 (number_then v.1)

only_own : (t : ℕ) (o : Option (FileId × List Word)) → IfSome o (λ x. x.0.tenant ≡ t) → IfSome (only_file o) (λ file. file.tenant ≡ t)
only_own t None own = tt
only_own t (Some (file, [])) own = own
only_own t (Some (file, w ∷ words)) own = tt

fetch_own : (t : ℕ) (words : List Word) → IfSome (fetch_of t words) (λ file. file.tenant ≡ t)
fetch_own t [] = tt
fetch_own t (verb ∷ words) = by (bytes_eq verb (codes "fetch"))
  where
    by : (b : Bool) → IfSome (cond b (only_file (file_then t words)) None) (λ file. file.tenant ≡ t)
    by true = only_own t (file_then t words) (then_own t words)
    by false = tt

given_own : (t : ℕ) (o : Option (FileId × List Word)) → IfSome o (λ x. x.0.tenant ≡ t) → IfSome (file_and_copy o) (λ x. x.0.tenant ≡ t)
given_own t None own = tt
given_own t (Some (file, words)) own = by (copy_of words)
  where
    by : (o : Option StoredCopy) → IfSome (with_copy file o) (λ x. x.0.tenant ≡ t)
    by None = tt
    by (Some copy) = own

fetched_own : (t : ℕ) (words : List Word) → IfSome (fetched_of t words) (λ x. x.0.tenant ≡ t)
fetched_own t [] = tt
fetched_own t (verb ∷ words) = by (bytes_eq verb (codes "fetched"))
  where
    by : (b : Bool) → IfSome (cond b (file_and_copy (file_then t words)) None) (λ x. x.0.tenant ≡ t)
    by true = given_own t (file_then t words) (then_own t words)
    by false = tt

letter_own : (plan : CheckedPlan) (here from t : ℕ) (words : List Word) (other : Incoming) → t < length plan.rows → FitsPlan plan other → FitsPlan plan (letter_or from (letter_of_words here from t words) other)
unfolding letter_of_words
letter_own plan here from t words other within fits = heading (heading_then words)
  where
    round : (b : Bool) (m : Message) → m.tenant ≡ t → m.file.tenant ≡ t → FitsPlan plan (letter_or from (cond b (Some m) None) other)
    round true m own file = (subst (λ n. n < length plan.rows) (sym own) within, file ∙ sym own)
    round false m own file = fits

    body : (h : Heading) (o : Option Body) → FitsPlan plan (letter_or from (o >>= λ body. in_round (message_from here from t h body)) other)
    body h None = fits
    body h (Some b) = round (is_of_round h.round b) (message_from here from t h b) refl refl

    heading : (o : Option (Heading × List Word)) → FitsPlan plan (letter_or from (o >>= λ (h : Heading × List Word). body_of_words h.1 >>= λ body. in_round (message_from here from t h.0 body)) other)
    heading None = fits
    heading (Some h) = body h.0 (body_of_words h.1)

short_own : (plan : CheckedPlan) (here from t : ℕ) (words : List Word) → t < length plan.rows → FitsPlan plan (short_or_nothing from (short_letter_of here from t words))
unfolding short_letter_of
short_own plan here from t words within = heading (heading_then words)
  where
    round : (b : Bool) (s : Short) → s.tenant ≡ t → s.file.tenant ≡ t → FitsPlan plan (short_or_nothing from (cond b (Some s) None))
    round true s own file = (subst (λ n. n < length plan.rows) (sym own) within, file ∙ sym own)
    round false s own file = tt

    body : (h : Heading) (o : Option ShortBody) → FitsPlan plan (short_or_nothing from (o >>= λ body. short_in_round (short_from here from t h body)))
    body h None = tt
    body h (Some b) = round (is_of_round h.round (body_with [] b)) (short_from here from t h b) refl refl

    heading : (o : Option (Heading × List Word)) → FitsPlan plan (short_or_nothing from (o >>= λ (h : Heading × List Word). short_of_words h.1 >>= λ body. short_in_round (short_from here from t h.0 body)))
    heading None = tt
    heading (Some h) = body h.0 (short_of_words h.1)

pub behind_fits : (plan : CheckedPlan) (here from t : ℕ) (words : List Word) → t < length plan.rows → FitsPlan plan (behind_name here from (Some t) words)
behind_fits plan here from t words within = asked (fetch_of t words) (fetch_own t words)
  where
    rest : Incoming
    rest = letter_or from (letter_of_words here from t words) (short_or_nothing from (short_letter_of here from t words))

    given : (o : Option (FileId × StoredCopy)) → IfSome o (λ x. x.0.tenant ≡ t) → FitsPlan plan (fetched_or from o rest)
    given None own = letter_own plan here from t words (short_or_nothing from (short_letter_of here from t words)) within (short_own plan here from t words within)
    given (Some x) own = subst (λ n. n < length plan.rows) (sym own) within

    asked : (o : Option FileId) → IfSome o (λ file. file.tenant ≡ t) → FitsPlan plan (fetch_or from o (fetched_or from (fetched_of t words) rest))
    asked None own = given (fetched_of t words) (fetched_own t words)
    asked (Some file) own = subst (λ n. n < length plan.rows) (sym own) within

-- what was read is such, where what is such is so
pub ok_more : {T E : Type 0} (r : Result T E) (P Q : T → Type 0) → ((x : T) → P x → Q x) → IfOk r P → IfOk r Q
ok_more (Ok x) P Q more holds = more x holds
ok_more (Err e) P Q more holds = tt

-- ---- to whom

-- a line to this node
pub line_arrives : (plan : CheckedPlan) (here : ℕ) (words body : List Word) (to from : Word) → words ≡ to ∷ from ∷ body → number_of to ≡ Some here → incoming_from plan here (number_of from) from body ≡ incoming_of_words plan here words
unfolding incoming_of_words
line_arrives plan here words body to from first here_is = rw (first, here_is, eq-eqb here here refl) refl

-- ---- tests

-- a number that was compared
pub is_some_of : (o : Option ℕ) (n : ℕ) → not (option_eq eqb o (Some n)) ≡ false → o ≡ Some n
is_some_of None n is = cc
is_some_of (Some m) n is = ap Some (eqb-true m n (not-false (eqb m n) is))
