-- A line whose last word is `?` has no form.
use Rattle.std.proofs.Common.{◌≡◌, ℕ, List, [], ◌∷◌, ◌++◌, length, cond, Bool, Option, Some, None, true, false, refl, ap, sym, subst, ◌∙◌, append_assoc}
use Rattle.std.specs.Prelude.{◌==◌, ◌&&◌, nat_lt, codes}
use Rattle.std.specs.List.{onto_first}
use Rattle.std.specs.Str.{bytes_eq}
use Rattle.hex.proofs.HexLemmas.{decode_of-odd}
use Rattle.gq_tag.specs.declared.Body.TheVariants.{Ask, Stored}
use Rattle.gq_tag.specs.declared.FileId.{FileId}
use Rattle.gq_desk.specs.CheckedPlan.{CheckedPlan}
use Rattle.gq_model.specs.declared.events.Line.{Line}
use Rattle.gq_model.specs.declared.events.Line.TheVariants.{Read, List as ListFiles, Abandon}
use Rattle.gq_lines.specs.Words.{Word, words_of, number_up_to, number_of, long_number_of, bytes_from, content_in_digits}
use Rattle.gq_text.specs.Input.{◌>>=◌, place_named}
use Rattle.gq_lines.proofs.WordsLemmas.{some_word}
use Rattle.gq_wire.specs.Incoming.{longest_line}
use Rattle.gq_wire.specs.declared.incoming.Incoming.{Incoming}
use Rattle.gq_wire.specs.declared.incoming.Incoming.TheVariants.{Tick, Greet, Nothing}
use Rattle.gq_wire.specs.Values.{number_then, within_byte, byte_then, long_then, last_content, copy_of, alone}
use Rattle.gq_wire.specs.Questions.{mark_and_volume, look_of}
use Rattle.gq_wire.specs.Requests.{write_by, read_by, list_by, line_by, request_by, request_of}
use Rattle.gq_node.specs.declared.lost.TheConstants.{NODE_NUMBERS}
use Rattle.gq_node.specs.declared.shorts.ShortBody.TheVariants.{Want}
use Rattle.gq_wire.specs.Letters.{body_of_words, heading_then, letter_of_words, tag_of, short_of_words, short_letter_of}
use Rattle.gq_wire.specs.Fetching.{only_number, number_behind, file_then, only_file, fetch_of, with_copy, file_and_copy, fetched_of}
use Rattle.gq_wire.specs.Incoming.{behind_name, node_words, from_tenant, is_only, incoming_from, is_to, incoming_of_words}
use Rattle.gq_wire.specs.Laws.{is_formless, TornLinesHaveNoForm}
use Rattle.gq_wire.proofs.Reading.{same_request}

-- words, and a mark behind them
abbrev marked : List Word → List Word
marked words = words ++ (63 ∷ []) ∷ []

-- ---- the words of a marked text

onto_marked : (c : ℕ) (words : List Word) → (w : Word) × (ws : List Word) × (words ≡ w ∷ ws) → onto_first c (marked words) ≡ marked (onto_first c words)
onto_marked c [] some = cc (some.2)
onto_marked c (w ∷ words) some = refl

word_more : (b : Bool) (c : ℕ) (words more : List Word) → (w : Word) × (ws : List Word) × (words ≡ w ∷ ws) → more ≡ marked words → cond b ([] ∷ more) (onto_first c more) ≡ marked (cond b ([] ∷ words) (onto_first c words))
word_more true c words more some is = ap (λ ws. [] ∷ ws) is
word_more false c words more some is = ap (onto_first c) is ∙ onto_marked c words some

words_marked : (text : List ℕ) → words_of (text ++ 32 ∷ 63 ∷ []) ≡ marked (words_of text)
words_marked [] = refl
words_marked (c ∷ text) = word_more (c == 32) c (words_of text) (words_of (text ++ 32 ∷ 63 ∷ [])) (some_word text) (words_marked text)

-- ---- what leaves the mark

-- what is read leaves words whose last is the mark
IsMarked : {A : Type 0} → Option (A × List Word) → Type 0
IsMarked None = Unit {0}
IsMarked (Some x) = (words : List Word) × (x.1 ≡ marked words)

read_marked : {A : Type 0} (o : Option A) (words : List Word) → IsMarked (o >>= λ a. Some (a, marked words))
unfolding IsMarked
read_marked None words = tt
read_marked (Some a) words = (words, refl)

-- a step behind
step_marked : {A B : Type 0} (next : A × List Word → Option (B × List Word)) → ((a : A) (words : List Word) → IsMarked (next (a, marked words))) → (o : Option (A × List Word)) → IsMarked o → IsMarked (o >>= next)
unfolding IsMarked
step_marked next marks None is = tt
step_marked next marks (Some (a, ws)) is = subst (λ w. IsMarked (next (a, w))) (sym is.1) (marks a is.0)

step_fails : {A B : Type 0} (next : A × List Word → Option B) → ((a : A) (words : List Word) → next (a, marked words) ≡ None) → (o : Option (A × List Word)) → IsMarked o → (o >>= next) ≡ None
unfolding IsMarked
step_fails next fails None is = refl
step_fails next fails (Some (a, ws)) is = ap (λ w. next (a, w)) is.1 ∙ fails a is.0

number_marked : (words : List Word) → IsMarked (number_then (marked words))
unfolding IsMarked number_up_to
number_marked [] = tt
number_marked (w ∷ words) = read_marked (number_of w) words

byte_marked : (words : List Word) → IsMarked (byte_then (marked words))
unfolding IsMarked number_up_to
byte_marked [] = tt
byte_marked (w ∷ words) = by (number_of w)
  where
    by : (o : Option ℕ) → IsMarked (o >>= λ n. within_byte n >>= λ b. Some (b, marked words))
    by None = tt
    by (Some n) = read_marked (within_byte n) words

long_marked : (words : List Word) → IsMarked (long_then (marked words))
unfolding IsMarked number_up_to
long_marked [] = tt
long_marked (w ∷ words) = read_marked (long_number_of w) words

heading_marked : (words : List Word) → IsMarked (heading_then (marked words))
unfolding IsMarked heading_then
heading_marked words =
    step_marked _ (λ s ws.
    step_marked _ (λ o ws.
    step_marked _ (λ r ws.
    step_marked _ (λ v ws.
    step_marked _ (λ f ws. (ws, refl)) (number_then (marked ws)) (number_marked ws)) (number_then (marked ws)) (number_marked ws)) (number_then (marked ws)) (number_marked ws)) (number_then (marked ws)) (number_marked ws)) (byte_then (marked words)) (byte_marked words)

-- ---- what fails at it

content_fails : (words : List Word) → last_content (marked words) ≡ None
unfolding content_in_digits
content_fails [] = ap bytes_from (decode_of-odd (63 ∷ []) refl)
content_fails (w ∷ []) = refl
content_fails (w ∷ v ∷ words) = refl

alone_fails : {A : Type 0} (words : List Word) (value : A) → alone (marked words) value ≡ None
alone_fails [] value = refl
alone_fails (w ∷ words) value = refl

copy_fails : (words : List Word) → copy_of (marked words) ≡ None
unfolding copy_of
copy_fails words =
    step_fails _ (λ n ws. step_fails _ (λ s vs. rw (content_fails vs) refl) (byte_then (marked ws)) (byte_marked ws)) (long_then (marked words)) (long_marked words)

-- a choice of two that are the same
both : {A : Type 0} (b : Bool) (x y z : A) → x ≡ z → y ≡ z → cond b x y ≡ z
both true x y z here there = here
both false x y z here there = there

body_fails : (words : List Word) → body_of_words (marked words) ≡ None
unfolding body_of_words
body_fails [] = refl
body_fails (verb ∷ words) =
    rw (alone_fails words Ask, alone_fails words Stored, copy_fails words)
    (both (bytes_eq verb (codes "ask")) None _ None refl (both (bytes_eq verb (codes "store")) None _ None refl (both (bytes_eq verb (codes "copy")) None _ None refl (both (bytes_eq verb (codes "stored")) None None None refl refl))))

letter_fails : (here from t : ℕ) (words : List Word) → letter_of_words here from t (marked words) ≡ None
unfolding letter_of_words
letter_fails here from t words = step_fails _ (λ h ws. rw (body_fails ws) refl) (heading_then (marked words)) (heading_marked words)

tag_fails : (words : List Word) → tag_of (marked words) ≡ None
unfolding tag_of
tag_fails words =
    step_fails _ (λ n ws. step_fails _ (λ s vs. alone_fails vs (record { number = n; session = s })) (byte_then (marked ws)) (byte_marked ws)) (long_then (marked words)) (long_marked words)

short_body_fails : (words : List Word) → short_of_words (marked words) ≡ None
unfolding short_of_words
short_body_fails [] = refl
short_body_fails (verb ∷ words) =
    rw (alone_fails words Want, tag_fails words)
    (both (bytes_eq verb (codes "ask")) None _ None refl (both (bytes_eq verb (codes "tag")) None _ None refl (both (bytes_eq verb (codes "confirm")) None _ None refl (both (bytes_eq verb (codes "want")) None None None refl refl))))

short_fails : (here from t : ℕ) (words : List Word) → short_letter_of here from t (marked words) ≡ None
unfolding short_letter_of
short_fails here from t words = step_fails _ (λ h ws. rw (short_body_fails ws) refl) (heading_then (marked words)) (heading_marked words)

file_marked : (t : ℕ) (words : List Word) → IsMarked (file_then t (marked words))
unfolding IsMarked file_then
file_marked t words = step_marked _ (λ v ws. step_marked _ (λ f vs. (vs, refl)) (number_then (marked ws)) (number_marked ws)) (number_then (marked words)) (number_marked words)

only_file_fails : (o : Option (FileId × List Word)) → IsMarked o → only_file o ≡ None
unfolding IsMarked
only_file_fails None is = refl
only_file_fails (Some x) is = ap (λ ws. alone ws x.0) is.1 ∙ alone_fails is.0 x.0

fetch_fails : (t : ℕ) (words : List Word) → fetch_of t (marked words) ≡ None
fetch_fails t [] = refl
fetch_fails t (verb ∷ words) = both (bytes_eq verb (codes "fetch")) _ None None (only_file_fails (file_then t (marked words)) (file_marked t words)) refl

copy_behind_fails : (o : Option (FileId × List Word)) → IsMarked o → file_and_copy o ≡ None
unfolding IsMarked
copy_behind_fails None is = refl
copy_behind_fails (Some x) is = ap (with_copy x.0) (ap copy_of is.1 ∙ copy_fails is.0)

fetched_fails : (t : ℕ) (words : List Word) → fetched_of t (marked words) ≡ None
fetched_fails t [] = refl
fetched_fails t (verb ∷ words) = both (bytes_eq verb (codes "fetched")) _ None None (copy_behind_fails (file_then t (marked words)) (file_marked t words)) refl

only_number_fails : (words : List Word) → only_number (marked words) ≡ None
unfolding number_up_to
only_number_fails [] = refl
only_number_fails (w ∷ []) = refl
only_number_fails (w ∷ v ∷ words) = refl

number_behind_fails : (verb word : Word) (words : List Word) → number_behind verb word (marked words) ≡ None
number_behind_fails verb word words = both (bytes_eq word verb) _ None None (only_number_fails words) refl

write_fails : (k : ℕ) (words : List Word) → write_by k (marked words) ≡ None
write_fails k words =
    step_fails _ (λ v ws. step_fails _ (λ f vs. rw (content_fails vs) refl) (number_then (marked ws)) (number_marked ws)) (number_then (marked words)) (number_marked words)

read_fails : (k : ℕ) (words : List Word) → read_by k (marked words) ≡ None
read_fails k words =
    step_fails _ (λ v ws. step_fails _ (λ f vs. alone_fails vs (Read k v f)) (number_then (marked ws)) (number_marked ws)) (number_then (marked words)) (number_marked words)

list_fails : (k : ℕ) (words : List Word) → list_by k (marked words) ≡ None
list_fails k words = step_fails _ (λ v ws. alone_fails ws (ListFiles k v)) (number_then (marked words)) (number_marked words)

line_fails : (verb : Word) (k : ℕ) (words : List Word) → line_by verb k (marked words) ≡ None
line_fails verb k words =
    both (bytes_eq verb (codes "write")) _ _ None (write_fails k words)
    (both (bytes_eq verb (codes "read")) _ _ None (read_fails k words)
    (both (bytes_eq verb (codes "list")) _ _ None (list_fails k words)
    (both (bytes_eq verb (codes "abandon")) _ _ None (alone_fails words (Abandon k)) refl)))

by_words_fails : (words : List Word) → request_by (marked words) ≡ None
unfolding request_by
by_words_fails [] = refl
by_words_fails (verb ∷ words) =
    step_fails (λ (k : ℕ × List Word). number_then k.1 >>= λ (op : ℕ × List Word). line_by verb k.0 op.1 >>= λ line. Some (op.0, line))
    (λ k ws. step_fails (λ (op : ℕ × List Word). line_by verb k op.1 >>= λ line. Some (op.0, line)) (λ op vs. ap (λ (l : Option Line). l >>= λ line. Some (op, line)) (line_fails verb k vs)) (number_then (marked ws)) (number_marked ws))
    (number_then (marked words)) (number_marked words)

request_fails : (words : List Word) → request_of (marked words) ≡ None
request_fails words = sym (same_request (marked words)) ∙ by_words_fails words

mark_fails : (words : List Word) → mark_and_volume (marked words) ≡ None
unfolding mark_and_volume
mark_fails words =
    step_fails _ (λ n ws. step_fails _ (λ v vs. alone_fails vs (n, v)) (number_then (marked ws)) (number_marked ws)) (long_then (marked words)) (long_marked words)

look_fails : (words : List Word) → look_of (marked words) ≡ None
look_fails [] = refl
look_fails (verb ∷ words) = both (bytes_eq verb (codes "look")) _ None None (mark_fails words) refl

-- ---- the line

only_fails : (word : Word) → bytes_eq (63 ∷ []) word ≡ false → (words : List Word) → is_only word (marked words) ≡ false
only_fails word other [] = other
only_fails word other (w ∷ []) = refl
only_fails word other (w ∷ v ∷ words) = refl

tenant_formless : (o : Option ℕ) (words : List Word) → is_only (codes "plan") words ≡ false → look_of words ≡ None → request_of words ≡ None → is_formless (from_tenant o words) ≡ true
tenant_formless None words no_plan no_look fails = refl
tenant_formless (Some t) words no_plan no_look fails = rw (no_plan, no_look, fails) refl

-- a choice of two of which one is that nothing is done
chosen : (b : Bool) (x : Incoming) → is_formless x ≡ true → (is_formless (cond b x Nothing) ≡ true) × (is_formless (cond b Nothing x) ≡ true)
chosen true x is = (is, refl)
chosen false x is = (refl, is)

no_tick : (b : Bool) (x : Incoming) → is_formless x ≡ true → is_formless (cond (b && false) Tick (cond (b && false) Greet x)) ≡ true
no_tick true x is = is
no_tick false x is = is

-- behind the name of a tenant, if there is one
name_formless : (here from : ℕ) (o : Option ℕ) (words : List Word) → is_formless (behind_name here from o (marked words)) ≡ true
name_formless here from None words = refl
name_formless here from (Some t) words = rw (fetch_fails t words, fetched_fails t words, letter_fails here from t words, short_fails here from t words) refl

-- the mark alone names nobody, and is no verb
mark_formless : (here from : ℕ) (o : Option ℕ) → is_formless (behind_name here from o []) ≡ true
unfolding letter_of_words short_letter_of heading_then
mark_formless here from None = refl
mark_formless here from (Some t) = refl

node_formless : (plan : CheckedPlan) (here from : ℕ) (words : List Word) → is_formless (node_words plan here from (marked words)) ≡ true
node_formless plan here from [] = mark_formless here from (place_named plan (63 ∷ []))
node_formless plan here from (word ∷ words) =
    rw (number_behind_fails (codes "joins") word words, number_behind_fails (codes "joined") word words, number_behind_fails (codes "speaks") word words) (name_formless here from (place_named plan word) words)

from_formless : (plan : CheckedPlan) (here : ℕ) (from : Option ℕ) (word : Word) (words : List Word) → is_formless (incoming_from plan here from word (marked words)) ≡ true
from_formless plan here None word words = tenant_formless (place_named plan word) (marked words) (only_fails (codes "plan") refl words) (look_fails words) (request_fails words)
from_formless plan here (Some n) word words =
    rw (only_fails (codes "tick") refl words, only_fails (codes "greet") refl words) (chosen (nat_lt n NODE_NUMBERS) (cond (n == here && false) Tick (cond (n == here && false) Greet (node_words plan here n (marked words)))) (no_tick (n == here) (node_words plan here n (marked words)) (node_formless plan here n words))).0

words_formless : (plan : CheckedPlan) (here : ℕ) (words : List Word) → is_formless (incoming_of_words plan here (marked words)) ≡ true
unfolding incoming_of_words number_up_to request_of
words_formless plan here [] = refl
words_formless plan here (to ∷ []) = (chosen (is_to here (number_of to)) (from_tenant (place_named plan (63 ∷ [])) []) (tenant_formless (place_named plan (63 ∷ [])) [] refl refl refl)).0
words_formless plan here (to ∷ from ∷ words) = (chosen (is_to here (number_of to)) (incoming_from plan here (number_of from) from (marked words)) (from_formless plan here (number_of from) from words)).0

pub torn_lines_have_no_form : TornLinesHaveNoForm
torn_lines_have_no_form plan here torn =
    let formless : is_formless (incoming_of_words plan here (words_of (torn ++ 32 ∷ 63 ∷ []))) ≡ true = ap (λ ws. is_formless (incoming_of_words plan here ws)) (words_marked torn) ∙ words_formless plan here (words_of torn) in (
      sym (append_assoc torn (32 ∷ 63 ∷ []) (10 ∷ [])),
      (chosen (nat_lt (longest_line plan) (length (torn ++ 32 ∷ 63 ∷ []))) (incoming_of_words plan here (words_of (torn ++ 32 ∷ 63 ∷ []))) formless).1,
    )
