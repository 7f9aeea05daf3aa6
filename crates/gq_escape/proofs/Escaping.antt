-- Bytes that are written and read.
use Rattle.std.proofs.Common.{◌≡◌, ℕ, zero, suc, ◌+◌, ◌-◌, ◌<◌, ◌≤◌, List, [], ◌∷◌, ◌++◌, length, get_or, take, drop, Some, None, Option, Bool, true, false, refl, sym, ap, ◌∙◌, arith, append_assoc, length-drop, cond, eqb, map, replicate, w8, ◌%◌, ◌^◌, ◌⊎◌, inl, inr}
use Rattle.std.specs.Prelude.{◌==◌, ◌||◌, not, Result, Ok, Err, is_ok, OnOk}
use Rattle.std.proofs.Math.Seq.{take-length}
use Rattle.std.specs.List.{prefix_len}
use Rattle.std.proofs.lemmas.Bool.{ne_eqb, eq-eqb, eqb-true, cases_lt}
use Rattle.std.specs.Simd.Lanes.{zip2, mask_l, top}
use Rattle.std.proofs.lemmas.Simd.{tops_compared, mask_l-mod, leading_from_mask_l, trailing_mask_l}
use Rattle.std.proofs.lemmas.List.Sums.{prefix_len_passes, prefix_len_stops, prefix_len-le-length}
use lib.Count.{count_trailing_zeros}
use Rattle.std.proofs.lemmas.List.{length-map}
use Rattle.memchr.specs.Find.{IsFirstByte, is_byte, is_byte3}
use Rattle.gq_escape.specs.Escape.{escape, escaped, before, bytes_after, unescaped, is_word}
use Rattle.gq_escape.specs.Laws.{BytesReadBack, BytesAreAWord, AtMostTwice}

-- ---- a byte that is written as itself

pub plain_escape : (c : ℕ) → (c == 10) ≡ false → (c == 32) ≡ false → (c == 92) ≡ false → escape c ≡ c ∷ []
plain_escape c x y z = rw (x, y, z) refl

plain_step : (a b d : Bool) (c : ℕ) → (c == 10) ≡ a → (c == 32) ≡ b → (c == 92) ≡ d → (is_byte3 10 32 92 c ≡ true → ⊥) → escape c ≡ c ∷ []
plain_step true b d c x y z not_one = absurd (not_one (rw x refl))
plain_step false true d c x y z not_one = absurd (not_one (rw (x, y) refl))
plain_step false false true c x y z not_one = absurd (not_one (rw (x, y, z) refl))
plain_step false false false c x y z not_one = plain_escape c x y z

written_as_itself : (c : ℕ) → (is_byte3 10 32 92 c ≡ true → ⊥) → escape c ≡ c ∷ []
written_as_itself c not_one = plain_step (c == 10) (c == 32) (c == 92) c refl refl refl not_one

-- ---- laws

back_step : (a b d : Bool) (c : ℕ) (bytes rest : List ℕ) → (c == 10) ≡ a → (c == 32) ≡ b → (c == 92) ≡ d → unescaped rest ≡ Some bytes → unescaped (escape c ++ rest) ≡ Some (c ∷ bytes)
back_step true b d c bytes rest x y z is = rw (x, is, eqb-true c 10 x) refl
back_step false true d c bytes rest x y z is = rw (x, y, is, eqb-true c 32 y) refl
back_step false false true c bytes rest x y z is = rw (x, y, z, is, eqb-true c 92 z) refl
back_step false false false c bytes rest x y z is = rw (plain_escape c x y z) (rw (z, is) refl)

pub bytes_read_back : BytesReadBack
bytes_read_back [] = refl
bytes_read_back (c ∷ bytes) = back_step (c == 10) (c == 32) (c == 92) c bytes (escaped bytes) refl refl refl (bytes_read_back bytes)

word_step : (a b d : Bool) (c : ℕ) (rest : List ℕ) → (c == 10) ≡ a → (c == 32) ≡ b → (c == 92) ≡ d → is_word rest ≡ true → is_word (escape c ++ rest) ≡ true
word_step true b d c rest x y z is = rw (x, is) refl
word_step false true d c rest x y z is = rw (x, y, is) refl
word_step false false true c rest x y z is = rw (x, y, z, is) refl
word_step false false false c rest x y z is = rw (plain_escape c x y z) (rw (x, y, is) refl)

pub bytes_are_a_word : BytesAreAWord
bytes_are_a_word [] = refl
bytes_are_a_word (c ∷ bytes) = word_step (c == 10) (c == 32) (c == 92) c (escaped bytes) refl refl refl (bytes_are_a_word bytes)

twice_step : (a b d : Bool) (c : ℕ) (rest : List ℕ) → (c == 10) ≡ a → (c == 32) ≡ b → (c == 92) ≡ d → length (escape c ++ rest) ≤ 2 + length rest
twice_step true b d c rest x y z = rw (x) (omega arith)
twice_step false true d c rest x y z = rw (x, y) (omega arith)
twice_step false false true c rest x y z = rw (x, y, z) (omega arith)
twice_step false false false c rest x y z = rw (x, y, z) (omega arith)

pub at_most_twice : AtMostTwice
at_most_twice [] = omega arith
at_most_twice (c ∷ bytes) = omega (arith, twice_step (c == 10) (c == 32) (c == 92) c (escaped bytes) refl refl refl, at_most_twice bytes)

-- ---- written by runs

-- a text from a place on
at_place : (text : List ℕ) (i : ℕ) → i < length text → drop i text ≡ get_or text i 0 ∷ drop (suc i) text
at_place [] i lt = absurd (omega arith)
at_place (c ∷ text) zero lt = refl
at_place (c ∷ text) (suc i) lt = at_place text i (omega arith)

clean_run : (rest : List ℕ) (i : ℕ) → i ≤ length rest → ((k : ℕ) → k < i → is_byte3 10 32 92 (get_or rest k 0) ≡ true → ⊥) → escaped rest ≡ take i rest ++ escaped (drop i rest)
clean_run rest zero lt not_one = refl
clean_run [] (suc i) lt not_one = refl
clean_run (c ∷ rest) (suc i) lt not_one =
    rw (written_as_itself c (not_one 0 (omega arith))) (ap (λ xs. c ∷ xs) (clean_run rest i (omega arith) (λ k below. not_one (suc k) (omega arith))))

-- up to the first byte that is escaped, and that one
pub run_then : (rest : List ℕ) (i : ℕ) → IsFirstByte (is_byte3 10 32 92) rest (Some i) → escaped rest ≡ (take i rest ++ escape (get_or rest i 0)) ++ escaped (drop (suc i) rest)
run_then rest i is =
    clean_run rest i (omega (arith, is.0.high)) (λ k below e. is.0.before k (omega arith) below e)
    ∙ ap (λ xs. take i rest ++ escaped xs) (at_place rest i is.0.high)
    ∙ sym (append_assoc (take i rest) (escape (get_or rest i 0)) (escaped (drop (suc i) rest)))

-- no byte is left that is escaped
pub run_to_end : (rest : List ℕ) → IsFirstByte (is_byte3 10 32 92) rest None → escaped rest ≡ rest
run_to_end [] none = refl
run_to_end (c ∷ rest) none =
    rw (written_as_itself c (λ e. none 0 (omega arith) (omega arith) e)) (ap (λ xs. c ∷ xs) (run_to_end rest (λ k low below e. none (suc k) (omega arith) (omega arith) e)))

-- what says where the first mark is
pub first_mark : (rest : List ℕ) (i : ℕ) → i < length rest → ((k : ℕ) → k < i → is_byte3 10 32 92 (get_or rest k 0) ≡ true → ⊥) → is_byte3 10 32 92 (get_or rest i 0) ≡ true → IsFirstByte (is_byte3 10 32 92) rest (Some i)
first_mark rest i high clean mark = (record { low = omega arith; high = high; before = λ k low below e. clean k below e }, mark)

-- ---- read by runs

-- bytes before others, if these are there
abbrev pub prefixed : List ℕ → Option (List ℕ) → Option (List ℕ)
prefixed run (Some bytes) = Some (run ++ bytes)
prefixed run None = None

one_before : (c : ℕ) (run : List ℕ) (read : Option (List ℕ)) → before (Some c) (prefixed run read) ≡ prefixed (c ∷ run) read
one_before c run (Some bytes) = refl
one_before c run None = refl

prefixed_nil : (read : Option (List ℕ)) → read ≡ prefixed [] read
prefixed_nil (Some bytes) = refl
prefixed_nil None = refl

pub prefixed_append : (a b : List ℕ) (read : Option (List ℕ)) → prefixed a (prefixed b read) ≡ prefixed (a ++ b) read
prefixed_append a b (Some bytes) = ap (λ xs. Some xs) (sym (append_assoc a b bytes))
prefixed_append a b None = refl

read_run : (rest : List ℕ) (i : ℕ) → i ≤ length rest → ((k : ℕ) → k < i → is_byte 92 (get_or rest k 0) ≡ true → ⊥) → unescaped rest ≡ prefixed (take i rest) (unescaped (drop i rest))
read_run rest zero lt not_one = prefixed_nil (unescaped rest)
read_run [] (suc i) lt not_one = refl
read_run (c ∷ rest) (suc i) lt not_one =
    let mark : (c == 92) ≡ false = ne_eqb c 92 (λ e. not_one 0 (omega arith) (eq-eqb c 92 e)) in
    rw mark (ap (λ r. before (Some c) r) (read_run rest i (omega arith) (λ k below. not_one (suc k) (omega arith))) ∙ one_before c (take i rest) (unescaped (drop i rest)))

-- up to the first backslash, and what follows it
pub read_then : (rest : List ℕ) (i : ℕ) → IsFirstByte (is_byte 92) rest (Some i) → unescaped rest ≡ prefixed (take i rest) (bytes_after true (drop (suc i) rest))
read_then rest i is =
    read_run rest i (omega (arith, is.0.high)) (λ k below e. is.0.before k (omega arith) below e)
    ∙ ap (λ xs. prefixed (take i rest) (unescaped xs)) (at_place rest i is.0.high)
    ∙ rw (eqb-true (get_or rest i 0) 92 is.1) refl

pub read_to_end : (rest : List ℕ) → IsFirstByte (is_byte 92) rest None → unescaped rest ≡ Some rest
read_to_end [] none = refl
read_to_end (c ∷ rest) none =
    let mark : (c == 92) ≡ false = ne_eqb c 92 (λ e. none 0 (omega arith) (omega arith) (eq-eqb c 92 e)) in
    let later = read_to_end rest (λ k low below e. none (suc k) (omega arith) (omega arith) e) in
    rw (mark, later) refl

-- ---- as the code slices it

after_place : (rest : List ℕ) (i : ℕ) → take (length rest - (i + 1)) (drop (i + 1) rest) ≡ drop (suc i) rest
after_place rest i = rw (← length-drop (i + 1) rest) (take-length (drop (i + 1) rest)) ∙ ap (λ n. drop n rest) (let e : i + 1 ≡ suc i = omega arith in e)

-- a run and the byte after it were written
pub run_written : (old mid one new bytes rest : List ℕ) (i letter : ℕ) → mid ++ escaped rest ≡ old ++ escaped bytes → IsFirstByte (is_byte3 10 32 92) rest (Some i) →
    one ≡ mid ++ take i rest → new ≡ one ++ 92 ∷ letter ∷ [] → escape (get_or rest i 0) ≡ 92 ∷ letter ∷ [] →
    new ++ escaped (take (length rest - (i + 1)) (drop (i + 1) rest)) ≡ old ++ escaped bytes
run_written old mid one new bytes rest i letter was is first second byte =
    ap (λ xs. new ++ escaped xs) (after_place rest i)
    ∙ ap (λ xs. xs ++ escaped (drop (suc i) rest)) (second ∙ ap (λ xs. xs ++ 92 ∷ letter ∷ []) first ∙ ap (λ xs. (mid ++ take i rest) ++ xs) (sym byte) ∙ append_assoc mid (take i rest) (escape (get_or rest i 0)))
    ∙ append_assoc mid (take i rest ++ escape (get_or rest i 0)) (escaped (drop (suc i) rest))
    ∙ ap (λ xs. mid ++ xs) (sym (run_then rest i is))
    ∙ was

-- the bytes that are left were written, or memory was wanting
pub end_written : {T E : Type 0} (result : Result T E) (old mid new bytes rest : List ℕ) → mid ++ escaped rest ≡ old ++ escaped bytes → IsFirstByte (is_byte3 10 32 92) rest None →
    new ≡ cond (is_ok result) (mid ++ rest) mid → OnOk result (new ≡ old ++ escaped bytes)
end_written (Ok x) old mid new bytes rest was none is = is ∙ ap (λ xs. mid ++ xs) (sym (run_to_end rest none)) ∙ was
end_written (Err e) old mid new bytes rest was none is = tt

pub goes_on : (old mid new more : List ℕ) → (m : List ℕ) × (mid ≡ old ++ m) → new ≡ mid ++ more → (m : List ℕ) × (new ≡ old ++ m)
goes_on old mid new more h is = (h.0 ++ more, is ∙ ap (λ x. x ++ more) h.1 ∙ append_assoc old h.0 more)

one_prefixed : (c : ℕ) (read : Option (List ℕ)) → before (Some c) read ≡ prefixed (c ∷ []) read
one_prefixed c (Some bytes) = refl
one_prefixed c None = refl

-- a backslash after a run
run_read : (text mid rest : List ℕ) (i : ℕ) → unescaped text ≡ prefixed mid (unescaped rest) → IsFirstByte (is_byte 92) rest (Some i) →
    unescaped text ≡ prefixed mid (prefixed (take i rest) (bytes_after true (take (length rest - (i + 1)) (drop (i + 1) rest))))
run_read text mid rest i was is =
    was ∙ ap (prefixed mid) (read_then rest i is ∙ ap (λ xs. prefixed (take i rest) (bytes_after true xs)) (sym (after_place rest i)))

pub none_read : (text mid rest : List ℕ) (i : ℕ) → unescaped text ≡ prefixed mid (unescaped rest) → IsFirstByte (is_byte 92) rest (Some i) →
    bytes_after true (take (length rest - (i + 1)) (drop (i + 1) rest)) ≡ None → None ≡ unescaped text
none_read text mid rest i was is none = sym (run_read text mid rest i was is ∙ ap (λ r. prefixed mid (prefixed (take i rest) r)) none)

pub more_read : (text mid one new rest after : List ℕ) (i byte : ℕ) → unescaped text ≡ prefixed mid (unescaped rest) → IsFirstByte (is_byte 92) rest (Some i) →
    bytes_after true (take (length rest - (i + 1)) (drop (i + 1) rest)) ≡ before (Some byte) (unescaped after) → one ≡ mid ++ take i rest → new ≡ one ++ byte ∷ [] →
    unescaped text ≡ prefixed new (unescaped after)
more_read text mid one new rest after i byte was is read first second =
    run_read text mid rest i was is
    ∙ ap (λ r. prefixed mid (prefixed (take i rest) r)) (read ∙ one_prefixed byte (unescaped after))
    ∙ prefixed_append mid (take i rest) (prefixed (byte ∷ []) (unescaped after))
    ∙ prefixed_append (mid ++ take i rest) (byte ∷ []) (unescaped after)
    ∙ ap (λ xs. prefixed xs (unescaped after)) (sym (second ∙ ap (λ xs. xs ++ byte ∷ []) first))

pub all_read : (text mid new made rest : List ℕ) → unescaped text ≡ prefixed mid (unescaped rest) → IsFirstByte (is_byte 92) rest None → new ≡ mid ++ rest → made ≡ new → Some made ≡ unescaped text
all_read text mid new made rest was none is same = ap (λ xs. Some xs) (same ∙ is) ∙ sym (was ∙ ap (prefixed mid) (read_to_end rest none))

-- ---- lanes

zip2_splat : {Z : Type 0} (f : ℕ → ℕ → Z) (y : ℕ) (xs : List ℕ) → zip2 f xs (replicate (length xs) y) ≡ map (λ x. f x y) xs
zip2_splat f y [] = refl
zip2_splat f y (x ∷ xs) = ap (λ rest. f x y ∷ rest) (zip2_splat f y xs)

-- `to_bitmask` of `simd_eq` with one byte in each lane
pub byte_bitmask : (v : List ℕ) (b : ℕ) → length v ≡ 16 → mask_l (map (top 7) (zip2 (λ a b. cond (eqb a b) 255 0) v (replicate 16 b))) % 2 ^ 64 ≡ mask_l (map (λ c. eqb c b) v)
byte_bitmask v b long =
    ap (λ ms. mask_l ms % 2 ^ 64) (tops_compared w8 eqb v (replicate 16 b) ∙ ap (λ m. zip2 eqb v (replicate m b)) (sym long) ∙ zip2_splat eqb b v)
    ∙ mask_l-mod (map (λ c. eqb c b) v) 64 (omega (arith, length-map v (λ c. eqb c b)))

pub lanes_none : (v : List ℕ) (b : ℕ) → length v ≡ 16 → mask_l (map (top 7) (zip2 (λ a b. cond (eqb a b) 255 0) v (replicate 16 b))) % 2 ^ 64 ≡ 0 → 16 ≡ prefix_len (λ c. not (c == b)) v
lanes_none v b long none = sym (leading_from_mask_l (λ c. eqb c b) v (sym (byte_bitmask v b long) ∙ none) ∙ long)

positive : (n : ℕ) → (n ≡ 0 → ⊥) → 0 < n
positive zero some = absurd (some refl)
positive (suc n) some = omega arith

pub lanes_some : (v : List ℕ) (b : ℕ) → length v ≡ 16 → (mask_l (map (top 7) (zip2 (λ a b. cond (eqb a b) 255 0) v (replicate 16 b))) % 2 ^ 64 ≡ 0 → ⊥) →
    count_trailing_zeros 64 (mask_l (map (top 7) (zip2 (λ a b. cond (eqb a b) 255 0) v (replicate 16 b))) % 2 ^ 64) ≡ prefix_len (λ c. not (c == b)) v
lanes_some v b long some =
    ap (count_trailing_zeros 64) (byte_bitmask v b long)
    ∙ trailing_mask_l (λ c. eqb c b) 64 v (omega (arith, long)) (positive (mask_l (map (λ c. eqb c b) v)) (λ e. some (byte_bitmask v b long ∙ e)))

not_true : (b : Bool) → not b ≡ true → b ≡ false
not_true true h = sym h
not_true false h = refl

not_false : (b : Bool) → not b ≡ false → b ≡ true
not_false true h = refl
not_false false h = sym h

differs : (x : ℕ) (v : List ℕ) (a k : ℕ) → a ≡ prefix_len (λ c. not (c == x)) v → k < a → (get_or v k 0 == x) ≡ false
differs x v a k is low = not_true (get_or v k 0 == x) (prefix_len_passes (λ c. not (c == x)) v k 0 (omega (arith, is, low)))

at_stop : (x : ℕ) (v : List ℕ) (a n : ℕ) → a ≡ prefix_len (λ c. not (c == x)) v → n ≡ a → n < length v → (get_or v n 0 == x) ≡ true
at_stop x v a n is same low =
    ap (λ j. get_or v j 0 == x) (same ∙ is) ∙ not_false (get_or v (prefix_len (λ c. not (c == x)) v) 0 == x) (prefix_len_stops (λ c. not (c == x)) v 0 (omega (arith, is, same, low)))

pub within_of : (v : List ℕ) (a n x : ℕ) → length v ≡ 16 → a ≡ prefix_len (λ c. not (c == x)) v → n ≤ a → n ≤ 16
within_of v a n x long is low = omega (arith, long, is, low, prefix_len-le-length (λ c. not (c == x)) v)

pub clean_of : (v : List ℕ) (a b d m n : ℕ) → a ≡ prefix_len (λ c. not (c == 10)) v → b ≡ prefix_len (λ c. not (c == 32)) v → d ≡ prefix_len (λ c. not (c == 92)) v →
    m ≤ a → m ≤ b → n ≤ m → n ≤ d → (k : ℕ) → k < n → is_byte3 10 32 92 (get_or v k 0) ≡ true → ⊥
clean_of v a b d m n p q r x y z w k low is =
    let one = differs 10 v a k p (omega (arith, x, z, low)) in
    let two = differs 32 v b k q (omega (arith, y, z, low)) in
    let three = differs 92 v d k r (omega (arith, w, low)) in
    let wrong : is_byte3 10 32 92 (get_or v k 0) ≡ false = rw (one, two, three) refl in
    let never : true ≡ false = sym is ∙ wrong in
    absurd (cc never)

first_of : (a b d : Bool) → a ≡ true → (a || b || d) ≡ true
first_of true b d e = refl
first_of false b d e = absurd (cc e)

second_of : (a b d : Bool) → b ≡ true → (a || b || d) ≡ true
second_of true b d e = refl
second_of false true d e = refl
second_of false false d e = absurd (cc e)

third_of : (a b d : Bool) → d ≡ true → (a || b || d) ≡ true
third_of true b d e = refl
third_of false true d e = refl
third_of false false d e = e

pub mark_of : (v : List ℕ) (a b d m n : ℕ) → a ≡ prefix_len (λ c. not (c == 10)) v → b ≡ prefix_len (λ c. not (c == 32)) v → d ≡ prefix_len (λ c. not (c == 92)) v →
    length v ≡ 16 → n < 16 → (n ≡ m) ⊎ (n ≡ d) → (m ≡ a) ⊎ (m ≡ b) → is_byte3 10 32 92 (get_or v n 0) ≡ true
mark_of v a b d m n p q r long small (inr e) g = third_of (get_or v n 0 == 10) (get_or v n 0 == 32) (get_or v n 0 == 92) (at_stop 92 v d n r e (omega (arith, long, small)))
mark_of v a b d m n p q r long small (inl e) (inl f) = first_of (get_or v n 0 == 10) (get_or v n 0 == 32) (get_or v n 0 == 92) (at_stop 10 v a n p (e ∙ f) (omega (arith, long, small)))
mark_of v a b d m n p q r long small (inl e) (inr f) = second_of (get_or v n 0 == 10) (get_or v n 0 == 32) (get_or v n 0 == 92) (at_stop 32 v b n q (e ∙ f) (omega (arith, long, small)))

pub below_sixteen : (n : ℕ) → n ≤ 16 → (n ≡ 16 → ⊥) → n < 16
below_sixteen n within other = elim (cases_lt n 16) [
  | inl low ↦ low
  | inr high ↦ absurd (other (omega (arith, high, within)))
]

-- what is known of lanes is known of the bytes that were loaded
pub clean_below : (v rest : List ℕ) (n top : ℕ) → ((k : ℕ) → k < 16 → get_or v k 0 ≡ get_or rest k 0) → ((k : ℕ) → k < n → is_byte3 10 32 92 (get_or v k 0) ≡ true → ⊥) → top ≤ n → top ≤ 16 →
    (k : ℕ) → k < top → is_byte3 10 32 92 (get_or rest k 0) ≡ true → ⊥
clean_below v rest n top same clean x y k low is = clean k (omega (arith, x, low)) (ap (is_byte3 10 32 92) (same k (omega (arith, y, low))) ∙ is)

pub mark_at : (v rest : List ℕ) (n : ℕ) → ((k : ℕ) → k < 16 → get_or v k 0 ≡ get_or rest k 0) → n < 16 → is_byte3 10 32 92 (get_or v n 0) ≡ true → is_byte3 10 32 92 (get_or rest n 0) ≡ true
mark_at v rest n same small is = ap (is_byte3 10 32 92) (sym (same n small)) ∙ is

after_block : (rest : List ℕ) → take (length rest - 16) (drop 16 rest) ≡ drop 16 rest
after_block rest = rw (← length-drop 16 rest) (take-length (drop 16 rest))

-- sixteen bytes without a mark were written
pub block_written : (old mid new bytes rest : List ℕ) → 16 ≤ length rest → mid ++ escaped rest ≡ old ++ escaped bytes → ((k : ℕ) → k < 16 → is_byte3 10 32 92 (get_or rest k 0) ≡ true → ⊥) →
    new ≡ mid ++ take 16 rest → new ++ escaped (take (length rest - 16) (drop 16 rest)) ≡ old ++ escaped bytes
block_written old mid new bytes rest long was clean is =
    ap (λ xs. new ++ escaped xs) (after_block rest)
    ∙ ap (λ xs. xs ++ escaped (drop 16 rest)) is
    ∙ append_assoc mid (take 16 rest) (escaped (drop 16 rest))
    ∙ ap (λ xs. mid ++ xs) (sym (clean_run rest 16 long clean))
    ∙ was
