-- Bytes that are written and read.
use Rattle.std.proofs.Common.{◌≡◌, ℕ, zero, suc, ◌+◌, ◌-◌, ◌<◌, ◌≤◌, List, [], ◌∷◌, ◌++◌, length, get_or, take, drop, Some, None, Option, Bool, true, false, refl, sym, ap, ◌∙◌, arith, append_assoc, length-drop, cond}
use Rattle.std.specs.Prelude.{◌==◌, Result, Ok, Err, is_ok, OnOk}
use Rattle.std.proofs.Math.Seq.{take-length}
use Rattle.std.proofs.lemmas.Bool.{ne_eqb, eq-eqb, eqb-true}
use Rattle.memchr.specs.Find.{IsFirstByte, is_byte, is_byte3}
use Rattle.gq_quote.specs.Quote.{quote, quoted, before, Begun, bytes_after, unquoted, is_word}
use Rattle.gq_quote.specs.Laws.{BytesReadBack, BytesAreAWord, AtMostFourTimes}

-- ---- a byte that is written as itself

pub plain_quote : (c : ℕ) → (c == 10) ≡ false → (c == 32) ≡ false → (c == 92) ≡ false → quote c ≡ c ∷ []
plain_quote c x y z = rw (x, y, z) refl

plain_step : (a b d : Bool) (c : ℕ) → (c == 10) ≡ a → (c == 32) ≡ b → (c == 92) ≡ d → (is_byte3 10 32 92 c ≡ true → ⊥) → quote c ≡ c ∷ []
plain_step true b d c x y z not_one = absurd (not_one (rw x refl))
plain_step false true d c x y z not_one = absurd (not_one (rw (x, y) refl))
plain_step false false true c x y z not_one = absurd (not_one (rw (x, y, z) refl))
plain_step false false false c x y z not_one = plain_quote c x y z

written_as_itself : (c : ℕ) → (is_byte3 10 32 92 c ≡ true → ⊥) → quote c ≡ c ∷ []
written_as_itself c not_one = plain_step (c == 10) (c == 32) (c == 92) c refl refl refl not_one

-- ---- laws

back_step : (a b d : Bool) (c : ℕ) (bytes rest : List ℕ) → (c == 10) ≡ a → (c == 32) ≡ b → (c == 92) ≡ d → unquoted rest ≡ Some bytes → unquoted (quote c ++ rest) ≡ Some (c ∷ bytes)
back_step true b d c bytes rest x y z is = rw (x, is, eqb-true c 10 x) refl
back_step false true d c bytes rest x y z is = rw (x, y, is, eqb-true c 32 y) refl
back_step false false true c bytes rest x y z is = rw (x, y, z, is, eqb-true c 92 z) refl
back_step false false false c bytes rest x y z is = rw (plain_quote c x y z) (rw (z, is) refl)

pub bytes_read_back : BytesReadBack
bytes_read_back [] = refl
bytes_read_back (c ∷ bytes) = back_step (c == 10) (c == 32) (c == 92) c bytes (quoted bytes) refl refl refl (bytes_read_back bytes)

word_step : (a b d : Bool) (c : ℕ) (rest : List ℕ) → (c == 10) ≡ a → (c == 32) ≡ b → (c == 92) ≡ d → is_word rest ≡ true → is_word (quote c ++ rest) ≡ true
word_step true b d c rest x y z is = rw (x, is) refl
word_step false true d c rest x y z is = rw (x, y, is) refl
word_step false false true c rest x y z is = rw (x, y, z, is) refl
word_step false false false c rest x y z is = rw (plain_quote c x y z) (rw (x, y, is) refl)

pub bytes_are_a_word : BytesAreAWord
bytes_are_a_word [] = refl
bytes_are_a_word (c ∷ bytes) = word_step (c == 10) (c == 32) (c == 92) c (quoted bytes) refl refl refl (bytes_are_a_word bytes)

four_step : (a b d : Bool) (c : ℕ) (rest : List ℕ) → (c == 10) ≡ a → (c == 32) ≡ b → (c == 92) ≡ d → length (quote c ++ rest) ≤ 4 + length rest
four_step true b d c rest x y z = rw (x) (omega arith)
four_step false true d c rest x y z = rw (x, y) (omega arith)
four_step false false true c rest x y z = rw (x, y, z) (omega arith)
four_step false false false c rest x y z = rw (x, y, z) (omega arith)

pub at_most_four_times : AtMostFourTimes
at_most_four_times [] = omega arith
at_most_four_times (c ∷ bytes) = omega (arith, four_step (c == 10) (c == 32) (c == 92) c (quoted bytes) refl refl refl, at_most_four_times bytes)

-- ---- written by runs

-- a text from a place on
at_place : (text : List ℕ) (i : ℕ) → i < length text → drop i text ≡ get_or text i 0 ∷ drop (suc i) text
at_place [] i lt = absurd (omega arith)
at_place (c ∷ text) zero lt = refl
at_place (c ∷ text) (suc i) lt = at_place text i (omega arith)

clean_run : (rest : List ℕ) (i : ℕ) → i ≤ length rest → ((k : ℕ) → k < i → is_byte3 10 32 92 (get_or rest k 0) ≡ true → ⊥) → quoted rest ≡ take i rest ++ quoted (drop i rest)
clean_run rest zero lt not_one = refl
clean_run [] (suc i) lt not_one = refl
clean_run (c ∷ rest) (suc i) lt not_one =
    rw (written_as_itself c (not_one 0 (omega arith))) (ap (λ xs. c ∷ xs) (clean_run rest i (omega arith) (λ k below. not_one (suc k) (omega arith))))

-- up to the first byte that is quoted, and that one
pub run_then : (rest : List ℕ) (i : ℕ) → IsFirstByte (is_byte3 10 32 92) rest (Some i) → quoted rest ≡ (take i rest ++ quote (get_or rest i 0)) ++ quoted (drop (suc i) rest)
run_then rest i is =
    clean_run rest i (omega (arith, is.0.high)) (λ k below e. is.0.before k (omega arith) below e)
    ∙ ap (λ xs. take i rest ++ quoted xs) (at_place rest i is.0.high)
    ∙ sym (append_assoc (take i rest) (quote (get_or rest i 0)) (quoted (drop (suc i) rest)))

-- no byte is left that is quoted
pub run_to_end : (rest : List ℕ) → IsFirstByte (is_byte3 10 32 92) rest None → quoted rest ≡ rest
run_to_end [] none = refl
run_to_end (c ∷ rest) none =
    rw (written_as_itself c (λ e. none 0 (omega arith) (omega arith) e)) (ap (λ xs. c ∷ xs) (run_to_end rest (λ k low below e. none (suc k) (omega arith) (omega arith) e)))

-- ---- read by runs

-- bytes before others, if these are there
abbrev pub prefixed : List ℕ → Option (List ℕ) → Option (List ℕ)
prefixed run (Some bytes) = Some (run ++ bytes)
prefixed run None = None

one_before : (c : ℕ) (run : List ℕ) (read : Option (List ℕ)) → before (Some c) (prefixed run read) ≡ prefixed (c ∷ run) read
one_before c run (Some bytes) = refl
one_before c run None = refl

prefixed_nil : (read : Option (List ℕ)) → read ≡ prefixed [] read
prefixed_nil (Some bytes) = refl
prefixed_nil None = refl

pub prefixed_append : (a b : List ℕ) (read : Option (List ℕ)) → prefixed a (prefixed b read) ≡ prefixed (a ++ b) read
prefixed_append a b (Some bytes) = ap (λ xs. Some xs) (sym (append_assoc a b bytes))
prefixed_append a b None = refl

read_run : (rest : List ℕ) (i : ℕ) → i ≤ length rest → ((k : ℕ) → k < i → is_byte 92 (get_or rest k 0) ≡ true → ⊥) → unquoted rest ≡ prefixed (take i rest) (unquoted (drop i rest))
read_run rest zero lt not_one = prefixed_nil (unquoted rest)
read_run [] (suc i) lt not_one = refl
read_run (c ∷ rest) (suc i) lt not_one =
    let mark : (c == 92) ≡ false = ne_eqb c 92 (λ e. not_one 0 (omega arith) (eq-eqb c 92 e)) in
    rw mark (ap (λ r. before (Some c) r) (read_run rest i (omega arith) (λ k below. not_one (suc k) (omega arith))) ∙ one_before c (take i rest) (unquoted (drop i rest)))

-- up to the first backslash, and what follows it
pub read_then : (rest : List ℕ) (i : ℕ) → IsFirstByte (is_byte 92) rest (Some i) → unquoted rest ≡ prefixed (take i rest) (bytes_after Begun (drop (suc i) rest))
read_then rest i is =
    read_run rest i (omega (arith, is.0.high)) (λ k below e. is.0.before k (omega arith) below e)
    ∙ ap (λ xs. prefixed (take i rest) (unquoted xs)) (at_place rest i is.0.high)
    ∙ rw (eqb-true (get_or rest i 0) 92 is.1) refl

pub read_to_end : (rest : List ℕ) → IsFirstByte (is_byte 92) rest None → unquoted rest ≡ Some rest
read_to_end [] none = refl
read_to_end (c ∷ rest) none =
    let mark : (c == 92) ≡ false = ne_eqb c 92 (λ e. none 0 (omega arith) (omega arith) (eq-eqb c 92 e)) in
    let later = read_to_end rest (λ k low below e. none (suc k) (omega arith) (omega arith) e) in
    rw (mark, later) refl

-- ---- as the code slices it

after_place : (rest : List ℕ) (i : ℕ) → take (length rest - (i + 1)) (drop (i + 1) rest) ≡ drop (suc i) rest
after_place rest i = rw (← length-drop (i + 1) rest) (take-length (drop (i + 1) rest)) ∙ ap (λ n. drop n rest) (let e : i + 1 ≡ suc i = omega arith in e)

-- a run and the byte after it were written
pub run_written : (old mid one new bytes rest mark : List ℕ) (i : ℕ) → mid ++ quoted rest ≡ old ++ quoted bytes → IsFirstByte (is_byte3 10 32 92) rest (Some i) →
    one ≡ mid ++ take i rest → new ≡ one ++ mark → mark ≡ quote (get_or rest i 0) →
    new ++ quoted (take (length rest - (i + 1)) (drop (i + 1) rest)) ≡ old ++ quoted bytes
run_written old mid one new bytes rest mark i was is first second byte =
    ap (λ xs. new ++ quoted xs) (after_place rest i)
    ∙ ap (λ xs. xs ++ quoted (drop (suc i) rest)) (second ∙ ap (λ xs. xs ++ mark) first ∙ ap (λ xs. (mid ++ take i rest) ++ xs) byte ∙ append_assoc mid (take i rest) (quote (get_or rest i 0)))
    ∙ append_assoc mid (take i rest ++ quote (get_or rest i 0)) (quoted (drop (suc i) rest))
    ∙ ap (λ xs. mid ++ xs) (sym (run_then rest i is))
    ∙ was

-- the bytes that are left were written, or memory was wanting
pub end_written : {T E : Type 0} (result : Result T E) (old mid new bytes rest : List ℕ) → mid ++ quoted rest ≡ old ++ quoted bytes → IsFirstByte (is_byte3 10 32 92) rest None →
    new ≡ cond (is_ok result) (mid ++ rest) mid → OnOk result (new ≡ old ++ quoted bytes)
end_written (Ok x) old mid new bytes rest was none is = is ∙ ap (λ xs. mid ++ xs) (sym (run_to_end rest none)) ∙ was
end_written (Err e) old mid new bytes rest was none is = tt

pub goes_on : (old mid new more : List ℕ) → (m : List ℕ) × (mid ≡ old ++ m) → new ≡ mid ++ more → (m : List ℕ) × (new ≡ old ++ m)
goes_on old mid new more h is = (h.0 ++ more, is ∙ ap (λ x. x ++ more) h.1 ∙ append_assoc old h.0 more)

one_prefixed : (c : ℕ) (read : Option (List ℕ)) → before (Some c) read ≡ prefixed (c ∷ []) read
one_prefixed c (Some bytes) = refl
one_prefixed c None = refl

-- a backslash after a run
run_read : (text mid rest : List ℕ) (i : ℕ) → unquoted text ≡ prefixed mid (unquoted rest) → IsFirstByte (is_byte 92) rest (Some i) →
    unquoted text ≡ prefixed mid (prefixed (take i rest) (bytes_after Begun (take (length rest - (i + 1)) (drop (i + 1) rest))))
run_read text mid rest i was is =
    was ∙ ap (prefixed mid) (read_then rest i is ∙ ap (λ xs. prefixed (take i rest) (bytes_after Begun xs)) (sym (after_place rest i)))

pub none_read : (text mid rest : List ℕ) (i : ℕ) → unquoted text ≡ prefixed mid (unquoted rest) → IsFirstByte (is_byte 92) rest (Some i) →
    bytes_after Begun (take (length rest - (i + 1)) (drop (i + 1) rest)) ≡ None → None ≡ unquoted text
none_read text mid rest i was is none = sym (run_read text mid rest i was is ∙ ap (λ r. prefixed mid (prefixed (take i rest) r)) none)

pub more_read : (text mid one new rest after : List ℕ) (i byte : ℕ) → unquoted text ≡ prefixed mid (unquoted rest) → IsFirstByte (is_byte 92) rest (Some i) →
    bytes_after Begun (take (length rest - (i + 1)) (drop (i + 1) rest)) ≡ before (Some byte) (unquoted after) → one ≡ mid ++ take i rest → new ≡ one ++ byte ∷ [] →
    unquoted text ≡ prefixed new (unquoted after)
more_read text mid one new rest after i byte was is read first second =
    run_read text mid rest i was is
    ∙ ap (λ r. prefixed mid (prefixed (take i rest) r)) (read ∙ one_prefixed byte (unquoted after))
    ∙ prefixed_append mid (take i rest) (prefixed (byte ∷ []) (unquoted after))
    ∙ prefixed_append (mid ++ take i rest) (byte ∷ []) (unquoted after)
    ∙ ap (λ xs. prefixed xs (unquoted after)) (sym (second ∙ ap (λ xs. xs ++ byte ∷ []) first))

pub all_read : (text mid new made rest : List ℕ) → unquoted text ≡ prefixed mid (unquoted rest) → IsFirstByte (is_byte 92) rest None → new ≡ mid ++ rest → made ≡ new → Some made ≡ unquoted text
all_read text mid new made rest was none is same = ap (λ xs. Some xs) (same ∙ is) ∙ sym (was ∙ ap (prefixed mid) (read_to_end rest none))
