-- What is kept of the end of a text, of which no newline is left.
use Rattle.std.proofs.Common.{◌≡◌, ℕ, ◌+◌, ◌<◌, List, [], ◌∷◌, ◌++◌, length, take, Bool, true, false, refl, sym, ap, ◌∙◌, arith, length-append, cond, inl, inr}
use Rattle.std.specs.Prelude.{◌==◌, filter, min}
use Rattle.std.proofs.lemmas.Bool.{lt-leb, cases_lt}
use Rattle.std.proofs.lemmas.List.{length-take-le}
use Rattle.std.proofs.Math.Seq.{take-length}
use Rattle.gq_journal.specs.Batches.{Line, before_line, whole_lines}
use Rattle.gq_journal.proofs.Lines.{lines_cut}
use Rattle.gq_keeper.specs.Lines.{is_short, short_lines}

-- the lines, the first of them behind these bytes
joined : List ℕ → List Line → List Line
joined a [] = []
joined a (line ∷ lines) = (a ++ line) ∷ lines

none_before : (x : ℕ) (lines : List Line) → before_line x lines ≡ [] → lines ≡ []
none_before x [] none = refl
none_before x (line ∷ lines) none = cc

none_by : (b : Bool) (x : ℕ) (lines : List Line) → cond b ([] ∷ lines) (before_line x lines) ≡ [] → (b ≡ false) × (lines ≡ [])
none_by true x lines none = cc
none_by false x lines none = (refl, none_before x lines none)

none_cons : (x : ℕ) (a : List ℕ) → whole_lines (x ∷ a) ≡ [] → ((x == 10) ≡ false) × (whole_lines a ≡ [])
none_cons x a none = none_by (x == 10) x (whole_lines a) none

joined_nil : (lines : List Line) → lines ≡ joined [] lines
unfolding joined
joined_nil [] = refl
joined_nil (line ∷ lines) = refl

before_joined : (x : ℕ) (a : List ℕ) (lines : List Line) → before_line x (joined a lines) ≡ joined (x ∷ a) lines
unfolding joined
before_joined x a [] = refl
before_joined x a (line ∷ lines) = refl

join_lines : (a more : List ℕ) → whole_lines a ≡ [] → whole_lines (a ++ more) ≡ joined a (whole_lines more)
join_lines [] more none = joined_nil (whole_lines more)
join_lines (x ∷ a) more none =
    let parts = none_cons x a none in
    rw (parts.0, join_lines a more parts.1) (before_joined x a (whole_lines more))

-- no line ends where one isn't ended is followed by such bytes
pub none_behind : (a b : List ℕ) → whole_lines a ≡ [] → whole_lines b ≡ [] → whole_lines (a ++ b) ≡ []
unfolding joined
none_behind a b none_a none_b = join_lines a b none_a ∙ ap (joined a) none_b

behind_first : List Line → List Line
behind_first [] = []
behind_first (line ∷ lines) = lines

long_joined : (longest : ℕ) (a : List ℕ) (lines : List Line) → longest < length a → filter (is_short longest) (joined a lines) ≡ filter (is_short longest) (behind_first lines)
unfolding joined behind_first
long_joined longest a [] long = refl
long_joined longest a (line ∷ lines) long = rw (lt-leb (length (a ++ line)) longest (omega (arith, length-append a line))) refl

-- what is too long for a line may be cut anywhere where it is still too long
long_end : (longest : ℕ) (a b more : List ℕ) → whole_lines a ≡ [] → whole_lines b ≡ [] → longest < length a → longest < length b → short_lines longest (a ++ more) ≡ short_lines longest (b ++ more)
long_end longest a b more none_a none_b long_a long_b =
    ap (filter (is_short longest)) (join_lines a more none_a) ∙ long_joined longest a (whole_lines more) long_a
    ∙ sym (long_joined longest b (whole_lines more) long_b) ∙ ap (filter (is_short longest)) (sym (join_lines b more none_b))

nothing_before : {A : Type 0} (a b : List A) → [] ≡ a ++ b → a ≡ []
nothing_before [] b e = refl
nothing_before (x ∷ a) b e = cc

pub kept_none : (k : ℕ) (end : List ℕ) → whole_lines end ≡ [] → whole_lines (take k end) ≡ []
kept_none k end none =
    let cut = lines_cut k end in
    nothing_before (whole_lines (take k end)) cut.0 (sym none ∙ cut.1)

pub kept_same : (longest k : ℕ) (end more : List ℕ) → whole_lines end ≡ [] → k ≡ min (length end) (longest + 1) → short_lines longest (take k end ++ more) ≡ short_lines longest (end ++ more)
kept_same longest k end more none is = elim (cases_lt longest (length end)) [
  | inl long ↦ long_end longest (take k end) end more (kept_none k end none) none (let e : k ≡ longest + 1 = omega arith in omega (arith, length-take-le k end (omega arith))) long
  | inr short ↦ let e : k ≡ length end = omega arith in ap (λ n. short_lines longest (take n end ++ more)) e ∙ ap (λ t. short_lines longest (t ++ more)) (take-length end)
]
