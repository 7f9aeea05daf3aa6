-- A register that holds the last line.
use Rattle.std.specs.Prelude.{◌≡◌, ◌⊎◌, ℕ, List, [], ◌∷◌, Bool, true, false, refl, ◌&&◌, not, if◌then◌else◌, cond}
use Rattle.std.proofs.Common.{sym, ◌∙◌, ap, subst}
use Rattle.std.specs.List.{list_all}
use Rattle.gq_journal.specs.Batches.{Line, ended_line, lines_text, is_batch_line}
use Rattle.gq_keeper.specs.Plans.{is_head, are_facts}
use Rattle.gq_keeper.specs.Starting.{RecallsAll}

-- a line that may be one of facts
abbrev pub is_fact : Line → Bool
is_fact line = is_batch_line line && not (is_head line)

-- such a line with its newline, or nothing
abbrev pub IsHeld : List ℕ → Type 0
IsHeld text = (text ≡ []) ⊎ ((line : Line) × (is_fact line ≡ true) × (text ≡ ended_line line))

-- what is held after a line
abbrev pub held_after : List ℕ → Line → List ℕ
held_after old line = if is_fact line then ended_line line else old

-- the facts of a line
abbrev pub facts_for : Line → List Line
facts_for line = if is_fact line then line ∷ [] else []

-- what a line does: it is told and held, if it may be a fact
pub record StepsTo (old : List ℕ) (line : Line) (facts : List Line) (told new : List ℕ) : Type 0 where
  pub facts_are : facts ≡ facts_for line
  pub told_is : told ≡ lines_text (facts_for line)
  pub new_is : new ≡ held_after old line

-- a line that may be a fact is held, and no other is read
abbrev pub RecallsTo : List ℕ → Line → List ℕ → Type 0
RecallsTo old line new = (is_fact line ≡ true) × (new ≡ held_after old line)

-- ---- what the machine owes

facts_by : (line : Line) (b : Bool) → is_fact line ≡ b → are_facts (cond b (line ∷ []) []) ≡ true
facts_by line true is = ap (λ x. x && true) is
facts_by line false is = refl

pub gives_facts : (old : List ℕ) (line : Line) (facts : List Line) (told new : List ℕ) → StepsTo old line facts told new → are_facts facts ≡ true
gives_facts old line facts told new s = ap are_facts s.facts_are ∙ facts_by line (is_fact line) refl

rest_by : (old : List ℕ) (line : Line) (b : Bool) (before after : List ℕ) → is_fact line ≡ b → before ≡ old → RecallsAll RecallsTo before (cond b (line ∷ []) []) after → after ≡ cond b (ended_line line) old
rest_by old line true before after is same r = sym r.2 ∙ r.1.1 ∙ ap (λ b. cond b (ended_line line) before) is
rest_by old line false before after is same r = sym r ∙ same

recalls_these : (before after : List ℕ) (facts lines : List Line) → facts ≡ lines → RecallsAll RecallsTo before facts after → RecallsAll RecallsTo before lines after
recalls_these before after facts lines same r = subst (λ ls. RecallsAll RecallsTo before ls after) same r

-- a start reads each line that may be a fact
reads_these : (line : Line) (b : Bool) → is_fact line ≡ b → list_all is_fact (cond b (line ∷ []) []) ≡ true
reads_these line true is = ap (λ x. x && true) is
reads_these line false is = refl

pub gives_readable : (old : List ℕ) (line : Line) (facts : List Line) (told new : List ℕ) → StepsTo old line facts told new → list_all is_fact facts ≡ true
gives_readable old line facts told new s = ap (list_all is_fact) s.facts_are ∙ reads_these line (is_fact line) refl

pub reads_again : (first last : List ℕ) (lines : List Line) → RecallsAll RecallsTo first lines last → list_all is_fact lines ≡ true
reads_again first last [] r = refl
reads_again first last (line ∷ lines) r = rw (r.1.0, reads_again r.0 last lines r.2) refl

pub keeps_rest : (old : List ℕ) (line : Line) (facts : List Line) (told new before after : List ℕ) → StepsTo old line facts told new → before ≡ old → RecallsAll RecallsTo before facts after → after ≡ new
keeps_rest old line facts told new before after s same r =
    rest_by old line (is_fact line) before after refl same (recalls_these before after facts (facts_for line) s.facts_are r) ∙ sym s.new_is

one_way : (a b c d : List ℕ) (lines : List Line) → a ≡ b → RecallsAll RecallsTo a lines c → RecallsAll RecallsTo b lines d → c ≡ d
one_way a b c d [] same x y = sym x ∙ same ∙ y
one_way a b c d (line ∷ lines) same x y = one_way x.0 y.0 c d lines (x.1.1 ∙ ap (λ t. held_after t line) same ∙ sym y.1.1) x.2 y.2

pub starts_again : (first last new again : List ℕ) (lines : List Line) → first ≡ [] → RecallsAll RecallsTo first lines last → new ≡ [] → RecallsAll RecallsTo new lines again → again ≡ last
starts_again first last new again lines a x b y = one_way new first again last lines (b ∙ sym a) y x
