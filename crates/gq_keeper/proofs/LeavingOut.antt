-- Lines that are left out.
use Rattle.std.proofs.Common.{◌≡◌, ℕ, List, [], ◌∷◌, Bool, true, false, MatchBool, cond, refl, sym, ap, ◌∙◌, subst}
use Rattle.std.specs.Prelude.{◌&&◌, ◌||◌, not, filter}
use Rattle.std.specs.List.{list_all}
use Rattle.gq_journal.specs.Batches.{Line}
use Rattle.gq_keeper.specs.LeavingOut.{RecallsBut, readable_but}
use Rattle.gq_keeper.specs.Starting.{RecallsAll}
use Rattle.gq_keeper.proofs.Finding.{ReadsOn}

-- what is readable doesn't change with a line that was read or left out
pub reads_on_but : {M : Type 0} (left_out : List ℕ → Bool) (recalls : M → List ℕ → M → Type 0) (readable : M → List ℕ → Bool) → ReadsOn recalls readable → ReadsOn (RecallsBut left_out recalls) (readable_but left_out readable)
reads_on_but {M} left_out recalls readable on old line new other step = ap (λ b. left_out other || b) (by (left_out line) step)
  where
    by : (b : Bool) → MatchBool b (old ≡ new) (recalls old line new) → readable new other ≡ readable old other
    by true same = ap (λ (m : M). readable m other) (sym same)
    by false read = on old line new other read

-- what was read but for these lines was read of the others
pub others_recalled : {M : Type 0} (left_out : List ℕ → Bool) (recalls : M → List ℕ → M → Type 0) (first last : M) (lines : List Line) → RecallsAll (RecallsBut left_out recalls) first lines last →
    RecallsAll recalls first (filter (λ line. not (left_out line)) lines) last
others_recalled left_out recalls first last [] all = all
others_recalled {M} left_out recalls first last (line ∷ lines) all = by (left_out line) all.1 (others_recalled left_out recalls all.0 last lines all.2)
  where
    more : List Line
    more = filter (λ line. not (left_out line)) lines

    by : (b : Bool) → MatchBool b (first ≡ all.0) (recalls first line all.0) → RecallsAll recalls all.0 more last → RecallsAll recalls first (cond (not b) (line ∷ more) more) last
    by true same rest = subst (λ (m : M). RecallsAll recalls m more last) (sym same) rest
    by false read rest = (all.0, read, rest)

-- one that is strange is among the others
pub others_strange : (left_out reads : List ℕ → Bool) (lines : List Line) → list_all (λ line. left_out line || reads line) lines ≡ list_all reads (filter (λ line. not (left_out line)) lines)
others_strange left_out reads [] = refl
others_strange left_out reads (line ∷ lines) = by (left_out line) (others_strange left_out reads lines)
  where
    more : List Line
    more = filter (λ line. not (left_out line)) lines

    by : (b : Bool) → list_all (λ line. left_out line || reads line) lines ≡ list_all reads more → ((b || reads line) && list_all (λ line. left_out line || reads line) lines) ≡ list_all reads (cond (not b) (line ∷ more) more)
    by true same = same
    by false same = ap (λ b. reads line && b) same
