-- The moments of a run, and what a server keeps from one to another.
use Rattle.std.proofs.Common.{◌≡◌, ◌⊎◌, ℕ, zero, suc, ◌+◌, ◌-◌, ◌≤◌, Bool, true, false, List, [], ◌∷◌, length, take, drop, length-drop, refl, sym, ap, ◌∙◌, subst, inl, inr, arith}
use Rattle.std.specs.Prelude.{◌||◌, fold}
use Rattle.std.proofs.lemmas.Bool.{true≢false}
use Rattle.gq_grid.specs.Grid.{Grid}
use Rattle.gq_tag.specs.declared.Tag.{Tag}
use Rattle.gq_tag.specs.Tag.{File}
use Rattle.gq_desk.specs.declared.plans.TenantRow.{TenantRow}
use Rattle.gq_model.specs.Trace.{Turn, Trace, Past, start, is_loss}
use Rattle.gq_model.specs.Lone.{after, past_of, is_refusal, said}
use Rattle.gq_laws.proofs.Holding.{keeps_step}
use Rattle.gq_laws.proofs.Pasts.{after_run, past_run}
use Rattle.gq_laws.proofs.Reaching.{Reach, Here, Later, Goes, goes_or_not, reach_between, reach_same, reach_extends}
use Rattle.gq_laws.proofs.Runs.{IsRun, Keeps, Extends}
use Rattle.gq_looks.specs.Looks.{trace_at, turns_between, is_lost_by}

-- ---- moments

reach_from : (grid : Grid) (row : TenantRow) (turns : List Turn) (p : Past) (from n to : ℕ) → from + n ≡ to → n ≤ length turns → Reach grid row p from turns (fold (after grid row) p (take n turns)) to (drop n turns)
reach_from grid row turns p from zero to is within =
    let same : from ≡ to = omega (arith, is) in
    subst (λ m. Reach grid row p from turns p m turns) same Here
reach_from grid row [] p from (suc n) to is within = absurd (omega (arith, within))
reach_from grid row (x ∷ turns) p from (suc n) to is within = Later (reach_from grid row turns (after grid row p x) (from + 1) n to (omega (arith, is)) (omega (arith, within)))

-- the run comes to each of its moments
pub reach_at : (grid : Grid) (row : TenantRow) (turns : List Turn) (n : ℕ) → n ≤ length turns → Reach grid row start 0 turns (past_of grid row (take n turns)) n (drop n turns)
reach_at grid row turns n within = reach_from grid row turns start 0 n n (omega arith) within

pub run_at : (grid : Grid) (row : TenantRow) (turns : List Turn) (n : ℕ) → IsRun grid row (trace_at grid row turns n)
run_at grid row turns n = past_run grid row (take n turns)

-- a later moment extends an earlier one
pub extends_at : (grid : Grid) (row : TenantRow) (turns : List Turn) (n m : ℕ) → n ≤ m → m ≤ length turns → Extends (trace_at grid row turns m) (trace_at grid row turns n)
extends_at grid row turns n m low within = reach_extends (reach_between (reach_at grid row turns n (omega (arith, low, within))) (reach_at grid row turns m within) low)

-- ---- what a server keeps

no_or : (a b : Bool) → (a || b) ≡ false → (a ≡ false) × (b ≡ false)
no_or true b is = absurd (true≢false is)
no_or false b is = (refl, is)

keeps_on : (grid : Grid) (row : TenantRow) (server : ℕ) (file : File) (tag : Tag) (turns : List Turn) (p : Past) → IsRun grid row p.trace → is_lost_by turns server file ≡ false → Keeps grid p.trace server file tag → Keeps grid (fold (after grid row) p turns).trace server file tag
keeps_on grid row server file tag [] p run none keeps = keeps
keeps_on grid row server file tag (x ∷ turns) p run none keeps =
    keeps_on grid row server file tag turns (after grid row p x) (after_run grid row p x run) parts.1 (one (goes_or_not grid row p x))
  where
    parts : (is_loss x server file ≡ false) × (is_lost_by turns server file ≡ false)
    parts = no_or (is_loss x server file) (is_lost_by turns server file) none

    one : (((after grid row p x).trace ≡ p.trace) × (is_refusal (said grid row p x) ≡ true)) ⊎ Goes grid row p x → Keeps grid (after grid row p x).trace server file tag
    one (inl same) = subst (λ (t : Trace). Keeps grid t server file tag) (sym same.0) keeps
    one (inr g) = subst (λ (t : Trace). Keeps grid t server file tag) (sym g.grown) (keeps_step grid row p.trace g.e run g.follows server file tag (ap (λ t. is_loss t server file) g.turn ∙ parts.0) keeps)

-- from one moment to another, where no turn between is a loss
pub keeps_at : (grid : Grid) (row : TenantRow) (turns : List Turn) (n m server : ℕ) (file : File) (tag : Tag) → n ≤ m → m ≤ length turns → is_lost_by (turns_between turns n m) server file ≡ false →
    Keeps grid (trace_at grid row turns n) server file tag → Keeps grid (trace_at grid row turns m) server file tag
keeps_at grid row turns n m server file tag low within none keeps =
    let p : Past = past_of grid row (take n turns) in
    let between : Reach grid row p n (drop n turns) (past_of grid row (take m turns)) m (drop m turns) = reach_between (reach_at grid row turns n (omega (arith, low, within))) (reach_at grid row turns m within) low in
    let on = reach_from grid row (drop n turns) p n (m - n) m (omega (arith, low)) (subst (λ k. m - n ≤ k) (sym (length-drop n turns)) (omega (arith, within))) in
    let same : fold (after grid row) p (turns_between turns n m) ≡ past_of grid row (take m turns) = reach_same (reach_between on between (omega arith)) refl in
    subst (λ (q : Past). Keeps grid q.trace server file tag) same (keeps_on grid row server file tag (turns_between turns n m) p (run_at grid row turns n) none keeps)
