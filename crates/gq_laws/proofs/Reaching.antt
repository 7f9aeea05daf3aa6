-- The pasts that a run comes through, each with its place and what is left of the turns.
use Rattle.std.proofs.Common.{◌≡◌, ◌⊎◌, ℕ, ◌+◌, ◌<◌, ◌≤◌, Bool, true, false, List, [], ◌∷◌, refl, sym, inl, inr, min, arith}
use Rattle.gq_grid.specs.Grid.{Grid}
use Rattle.gq_desk.specs.declared.plans.TenantRow.{TenantRow}
use Rattle.gq_model.specs.Trace.{Turn, Entry, Past}
use Rattle.gq_model.specs.Lone.{after, said, is_refusal, step_at}
use Rattle.gq_laws.proofs.Words.{delivered, floor}
use Rattle.gq_laws.proofs.Runs.{Follows, IsRun, Extends}
use Rattle.gq_laws.proofs.Holding.{extends_join}
use Rattle.gq_laws.proofs.Pasts.{after_run}
use Rattle.gq_laws.proofs.Floors.{floor_grows}

-- from past p at place n, with these turns to come, the run comes to past q at place m
pub data Reach (grid : Grid) (row : TenantRow) : Past → ℕ → List Turn → Past → ℕ → List Turn → Type 0 where
  Here : {p : Past} {n : ℕ} {es : List Turn} → Reach grid row p n es p n es
  Later : {p q : Past} {n m : ℕ} {x : Turn} {es rest : List Turn} → Reach grid row (after grid row p x) (n + 1) es q m rest → Reach grid row p n (x ∷ es) q m rest

pub reach_join : {grid : Grid} {row : TenantRow} {p q r : Past} {n m l : ℕ} {es rest last : List Turn} → Reach grid row p n es q m rest → Reach grid row q m rest r l last → Reach grid row p n es r l last
reach_join Here b = b
reach_join (Later a) b = Later (reach_join a b)

pub reach_up : {grid : Grid} {row : TenantRow} {p q : Past} {n m : ℕ} {es rest : List Turn} → Reach grid row p n es q m rest → n ≤ m
reach_up Here = omega arith
reach_up (Later a) = omega (arith, reach_up a)

pub reach_run : {grid : Grid} {row : TenantRow} {p q : Past} {n m : ℕ} {es rest : List Turn} → Reach grid row p n es q m rest → IsRun grid row p.trace → IsRun grid row q.trace
reach_run Here run = run
reach_run {grid} {row} {p} (Later {x = x} a) run = reach_run a (after_run grid row p x run)

-- of two pasts the later one is reached from the earlier one
pub reach_between : {grid : Grid} {row : TenantRow} {p q r : Past} {n m l : ℕ} {es rest last : List Turn} → Reach grid row p n es q m rest → Reach grid row p n es r l last → m ≤ l → Reach grid row q m rest r l last
reach_between Here b low = b
reach_between (Later a) Here low = absurd (omega (arith, reach_up a))
reach_between (Later a) (Later b) low = reach_between a b low

-- no turn passed, or one and perhaps more
pub reach_first : {grid : Grid} {row : TenantRow} {p q : Past} {n m : ℕ} {x : Turn} {es rest : List Turn} → Reach grid row p n (x ∷ es) q m rest → n < m → Reach grid row (after grid row p x) (n + 1) es q m rest
reach_first Here low = absurd (omega arith)
reach_first (Later a) low = a

pub reach_same : {grid : Grid} {row : TenantRow} {p q : Past} {n m : ℕ} {es rest : List Turn} → Reach grid row p n es q m rest → n ≡ m → p ≡ q
reach_same Here same = refl
reach_same (Later a) same = absurd (omega (arith, reach_up a))

-- ---- one turn

-- the turn is accepted, and leaves this entry
pub record Goes (grid : Grid) (row : TenantRow) (p : Past) (x : Turn) : Type 0 where
  pub e : Entry
  pub grown : (after grid row p x).trace ≡ e ∷ p.trace
  pub follows : Follows grid row p.trace e
  pub turn : e.turn ≡ x
  pub told : e.told ≡ said grid row p x

pub goes_or_not : (grid : Grid) (row : TenantRow) (p : Past) (x : Turn) → (((after grid row p x).trace ≡ p.trace) × (is_refusal (said grid row p x) ≡ true)) ⊎ Goes grid row p x
goes_or_not grid row p x = go (is_refusal (step_at grid row p x).told) refl
  where
    go : (refused : Bool) → is_refusal (step_at grid row p x).told ≡ refused → (((after grid row p x).trace ≡ p.trace) × (is_refusal (said grid row p x) ≡ true)) ⊎ Goes grid row p x
    go true e = inl (rw e, e)
    go false e = inr (record {
      e = record { turn = x; message = delivered p.trace x; told = (step_at grid row p x).told; new = (step_at grid row p x).new };
      grown = rw e;
      follows = record { lines = min row.steps p.lines; message = refl; told = refl; new = refl; accepted = e };
      turn = refl;
      told = refl;
    })

-- the trace only grows
pub after_extends : (grid : Grid) (row : TenantRow) (p : Past) (x : Turn) → Extends (after grid row p x).trace p.trace
after_extends grid row p x = go (goes_or_not grid row p x)
  where
    go : (((after grid row p x).trace ≡ p.trace) × (is_refusal (said grid row p x) ≡ true)) ⊎ Goes grid row p x → Extends (after grid row p x).trace p.trace
    go (inl same) = ([], sym same.0)
    go (inr g) = (g.e ∷ [], sym g.grown)

pub reach_extends : {grid : Grid} {row : TenantRow} {p q : Past} {n m : ℕ} {es rest : List Turn} → Reach grid row p n es q m rest → Extends q.trace p.trace
reach_extends Here = ([], refl)
reach_extends {grid} {row} {p} {q} (Later {x = x} a) = extends_join q.trace (after grid row p x).trace p.trace (reach_extends a) (after_extends grid row p x)

-- a session's last number never falls
pub after_floor : (grid : Grid) (row : TenantRow) (p : Past) (x : Turn) (k : ℕ) → floor p.trace k ≤ floor (after grid row p x).trace k
after_floor grid row p x k = go (goes_or_not grid row p x)
  where
    go : (((after grid row p x).trace ≡ p.trace) × (is_refusal (said grid row p x) ≡ true)) ⊎ Goes grid row p x → floor p.trace k ≤ floor (after grid row p x).trace k
    go (inl same) = rw same.0 (omega arith)
    go (inr g) = rw g.grown (floor_grows grid row p.trace g.e k g.follows)

pub reach_floor : {grid : Grid} {row : TenantRow} {p q : Past} {n m : ℕ} {es rest : List Turn} (k : ℕ) → Reach grid row p n es q m rest → floor p.trace k ≤ floor q.trace k
reach_floor k Here = omega arith
reach_floor {grid} {row} {p} {q} k (Later {x = x} a) = let one = after_floor grid row p x k in let more = reach_floor k a in omega arith
