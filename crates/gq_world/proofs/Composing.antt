-- One step touches one tenant, and the rest follows.
use Rattle.std.proofs.Common.{◌≡◌, ◌≢◌, ◌∙◌, ℕ, ◌+◌, ◌<◌, length, Bool, true, false, refl, sym, ap, subst, Some, None, arith, inl, inr}
use Rattle.std.specs.Prelude.{nat_le, slice_set, ◌==◌, if◌then◌else◌}
use Rattle.std.proofs.lemmas.Bool.{cases_eq, cases_Bool, ne_eqb, eq-eqb}
use Rattle.std.proofs.lemmas.Option.{unwrap_or-slice_get}
use Rattle.std.proofs.lemmas.List.{get_or-set_same, get_or-set_other}
use Rattle.gq_grid.specs.Grid.{Grid}
use Rattle.gq_desk.specs.declared.plans.TenantRow.{TenantRow}
use Rattle.gq_desk.specs.CheckedPlan.{row_at}
use Rattle.gq_model.specs.declared.events.Line.{Line}
use Rattle.gq_model.specs.declared.events.Event.TheVariants.{Tenant}
use Rattle.gq_model.specs.declared.events.Refusal.TheVariants.{Spent}
use Rattle.gq_model.specs.Told.{Told, Refused}
use Rattle.gq_model.specs.Trace.{Own, State, Known}
use Rattle.gq_world.specs.Bounds.{IsBounded}
use Rattle.gq_world.specs.Tables.{Tables, Agrees, IsReady, IsKnown, taken_at, up_in, gone_in}
use Rattle.gq_model.specs.Lone.{Step, quiet, step, line_step}
use Rattle.gq_world.specs.Machine.{counted, state_after_turn, next, next_seen, acted, Advances, Acts, Tells, TellsLine}
use Rattle.gq_model.specs.Events.{turn_of}

-- ---- a step is taken

abbrev pub taken : Tables → ℕ → Tables
taken w t = record w { lines = slice_set w.lines t (taken_at w t + 1) }

taken_own : (w : Tables) (t : ℕ) (known : Known) → t < length w.lines → Agrees w t known → Agrees (taken w t) t (record known { lines = known.lines + 1 })
taken_own w t known within agrees = record {
  lines = unwrap_or-slice_get (slice_set w.lines t (taken_at w t + 1)) t 0 ∙ get_or-set_same w.lines t (taken_at w t + 1) 0 within ∙ ap (λ n. n + 1) agrees.lines;
  up = agrees.up;
  gone = agrees.gone;
  account = agrees.account;
  sent = agrees.sent;
  lost = agrees.lost;
  messages = agrees.messages;
  accounts = agrees.accounts;
  copies = agrees.copies;
  lacking = agrees.lacking;
  down = agrees.down;
  session_states = agrees.session_states;
}

taken_other : (w : Tables) (t u : ℕ) (known : Known) → u ≢ t → Agrees w u known → Agrees (taken w t) u known
taken_other w t u known other agrees = record {
  lines = unwrap_or-slice_get (slice_set w.lines t (taken_at w t + 1)) u 0 ∙ get_or-set_other w.lines t u (taken_at w t + 1) 0 other ∙ sym (unwrap_or-slice_get w.lines u 0) ∙ agrees.lines;
  up = agrees.up;
  gone = agrees.gone;
  account = agrees.account;
  sent = agrees.sent;
  lost = agrees.lost;
  messages = agrees.messages;
  accounts = agrees.accounts;
  copies = agrees.copies;
  lacking = agrees.lacking;
  down = agrees.down;
  session_states = agrees.session_states;
}

-- the tenant whose step is taken is ready
pub taken_ready : (w : Tables) (t : ℕ) → t < length w.lines → taken_at w t + 1 < 4294967296 → IsKnown w t → IsReady (taken w t) t
taken_ready w t within few sound = record {
  known = record { lines = sound.known.lines + 1; state = sound.known.state };
  agrees = taken_own w t sound.known within sound.agrees;
  before = sound.known.lines;
  taken = refl;
  few = let lines = sound.agrees.lines in omega arith;
  bounded = sound.bounded;
}

-- ---- one step for all tenants

own_advances : (old new : Tables) (t : ℕ) (line : Line) → new.plan ≡ old.plan → up_in new.plan.grid new.up ≡ up_in old.plan.grid old.up → gone_in new.plan.grid new.kept ≡ gone_in old.plan.grid old.kept →
    ((known : Known) (most : ℕ) → IsBounded old.plan.grid (row_at old.plan t) most known.state → Agrees old t known → Agrees new t (next old.plan.grid (row_at old.plan t) known (Own line))) →
    ((u : ℕ) → u ≢ t → (known : Known) → Agrees old u known → Agrees new u known) → Advances old (Tenant t line) new
own_advances old new t line plan servers gone own others = record {
  plan = plan;
  servers = servers;
  gone = gone;
  tenants = λ u within. elim (cases_eq t u) [
    | inl same ↦ subst P same (seen (t == t) (eq-eqb t t refl))
    | inr other ↦ rw (ne_eqb t u other) (λ known most bounded. others u (λ e. other (sym e)) known)
  ];
}
  where
    P : ℕ → Type 0
    P u = (known : Known) (most : ℕ) → IsBounded old.plan.grid (row_at old.plan u) most known.state → Agrees old u known → Agrees new u (next_seen old.plan.grid (row_at old.plan u) known (turn_of u (Tenant t line)))

    seen : (b : Bool) → b ≡ true → (known : Known) (most : ℕ) → IsBounded old.plan.grid (row_at old.plan t) most known.state → Agrees old t known → Agrees new t (next_seen old.plan.grid (row_at old.plan t) known (if b then Some (Own line) else None))
    seen b is = rw is own

spent_step : (grid : Grid) (row : TenantRow) (known : Known) (line : Line) → nat_le row.steps known.lines ≡ true → step grid row known (Own line) ≡ quiet (Refused Spent)
spent_step grid row known line spent = rw spent refl

left_step : (grid : Grid) (row : TenantRow) (known : Known) (line : Line) → nat_le row.steps known.lines ≡ false → step grid row known (Own line) ≡ line_step grid row known.state line
left_step grid row known line left = rw left refl

spent_lines : (row : TenantRow) (lines : ℕ) (line : Line) → nat_le row.steps lines ≡ true → counted row lines (Own line) ≡ lines
spent_lines row lines line spent = rw spent refl

left_lines : (row : TenantRow) (lines : ℕ) (line : Line) → nat_le row.steps lines ≡ false → counted row lines (Own line) ≡ lines + 1
left_lines row lines line left = rw left refl

-- so many lines, and what is known after the step
abbrev known_with : State → Line → ℕ → Step → Known
known_with state line lines s = record { lines = lines; state = state_after_turn state (Own line) s }

spent_known : (grid : Grid) (row : TenantRow) (known : Known) (line : Line) → nat_le row.steps known.lines ≡ true → next grid row known (Own line) ≡ known
spent_known grid row known line spent =
    ap (λ n. known_with known.state line n (step grid row known (Own line))) (spent_lines row known.lines line spent)
    ∙ ap (known_with known.state line known.lines) (spent_step grid row known line spent)

left_known : (grid : Grid) (row : TenantRow) (known : Known) (line : Line) → nat_le row.steps known.lines ≡ false → next grid row known (Own line) ≡ acted grid row (record known { lines = known.lines + 1 }) line
left_known grid row known line left =
    ap (λ n. known_with known.state line n (step grid row known (Own line))) (left_lines row known.lines line left)
    ∙ ap (known_with known.state line (known.lines + 1)) (left_step grid row known line left)

pub spent_advances : (w : Tables) (t : ℕ) (line : Line) → nat_le (row_at w.plan t).steps (taken_at w t) ≡ true → Advances w (Tenant t line) w
spent_advances w t line spent = own_advances w w t line refl refl refl
    (λ known most bounded agrees. subst (Agrees w t) (sym (spent_known w.plan.grid (row_at w.plan t) known line (rw agrees.lines at spent))) agrees)
    (λ u other known agrees. agrees)

pub spent_tells : (w : Tables) (t : ℕ) (line : Line) → nat_le (row_at w.plan t).steps (taken_at w t) ≡ true → Tells w (Tenant t line) (Refused Spent)
spent_tells w t line spent known agrees = let spent' = rw agrees.lines at spent in sym (ap (λ (s : Step). s.told) (spent_step w.plan.grid (row_at w.plan t) known line spent'))

pub taken_advances : (w new : Tables) (t : ℕ) (line : Line) → t < length w.lines → nat_le (row_at w.plan t).steps (taken_at w t) ≡ false → Acts (taken w t) t line new → Advances w (Tenant t line) new
taken_advances w new t line within left acts = own_advances w new t line acts.plan acts.servers acts.gone
    (λ known most bounded agrees. subst (Agrees new t) (sym (left_known w.plan.grid (row_at w.plan t) known line (rw agrees.lines at left)))
    (acts.own (record known { lines = known.lines + 1 }) most bounded (taken_own w t known within agrees)))
    (λ u other known agrees. acts.others u other known (taken_other w t u known other agrees))

pub taken_tells : (w : Tables) (t : ℕ) (line : Line) (answer : Told) → t < length w.lines → nat_le (row_at w.plan t).steps (taken_at w t) ≡ false → TellsLine (taken w t) t line answer → Tells w (Tenant t line) answer
taken_tells w t line answer within left tells known agrees =
    let left' = rw agrees.lines at left in
    tells (record known { lines = known.lines + 1 }) (taken_own w t known within agrees) ∙ sym (ap (λ (s : Step). s.told) (left_step w.plan.grid (row_at w.plan t) known line left'))

-- ---- what is known stays bounded

-- the law of a line: what is known stays bounded, by one number more, after it
abbrev pub KeepsBounds : Line → Type 0
KeepsBounds line = (grid : Grid) (row : TenantRow) (n : ℕ) (known : Known) → IsBounded grid row n known.state → IsBounded grid row (n + 1) (acted grid row known line).state

pub next_bounded : (grid : Grid) (row : TenantRow) (known : Known) (line : Line) → KeepsBounds line → IsBounded grid row known.lines known.state → IsBounded grid row (next grid row known (Own line)).lines (next grid row known (Own line)).state
next_bounded grid row known line law h = elim (cases_Bool (nat_le row.steps known.lines)) [
  | inl spent ↦ (subst S (sym (spent_known grid row known line spent)) h)
  | inr left ↦ (subst S (sym (left_known grid row known line left)) (law grid row known.lines (record known { lines = known.lines + 1 }) h))
]
  where
    S : Known → Type 0
    S k = IsBounded grid row k.lines k.state
