-- A world that stands for events stands, after a step, for those and one more.
use Rattle.std.proofs.Common.{◌≡◌, ◌∙◌, ℕ, ◌+◌, ◌<◌, List, [], ◌∷◌, ◌++◌, length, Bool, true, false, Option, Some, None, refl, sym, ap, ap₂, subst, arith}
use Rattle.std.specs.Prelude.{min, fold, nat_le, if◌then◌else◌}
use Rattle.std.specs.List.{filter_map}
use Rattle.std.proofs.lemmas.Bool.Decides.{nat_tests}
use Rattle.std.proofs.lemmas.List.Elements.{filter_map-append}
use Rattle.std.proofs.lemmas.List.Sums.{fold-append}
use Rattle.gq_grid.specs.Grid.{Grid}
use Rattle.gq_desk.specs.declared.plans.TenantRow.{TenantRow}
use Rattle.gq_desk.specs.CheckedPlan.{CheckedPlan, nobody, row_at}
use Rattle.gq_model.specs.declared.events.Event.{Event}
use Rattle.gq_model.specs.declared.events.Event.TheVariants.{Tenant, Server, Stray}
use Rattle.gq_model.specs.Told.{Told}
use Rattle.gq_model.specs.Trace.{Turn, Own, Serving, Leaping, Losing, Returning, Trace, Past, State, Known, questions, changed, asked, up, up_by, gone, gone_by, start}
use Rattle.gq_model.specs.Lone.{Step, entry_of, step, step_at, server_told, is_refusal, lines_after, trace_after, after, past_of}
use Rattle.gq_model.specs.Events.{turn_of, own, server_turn, past_at, server_past, IsIn, answer_to}
use Rattle.gq_world.specs.Tables.{Tables, Agrees, up_in, gone_in, Stands}
use Rattle.gq_world.specs.Machine.{counted, state_after_turn, next, next_seen, up_after, gone_after, Advances, Tells}
use Rattle.gq_world.proofs.Soundness.{Bounded, seen_bounded}
use Rattle.gq_world.proofs.Steps.{start_bounded}

-- ---- each question, after one more turn

lines_on : (steps lines : ℕ) → min steps (lines + 1) ≡ (if nat_le steps (min steps lines) then min steps lines else min steps lines + 1)
lines_on steps lines = grind (arith, nat_tests)

counted_on : (row : TenantRow) (lines : ℕ) (turn : Turn) → min row.steps (lines_after lines turn) ≡ counted row (min row.steps lines) turn
counted_on row lines (Own line) = lines_on row.steps lines
counted_on row lines (Serving line) = refl
counted_on row lines (Leaping k op number) = refl
counted_on row lines (Losing s volumes) = refl
counted_on row lines (Returning s f peer copy) = refl

state_on : (t : Trace) (turn : Turn) (s : Step) → questions (trace_after t turn s) ≡ state_after_turn (questions t) turn s
state_on t turn s = by (is_refusal s.told)
  where
    by : (b : Bool) → questions (if b then t else entry_of (questions t) turn s ∷ t) ≡ (if b then questions t else changed (entry_of (questions t) turn s) (questions t))
    by true = refl
    by false = refl

pub goes_on : (grid : Grid) (row : TenantRow) (past : Past) (turn : Turn) → asked row (after grid row past turn) ≡ next grid row (asked row past) turn
goes_on grid row past turn =
    ap₂ known (counted_on row past.lines turn) (state_on past.trace turn (step_at grid row past turn))
  where
    known : ℕ → State → Known
    known lines state = record { lines = lines; state = state }

-- ---- after one more event

seen_one : (h : Event → Option Turn) (grid : Grid) (row : TenantRow) (past : Past) (e : Event) → asked row (fold (after grid row) past (filter_map h (e ∷ []))) ≡ next_seen grid row (asked row past) (h e)
seen_one h grid row past e = by (h e) refl
  where
    by : (o : Option Turn) → h e ≡ o → asked row (fold (after grid row) past (filter_map h (e ∷ []))) ≡ next_seen grid row (asked row past) o
    by None is = rw is refl
    by (Some turn) is = rw is (goes_on grid row past turn)

pub seen_on : (h : Event → Option Turn) (grid : Grid) (row : TenantRow) (events : List Event) (e : Event) → asked row (past_of grid row (filter_map h (events ++ e ∷ []))) ≡ next_seen grid row (asked row (past_of grid row (filter_map h events))) (h e)
seen_on h grid row events e =
    rw (filter_map-append h events (e ∷ []), fold-append (after grid row) start (filter_map h events) (filter_map h (e ∷ [])))
    (seen_one h grid row (past_of grid row (filter_map h events)) e)

-- the servers that are up, and those that are lost
servers_on : (plan : CheckedPlan) (events : List Event) (e : Event) →
    (up (server_past plan (events ++ e ∷ [])).trace ≡ up_after plan.grid (up (server_past plan events).trace) (gone (server_past plan events).trace) e)
    × (gone (server_past plan (events ++ e ∷ [])).trace ≡ gone_after plan.grid (up (server_past plan events).trace) (gone (server_past plan events).trace) e)
servers_on plan events e =
    let on = seen_on server_turn plan.grid nobody events e in
    (ap (λ (k : Known). k.state.up) on ∙ (by e).0, ap (λ (k : Known). k.state.gone) on ∙ (by e).1)
  where
    one : (b : Bool) (turn : Turn) (s : Step) (state : State) → ((if b then state else changed (entry_of state turn s) state).up ≡ (if b then state.up else up_by turn state.up)) × ((if b then state else changed (entry_of state turn s) state).gone ≡ (if b then state.gone else gone_by turn state.gone))
    one true turn s state = (refl, refl)
    one false turn s state = (refl, refl)

    by : (e : Event) → ((next_seen plan.grid nobody (asked nobody (server_past plan events)) (server_turn e)).state.up ≡ up_after plan.grid (up (server_past plan events).trace) (gone (server_past plan events).trace) e)
        × ((next_seen plan.grid nobody (asked nobody (server_past plan events)) (server_turn e)).state.gone ≡ gone_after plan.grid (up (server_past plan events).trace) (gone (server_past plan events).trace) e)
    by (Tenant tenant line) = (refl, refl)
    by (Server line) = one (is_refusal (server_told plan.grid (up (server_past plan events).trace) (gone (server_past plan events).trace) line)) (Serving line) (step plan.grid nobody (asked nobody (server_past plan events)) (Serving line)) (questions (server_past plan events).trace)
    by Stray = (refl, refl)

-- ---- what is known of a run is bounded

bounded_from : (plan : CheckedPlan) (t : ℕ) (past : Past) (events : List Event) → Bounded plan.grid (row_at plan t) (asked (row_at plan t) past) → Bounded plan.grid (row_at plan t) (asked (row_at plan t) (fold (after plan.grid (row_at plan t)) past (own t events)))
bounded_from plan t past [] h = h
bounded_from plan t past (e ∷ events) h = by (turn_of t e) refl (λ q. bounded_from plan t q events)
  where
    row : TenantRow
    row = row_at plan t

    by : (o : Option Turn) → turn_of t e ≡ o → ((q : Past) → Bounded plan.grid row (asked row q) → Bounded plan.grid row (asked row (fold (after plan.grid row) q (own t events)))) →
        Bounded plan.grid row (asked row (fold (after plan.grid row) past (own t (e ∷ events))))
    by None is rest = rw is (rest past h)
    by (Some turn) is rest =
        let next_is : asked row (after plan.grid row past turn) ≡ next_seen plan.grid row (asked row past) (turn_of t e) = goes_on plan.grid row past turn ∙ sym (ap (next_seen plan.grid row (asked row past)) is) in
        rw is (rest (after plan.grid row past turn) (subst (Bounded plan.grid row) (sym next_is) (seen_bounded plan.grid row (asked row past) t e h)))

past_bounded : (plan : CheckedPlan) (t : ℕ) (events : List Event) → Bounded plan.grid (row_at plan t) (asked (row_at plan t) (past_at plan t events))
past_bounded plan t events = bounded_from plan t start events (subst (λ n. Bounded plan.grid (row_at plan t) (record { lines = n; state = questions [] })) (none_taken (row_at plan t).steps) (start_bounded plan.grid (row_at plan t)))
  where
    none_taken : (steps : ℕ) → 0 ≡ min steps 0
    none_taken steps = omega arith

-- ---- the tables

pub stands_on : (old new : Tables) (events : List Event) (e : Event) → Stands old events → Advances old e new → Stands new (events ++ e ∷ [])
stands_on old new events e stands advances =
    let T : CheckedPlan → Type 0 = λ p. (t : ℕ) → t < length p.rows → Agrees new t (asked (row_at p t) (past_at p t (events ++ e ∷ []))) in
    let U : CheckedPlan → Type 0 = λ p. up_in new.plan.grid new.up ≡ up (server_past p (events ++ e ∷ [])).trace in
    let G : CheckedPlan → Type 0 = λ p. gone_in new.plan.grid new.kept ≡ gone (server_past p (events ++ e ∷ [])).trace in
    let grid : Grid = old.plan.grid in
    record {
      tenants = subst T (sym advances.plan) (λ t within.
          subst (Agrees new t) (sym (seen_on (turn_of t) old.plan.grid (row_at old.plan t) events e))
          (advances.tenants t within (asked (row_at old.plan t) (past_at old.plan t events)) (asked (row_at old.plan t) (past_at old.plan t events)).lines (past_bounded old.plan t events) (stands.tenants t within)));
      servers = subst U (sym advances.plan) (
          advances.servers
          ∙ ap (λ s. up_after grid s (gone_in grid old.kept) e) stands.servers
          ∙ ap (λ s. up_after grid (up (server_past old.plan events).trace) s e) stands.gone
          ∙ sym (servers_on old.plan events e).0);
      gone = subst G (sym advances.plan) (
          advances.gone
          ∙ ap (λ s. gone_after grid s (gone_in grid old.kept) e) stands.servers
          ∙ ap (λ s. gone_after grid (up (server_past old.plan events).trace) s e) stands.gone
          ∙ sym (servers_on old.plan events e).1);
    }

pub tells_as : (w : Tables) (events : List Event) (e : Event) (answer : Told) → Stands w events → IsIn w.plan e → Tells w e answer → answer ≡ answer_to w.plan events e
tells_as w events (Tenant t line) answer stands within tells = tells (asked (row_at w.plan t) (past_at w.plan t events)) (stands.tenants t within)
tells_as w events (Server line) answer stands within tells = tells ∙ ap (λ s. server_told w.plan.grid s (gone_in w.plan.grid w.kept) line) stands.servers ∙ ap (λ s. server_told w.plan.grid (up (server_past w.plan events).trace) s line) stands.gone
tells_as w events Stray answer stands within tells = tells
