-- Each operation that an input leaves going can be completed by more lines of its tenant.
use Rattle.std.proofs.Common.{◌≡◌, ◌∙◌, ℕ, ◌+◌, ◌*◌, ◌<◌, List, [], ◌∷◌, ◌++◌, length, map, Option, Some, Bool, false, refl, sym, ap, subst, arith, All, inl, inr}
use Rattle.std.specs.Prelude.{slice_get, unwrap_or, IsOk, Contains}
use Rattle.std.specs.List.{cons_option}
use Rattle.std.proofs.lemmas.Bool.{eq-eqb}
use Rattle.std.proofs.lemmas.Option.{slice_get-get_or}
use Rattle.std.proofs.lemmas.List.{length-append, length-map}
use Rattle.std.proofs.lemmas.List.Elements.{All-nil, All-cons, All-head, All-tail, All-append}
use Rattle.gq_desk.specs.CheckedPlan.{CheckedPlan, nobody, row_at}
use Rattle.gq_desk.specs.declared.plans.TenantRow.{TenantRow}
use Rattle.gq_phase.specs.declared.Outcome.{Outcome}
use Rattle.gq_phase.specs.Phase.{Operation}
use Rattle.gq_model.specs.declared.events.Event.{Event}
use Rattle.gq_model.specs.declared.events.Event.TheVariants.{Tenant}
use Rattle.gq_model.specs.declared.events.Line.{Line}
use Rattle.gq_model.specs.declared.events.Line.TheVariants.{Deliver, Retry}
use Rattle.gq_model.specs.Told.{Told, Done}
use Rattle.gq_model.specs.Trace.{Turn, Own, Serving, Past, operation, start, task_of}
use Rattle.gq_model.specs.Lone.{is_refusal, told_from, said, past_of, first_operation}
use Rattle.gq_model.specs.Events.{turn_of, own, past_at, answer_to}
use Rattle.gq_model.proofs.Whole.{past_whole, up_has}
use Rattle.gq_laws.specs.Tenants.{answers_from}
use Rattle.gq_laws.specs.Progress.{deliveries_left, IsOutcomeOf, QuorumsUp, state_after, StepsLeft, Completes, TenantCompletes}
use Rattle.gq_laws.proofs.AllTenants.{past_more}
use Rattle.gq_laws.proofs.Asking.{all_requests_complete}
use Rattle.gq_laws.proofs.CompletingAmong.{all_tenants_complete}
use Rattle.gq_lines.specs.Words.{words_of}
use Rattle.gq_lines.specs.Lines.{lines_of, joined}
use Rattle.gq_text.specs.Input.{event_of}
use Rattle.gq_text.specs.Canonical.{IsPlan, FitsLine}
use Rattle.gq_script.specs.Out.{out}
use Rattle.gq_script.specs.Alone.{is_own, turn_from, turns_of, Accepts}
use Rattle.gq_script.specs.Completing.{told_line, CompletesBy, CompletesBehind, AllInputsComplete, AllInputRequestsComplete}
use Rattle.gq_text.proofs.PlanNames.{HasPlace, has_place}
use Rattle.gq_script.proofs.Sights.{Sight, sight}
use Rattle.gq_text.proofs.PlanIs.{plan_is, RowFits, row_of_plan, small_grid}
use Rattle.gq_script.proofs.FewMessages.{is_stray, IsSmall, IsFew, few_from, few_at_start, all_own, HasNumber, all_numbers}
use Rattle.gq_script.proofs.Refusing.{none_refused}
use Rattle.gq_script.proofs.Longer.{longer_read, longer_out}

-- ---- lists of answers

-- there is an answer to each event
pub length-answers : (plan : CheckedPlan) (events before : List Event) → length (answers_from plan before events) ≡ length events
length-answers plan [] before = refl
length-answers plan (event ∷ events) before = let later = length-answers plan events (before ++ event ∷ []) in omega (arith, later)

-- what holds of a list holds of its front
All-front : {X : Type 0} (P : X → Type 0) (xs ys : List X) → All P (xs ++ ys) → All P xs
All-front P [] ys all = All-nil P
All-front P (x ∷ xs) ys all = All-cons P x xs (All-head P x (xs ++ ys) all) (All-front P xs ys (All-tail P x (xs ++ ys) all))

-- the numbers of deliveries can be written
deliveries_fit : (row : TenantRow) (numbers : List ℕ) → RowFits row → All (HasNumber row) (map Deliver numbers) → All FitsLine (map Deliver numbers)
deliveries_fit row [] fits has = All-nil FitsLine
deliveries_fit row (n ∷ numbers) fits has =
    let low : n < 65 * row.steps = All-head (HasNumber row) (Deliver n) (map Deliver numbers) has in
    let steps = fits.steps in
    All-cons FitsLine (Deliver n) (map Deliver numbers) (omega (arith, low, steps)) (deliveries_fit row numbers fits (All-tail (HasNumber row) (Deliver n) (map Deliver numbers) has))

-- the next lines of a tenant are told what its run alone says
pub next_told : (plan : CheckedPlan) (t : ℕ) (lines : List Line) (events : List Event) → answers_from plan events (map (Tenant t) lines) ≡ told_from plan.grid (row_at plan t) (past_at plan t events) (map Own lines)
next_told plan t [] events = refl
next_told plan t (line ∷ lines) events =
    ap (λ later. answer_to plan events (Tenant t line) ∷ later)
    (next_told plan t lines (events ++ Tenant t line ∷ []) ∙ ap (λ p. told_from plan.grid (row_at plan t) p (map Own lines)) (past_more plan t events (Tenant t line) (Some (Own line)) (rw (eq-eqb t t refl) refl)))

-- ---- texts

-- what completes an operation of a tenant by these deliveries, said of texts
pub behind_by : (input : List ℕ) (plan : CheckedPlan) (lines : List (List ℕ)) (t : ℕ) (o : Operation) (line : Line) (numbers : List ℕ) (before : List Told) (outcome : Outcome) → Accepts input plan lines → t < length plan.rows
    → (RowFits (row_at plan t) → HasNumber (row_at plan t) line → FitsLine line)
    → IsOutcomeOf o outcome → All (λ told. is_refusal told ≡ false) before
    → answers_from plan (map (event_of plan) lines) (map (Tenant t) (line ∷ map Deliver numbers)) ≡ before ++ Done outcome ∷ []
    → CompletesBy input plan.grid (row_at plan t).name o line numbers
behind_by input plan lines t o line numbers before outcome accepts within fits its none told = record {
  outcome = outcome;
  its = its;
  before = before;
  each = each;
  accepted = none_refused plan.grid row.name before none (All-front (λ told. is_stray told ≡ false) before (Done outcome ∷ []) owned);
  output = longer_out input plan lines t more accepts.read within all_fit ∙ ap (λ tolds. out input ++ joined (map (told_line plan.grid row.name) tolds)) told;
  small = λ small. record { small = small; plan = subst IsOk (sym (longer_read input plan lines row.name more accepts.read)) refl };
}
  where
    row : TenantRow
    row = row_at plan t

    events : List Event
    events = map (event_of plan) lines

    deliveries : List Line
    deliveries = map Deliver numbers

    more : List Line
    more = line ∷ deliveries

    past : Past
    past = past_at plan t events

    is : IsPlan plan
    is = plan_is (lines_of input) lines plan accepts.read

    small : IsSmall plan.grid
    small = small_grid plan is

    few : IsFew row past
    few = few_from plan.grid row (own t events) start small (few_at_start row)

    row_is : RowFits row
    row_is = row_of_plan plan is t within

    alone : told_from plan.grid row past (map Own more) ≡ before ++ Done outcome ∷ []
    alone = sym (next_told plan t more events) ∙ told

    fine : All (λ told. is_refusal told ≡ false) (told_from plan.grid row past (map Own more))
    fine = subst (All (λ told. is_refusal told ≡ false)) (sym alone)
        (All-append (λ told. is_refusal told ≡ false) before (Done outcome ∷ []) none (All-cons (λ told. is_refusal told ≡ false) (Done outcome) [] refl (All-nil (λ told. is_refusal told ≡ false))))

    owned : All (λ told. is_stray told ≡ false) (before ++ Done outcome ∷ [])
    owned = subst (All (λ told. is_stray told ≡ false)) alone (all_own plan.grid row more past small)

    has_numbers : All (HasNumber row) more
    has_numbers = all_numbers plan.grid row more past small few fine

    all_fit : All FitsLine more
    all_fit = All-cons FitsLine line deliveries (fits row_is (All-head (HasNumber row) line deliveries has_numbers)) (deliveries_fit row numbers row_is (All-tail (HasNumber row) line deliveries has_numbers))

    each : length before ≡ length numbers
    each =
        let told_too = ap length told in
        let answers = length-answers plan (map (Tenant t) more) events in
        let lines = length-map more (Tenant t) in
        let sent = length-map numbers Deliver in
        let last = length-append before (Done outcome ∷ []) in
        omega (arith, told_too, answers, lines, sent, last)

-- what completes an operation of a tenant, said of texts
behind : (input : List ℕ) (plan : CheckedPlan) (lines : List (List ℕ)) (t : ℕ) (o : Operation) (line : Line) → Accepts input plan lines → t < length plan.rows → (RowFits (row_at plan t) → HasNumber (row_at plan t) line → FitsLine line)
    → TenantCompletes plan (map (event_of plan) lines) t o line → CompletesBehind input plan.grid (row_at plan t).name o line
behind input plan lines t o line accepts within fits c = record {
  numbers = c.alone.numbers;
  few = c.alone.few;
  completes = behind_by input plan lines t o line c.alone.numbers c.alone.before c.alone.outcome accepts within fits c.alone.its c.alone.accepted c.told;
}

-- ---- the tenant of a row

-- what the tenant sees of the events is what it sees of the lines
own_turns : (plan : CheckedPlan) (t : ℕ) → HasPlace plan t (row_at plan t) → (lines : List (List ℕ)) → own t (map (event_of plan) lines) ≡ turns_of (row_at plan t).name lines
own_turns plan t has [] = refl
own_turns plan t has (line ∷ lines) = by (event_of plan line) (is_own (row_at plan t).name line) (turn_from (row_at plan t).name (words_of line)) (sight plan t (row_at plan t) line has) (own_turns plan t has lines)
  where
    events : List Event
    events = map (event_of plan) lines

    by : (event : Event) (mine : Bool) (turn : Option Turn) → Sight t event mine turn → own t events ≡ turns_of (row_at plan t).name lines → cons_option (turn_of t event) (own t events) ≡ cons_option turn (turns_of (row_at plan t).name lines)
    by event mine turn (inl (line, is, holds, sees)) later =
        let here : turn_of t (Tenant t line) ≡ Some (Own line) = rw (eq-eqb t t refl) refl in
        rw (is, here, sees) (ap (λ turns. Own line ∷ turns) later)
    by event mine turn (inr (inl (line, is, other, sees))) later = rw (is, sees) (ap (λ turns. Serving line ∷ turns) later)
    by event mine turn (inr (inr (unseen, other, sees))) later = rw (unseen, sees) later

-- what holds of each tenant's row and turns holds of a row of the plan, and of what its lines are to it
of_row : (P : TenantRow → List Turn → Type 0) (input : List ℕ) (plan : CheckedPlan) (lines : List (List ℕ)) (row : TenantRow) → Accepts input plan lines → Contains plan.rows row
    → ((t : ℕ) → t < length plan.rows → P (row_at plan t) (own t (map (event_of plan) lines))) → P row (turns_of row.name lines)
of_row P input plan lines row accepts member holds =
    let t : ℕ = member.0 in
    let at : slice_get plan.rows t ≡ Some row = slice_get-get_or plan.rows t row member.1 ∙ ap Some member.2 in
    let is : row_at plan t ≡ row = ap (λ o. unwrap_or o nobody) at in
    let place : HasPlace plan t (row_at plan t) = subst (HasPlace plan t) (sym is) (has_place (lines_of input) lines plan t row accepts.read at) in
    let OfRow : TenantRow → Type 0 = λ r. P r (turns_of r.name lines) in
    subst OfRow is (subst (P (row_at plan t)) (own_turns plan t place lines) (holds t member.1))

-- ---- the law

pub all_inputs_complete : AllInputsComplete
all_inputs_complete input plan lines row k o accepts member has may = of_row P input plan lines row accepts member at_place has may.up may.steps
  where
    P : TenantRow → List Turn → Type 0
    P row turns =
        operation (state_after plan.grid row turns) k ≡ Some o → QuorumsUp plan.grid (state_after plan.grid row turns).up → StepsLeft plan.grid row turns (1 + deliveries_left plan.grid o)
        → CompletesBehind input plan.grid row.name o (Retry k)

    at_place : (t : ℕ) → t < length plan.rows → P (row_at plan t) (own t (map (event_of plan) lines))
    at_place t within has up steps =
        behind input plan lines t o (Retry k) accepts within (λ fits low. let sessions = fits.sessions in omega (arith, sessions, low)) (all_tenants_complete plan (map (event_of plan) lines) t k o has up steps)

pub all_input_requests_complete : AllInputRequestsComplete
all_input_requests_complete input plan lines row k line task accepts member asked may = of_row P input plan lines row accepts member at_place asked.begins asked.accepted may.up may.steps
  where
    begun : TenantRow → List Turn → Operation
    begun row turns = first_operation (state_after plan.grid row turns) k task

    P : TenantRow → List Turn → Type 0
    P row turns =
        task_of (state_after plan.grid row turns).volumes line ≡ Some task → is_refusal (said plan.grid row (past_of plan.grid row turns) (Own line)) ≡ false
        → QuorumsUp plan.grid (state_after plan.grid row turns).up → StepsLeft plan.grid row turns (1 + deliveries_left plan.grid (begun row turns))
        → CompletesBehind input plan.grid row.name (begun row turns) line

    at_place : (t : ℕ) → t < length plan.rows → P (row_at plan t) (own t (map (event_of plan) lines))
    at_place t within its fine up steps =
        let events : List Event = map (event_of plan) lines in
        let alone : Completes plan.grid (row_at plan t) (past_at plan t events) (begun (row_at plan t) (own t events)) line = all_requests_complete plan.grid (row_at plan t) (own t events) k line task asked.asks its fine up (up_has (past_at plan t events).trace (past_whole plan t events)) steps in
        behind input plan lines t (begun (row_at plan t) (own t events)) line accepts within (λ row low. asked.fits) (record { alone = alone; told = next_told plan t (line ∷ map Deliver alone.numbers) events ∙ alone.told })
