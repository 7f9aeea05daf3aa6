-- In a run each session whose operation begins is numbered by a byte.
use Rattle.std.proofs.Common.{◌≡◌, ℕ, ◌<◌, Option, Some, None, Bool, true, false, List, [], ◌∷◌, ◌++◌, map, refl, sym, ap, ◌∙◌, subst, arith}
use Rattle.std.specs.Prelude.{nat_le, nat_lt, not, slice_get, if◌then◌else◌}
use Rattle.std.proofs.lemmas.Bool.Decides.{nat_tests}
use Rattle.std.proofs.lemmas.Bool.{and_parts, and_from, leb-true, lt-ltb}
use Rattle.gq_grid.specs.Grid.{Grid}
use Rattle.gq_desk.specs.declared.plans.TenantRow.{TenantRow}
use Rattle.gq_desk.specs.CheckedPlan.{CheckedPlan, row_at}
use Rattle.gq_desk.specs.declared.limits.TheConstants.{MOST_SESSIONS}
use Rattle.gq_desk.specs.Plans.{is_in, number_fault, plan_fault}
use Rattle.gq_desk.proofs.SoundRows.{few_sessions}
use Rattle.gq_model.specs.declared.events.Event.{Event}
use Rattle.gq_model.specs.declared.events.Event.TheVariants.{Tenant, Server}
use Rattle.gq_model.specs.declared.events.Line.{Line}
use Rattle.gq_model.specs.declared.events.Line.TheVariants.{Write, Read, List as ListFiles}
use Rattle.gq_model.specs.declared.events.Answer.{Answer}
use Rattle.gq_model.specs.declared.events.Answer.TheVariants.{Began as HasBegun}
use Rattle.gq_model.specs.declared.events.Refusal.TheVariants.{Spent, NoSession}
use Rattle.gq_model.specs.Told.{Began, Refused}
use Rattle.gq_model.specs.Shown.{shown}
use Rattle.gq_model.specs.Trace.{Own, Known, asked}
use Rattle.gq_model.specs.Events.{answer_to, past_at}
use Rattle.gq_model.specs.Lone.{Cause, Step, quiet, unless, first_cause, no_session, session_causes, session_step, asked_step, line_step, told}
use Rattle.gq_tag.specs.Tag.{File}
use Rattle.gq_laws.specs.declared.ops.Op.{Op}
use Rattle.gq_laws.specs.Operations.{operations, Tagged}
use Rattle.gq_laws.specs.Tenants.{answers_from, seen, tenant_operations}
use Rattle.gq_laws.proofs.AllTenants.{all_tenants_tagged}
use Rattle.gq_order.specs.Passes.{read_off}
use Rattle.gq_order.proofs.Agreeing.{read_off_is}
use Rattle.gq_order.specs.Runs.{line_is_of_byte, event_is_of_byte, sessions_are_bytes}
use Rattle.gq_order.specs.Runs.{IsRun, HasFewSessions}

small : (row : TenantRow) (k : ℕ) → row.sessions < 256 → is_in 1 row.sessions k ≡ true → nat_lt k 256 ≡ true
small row k few is =
    let both = and_parts (nat_le 1 k) (nat_le k row.sessions) is in
    let high = leb-true k row.sessions both.1 in
    lt-ltb k 256 (omega (arith, high))

pub few_bytes : (plan : CheckedPlan) → plan_fault plan.blocks plan.rows ≡ None → HasFewSessions plan
few_bytes plan none t = let few = few_sessions plan none t in omega (arith, few)

-- an operation begins where the line is not spent and the session is there
not_spent : (spent : Bool) (step : Step) (op first count : ℕ) → (if spent then quiet (Refused Spent) else step).told ≡ Began op first count → step.told ≡ Began op first count
not_spent true step op first count says = absurd (let bad : Refused Spent ≡ Began op first count = says in cc)
not_spent false step op first count says = says

session_there : (row : TenantRow) (k : ℕ) (more : List Cause) (step : Step) (op first count : ℕ) → (unless (first_cause (no_session row k ∷ more)) step).told ≡ Began op first count → is_in 1 row.sessions k ≡ true
session_there row k more step op first count says = go (is_in 1 row.sessions k) refl
  where
    go : (b : Bool) → is_in 1 row.sessions k ≡ b → is_in 1 row.sessions k ≡ true
    go true has = has
    go false has = absurd (let bad : Refused NoSession ≡ Began op first count = rw has at says in cc)

begins_small : (grid : Grid) (row : TenantRow) (known : Known) (line : Line) (k : ℕ) (more : List Cause) (op first count : ℕ) → row.sessions < 256 → session_causes grid row known.state line ≡ no_session row k ∷ more → asked_step grid row known.state line ≡ line_step grid row known.state line →
    told grid row known (Own line) ≡ Began op first count → nat_lt k 256 ≡ true
begins_small grid row known line k more op first count few causes asks says =
    let goes = not_spent (nat_le row.steps known.lines) (line_step grid row known.state line) op first count says in
    small row k few (session_there row k more (session_step grid known.state line) op first count
    (ap (λ z. (unless (first_cause z) (session_step grid known.state line)).told) (sym causes) ∙ ap (λ z. z.told) asks ∙ goes))

line_small : (grid : Grid) (row : TenantRow) (known : Known) (line : Line) (op first count : ℕ) → row.sessions < 256 → told grid row known (Own line) ≡ Began op first count → line_is_of_byte line ≡ true
line_small grid row known (Write k v f bytes) op first count few says = begins_small grid row known (Write k v f bytes) k _ op first count few refl refl says
line_small grid row known (Read k v f) op first count few says = begins_small grid row known (Read k v f) k _ op first count few refl refl says
line_small grid row known (ListFiles k v) op first count few says = begins_small grid row known (ListFiles k v) k _ op first count few refl refl says
line_small grid row known _ op first count few says = refl

event_small : (plan : CheckedPlan) (before : List Event) (e : Event) (a : Answer) → HasFewSessions plan → shown a ≡ answer_to plan before e → event_is_of_byte e a ≡ true
event_small plan before (Tenant t line) (HasBegun op first count) few says = line_small plan.grid (row_at plan t) (asked (row_at plan t) (past_at plan t before)) line op first count (few t) (sym says)
event_small plan before (Tenant t line) _ few says = refl
event_small plan before (Server line) a few says = refl
event_small plan before _ a few says = refl

pub runs_fit : (plan : CheckedPlan) (before events : List Event) (given : List Answer) → HasFewSessions plan → map (shown) given ≡ answers_from plan before events → sessions_are_bytes events given ≡ true
runs_fit plan before [] given few is = refl
runs_fit plan before (e ∷ events) [] few is = refl
runs_fit plan before (e ∷ events) (a ∷ given) few is =
    let first : shown a ≡ answer_to plan before e = cc in
    let later : map (shown) given ≡ answers_from plan (before ++ e ∷ []) events = cc in
    and_from (event_is_of_byte e a) (sessions_are_bytes events given) (event_small plan before e a few first) (runs_fit plan (before ++ e ∷ []) events given few later)

-- ---- what is read off a run

pub run_is : (plan : CheckedPlan) (t : ℕ) (file : File) (events : List Event) (given : List Answer) → HasFewSessions plan → IsRun plan events given →
    read_off t file events given ≡ tenant_operations plan events t file
run_is plan t file events given few run =
    read_off_is t file events given (runs_fit plan [] events given few run) ∙ ap (λ z. operations (seen t events z) file) run

pub run_tagged : (plan : CheckedPlan) (t : ℕ) (file : File) (events : List Event) (given : List Answer) → HasFewSessions plan → IsRun plan events given → Tagged (read_off t file events given)
run_tagged plan t file events given few run =
    let P : List Op → Type 0 = λ z. Tagged z in
    subst P (sym (run_is plan t file events given few run)) (all_tenants_tagged plan events t file)
