-- Each tenant is told what its run by itself says.
use Rattle.std.proofs.Common.{◌≡◌, ◌≤◌, ◌∙◌, ℕ, suc, List, [], ◌∷◌, ◌++◌, length, Option, Some, None, Bool, true, false, cond, refl, sym, ap, subst, inl, inr}
use Rattle.std.specs.Prelude.{map, fold, slice_get, unwrap_or, Result, Ok, Err, IfSome, IsOk, OnOk}
use Rattle.std.specs.List.{cons_option}
use Rattle.std.proofs.lemmas.Bool.{eq-eqb}
use Rattle.std.proofs.lemmas.Option.{slice_get-get_or}
use Rattle.std.proofs.lemmas.List.Elements.{filter_map-append}
use Rattle.std.proofs.lemmas.List.Sums.{fold-append}
use Rattle.gq_grid.specs.Grid.{Grid}
use Rattle.gq_desk.specs.CheckedPlan.{CheckedPlan, nobody, row_at}
use Rattle.gq_desk.specs.declared.plans.TenantRow.{TenantRow}
use Rattle.gq_model.specs.declared.events.Event.{Event}
use Rattle.gq_model.specs.declared.events.Event.TheVariants.{Tenant, Server}
use Rattle.gq_model.specs.Trace.{Turn, Own, Serving, Past, start}
use Rattle.gq_model.specs.Lone.{after, past_of, told_from}
use Rattle.gq_model.specs.Events.{turn_of, own, past_at, answer_to}
use Rattle.gq_lines.specs.Words.{words_of}
use Rattle.gq_lines.specs.Lines.{lines_of}
use Rattle.gq_text.specs.Input.{event_of}
use Rattle.gq_text.specs.PlanText.{Reading, plan_of}
use Rattle.gq_text.specs.AnswerText.{who}
use Rattle.gq_script.specs.declared.script.TheConstants.{MOST_INPUT}
use Rattle.gq_script.specs.Out.{out, IsAccepted}
use Rattle.gq_script.specs.Alone.{is_own, seen_lines, lines_to, turn_from, turns_of, told_text, own_text, lone_text, answer_texts, answers_to, Accepts, IsAnswered, AnswersEachLine, TellsAsAlone, TellsTheSame}
use Rattle.gq_text.proofs.PlanNames.{HasPlace, has_place}
use Rattle.gq_script.proofs.OutputLines.{answers_back}
use Rattle.gq_script.proofs.Sights.{Sight, sight, turns_of-seen_lines}

-- the past after one event more
past_more : (grid : Grid) (row : TenantRow) (t : ℕ) (before : List Event) (event : Event) (turn : Option Turn) → turn_of t event ≡ turn → past_of grid row (own t (before ++ event ∷ [])) ≡ fold (after grid row) (past_of grid row (own t before)) (cons_option turn [])
past_more grid row t before event turn is =
    rw (filter_map-append (turn_of t) before (event ∷ []), is)
    (fold-append (after grid row) start (own t before) (cons_option turn []))

-- from events on, the answers to a tenant's lines are what its run by itself says from there on
told_alone : (plan : CheckedPlan) (t : ℕ) → HasPlace plan t (row_at plan t) → (before : List Event) (lines : List (List ℕ)) → lines_to (row_at plan t).name lines (answer_texts plan before (map (event_of plan) lines)) ≡ own_text plan.grid (row_at plan t).name (turns_of (row_at plan t).name lines) (told_from plan.grid (row_at plan t) (past_at plan t before) (turns_of (row_at plan t).name lines))
told_alone plan t has before [] = refl
told_alone plan t has before (line ∷ lines) = by (event_of plan line) (is_own (row_at plan t).name line) (turn_from (row_at plan t).name (words_of line)) (sight plan t (row_at plan t) line has) (λ before. told_alone plan t has before lines)
  where
    row : TenantRow
    row = row_at plan t

    turns : List Turn
    turns = turns_of row.name lines

    rest : Event → List (List ℕ)
    rest event = lines_to row.name lines (answer_texts plan (before ++ event ∷ []) (map (event_of plan) lines))

    said_on : Past → List (List ℕ)
    said_on past = own_text plan.grid row.name turns (told_from plan.grid row past turns)

    Later : Type 0
    Later = (before : List Event) → lines_to row.name lines (answer_texts plan before (map (event_of plan) lines)) ≡ said_on (past_at plan t before)

    goes_on : Later → (event : Event) (turn : Option Turn) → turn_of t event ≡ turn → rest event ≡ said_on (fold (after plan.grid row) (past_at plan t before) (cons_option turn []))
    goes_on later event turn is = later (before ++ event ∷ []) ∙ ap said_on (past_more plan.grid row t before event turn is)

    by : (event : Event) (mine : Bool) (turn : Option Turn) → Sight t event mine turn → Later
        → cond mine (told_text plan.grid (who plan event) (answer_to plan before event) ∷ rest event) (rest event) ≡ own_text plan.grid row.name (cons_option turn turns) (told_from plan.grid row (past_at plan t before) (cons_option turn turns))
    by event mine turn (inl (line, is, holds, sees)) later =
        let here : turn_of t (Tenant t line) ≡ Some (Own line) = rw (eq-eqb t t refl) refl in
        rw (is, holds, sees) (ap (λ xs. told_text plan.grid row.name (answer_to plan before (Tenant t line)) ∷ xs) (goes_on later (Tenant t line) (Some (Own line)) here))
    by event mine turn (inr (inl (line, is, other, sees))) later =
        rw (is, other, sees) (goes_on later (Server line) (Some (Serving line)) refl)
    by event mine turn (inr (inr (unseen, other, sees))) later =
        rw (other, sees) (goes_on later event None unseen)

length-answer_texts : (plan : CheckedPlan) (before events : List Event) → length (answer_texts plan before events) ≡ length events
length-answer_texts plan before [] = refl
length-answer_texts plan before (event ∷ events) = ap suc (length-answer_texts plan (before ++ event ∷ []) events)

length-events : (plan : CheckedPlan) (lines : List (List ℕ)) → length (map (event_of plan) lines) ≡ length lines
length-events plan [] = refl
length-events plan (line ∷ lines) = ap suc (length-events plan lines)

pub answers_each_line : AnswersEachLine
answers_each_line input plan lines accepts =
    let are : lines_of (out input) ≡ answers_to plan lines = answers_back input lines plan accepts.read in
    record { are = are; each = ap length are ∙ (length-answer_texts plan [] (map (event_of plan) lines) ∙ length-events plan lines) }

pub tells_as_alone : TellsAsAlone
tells_as_alone input plan lines row accepts member =
    let t : ℕ = member.0 in
    let at : slice_get plan.rows t ≡ Some row = slice_get-get_or plan.rows t row member.1 ∙ ap Some member.2 in
    let is : row_at plan t ≡ row = ap (λ o. unwrap_or o nobody) at in
    let P : TenantRow → Type 0 = λ r. lines_to r.name lines (lines_of (out input)) ≡ lone_text plan.grid r (seen_lines r.name lines) in
    let has : HasPlace plan t (row_at plan t) = subst (HasPlace plan t) (sym is) (has_place (lines_of input) lines plan t row accepts.read at) in
    subst P is (rw (turns_of-seen_lines (row_at plan t).name lines) (ap (lines_to (row_at plan t).name lines) (answers_each_line input plan lines accepts).are ∙ told_alone plan t has [] lines))

pub tells_the_same : TellsTheSame
tells_the_same input input' plan plan' lines lines' row accepts accepts' grid member member' same =
    tells_as_alone input plan lines row accepts member
    ∙ rw (grid, same) (sym (tells_as_alone input' plan' lines' row accepts' member'))

-- an input that is accepted is answered
pub accepted_answered : (input : List ℕ) → IsAccepted input → IsAnswered input
accepted_answered input accepted = by (plan_of (lines_of input)) refl accepted.plan
  where
    by : (read : Reading (CheckedPlan × List (List ℕ))) → plan_of (lines_of input) ≡ read → IsOk read → IsAnswered input
    by (Ok (plan, lines)) is ok =
        let accepts : Accepts input plan lines = record { small = accepted.small; read = is } in
        record { plan = plan; lines = lines; accepts = accepts; answers = answers_each_line input plan lines accepts }
    by (Err fault) is ok = absurd (let no : false ≡ true = ok in cc)

pub answered_on : {E : Type 0} (result : Result (Unit {0}) E) (input : Option (List ℕ)) → OnOk result (IfSome input IsAccepted) → OnOk result (IfSome input IsAnswered)
answered_on (Ok done) None accepted = tt
answered_on (Ok done) (Some input) accepted = accepted_answered input accepted
answered_on (Err fault) input accepted = tt

-- what was read whole, is no longer than an input may be, and has a plan, is such an input
pub whole_answered : {E : Type 0} (result : Result (Unit {0}) E) (all : Option (List ℕ)) (read : List ℕ) → IfSome all (λ input. read ≡ input) → length read ≤ MOST_INPUT → IsOk (plan_of (lines_of read)) → OnOk result (IfSome all IsAnswered)
whole_answered (Ok done) None read is small plan = tt
whole_answered (Ok done) (Some input) read is small plan = subst IsAnswered is (accepted_answered read (record { small = small; plan = plan }))
whole_answered (Err fault) all read is small plan = tt
