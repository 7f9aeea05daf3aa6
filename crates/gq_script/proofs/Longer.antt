-- What is read of an input with more lines of a tenant, and its output.
use Rattle.std.proofs.Common.{◌≡◌, ◌∙◌, ℕ, ◌<◌, List, [], ◌∷◌, ◌++◌, length, map, append_assoc, append-nil, Ok, refl, sym, ap, All}
use Rattle.std.specs.List.{flat_map}
use Rattle.std.proofs.lemmas.List.{map-append}
use Rattle.std.proofs.lemmas.List.Concat.{flat_map-append}
use Rattle.std.proofs.lemmas.List.Elements.{All-weaker, All-map}
use Rattle.gq_desk.specs.CheckedPlan.{CheckedPlan, row_at}
use Rattle.gq_model.specs.declared.events.Event.{Event}
use Rattle.gq_model.specs.declared.events.Event.TheVariants.{Tenant}
use Rattle.gq_model.specs.declared.events.Line.{Line}
use Rattle.gq_model.specs.Events.{answer_to}
use Rattle.gq_laws.specs.Tenants.{answers_from}
use Rattle.gq_lines.specs.Words.{Word}
use Rattle.gq_lines.specs.Lines.{lines_of, joined}
use Rattle.gq_text.specs.Input.{event_of}
use Rattle.gq_text.specs.PlanText.{plan_of}
use Rattle.gq_lines.specs.Written.{line_text}
use Rattle.gq_text.specs.AnswerText.{answer_line}
use Rattle.gq_text.specs.Canonical.{line_words, event_line, IsPlan, FitsLine, Fits}
use Rattle.gq_script.specs.Out.{answer_lines, output_of, out}
use Rattle.gq_script.specs.Completing.{missing_newline, own_lines, longer, told_line}
use Rattle.gq_text.proofs.EventsBack.{events_back}
use Rattle.gq_script.proofs.Behind.{lines_behind, plan_behind}
use Rattle.gq_text.proofs.PlanIs.{plan_is}

-- ---- what is read of it

-- the lines are those of events of the tenant
own_texts : (plan : CheckedPlan) (t : ℕ) (lines : List Line) → own_lines (row_at plan t).name lines ≡ flat_map (event_line plan) (map (Tenant t) lines)
own_texts plan t [] = refl
own_texts plan t (line ∷ lines) = ap (λ later. line_text (row_at plan t).name (line_words line) ++ later) (own_texts plan t lines)

-- the lines are read as the tenant's
lines_back : (plan : CheckedPlan) → IsPlan plan → (t : ℕ) → t < length plan.rows → (lines : List Line) → All FitsLine lines → map (event_of plan) (lines_of (own_lines (row_at plan t).name lines)) ≡ map (Tenant t) lines
lines_back plan is t within lines fits =
    ap (λ text. map (event_of plan) (lines_of text)) (own_texts plan t lines)
    ∙ events_back plan is (map (Tenant t) lines) (All-map (Fits plan) (Tenant t) lines (All-weaker FitsLine (λ line. Fits plan (Tenant t line)) (λ line fits. (within, fits)) lines fits))

-- the plan is the same, and behind its lines come these
pub longer_read : (input : List ℕ) (plan : CheckedPlan) (lines : List (List ℕ)) (name : Word) (more : List Line) → plan_of (lines_of input) ≡ Ok (plan, lines) → plan_of (lines_of (longer input name more)) ≡ Ok (plan, lines ++ lines_of (own_lines name more))
longer_read input plan lines name more read =
    ap (λ text. plan_of (lines_of text)) (append_assoc input (missing_newline input) (own_lines name more))
    ∙ ap plan_of (lines_behind input (own_lines name more))
    ∙ plan_behind (lines_of input) (lines_of (own_lines name more)) lines plan read

-- ---- its output

-- the answers to events, and to those behind them
pub answers-append : (plan : CheckedPlan) (before xs ys : List Event) → answer_lines plan before (xs ++ ys) ≡ answer_lines plan before xs ++ answer_lines plan (before ++ xs) ys
answers-append plan before [] ys = rw append-nil refl
answers-append plan before (event ∷ xs) ys =
    ap (λ later. answer_line plan event (answer_to plan before event) ∷ later)
    (answers-append plan (before ++ event ∷ []) xs ys ∙ ap (λ b. answer_lines plan (before ++ event ∷ []) xs ++ answer_lines plan b ys) (append_assoc before (event ∷ []) xs))

-- the answers to lines of a tenant
own_answers : (plan : CheckedPlan) (t : ℕ) (lines : List Line) (before : List Event) → answer_lines plan before (map (Tenant t) lines) ≡ map (told_line plan.grid (row_at plan t).name) (answers_from plan before (map (Tenant t) lines))
own_answers plan t [] before = refl
own_answers plan t (line ∷ lines) before = ap (λ later. answer_line plan (Tenant t line) (answer_to plan before (Tenant t line)) ∷ later) (own_answers plan t lines (before ++ Tenant t line ∷ []))

-- the output goes on by what the lines are told
pub longer_out : (input : List ℕ) (plan : CheckedPlan) (lines : List (List ℕ)) (t : ℕ) (more : List Line) → plan_of (lines_of input) ≡ Ok (plan, lines) → t < length plan.rows → All FitsLine more
    → out (longer input (row_at plan t).name more) ≡ out input ++ joined (map (told_line plan.grid (row_at plan t).name) (answers_from plan (map (event_of plan) lines) (map (Tenant t) more)))
longer_out input plan lines t more read within fits =
    let name : Word = (row_at plan t).name in
    let texts : List (List ℕ) = lines_of (own_lines name more) in
    let events : List Event = map (event_of plan) lines in
    let also : List Event = map (Tenant t) more in
    ap output_of (longer_read input plan lines name more read)
    ∙ ap (λ es. joined (answer_lines plan [] es)) (map-append (event_of plan) lines texts ∙ ap (λ es. events ++ es) (lines_back plan (plan_is (lines_of input) lines plan read) t within more fits))
    ∙ ap joined (answers-append plan [] events also)
    ∙ flat_map-append (λ line. line) (answer_lines plan [] events) (answer_lines plan events also)
    ∙ ap (λ later. joined (answer_lines plan [] events) ++ joined later) (own_answers plan t more events)
    ∙ ap (λ first. first ++ joined (map (told_line plan.grid name) (answers_from plan events also))) (sym (ap output_of read))
