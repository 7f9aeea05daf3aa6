-- No request is refused for want of a quorum.
use Rattle.std.proofs.Common.{◌≡◌, ◌≢◌, ◌∙◌, ℕ, ◌+◌, Bool, true, false, List, [], ◌∷◌, refl, sym, ap, Option, Some, None, inl, inr}
use Rattle.std.specs.Prelude.{is_some, is_none, nat_lt, not, ◌&&◌, ◌||◌, ◌==◌, if◌then◌else◌}
use Rattle.std.proofs.lemmas.Bool.{cases_Bool}
use Rattle.gq_grid.specs.Grid.{Servers}
use Rattle.gq_phase.specs.declared.Outcome.{Outcome}
use Rattle.gq_phase.specs.Quorums.{collect_quorum}
use Rattle.gq_model.specs.declared.events.Line.{Line}
use Rattle.gq_model.specs.declared.events.Line.TheVariants.{Write, Read, List as ListFiles, Abandon}
use Rattle.gq_model.specs.declared.events.Refusal.{Refusal}
use Rattle.gq_model.specs.declared.events.Refusal.TheVariants.{NoSession, Busy, NoQuorum}
use Rattle.gq_model.specs.Told.{Told, Refused}
use Rattle.gq_model.specs.Trace.{State}
use Rattle.gq_model.specs.Lone.{Step, Cause, first_cause, is_refusal, session_causes, session_step, asked_step, unless}
use Rattle.gq_node.specs.declared.output.Answer.{Answer}
use Rattle.gq_node.specs.declared.output.Answer.TheVariants.{Refused as IsRefused, Old, Early, Away}
use Rattle.gq_node.specs.declared.output.Admission.{Admission}
use Rattle.gq_node.specs.declared.output.Admission.TheVariants.{Tells, Passes, Goes}
use Rattle.gq_node.specs.Aims.{AllRequestsHaveQuorums}
use Rattle.gq_node.specs.Local.{Local, Doing, aim_at, answer_of, refused_with, again, admission, admission_in, begins, asks, asks_in, asked_by, state_for}
use Rattle.gq_node.specs.Sites.{Site, has_session}
use Rattle.gq_node.proofs.Aiming.{all_aims_have_quorums}

-- whether a word, an answer, what is told, or a admission is of a quorum that is wanting
abbrev of_word : Refusal → Bool
of_word NoQuorum = true
of_word _ = false

abbrev of_cause : Option Refusal → Bool
of_cause None = false
of_cause (Some word) = of_word word

abbrev of_answer : Option Answer → Bool
of_answer (Some (IsRefused k op word)) = of_word word
of_answer _ = false

abbrev of_told : Told → Bool
of_told (Refused word) = of_word word
of_told _ = false

abbrev of_admission : Admission → Bool
of_admission (Tells answer) = of_answer (Some answer)
of_admission Passes = false
of_admission Goes = false

-- ---- the number

either_fine : (b : Bool) (x y : Admission) → of_admission x ≡ false → of_admission y ≡ false → of_admission (if b then x else y) ≡ false
either_fine true x y fine also = fine
either_fine false x y fine also = also

again_fine : (k op : ℕ) (b going : Bool) (outcome : Option Outcome) → of_admission (again k op b going outcome) ≡ false
again_fine k op true true outcome = refl
again_fine k op false true outcome = refl
again_fine k op b false None = refl
again_fine k op b false (Some outcome) = refl

admission_fine : (site : Site) (k op : ℕ) (b : Bool) (last : ℕ) (going : Bool) (outcome : Option Outcome) → of_admission (admission site k op b last going outcome) ≡ false
admission_fine site k op b last going outcome =
    let next : Admission = if b && op == last + 1 then Goes else Tells (Early k op last) in
    let same : Admission = if op == last then again k op b going outcome else next in
    let own : Admission = if nat_lt op last || op == 0 then Tells (Old k op last) else same in
    let here : Admission = if not (site.home k == site.here) then Tells (Away k op (site.home k)) else own in
    either_fine (not (has_session site k)) (Tells (IsRefused k op NoSession)) here refl
    (either_fine (not (site.home k == site.here)) (Tells (Away k op (site.home k))) own refl
    (either_fine (nat_lt op last || op == 0) (Tells (Old k op last)) same refl
    (either_fine (op == last) (again k op b going outcome) next (again_fine k op b going outcome)
    (either_fine (b && op == last + 1) Goes (Tells (Early k op last)) refl refl))))

-- ---- the model

-- no cause that holds is one
abbrev AllFine : List Cause → Type 0
AllFine [] = Unit {0}
AllFine (cause ∷ causes) = (cause.0 ≡ true → of_word cause.1 ≡ false) × AllFine causes

causes_fine : (causes : List Cause) → AllFine causes → of_cause (first_cause causes) ≡ false
causes_fine [] fine = refl
causes_fine (cause ∷ causes) fine = by cause.0 refl (causes_fine causes fine.1)
  where
    by : (b : Bool) → cause.0 ≡ b → of_cause (first_cause causes) ≡ false → of_cause (first_cause (cause ∷ causes)) ≡ false
    by true is rest = rw is (fine.0 is)
    by false is rest = rw is rest

quorum_fine : (q : Option Servers) → q ≢ None → is_none q ≡ true → of_word NoQuorum ≡ false
quorum_fine None some is = absurd (some refl)
quorum_fine (Some set) some is = absurd (cc)

unless_fine : (o : Option Refusal) (step : Step) → of_cause o ≡ false → of_told step.told ≡ false → of_told (unless o step).told ≡ false
unless_fine None step fine also = also
unless_fine (Some word) step fine also = fine

answer_is : (k op last : ℕ) (told : Told) → of_answer (answer_of k op last told) ≡ of_told told
answer_is k op last (Refused word) = by word
  where
    by : (word : Refusal) → of_answer (Some (refused_with k op last word)) ≡ of_word word
    by Busy = refl
    by word = refl
answer_is k op last told = refl

said_fine : (local : Local) (k op : ℕ) (state : State) (line : Line) (step : Step) → of_told step.told ≡ false → of_answer (asked_by local k op state line step).answer ≡ false
said_fine local k op state line step fine = elim (cases_Bool (is_refusal step.told)) [
  | inl is ↦ (let same : (asked_by local k op state line step).answer ≡ answer_of k op (local.residents k).session.op step.told = rw is refl in ap of_answer same ∙ answer_is k op (local.residents k).session.op step.told ∙ fine)
  | inr is ↦ (let same : (asked_by local k op state line step).answer ≡ answer_of k op (local.residents k).session.op step.told = rw is refl in ap of_answer same ∙ answer_is k op (local.residents k).session.op step.told ∙ fine)
]

in_fine : (op : ℕ) (line : Line) (site : Site) (local : Local) (k : ℕ) → of_told (asked_step site.grid site.row (state_for site local k) line).told ≡ false → of_answer (asks_in site local op line k).answer ≡ false
in_fine op line site local k fine = by (admission_in site local k op (begins line)) refl
  where
    admission_is : of_admission (admission_in site local k op (begins line)) ≡ false
    admission_is = admission_fine site k op (begins line) (local.residents k).session.op (is_some (local.residents k).session.current) (local.residents k).outcome

    by : (g : Admission) → admission_in site local k op (begins line) ≡ g → of_answer (asks_in site local op line k).answer ≡ false
    by (Tells answer) is =
        let same : (asks_in site local op line k).answer ≡ Some answer = rw is refl in
        ap of_answer same ∙ ap of_admission (sym is) ∙ admission_is
    by Passes is = let same : (asks_in site local op line k).answer ≡ None = rw is refl in ap of_answer same
    by Goes is =
        let state : State = state_for site local k in
        let same : asks_in site local op line k ≡ asked_by local k op state line (asked_step site.grid site.row state line) = rw is refl in
        ap (λ (d : Doing). of_answer d.answer) same ∙ said_fine local k op state line (asked_step site.grid site.row state line) fine

request_fine : (op : ℕ) (line : Line) (site : Site) (local : Local) → ((k : ℕ) → collect_quorum site.grid (aim_at site.grid (local.residents k)) ≢ None) → of_answer (asks op line site local).answer ≡ false
request_fine op (Write k v f bytes) site local some = in_fine op (Write k v f bytes) site local k
    (unless_fine (first_cause (session_causes site.grid site.row (state_for site local k) (Write k v f bytes))) (session_step site.grid (state_for site local k) (Write k v f bytes))
    (causes_fine (session_causes site.grid site.row (state_for site local k) (Write k v f bytes)) ((λ e. refl), ((λ e. refl), ((λ e. refl), ((λ e. refl), ((λ e. refl), ((quorum_fine (collect_quorum site.grid (aim_at site.grid (local.residents k))) (some k)), tt))))))) refl)
request_fine op (Read k v f) site local some = in_fine op (Read k v f) site local k
    (unless_fine (first_cause (session_causes site.grid site.row (state_for site local k) (Read k v f))) (session_step site.grid (state_for site local k) (Read k v f))
    (causes_fine (session_causes site.grid site.row (state_for site local k) (Read k v f)) ((λ e. refl), ((λ e. refl), ((λ e. refl), ((λ e. refl), ((quorum_fine (collect_quorum site.grid (aim_at site.grid (local.residents k))) (some k)), tt)))))) refl)
request_fine op (ListFiles k v) site local some = in_fine op (ListFiles k v) site local k
    (unless_fine (first_cause (session_causes site.grid site.row (state_for site local k) (ListFiles k v))) (session_step site.grid (state_for site local k) (ListFiles k v))
    (causes_fine (session_causes site.grid site.row (state_for site local k) (ListFiles k v)) ((λ e. refl), ((λ e. refl), ((λ e. refl), ((quorum_fine (collect_quorum site.grid (aim_at site.grid (local.residents k))) (some k)), tt))))) refl)
request_fine op (Abandon k) site local some = in_fine op (Abandon k) site local k
    (unless_fine (first_cause (session_causes site.grid site.row (state_for site local k) (Abandon k))) (session_step site.grid (state_for site local k) (Abandon k))
    (causes_fine (session_causes site.grid site.row (state_for site local k) (Abandon k)) ((λ e. refl), ((λ e. refl), tt))) refl)
request_fine op line site local some = refl

pub all_requests_have_quorums : AllRequestsHaveQuorums
all_requests_have_quorums op line site local rows cols k n is =
    let fine = request_fine op line site local (λ k. (all_aims_have_quorums site.grid (local.residents k).row (local.residents k).column rows cols).0) in
    let wants = ap of_answer is in
    let bad : ◌≡◌ {A = Bool} true false = sym wants ∙ fine in
    absurd (cc)
