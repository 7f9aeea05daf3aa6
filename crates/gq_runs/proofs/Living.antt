-- The events of an inspected live run keep what its input asked.
use Rattle.std.proofs.Common.{◌≡◌, ◌⊎◌, ℕ, zero, suc, ◌<◌, ◌≤◌, Bool, true, false, List, [], ◌∷◌, Some, None, length, map, refl, ap, ◌∙◌, inl, inr, arith, Ok, Err, Result, Vec, Global}
use Rattle.std.specs.Prelude.{◌==◌, ◌&&◌, IfOk, option_map, slice_get, if◌then◌else◌}
use Rattle.std.proofs.lemmas.Bool.{eq-eqb, eqb-true}
use Rattle.std.proofs.lemmas.Option.{slice_get-get_or, slice_get-map, slice_get_within}
use Rattle.gq_desk.specs.CheckedPlan.{CheckedPlan}
use Rattle.gq_inspect.proofs.Picking.{IsOther, PicksChanges, PicksOpenings, PicksRequests, changes_picked, openings_picked, requests_picked}
use Rattle.gq_inspect.specs.Replay.{IsRunOf}
use Rattle.gq_model.specs.declared.events.Event.{Event}
use Rattle.gq_model.specs.declared.events.Event.TheVariants.{Tenant}
use Rattle.gq_model.specs.declared.events.Line.{Line}
use Rattle.gq_model.specs.declared.events.Line.TheVariants.{NewVolume, Write, Read, List as ListFiles}
use Rattle.gq_model.specs.Events.{IsRequestOf}
use Rattle.gq_session.specs.Changed.{picked}
use Rattle.gq_session.specs.Fitting.{plan_sessions}
use Rattle.gq_session.specs.declared.fitting.SessionId.{SessionId}
use Rattle.gq_session.specs.declared.records.Programs.{Programs}
use Rattle.gq_session.specs.declared.records.Records.{Records}
use Rattle.gq_session.specs.declared.records.SessionEntry.{SessionEntry}
use Rattle.gq_text.specs.Input.{event_of}
use Rattle.gq_script.specs.declared.script.TheConstants.{MOST_INPUT}
use Rattle.gq_runs.specs.Live.{IsRecordOf, KeepsInput}
use Rattle.gq_runs.specs.LiveRuns.{IsLiveScript, IsScriptOfRun}
use Rattle.gq_runs.specs.Programs.{AreOf, IsProgramsOf, server_line_in, names_session, opening_of, request_for, requests_for}
use Rattle.gq_runs.proofs.Programming.{requests_named}

-- ---- what is picked

opens_are : PicksOpenings opening_of
opens_are = record { openings = λ o. refl; requests = requests; others = others; changes = λ line. refl }
  where
    requests : (tenant k : ℕ) (line : Line) → IsRequestOf k line → opening_of (Tenant tenant line) ≡ None
    requests tenant k (NewVolume files blocks) is = absurd is
    requests tenant k _ is = refl

    others : (tenant : ℕ) (line : Line) → IsOther line → opening_of (Tenant tenant line) ≡ None
    others tenant (NewVolume files blocks) is = absurd is
    others tenant _ is = refl

changes_are : PicksChanges server_line_in
changes_are = record { changes = λ line. refl; lines = λ tenant line. refl }

named_requests : (k : ℕ) (line : Line) → IsRequestOf k line → names_session k line ≡ true
named_requests k (Write session volume file bytes) is = eq-eqb session k is
named_requests k (Read session volume file) is = eq-eqb session k is
named_requests k (ListFiles session volume) is = eq-eqb session k is
named_requests k _ is = absurd is

requests_are : (id : SessionId) → PicksRequests id (request_for id)
requests_are id = record { own = own; others = others; changes = λ line. refl }
  where
    own : (line : Line) → IsRequestOf id.number line → request_for id (Tenant id.tenant line) ≡ Some line
    own line is = rw (eq-eqb id.tenant id.tenant refl, named_requests id.number line is) refl

    others : (tenant : ℕ) (line : Line) → (request_for id (Tenant tenant line) ≡ None) ⊎ ((tenant ≡ id.tenant) × IsRequestOf id.number line)
    others tenant line = by (tenant == id.tenant) (names_session id.number line) refl refl
      where
        by : (own named : Bool) → (tenant == id.tenant) ≡ own → names_session id.number line ≡ named → ((if own && named then Some line else None) ≡ None) ⊎ ((tenant ≡ id.tenant) × IsRequestOf id.number line)
        by true true same is = inr (eqb-true tenant id.tenant same, requests_named id line is)
        by true false same is = inl refl
        by false named same is = inl refl

-- ---- lists

pub map_same : {A B : Type 0} (f g : A → B) (xs : List A) → ((k : ℕ) (x : A) → slice_get xs k ≡ Some x → f x ≡ g x) → map f xs ≡ map g xs
map_same f g [] same = refl
map_same f g (x ∷ xs) same =
    let first : f x ≡ g x = same zero x refl in
    let rest : map f xs ≡ map g xs = map_same f g xs (λ k y at. same (suc k) y at) in
    cc

-- ---- the law

-- where a live run recorded programs that are those of the lines asked, and the records are a run of the events, these keep
-- what was asked
pub keeps_input : (plan : CheckedPlan) (programs : Programs) (r : Records) (asked events : List Event) → AreOf plan asked programs → IsRecordOf plan programs r → IsRunOf plan r events → KeepsInput plan asked events
keeps_input plan programs r asked events are recorded run = record {
  opens = openings_picked plan r events run opening_of opens_are ∙ recorded.volumes ∙ are.volumes;
  requests = map_same (requests_for events) (requests_for asked) (plan_sessions plan) each;
  changes = (recorded.changes.0, changes_picked plan r events run server_line_in changes_are ∙ recorded.changes.1 ∙ ap (picked recorded.changes.0) are.changes);
}
  where
    -- each session asked what the input asks of it
    each : (k : ℕ) (id : SessionId) → slice_get (plan_sessions plan) k ≡ Some id → requests_for events id ≡ requests_for asked id
    each k id at =
        let none : List SessionEntry = [] in
        let low : k < length r.sessions.items = let within = slice_get_within (plan_sessions plan) k id at in let same = run.sessions in omega arith in
        let list = slice_get-get_or r.sessions.items k none low in
        let program : slice_get programs.sessions.items k ≡ Some (requests_for asked id) = ap (λ lists. slice_get lists k) are.sessions ∙ slice_get-map (requests_for asked) (plan_sessions plan) k ∙ ap (option_map (requests_for asked)) at in
        requests_picked plan r events run k id _ at list (request_for id) (requests_are id) ∙ recorded.asked k _ (requests_for asked id) list program

-- the script of a run of an input's programs is that of a live run of the input
script_is : (input : List ℕ) (plan : CheckedPlan) (programs : Programs) → length input ≤ MOST_INPUT → IsProgramsOf input plan programs → (text : List ℕ) → IsScriptOfRun plan programs text → IsLiveScript input text
script_is input plan programs small reads text of = record {
  small = small;
  plan = plan;
  programs = programs;
  reads = reads;
  of = of;
  keeps = keeps_input plan programs of.run.records (map (event_of plan) reads.lines) of.events reads.are of.run.recorded of.run.run;
}

pub scripts_are : {E : Type 0} (input : List ℕ) (plan : CheckedPlan) (programs : Programs) → length input ≤ MOST_INPUT → IsProgramsOf input plan programs → (given : Result (Vec ℕ Global) E)
    → IfOk given (λ text. IsScriptOfRun plan programs text.items) → IfOk given (λ text. IsLiveScript input text.items)
scripts_are input plan programs small reads (Ok text) of = script_is input plan programs small reads text.items of
scripts_are input plan programs small reads (Err fault) of = tt
