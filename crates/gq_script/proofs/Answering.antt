-- Lines are answered one after another, and what one tenant sees of them is a run by itself.
use Rattle.std.proofs.Common.{◌≡◌, ◌≢◌, ◌⊎◌, ◌∙◌, ℕ, Bool, true, false, List, [], ◌∷◌, ◌++◌, Option, Some, None, map, length, append_assoc, append-nil, refl, sym, ap, subst, inl, inr, arith}
use Rattle.std.specs.Prelude.{◌==◌}
use Rattle.std.specs.List.{cons_option}
use Rattle.std.proofs.lemmas.Bool.{cases_eq, ne_eqb}
use Rattle.std.proofs.lemmas.List.Elements.{filter-append}
use Rattle.gq_desk.specs.CheckedPlan.{CheckedPlan, nobody, row_at}
use Rattle.gq_model.specs.declared.events.Event.{Event}
use Rattle.gq_model.specs.declared.events.Event.TheVariants.{Tenant, Server, Stray}
use Rattle.gq_model.specs.declared.events.Answer.{Answer}
use Rattle.gq_model.specs.Trace.{Turn, Own, Serving}
use Rattle.gq_model.specs.Lone.{said, past_of}
use Rattle.gq_model.specs.Shown.{shown}
use Rattle.gq_model.specs.Events.{turn_of, own, server_lines, answer_to}
use Rattle.gq_world.specs.Tables.{Tables, Stands}
use Rattle.gq_order.specs.Runs.{IsRun}
use Rattle.gq_order.proofs.Growing.{runs-grow}
use Rattle.gq_lines.specs.Lines.{lines_of, joined}
use Rattle.gq_text.specs.Input.{event_of}
use Rattle.gq_text.specs.AnswerText.{answer_line}
use Rattle.gq_script.specs.Out.{answer_lines, output_lines}
use Rattle.gq_script.specs.Seeing.{is_seen, seen_events}

-- ---- what one tenant sees

pub own_seen : (t : ℕ) (events : List Event) → own t (seen_events (Some t) events) ≡ own t events
own_seen t [] = refl
own_seen t (e ∷ events) = by (turn_of t e) refl (own_seen t events)
  where
    by : (o : Option Turn) → turn_of t e ≡ o → own t (seen_events (Some t) events) ≡ own t events → own t (seen_events (Some t) (e ∷ events)) ≡ own t (e ∷ events)
    by None is later = rw is later
    by (Some turn) is later =
        let first : seen_events (Some t) (e ∷ events) ≡ e ∷ seen_events (Some t) events = rw is refl in
        ap (own t) first ∙ (ap (λ o. cons_option o (own t (seen_events (Some t) events))) is ∙ (ap (λ turns. turn ∷ turns) later ∙ sym (ap (λ o. cons_option o (own t events)) is)))

server_lines_seen : (t : ℕ) (events : List Event) → server_lines (seen_events (Some t) events) ≡ server_lines events
server_lines_seen t [] = refl
server_lines_seen t (Tenant u line ∷ events) = by (u == t) refl (server_lines_seen t events)
  where
    by : (b : Bool) → (u == t) ≡ b → server_lines (seen_events (Some t) events) ≡ server_lines events → server_lines (seen_events (Some t) (Tenant u line ∷ events)) ≡ server_lines (Tenant u line ∷ events)
    by true is later = rw is later
    by false is later = rw is later
server_lines_seen t (Server line ∷ events) = ap (λ turns. Serving line ∷ turns) (server_lines_seen t events)
server_lines_seen t (Stray ∷ events) = server_lines_seen t events

-- what a tenant sees is answered as if there were nothing else
answer_seen : (plan : CheckedPlan) (tenant : Option ℕ) (events : List Event) (e : Event) → is_seen tenant e ≡ true → answer_to plan (seen_events tenant events) e ≡ answer_to plan events e
answer_seen plan None events e is = absurd (let no : false ≡ true = is in cc)
answer_seen plan (Some t) events (Tenant u line) is = by (cases_eq u t)
  where
    by : (u ≡ t) ⊎ (u ≢ t) → answer_to plan (seen_events (Some t) events) (Tenant u line) ≡ answer_to plan events (Tenant u line)
    by (inl same) = rw same (ap (λ turns. said plan.grid (row_at plan t) (past_of plan.grid (row_at plan t) turns) (Own line)) (own_seen t events))
    by (inr other) = absurd (let no : false ≡ true = rw (ne_eqb u t other) at is in cc)
answer_seen plan (Some t) events (Server line) is = ap (λ turns. said plan.grid nobody (past_of plan.grid nobody turns) (Serving line)) (server_lines_seen t events)
answer_seen plan (Some t) events Stray is = absurd (let no : false ≡ true = is in cc)

-- the run of what the tenant sees goes on by an event that it sees
seen_more : (plan : CheckedPlan) (t : Option ℕ) (before : List Event) (given : List Answer) (e : Event) (answer : Answer) → is_seen t e ≡ true → shown answer ≡ answer_to plan before e → IsRun plan (seen_events t before) given
    → IsRun plan (seen_events t (before ++ e ∷ [])) (given ++ answer ∷ [])
seen_more plan t before given e answer is told run =
    rw (filter-append (is_seen t) before (e ∷ []), is) (runs-grow.more plan (seen_events t before) given e answer run (told ∙ sym (answer_seen plan t before e is)))

-- and stays as it is at any other
seen_same : (plan : CheckedPlan) (t : Option ℕ) (before : List Event) (given : List Answer) (e : Event) → is_seen t e ≡ false → IsRun plan (seen_events t before) given → IsRun plan (seen_events t (before ++ e ∷ [])) given
seen_same plan t before given e is run = rw (filter-append (is_seen t) before (e ∷ []), is, append-nil (seen_events t before)) run

-- ---- a run that is kept

-- the world stands for the events so far, what the tenant sees of them is a run, and with the lines that are left they are all; the
-- text is that of the answers, where it is made
pub record Keeps (plan : CheckedPlan) (t : Option ℕ) (world : Tables) (kept : List Event) (answers : List Answer) (tells : Bool) (text : List ℕ) (left all : List (List ℕ)) : Type 0 where
  pub events : List Event
  pub plan_is : world.plan ≡ plan
  pub stands : Stands world events
  pub seen : kept ≡ seen_events t events
  pub run : IsRun plan (seen_events t events) answers
  pub read : events ++ map (event_of plan) left ≡ map (event_of plan) all
  pub told : tells ≡ true → text ++ joined (answer_lines plan events (map (event_of plan) left)) ≡ joined (output_lines plan all)

-- before the first line
pub keeps_first : (plan : CheckedPlan) (t : Option ℕ) (world : Tables) (tells : Bool) (all : List (List ℕ)) → world.plan ≡ plan → Stands world [] → Keeps plan t world [] [] tells [] all all
keeps_first plan t world tells all is stands = record {
  events = [];
  plan_is = is;
  stands = stands;
  seen = refl;
  run = runs-grow.none plan;
  read = refl;
  told = λ yes. refl;
}

-- what the tenant sees of a run that goes on by one event
seen_next : (plan : CheckedPlan) (t : Option ℕ) (before : List Event) (given given' : List Answer) (e : Event)
    → (is_seen t e ≡ true → (answer : Answer) × (given' ≡ given ++ answer ∷ []) × (shown answer ≡ answer_to plan before e)) → (is_seen t e ≡ false → given' ≡ given)
    → IsRun plan (seen_events t before) given → IsRun plan (seen_events t (before ++ e ∷ [])) given'
seen_next plan t before given given' e seen unseen run = by (is_seen t e) refl
  where
    by : (b : Bool) → is_seen t e ≡ b → IsRun plan (seen_events t (before ++ e ∷ [])) given'
    by true is = rw (seen is).1 (seen_more plan t before given e (seen is).0 is (seen is).2 run)
    by false is = rw (unseen is) (seen_same plan t before given e is run)

-- one line more
pub keeps_more : (plan : CheckedPlan) (t : Option ℕ) (world world' : Tables) (kept kept' : List Event) (answers answers' : List Answer) (tells : Bool) (text text' line : List ℕ) (left rest all : List (List ℕ)) (e : Event) → Keeps plan t world kept answers tells text left all
    → left ≡ line ∷ rest → world'.plan ≡ world.plan → e ≡ event_of world.plan line
    → ((before : List Event) → Stands world before → Stands world' (before ++ e ∷ []))
    → (tells ≡ true → (before : List Event) → Stands world before → text' ≡ text ++ answer_line world.plan e (answer_to world.plan before e))
    → kept' ≡ kept ++ seen_events t (e ∷ [])
    → (is_seen t e ≡ true → (answer : Answer) × (answers' ≡ answers ++ answer ∷ []) × ((before : List Event) → Stands world before → shown answer ≡ answer_to world.plan before e))
    → (is_seen t e ≡ false → answers' ≡ answers)
    → Keeps plan t world' kept' answers' tells text' rest all
keeps_more plan t world world' kept kept' answers answers' tells text text' line left rest all e k is same reads stands written grown seen unseen =
    let event : e ≡ event_of plan line = rw k.plan_is at reads in
    let x : List ℕ = answer_line plan e (answer_to plan k.events e) in
    let ys : List (List ℕ) = answer_lines plan (k.events ++ e ∷ []) (map (event_of plan) rest) in
    let now : tells ≡ true → text' ≡ text ++ x = λ yes. rw k.plan_is at (written yes k.events k.stands) in
    let says : is_seen t e ≡ true → (answer : Answer) × (answers' ≡ answers ++ answer ∷ []) × (shown answer ≡ answer_to plan k.events e) =
    λ yes. ((seen yes).0, (seen yes).1, rw k.plan_is at ((seen yes).2 k.events k.stands)) in
    let all_so_far : tells ≡ true → text ++ (x ++ joined ys) ≡ joined (output_lines plan all) = λ yes. rw event (rw is at (k.told yes)) in
    let all_read : k.events ++ (e ∷ map (event_of plan) rest) ≡ map (event_of plan) all = rw event (rw is at k.read) in
    record {
      events = k.events ++ e ∷ [];
      plan_is = same ∙ k.plan_is;
      stands = stands k.events k.stands;
      seen = grown ∙ ap (λ z. z ++ seen_events t (e ∷ [])) k.seen ∙ sym (filter-append (is_seen t) k.events (e ∷ []));
      run = seen_next plan t k.events answers answers' e says unseen k.run;
      read = append_assoc k.events (e ∷ []) (map (event_of plan) rest) ∙ all_read;
      told = λ yes. rw (now yes) (append_assoc text x (joined ys) ∙ all_so_far yes);
    }

-- no line is left
pub keeps_all : (plan : CheckedPlan) (t : Option ℕ) (world : Tables) (kept : List Event) (answers : List Answer) (tells : Bool) (text rest : List ℕ) (all : List (List ℕ)) → Keeps plan t world kept answers tells text (lines_of rest) all → length rest ≡ 0
    → (tells ≡ true → text ≡ joined (output_lines plan all)) × (kept ≡ seen_events t (map (event_of plan) all)) × IsRun plan kept answers
keeps_all plan t world kept answers tells text [] all k none =
    (λ yes. sym (append-nil text) ∙ k.told yes, k.seen ∙ ap (seen_events t) (sym (append-nil k.events) ∙ k.read), (let P : List Event → Type 0 = λ z. IsRun plan z answers in subst P (sym k.seen) k.run))
keeps_all plan t world kept answers tells text (c ∷ rest) all k none = absurd (omega arith)

-- ---- lines that go on from events

-- the world stands for the events before and those of the lines so far, and with the lines that are left all are answered
pub record Continues (plan : CheckedPlan) (before : List Event) (world : Tables) (text : List ℕ) (left all : List (List ℕ)) : Type 0 where
  pub events : List Event
  pub stands : Stands world events
  pub read : events ++ map (event_of plan) left ≡ before ++ map (event_of plan) all
  pub told : text ++ joined (answer_lines plan events (map (event_of plan) left)) ≡ joined (answer_lines plan before (map (event_of plan) all))

pub continues_first : (plan : CheckedPlan) (before : List Event) (world : Tables) (all : List (List ℕ)) → Stands world before → Continues plan before world [] all all
continues_first plan before world all stands = record { events = before; stands = stands; read = refl; told = refl }

pub continues_more : (plan : CheckedPlan) (before : List Event) (world world' : Tables) (text text' line : List ℕ) (left rest all : List (List ℕ)) → Continues plan before world text left all → world.plan ≡ plan → left ≡ line ∷ rest
    → ((so_far : List Event) → Stands world so_far → Stands world' (so_far ++ event_of world.plan line ∷ []))
    → ((so_far : List Event) → Stands world so_far → text' ≡ text ++ answer_line world.plan (event_of world.plan line) (answer_to world.plan so_far (event_of world.plan line)))
    → Continues plan before world' text' rest all
continues_more plan before world world' text text' line left rest all k same is stands written =
    let e : Event = event_of plan line in
    let x : List ℕ = answer_line plan e (answer_to plan k.events e) in
    let ys : List (List ℕ) = answer_lines plan (k.events ++ e ∷ []) (map (event_of plan) rest) in
    let now : text' ≡ text ++ x = rw same at (written k.events k.stands) in
    let all_so_far : text ++ (x ++ joined ys) ≡ joined (answer_lines plan before (map (event_of plan) all)) = rw is at k.told in
    let all_read : k.events ++ (e ∷ map (event_of plan) rest) ≡ before ++ map (event_of plan) all = rw is at k.read in
    record {
      events = k.events ++ e ∷ [];
      stands = rw same at (stands k.events k.stands);
      read = append_assoc k.events (e ∷ []) (map (event_of plan) rest) ∙ all_read;
      told = rw now (append_assoc text x (joined ys) ∙ all_so_far);
    }

pub continues_all : (plan : CheckedPlan) (before : List Event) (world : Tables) (text rest : List ℕ) (all : List (List ℕ)) → Continues plan before world text (lines_of rest) all → length rest ≡ 0
    → (text ≡ joined (answer_lines plan before (map (event_of plan) all))) × Stands world (before ++ map (event_of plan) all)
continues_all plan before world text [] all k none =
    (sym (append-nil text) ∙ k.told, (let P : List Event → Type 0 = λ events. Stands world events in subst P (sym (append-nil k.events) ∙ k.read) k.stands))
continues_all plan before world text (c ∷ rest) all k none = absurd (omega arith)
