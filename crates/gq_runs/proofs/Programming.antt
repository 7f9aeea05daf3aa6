-- What the lines of an input are as programs, line after line, and why the programs fit the plan.
use Rattle.std.proofs.Common.{◌≡◌, ℕ, ◌+◌, ◌<◌, ◌≤◌, length, get_or, take, List, [], ◌∷◌, ◌++◌, Option, Some, None, Bool, ap, ◌∙◌, sym, refl, suc, true, false, arith, subst, eqb-true}
use Rattle.std.specs.Prelude.{IfSome, ◌&&◌, ◌==◌, slice_index_or, if◌then◌else◌}
use Rattle.std.specs.List.{All, filter_map, cons_option}
use Rattle.std.specs.Option.{option_or}
use Rattle.std.proofs.lemmas.List.{take_more, get_or-map, length-map}
use Rattle.std.proofs.lemmas.List.Elements.{All-nil, All-cons, All-head, All-tail}
use Rattle.gq_desk.specs.CheckedPlan.{CheckedPlan}
use Rattle.gq_desk.specs.Volumes.{Account}
use Rattle.gq_model.specs.Events.{IsIn, IsRequestOf}
use Rattle.gq_model.specs.declared.events.Event.{Event}
use Rattle.gq_model.specs.declared.events.Event.TheVariants.{Tenant, Server, Stray}
use Rattle.gq_model.specs.declared.events.Line.{Line}
use Rattle.gq_model.specs.declared.events.Line.TheVariants.{Bad, Quorum, NewVolume, Volumes, Write, Read, List as ListFiles, Deliver, Lose, Retry, Abandon}
use Rattle.gq_session.specs.Fitting.{FitsPlan, HasRequests, IsChange, IsTenants, id_at, is_change, plan_sessions}
use Rattle.gq_session.specs.declared.TheConstants.{MOST_REQUESTS}
use Rattle.gq_session.specs.declared.fitting.SessionId.{SessionId}
use Rattle.gq_session.specs.declared.records.Programs.{Programs}
use Rattle.gq_session.specs.declared.records.Opening.{Opening}
use Rattle.gq_runs.specs.declared.programs.ProgramFault.{ProgramFault}
use Rattle.gq_runs.specs.declared.programs.ProgramFault.TheVariants.{Line as LineFault}
use Rattle.gq_runs.specs.Programs.{AreOf, server_line_in, desk_after, first_fault, line_fault, names_session, opening_in, opening_of, request_for, requests_for, fault_unless}

mapped_more : {A B : Type 0} (f : A → Option B) (xs : List A) (x : A) → filter_map f (xs ++ x ∷ []) ≡ filter_map f xs ++ cons_option (f x) []
mapped_more f [] x = refl
mapped_more {A} {B} f (y ∷ xs) x =
    elim (f y) as (λ o. cons_option o (filter_map f (xs ++ x ∷ [])) ≡ cons_option o (filter_map f xs) ++ cons_option (f x) []) [ None ↦ mapped_more f xs x | Some z ↦ ap (λ l. z ∷ l) (mapped_more f xs x) ]

pick_more : {A B : Type 0} (f : A → Option B) (xs : List A) (i : ℕ) (x : A) → i < length xs → x ≡ get_or xs i x → filter_map f (take (i + 1) xs) ≡ filter_map f (take i xs) ++ cons_option (f x) []
pick_more f xs i x within is =
    ap (filter_map f) (take_more xs i x within ∙ ap (λ y. take i xs ++ y ∷ []) (sym is)) ∙ mapped_more f (take i xs) x

-- one item more is looked at
pub one_picked : {A B : Type 0} (f : A → Option B) (xs : List A) (i : ℕ) (x : A) (o : Option B) (old new : List B) → i < length xs → x ≡ get_or xs i x → o ≡ f x → old ≡ filter_map f (take i xs) → new ≡ old ++ cons_option o [] → new ≡ filter_map f (take (i + 1) xs)
one_picked f xs i x o old new within is gives before now =
    now ∙ ap (λ p. old ++ cons_option p []) gives ∙ ap (λ l. l ++ cons_option (f x) []) before ∙ sym (pick_more f xs i x within is)

-- ---- what is picked

all_cons_option : {B : Type 0} (P : B → Type 0) (o : Option B) (ys : List B) → IfSome o P → All P ys → All P (cons_option o ys)
all_cons_option P None ys here all = all
all_cons_option P (Some y) ys here all = All-cons P y ys here all

pub picked_all : {A B : Type 0} (P : B → Type 0) (Q : A → Type 0) (f : A → Option B) → ((x : A) → Q x → IfSome (f x) P) → (xs : List A) → All Q xs → All P (filter_map f xs)
picked_all P Q f each [] all = All-nil P
picked_all {A} {B} P Q f each (x ∷ xs) all = all_cons_option P (f x) (filter_map f xs) (each x (All-head Q x xs all)) (picked_all P Q f each xs (All-tail Q x xs all))

pub picked_each : {A B : Type 0} (P : B → Type 0) (f : A → Option B) → ((x : A) → IfSome (f x) P) → (xs : List A) → All P (filter_map f xs)
picked_each P f each [] = All-nil P
picked_each {A} {B} P f each (x ∷ xs) = all_cons_option P (f x) (filter_map f xs) (each x) (picked_each P f each xs)

cons_option_few : {B : Type 0} (o : Option B) (ys : List B) → length (cons_option o ys) ≤ suc (length ys)
cons_option_few None ys = omega arith
cons_option_few (Some y) ys = omega arith

pub picked_few : {A B : Type 0} (f : A → Option B) (xs : List A) → length (filter_map f xs) ≤ length xs
picked_few f [] = omega arith
picked_few f (x ∷ xs) = let here = cons_option_few (f x) (filter_map f xs) in let rest = picked_few f xs in omega arith

-- each volume is of a tenant of the plan
pub tenants_fit : (plan : CheckedPlan) (events : List Event) → All (IsIn plan) events → IsTenants (length plan.rows) (filter_map opening_of events)
tenants_fit plan events all = picked_all (λ (opening : Opening). opening.tenant < length plan.rows) (IsIn plan) opening_of each events all
  where
    of_line : (tenant : ℕ) (line : Line) → tenant < length plan.rows → IfSome (opening_in tenant line) (λ (opening : Opening). opening.tenant < length plan.rows)
    of_line tenant (NewVolume files blocks) low = low
    of_line tenant Bad low = tt
    of_line tenant Quorum low = tt
    of_line tenant Volumes low = tt
    of_line tenant (Write session volume file bytes) low = tt
    of_line tenant (Read session volume file) low = tt
    of_line tenant (ListFiles session volume) low = tt
    of_line tenant (Deliver number) low = tt
    of_line tenant (Lose number) low = tt
    of_line tenant (Retry session) low = tt
    of_line tenant (Abandon session) low = tt

    each : (e : Event) → IsIn plan e → IfSome (opening_of e) (λ (opening : Opening). opening.tenant < length plan.rows)
    each (Tenant tenant line) low = of_line tenant line low
    each (Server line) low = tt
    each Stray low = tt

-- each request is of its session
pub requests_named : (id : SessionId) (line : Line) → names_session id.number line ≡ true → IsRequestOf id.number line
requests_named id (Write session volume file bytes) is = eqb-true session id.number is
requests_named id (Read session volume file) is = eqb-true session id.number is
requests_named id (ListFiles session volume) is = eqb-true session id.number is
requests_named id (NewVolume files blocks) is = absurd (cc)
requests_named id Bad is = absurd (cc)
requests_named id Quorum is = absurd (cc)
requests_named id Volumes is = absurd (cc)
requests_named id (Deliver number) is = absurd (cc)
requests_named id (Lose number) is = absurd (cc)
requests_named id (Retry session) is = absurd (cc)
requests_named id (Abandon session) is = absurd (cc)

request_named : (id : SessionId) (line : Line) (own named : Bool) → names_session id.number line ≡ named → IfSome (if own && named then Some line else None) (IsRequestOf id.number)
request_named id line true true is = requests_named id line is
request_named id line true false is = tt
request_named id line false named is = tt

request_is : (id : SessionId) (e : Event) → IfSome (request_for id e) (IsRequestOf id.number)
request_is id (Tenant tenant line) = request_named id line (tenant == id.tenant) (names_session id.number line) refl
request_is id (Server line) = tt
request_is id Stray = tt

-- ---- faults

or_none : {A : Type 0} (a b : Option A) → option_or a b ≡ None → (a ≡ None) × (b ≡ None)
or_none None b is = (refl, is)
or_none (Some x) b is = absurd (cc)

unless_none : (t : Bool) (fault : ProgramFault) → fault_unless t fault ≡ None → t ≡ true
unless_none true fault is = refl
unless_none false fault is = absurd (cc)

change_fits : (plan : CheckedPlan) (desk : List Account) (n : ℕ) (e : Event) → line_fault plan desk n e ≡ None → IfSome (server_line_in e) (IsChange plan.grid)
change_fits plan desk n (Tenant tenant line) is = tt
change_fits plan desk n (Server line) is = unless_none (is_change plan.grid line) (LineFault n) is
change_fits plan desk n Stray is = tt

-- each server line stops a server of the grid or brings it back
pub changes_fit : (plan : CheckedPlan) (desk : List Account) (n : ℕ) (events : List Event) → first_fault plan desk n events ≡ None → All (IsChange plan.grid) (filter_map server_line_in events)
changes_fit plan desk n [] is = All-nil (IsChange plan.grid)
changes_fit plan desk n (e ∷ events) is =
    let parts = or_none (line_fault plan desk n e) (first_fault plan (desk_after desk e) (n + 1) events) is in
    all_cons_option (IsChange plan.grid) (server_line_in e) (filter_map server_line_in events) (change_fits plan desk n e parts.0) (changes_fit plan (desk_after desk e) (n + 1) events parts.1)

-- programs of events that are not at fault fit the plan
pub fits_plan : (plan : CheckedPlan) (desk : List Account) (n : ℕ) (events : List Event) (programs : Programs) → AreOf plan events programs → All (IsIn plan) events → length events ≤ MOST_REQUESTS → first_fault plan desk n events ≡ None → FitsPlan plan programs
fits_plan plan desk n events programs are within few sound = record {
  count = count;
  requests = λ place low. lists place (requests_at place low) low;
  tenants = subst (IsTenants (length plan.rows)) (sym are.volumes) (tenants_fit plan events within);
  changes = subst (All (IsChange plan.grid)) (sym are.changes) (changes_fit plan desk n events sound);
}
  where
    count : length programs.sessions.items ≡ length (plan_sessions plan)
    count = ap length are.sessions ∙ length-map (plan_sessions plan) (requests_for events)

    requests_at : (place : ℕ) → place < length programs.sessions.items → slice_index_or programs.sessions.items place [] ≡ requests_for events (id_at (plan_sessions plan) place)
    requests_at place low =
        let here : place < length (plan_sessions plan) = omega (arith, count, low) in
        ap (λ (lists : List (List Line)). slice_index_or lists place []) are.sessions ∙ get_or-map (requests_for events) (plan_sessions plan) place (record { tenant = 0; number = 0 }) [] here

    lists : (place : ℕ) → slice_index_or programs.sessions.items place [] ≡ requests_for events (id_at (plan_sessions plan) place) → place < length programs.sessions.items → HasRequests (plan_sessions plan) programs.sessions.items place
    lists place is low =
        let id = id_at (plan_sessions plan) place in
        let size = picked_few (request_for id) events in
        let long = ap length is in
        (subst (All (IsRequestOf id.number)) (sym is) (picked_each (IsRequestOf id.number) (request_for id) (request_is id) events), omega (arith, size, long, few))
