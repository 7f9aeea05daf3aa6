-- What each step does to the sessions: how an operation ended is told as it is.
use Rattle.std.proofs.Common.{◌≡◌, ◌∙◌, ℕ, ◌+◌, ◌≤◌, Bool, true, false, List, [], length, refl, sym, ap, subst, Option, Some, None, arith, inl, inr}
use Rattle.std.specs.Prelude.{◌&&◌, ◌||◌, ◌==◌, not, nat_lt, nat_le, is_some, option_map, if◌then◌else◌}
use Rattle.std.proofs.lemmas.Bool.Decides.{nat_tests}
use Rattle.std.proofs.lemmas.Bool.{cases_Bool, and_parts, leb-true, eqb-true, eq-eqb, ne_eqb}
use Rattle.gq_grid.specs.Grid.{Grid, Servers}
use Rattle.gq_grid.specs.Grid.{with_server}
use Rattle.gq_tag.specs.declared.StoredCopy.{StoredCopy}
use Rattle.gq_tag.specs.declared.Body.TheVariants.{Store}
use Rattle.gq_tag.specs.Tag.{File, OwnMessage, to_server}
use Rattle.gq_desk.specs.declared.volumes.VolumeRow.{VolumeRow}
use Rattle.gq_phase.specs.declared.Outcome.{Outcome}
use Rattle.gq_phase.specs.Phase.{Task, Writing, Reading, Listing, Operation, Heard, HeardStale, HeardNoted, HeardNext, HeardDone, is_collect, is_current, ends_round, skips_store, with_decided, with_reply, file_done, collect_done, round_done, hear_current, hear, heard_servers}
use Rattle.gq_model.specs.declared.events.Line.{Line}
use Rattle.gq_model.specs.declared.events.Line.TheVariants.{Write, Read, List as ListFiles, Abandon}
use Rattle.gq_model.specs.declared.events.Refusal.{Refusal}
use Rattle.gq_model.specs.declared.events.Refusal.TheVariants.{Busy}
use Rattle.gq_model.specs.Told.{Told, Began, Round, Done, Abandoned, Refused}
use Rattle.gq_model.specs.Trace.{Own, State, Session, Deed, Elsewhere, Begins, Ends, heard_deed, operation, operation_with, session_by, limit_at, changed}
use Rattle.gq_model.specs.Lone.{Step, is_refusal, entry_of, asked_step, session_causes, session_step, hear_step, heard_step, first_cause, unless}
use Rattle.gq_cluster.specs.Cluster.{everyone, copy_in}
use Rattle.gq_replace.specs.Plans.{place_of}
use Rattle.gq_cluster.specs.Facts.{Numbered, Had, Reserved, greatest_number, last_of_run, reserving, reserved_by}
use Rattle.gq_node.specs.declared.output.Answer.{Answer}
use Rattle.gq_node.specs.declared.output.Answer.TheVariants.{Done as IsDone, Gone, Refused as IsRefused, Old, Early, Busy as IsBusy, Looked as IsLooked, NotLooked, Bad as IsBad}
use Rattle.gq_node.specs.declared.output.Admission.{Admission}
use Rattle.gq_node.specs.declared.output.Admission.TheVariants.{Tells, Passes, Goes}
use Rattle.gq_node.specs.Again.{told_at_home, told_again, AllToldAgain, session_in, number_in, TellsEnd}
use Rattle.gq_node.specs.Inputs.{Input, Asked, AskedPlan, AskedLook, Brought, Shortened, Ticked, Looked, Joined, Fetching, Fetched, does}
use Rattle.gq_node.specs.Joining.{hears_joined, all_joined, peer_for, first_lacked, asks_peer, looks, is_peer, has_file, gives, takes}
use Rattle.gq_node.specs.Lanes.{lane_of}
use Rattle.gq_node.specs.Local.{Local, Resident, Doing, Brings, given, file_fits, part_in, silently, state_of, state_for, state_behind, aim_at, with_resident, tries_next, asker, begins, ended, again, own_admission, admission, admission_in, asks, asks_in, asked_by, goes_on, answer_of, refused_with, outcome_after, receives, at_server, serves, hears, brings, ticks, waits_on, letter_fits, has_above, of_round}
use Rattle.gq_node.specs.Looked.{look_of, look_answer}
use Rattle.gq_node.specs.Once.{begun_by}
use Rattle.gq_node.specs.Shorts.{OwnShort, letter_with, takes_short}
use Rattle.gq_node.specs.Sites.{Site, has_session, is_new, has_node}
use Rattle.gq_node.proofs.Asking.{goes_home, gives_up}
use Rattle.gq_node.proofs.Bridging.{tried_reserved}
use Rattle.gq_node.proofs.Journal.{not_refused}
use Rattle.gq_node.proofs.Once.{never_goes}
use Rattle.gq_node.proofs.Receiving.{parts, session_here, to_a_session, to_the_server, has_it, lacks_it}
use Rattle.gq_node.proofs.Shortening.{by_arms, stored_again}
use Rattle.gq_node.proofs.Ticking.{busy_is}

-- ---- by what the node has of the session

-- what is told where the number of a request decides
abbrev word_of : Admission → Option Answer
word_of (Tells answer) = Some answer
word_of Passes = None
word_of Goes = None

home_says : (k op last : ℕ) (going : Bool) (outcome : Option Outcome) → op ≤ last → word_of (own_admission k op true last going outcome) ≡ told_at_home k op last going outcome
home_says k op last going outcome low = elim (cases_Bool (nat_lt op last || op == 0)) [
  | inl old ↦ (rw old refl)
  | inr late ↦ (elim (cases_Bool (op == last)) [
    | inl same ↦ (rw (late, same) (by going))
    | inr other ↦ (absurd (grind (arith, nat_tests)))
  ])
]
  where
    by : (b : Bool) → word_of (again k op true b outcome) ≡ (if b then None else Some (ended k op outcome))
    by true = refl
    by false = refl

site_says : (site : Site) (k op last : ℕ) (going : Bool) (outcome : Option Outcome) → op ≤ last → word_of (admission site k op true last going outcome) ≡ told_again site k op last going outcome
site_says site k op last going outcome low = elim (cases_Bool (has_session site k)) [
  | inr outside ↦ (rw outside refl)
  | inl inside ↦ (elim (cases_Bool (site.home k == site.here)) [
    | inr away ↦ (rw (inside, away) refl)
    | inl here ↦ (rw (inside, here) (home_says k op last going outcome low))
  ])
]

asked_word : (site : Site) (local : Local) (op : ℕ) (line : Line) (k : ℕ) (g : Admission) → admission_in site local k op (begins line) ≡ g → (g ≡ Goes → ⊥) → (asks_in site local op line k).answer ≡ word_of g
asked_word site local op line k (Tells answer) is goes = rw is refl
asked_word site local op line k Passes is goes = rw is refl
asked_word site local op line k Goes is goes = absurd (goes refl)

pub all_told_again : AllToldAgain
all_told_again site local op line k its comes =
    let last : ℕ = (local.residents k).session.op in
    let going : Bool = is_some (local.residents k).session.current in
    let h : (begins line && nat_le op last) ≡ true = rw its at comes in
    let p = and_parts (begins line) (nat_le op last) h in
    let low : op ≤ last = leb-true op last p.1 in
    let same : asks op line site local ≡ asks_in site local op line k = rw its refl in
    ap (λ (d : Doing). d.answer) same
    ∙ asked_word site local op line k (admission_in site local k op (begins line)) refl (never_goes site local op line k p.0 low)
    ∙ ap (λ b. word_of (admission site k op b last going (local.residents k).outcome)) p.0
    ∙ site_says site k op last going (local.residents k).outcome low

-- ---- what holds of a session

-- an operation that goes on has a number, and the outcome is of the session's last one
pub record Named (k : ℕ) (r : Resident) : Type 0 where
  pub some : is_some r.session.current ≡ true → 1 ≤ r.session.op
  pub own : (outcome : Outcome) → r.outcome ≡ Some outcome → (session_in outcome ≡ k) × (number_in outcome ≡ r.session.op)

abbrev pub AllNamed : Local → Type 0
AllNamed local = (k : ℕ) → Named k (local.residents k)

-- what is told of operation op, where the session's last one has that number: how it ended, or that its number is old
abbrev pub end_of : (k op last : ℕ) → Option Outcome → Answer
end_of k op last outcome = if op == last then ended k op outcome else Old k op last

-- the session has no operation, and of operation op this answer is told
pub record HasEnded (k op : ℕ) (answer : Answer) (r : Resident) : Type 0 where
  pub some : 1 ≤ op
  pub low : op ≤ r.session.op
  pub idle : r.session.current ≡ None
  pub ends : end_of k op r.session.op r.outcome ≡ answer

-- of the last operation how it ended
has_ended : (k op : ℕ) (answer : Answer) (r : Resident) → 1 ≤ op → r.session.op ≡ op → r.session.current ≡ None → ended k op r.outcome ≡ answer → HasEnded k op answer r
has_ended k op answer r some number idle ends = record { some = some; low = omega arith; idle = idle; ends = rw (eq-eqb op r.session.op (sym number)) ends }

-- this node is the session's home
pub record IsHere (site : Site) (k : ℕ) : Type 0 where
  pub inside : has_session site k ≡ true
  pub home : (site.home k == site.here) ≡ true

-- ---- a request with its number

again_tells : (k op : ℕ) (b : Bool) (outcome : Option Outcome) → again k op b false outcome ≡ Tells (ended k op outcome)
again_tells k op b outcome = refl

home_tells : (k op last : ℕ) (b : Bool) (outcome : Option Outcome) → op ≤ last → 1 ≤ op → own_admission k op b last false outcome ≡ Tells (end_of k op last outcome)
home_tells k op last b outcome low some = elim (cases_Bool (op == last)) [
  | inl same ↦ (let late : (nat_lt op last || op == 0) ≡ false = grind (arith, nat_tests) in rw (late, same) refl)
  | inr other ↦ (let old : (nat_lt op last || op == 0) ≡ true = grind (arith, nat_tests) in rw (old, other) refl)
]

pub ended_tells : (site : Site) (local : Local) (op : ℕ) (line : Line) (k : ℕ) (answer : Answer) → IsHere site k → HasEnded k op answer (local.residents k) → asker line ≡ Some k → (asks op line site local).answer ≡ Some answer
ended_tells site local op line k answer here at its =
    let r : Resident = local.residents k in
    let b : Bool = begins line in
    let own : own_admission k op b r.session.op false r.outcome ≡ Tells answer = home_tells k op r.session.op b r.outcome at.low at.some ∙ ap Tells at.ends in
    let all : admission site k op b r.session.op false r.outcome ≡ Tells answer = rw (here.inside, here.home) own in
    let is : admission_in site local k op b ≡ Tells answer = ap (λ o. admission site k op b r.session.op (is_some o) r.outcome) at.idle ∙ all in
    rw (its, is) refl

-- ---- an end that is told by the number

same_word : (a answer : Answer) → Tells a ≡ Tells answer → a ≡ answer
same_word a answer is = cc

-- the outcome is of the session's last operation
abbrev Owns : (k last : ℕ) → Option Outcome → Type 0
Owns k last outcome = (o : Outcome) → outcome ≡ Some o → (session_in o ≡ k) × (number_in o ≡ last)

-- the answer to number n of session j tells how operation op of session k ended: it is this one, and it ended so
record IsTheEnd (j n last k op : ℕ) (going : Bool) (outcome : Option Outcome) (answer : Answer) : Type 0 where
  session : j ≡ k
  some : 1 ≤ op
  number : last ≡ op
  idle : going ≡ false
  ends : ended k op outcome ≡ answer

end_here : (j n last k op : ℕ) (outcome : Option Outcome) (answer : Answer) → n ≡ last → 1 ≤ n → Owns j last outcome → ended j n outcome ≡ answer → TellsEnd k op answer → IsTheEnd j n last k op false outcome answer
end_here j n last k op None answer same some own is tells =
    let h : (j ≡ k) × (n ≡ op) = subst (TellsEnd k op) (sym is) tells in
    record { session = h.0; some = subst (λ x. 1 ≤ x) h.1 some; number = sym same ∙ h.1; idle = refl; ends = (λ i. Gone (sym h.0 i) (sym h.1 i)) ∙ is }
end_here j n last k op (Some o) answer same some own is tells =
    let h : (session_in o ≡ k) × (number_in o ≡ op) = subst (TellsEnd k op) (sym is) tells in
    let w = own o refl in
    let number : last ≡ op = sym w.1 ∙ h.1 in
    record { session = sym w.0 ∙ h.0; some = subst (λ x. 1 ≤ x) (same ∙ number) some; number = number; idle = refl; ends = is }

again_ends : (j n last k op : ℕ) (b going : Bool) (outcome : Option Outcome) (answer : Answer) → n ≡ last → 1 ≤ n → Owns j last outcome → again j n b going outcome ≡ Tells answer → TellsEnd k op answer → IsTheEnd j n last k op going outcome answer
again_ends j n last k op true true outcome answer same some own is tells = absurd (cc)
again_ends j n last k op false true outcome answer same some own is tells = absurd (cc)
again_ends j n last k op b false outcome answer same some own is tells = end_here j n last k op outcome answer same some own (same_word (ended j n outcome) answer is) tells

not_zero : (n last : ℕ) → (nat_lt n last || n == 0) ≡ false → 1 ≤ n
not_zero n last is = grind (arith, nat_tests)

no_end : (k op : ℕ) (a answer : Answer) → Tells a ≡ Tells answer → TellsEnd k op answer → TellsEnd k op a
no_end k op a answer is tells = subst (TellsEnd k op) (sym (same_word a answer is)) tells

home_ends : (j n last k op : ℕ) (b going : Bool) (outcome : Option Outcome) (answer : Answer) → Owns j last outcome → own_admission j n b last going outcome ≡ Tells answer → TellsEnd k op answer → IsTheEnd j n last k op going outcome answer
home_ends j n last k op b going outcome answer own is tells = elim (cases_Bool (nat_lt n last || n == 0)) [
  | inl old ↦ (let e = rw old at is in absurd (no_end k op (Old j n last) answer e tells))
  | inr late ↦ (elim (cases_Bool (n == last)) [
    | inl same ↦ (let e = rw (late, same) at is in again_ends j n last k op b going outcome answer (eqb-true n last same) (not_zero n last late) own e tells)
    | inr other ↦ (elim (cases_Bool (b && n == last + 1)) [
      | inl next ↦ (let e = rw (late, other, next) at is in absurd (cc))
      | inr apart ↦ (let e = rw (late, other, apart) at is in absurd (no_end k op (Early j n last) answer e tells))
    ])
  ])
]

site_ends : (site : Site) (j n last k op : ℕ) (b going : Bool) (outcome : Option Outcome) (answer : Answer) → Owns j last outcome → admission site j n b last going outcome ≡ Tells answer → TellsEnd k op answer → IsHere site j × IsTheEnd j n last k op going outcome answer
site_ends site j n last k op b going outcome answer own is tells = elim (cases_Bool (has_session site j)) [
  | inr outside ↦ (let e = rw outside at is in absurd (no_end k op _ answer e tells))
  | inl inside ↦ (elim (cases_Bool (site.home j == site.here)) [
    | inr away ↦ (let e = rw (inside, away) at is in absurd (no_end k op _ answer e tells))
    | inl here ↦ (let e = rw (inside, here) at is in (record { inside = inside; home = here }, home_ends j n last k op b going outcome answer own e tells))
  ])
]

not_going : (o : Option Task) → is_some o ≡ false → o ≡ None
not_going None is = refl
not_going (Some task) is = absurd (cc)

-- ---- what is told of the session, and what it then has

pub record IsAlike (old : Resident) (session : Session) (outcome : Option Outcome) : Type 0 where
  pub number : session.op ≡ old.session.op
  current : session.current ≡ old.session.current
  same : outcome ≡ old.outcome

pub record IsDoneWith (k : ℕ) (o : Outcome) (old : Resident) (session : Session) (outcome : Option Outcome) : Type 0 where
  busy : is_some old.session.current ≡ true
  pub number : session.op ≡ old.session.op
  idle : session.current ≡ None
  is : outcome ≡ Some o
  own_session : session_in o ≡ k
  own_number : number_in o ≡ old.session.op

pub record IsGivenUp (old : Resident) (session : Session) (outcome : Option Outcome) : Type 0 where
  busy : is_some old.session.current ≡ true
  pub number : session.op ≡ old.session.op
  idle : session.current ≡ None
  none : outcome ≡ None

abbrev pub AfterTold : (k : ℕ) → Told → Resident → Session → Option Outcome → Type 0
AfterTold k (Began op first count) old session outcome = (session.op ≡ old.session.op + 1) × (outcome ≡ None)
AfterTold k (Done o) old session outcome = IsDoneWith k o old session outcome
AfterTold k Abandoned old session outcome = IsGivenUp old session outcome
AfterTold k told old session outcome = IsAlike old session outcome

alike_named : (k : ℕ) (old new : Resident) → IsAlike old new.session new.outcome → Named k old → Named k new
alike_named k old new a named = record {
  some = λ busy. subst (λ x. 1 ≤ x) (sym a.number) (named.some (ap is_some (sym a.current) ∙ busy));
  own = λ o is. let w = named.own o (sym a.same ∙ is) in (w.0, w.1 ∙ sym a.number);
}

alike_ended : (k op : ℕ) (answer : Answer) (old new : Resident) → IsAlike old new.session new.outcome → HasEnded k op answer old → HasEnded k op answer new
alike_ended k op answer old new a at = record { some = at.some; low = subst (λ x. op ≤ x) (sym a.number) at.low; idle = a.current ∙ at.idle; ends = (λ i. end_of k op (a.number i) (a.same i)) ∙ at.ends }

same_some : (a b : Outcome) → Some a ≡ Some b → a ≡ b
same_some a b is = cc

named_after : (k : ℕ) (told : Told) (old new : Resident) → AfterTold k told old new.session new.outcome → Named k old → Named k new
named_after k (Began op first count) old new a named = record { some = λ busy. (let next = a.0 in omega (arith, next)); own = λ o is. let e = sym a.1 ∙ is in absurd (cc) }
named_after k (Done outcome) old new a named = record {
  some = λ busy. let e = sym (ap is_some a.idle) ∙ busy in absurd (cc);
  own = λ o is. let e : outcome ≡ o = same_some outcome o (sym a.is ∙ is) in (ap session_in (sym e) ∙ a.own_session, ap number_in (sym e) ∙ a.own_number ∙ sym a.number);
}
named_after k Abandoned old new a named = record { some = λ busy. let e = sym (ap is_some a.idle) ∙ busy in absurd (cc); own = λ o is. let e = sym a.none ∙ is in absurd (cc) }
named_after k told old new a named = alike_named k old new a named

-- nothing began
abbrev NotBegun : Told → Type 0
NotBegun (Began op first count) = ⊥
NotBegun _ = Unit {0}

ended_after : (j k op : ℕ) (answer : Answer) (told : Told) (old new : Resident) → NotBegun told → AfterTold j told old new.session new.outcome → HasEnded k op answer old → HasEnded k op answer new
ended_after j k op answer (Began n first count) old new none a at = absurd none
ended_after j k op answer (Done outcome) old new none a at = let e = sym (ap is_some at.idle) ∙ a.busy in absurd (cc)
ended_after j k op answer Abandoned old new none a at = let e = sym (ap is_some at.idle) ∙ a.busy in absurd (cc)
ended_after j k op answer told old new none a at = alike_ended k op answer old new a at

-- ---- a letter to the session

-- an outcome that is heard is of this operation
abbrev OwnHeard : (k op : ℕ) → Heard → Type 0
OwnHeard k op (HeardDone o) = (session_in o ≡ k) × (number_in o ≡ op)
OwnHeard k op _ = Unit {0}

file_own : (grid : Grid) (up : Servers) (o : Operation) (task : Task) → o.task ≡ task → OwnHeard o.session o.op (file_done grid up o)
file_own grid up o (Writing file bytes) is = rw is (refl, refl)
file_own grid up o (Reading file) is = rw is (refl, refl)
file_own grid up o (Listing volume files) is = elim (cases_Bool (nat_lt (length o.collected) files)) [
  | inl more ↦ (rw (is, more) tt)
  | inr last ↦ (rw (is, last) (refl, refl))
]

collect_own : (grid : Grid) (up : Servers) (o : Operation) → OwnHeard o.session o.op (collect_done grid up o)
collect_own grid up o = elim (cases_Bool (skips_store grid o)) [
  | inl skips ↦ (rw skips (file_own grid up o o.task refl))
  | inr stores ↦ (rw stores tt)
]

round_own : (grid : Grid) (up : Servers) (o : Operation) → OwnHeard o.session o.op (round_done grid up o)
round_own grid up o = elim (cases_Bool (is_collect o.round)) [
  | inl collects ↦ (rw collects (collect_own grid up (with_decided o)))
  | inr stores ↦ (rw stores (file_own grid up o o.task refl))
]

current_own : (grid : Grid) (up : Servers) (o : Operation) → OwnHeard o.session o.op (hear_current grid up o)
current_own grid up o = elim (cases_Bool (ends_round grid o.round o.heard)) [
  | inl all ↦ (rw all (round_own grid up o))
  | inr more ↦ (rw more tt)
]

hear_own : (grid : Grid) (up : Servers) (o : Operation) (m : OwnMessage) → OwnHeard o.session o.op (hear grid up o m)
hear_own grid up o m = elim (cases_Bool (is_current o m)) [
  | inl current ↦ (rw current (current_own grid up (with_reply o m)))
  | inr other ↦ (rw other tt)
]

heard_after : (volumes : List VolumeRow) (k first : ℕ) (m : OwnMessage) (h : Heard) (old : Resident) → is_some old.session.current ≡ true → OwnHeard k old.session.op h →
    AfterTold k (heard_step first h).told old (session_by volumes k (heard_deed m (heard_step first h).told) old.session) (outcome_after (heard_step first h).told old.outcome)
heard_after volumes k first m HeardStale old busy own = record { number = refl; current = refl; same = refl }
heard_after volumes k first m HeardNoted old busy own = record { number = refl; current = refl; same = refl }
heard_after volumes k first m (HeardNext round tag messages) old busy own = record { number = refl; current = refl; same = refl }
heard_after volumes k first m (HeardDone outcome) old busy own = record { busy = busy; number = refl; idle = refl; is = refl; own_session = own.0; own_number = own.1 }

hear_after : (volumes : List VolumeRow) (k : ℕ) (grid : Grid) (state : State) (m : OwnMessage) (old : Resident) (current : Option Task) → old.session.current ≡ current →
    let o : Option Operation = option_map (operation_with k old.session) current in
    AfterTold k (hear_step grid state m o).told old (session_by volumes k (heard_deed m (hear_step grid state m o).told) old.session) (outcome_after (hear_step grid state m o).told old.outcome)
hear_after volumes k grid state m old None is = record { number = refl; current = refl; same = refl }
hear_after volumes k grid state m old (Some task) is =
    heard_after volumes k _ m (hear grid state.up (operation_with k old.session task) m) old (ap is_some is) (hear_own grid state.up (operation_with k old.session task) m)

-- ---- what a step does to the sessions

-- no session changes; an answer that tells how an operation ended tells how it is
pub record IsStill (site : Site) (local : Local) (doing : Doing) : Type 0 where
  reserved : (k : ℕ) → (doing.local.residents k).reserved ≡ (local.residents k).reserved
  pub each : (k : ℕ) → IsAlike (local.residents k) (doing.local.residents k).session (doing.local.residents k).outcome
  tells : (k op : ℕ) (answer : Answer) → AllNamed local → doing.answer ≡ Some answer → TellsEnd k op answer → IsHere site k × HasEnded k op answer (local.residents k)

-- session j, which is of this node, was told this, to a line with the number n if it was given up
pub record Turns (site : Site) (local : Local) (doing : Doing) (j n : ℕ) (told : Told) : Type 0 where
  here : IsHere site j
  pub after : AfterTold j told (local.residents j) (doing.local.residents j).session (doing.local.residents j).outcome
  pub others : (k : ℕ) → (j == k) ≡ false → doing.local.residents k ≡ local.residents k
  reserved : NotBegun told → (doing.local.residents j).reserved.op ≡ (local.residents j).reserved.op
  answer : doing.answer ≡ answer_of j n (local.residents j).session.op told
  given_up : told ≡ Abandoned → (1 ≤ n) × (n ≡ (local.residents j).session.op)

pub data Moves (site : Site) (local : Local) (doing : Doing) : Type 0 where
  Stays : IsStill site local doing → Moves site local doing
  Goes_on : (j n : ℕ) (told : Told) → Turns site local doing j n told → Moves site local doing

-- ---- what it means for them

pub moved_named : (site : Site) (local : Local) (doing : Doing) → Moves site local doing → AllNamed local → AllNamed doing.local
moved_named site local doing (Stays still) named k = alike_named k (local.residents k) (doing.local.residents k) (still.each k) (named k)
moved_named site local doing (Goes_on j n told turns) named k = elim (cases_Bool (j == k)) [
  | inl same ↦ (subst (λ x. Named x (doing.local.residents x)) (eqb-true j k same) (named_after j told (local.residents j) (doing.local.residents j) turns.after (named j)))
  | inr other ↦ (subst (Named k) (sym (turns.others k other)) (named k))
]

-- where the session has the same last number nothing began
not_begun : (j : ℕ) (told : Told) (local : Local) (doing : Doing) → AfterTold j told (local.residents j) (doing.local.residents j).session (doing.local.residents j).outcome → begun_by j local doing.local ≡ None → NotBegun told
not_begun j (Began op first count) local doing a none =
    let last : ℕ = (local.residents j).session.op in
    let now : ℕ = (doing.local.residents j).session.op in
    let next : now ≡ last + 1 = a.0 in
    let other : (now == last) ≡ false = ne_eqb now last (λ e. omega (arith, next, e)) in
    let bad = rw other at none in
    cc
not_begun j told local doing a none = tt

pub moved_ended : (site : Site) (local : Local) (doing : Doing) (k op : ℕ) (answer : Answer) → Moves site local doing → begun_by k local doing.local ≡ None → HasEnded k op answer (local.residents k) → HasEnded k op answer (doing.local.residents k)
moved_ended site local doing k op answer (Stays still) none at = alike_ended k op answer (local.residents k) (doing.local.residents k) (still.each k) at
moved_ended site local doing k op answer (Goes_on j n told turns) none at = elim (cases_Bool (j == k)) [
  | inl same ↦ (
      let e : j ≡ k = eqb-true j k same in
      let here : HasEnded k op answer (local.residents j) = subst (λ x. HasEnded k op answer (local.residents x)) (sym e) at in
      let begun : NotBegun told = not_begun j told local doing turns.after (subst (λ x. begun_by x local doing.local ≡ None) (sym e) none) in
      subst (λ x. HasEnded k op answer (doing.local.residents x)) e (ended_after j k op answer told (local.residents j) (doing.local.residents j) begun turns.after here))
  | inr other ↦ (subst (HasEnded k op answer) (sym (turns.others k other)) at)
]

-- a session in which one begins is of this node
pub begun_here : (site : Site) (local : Local) (doing : Doing) (k next : ℕ) → Moves site local doing → begun_by k local doing.local ≡ Some next → has_session site k ≡ true
begun_here site local doing k next (Stays still) is =
    let same : (doing.local.residents k).session.op ≡ (local.residents k).session.op = (still.each k).number in
    let none : ((doing.local.residents k).session.op == (local.residents k).session.op) ≡ true = eq-eqb _ _ same in
    let e = rw none at is in
    absurd (cc)
begun_here site local doing k next (Goes_on j n told turns) is = elim (cases_Bool (j == k)) [
  | inl same ↦ (subst (λ x. has_session site x ≡ true) (eqb-true j k same) turns.here.inside)
  | inr other ↦ (
      let same : (doing.local.residents k).session.op ≡ (local.residents k).session.op = ap (λ (r : Resident). r.session.op) (turns.others k other) in
      let none : ((doing.local.residents k).session.op == (local.residents k).session.op) ≡ true = eq-eqb _ _ same in
      let e = rw none at is in
      absurd (cc))
]

-- and reserves nothing
pub moved_reserved : (site : Site) (local : Local) (doing : Doing) (k : ℕ) → Moves site local doing → begun_by k local doing.local ≡ None → (doing.local.residents k).reserved.op ≡ (local.residents k).reserved.op
moved_reserved site local doing k (Stays still) none = ap (λ (z : Reserved). z.op) (still.reserved k)
moved_reserved site local doing k (Goes_on j n told turns) none = elim (cases_Bool (j == k)) [
  | inl same ↦ (
      let e : j ≡ k = eqb-true j k same in
      let begun : NotBegun told = not_begun j told local doing turns.after (subst (λ x. begun_by x local doing.local ≡ None) (sym e) none) in
      subst (λ x. (doing.local.residents x).reserved.op ≡ (local.residents x).reserved.op) e (turns.reserved begun))
  | inr other ↦ (ap (λ (r : Resident). r.reserved.op) (turns.others k other))
]

refused_no_end : (j n last k op : ℕ) (word : Refusal) (answer : Answer) → Some (refused_with j n last word) ≡ Some answer → TellsEnd k op answer → ⊥
refused_no_end j n last k op Busy answer is tells = let e : IsBusy j n last ≡ answer = cc in subst (TellsEnd k op) (sym e) tells
refused_no_end j n last k op word answer is tells = let e : IsRefused j n word ≡ answer = cc in subst (TellsEnd k op) (sym e) tells

same_answer : (a answer : Answer) → Some a ≡ Some answer → a ≡ answer
same_answer a answer is = cc

-- the session that is told an end has it
turned_tells : (j n k op : ℕ) (answer : Answer) (told : Told) (old new : Resident) → Named j old → AfterTold j told old new.session new.outcome → (told ≡ Abandoned → (1 ≤ n) × (n ≡ old.session.op)) →
    answer_of j n old.session.op told ≡ Some answer → TellsEnd k op answer → (j ≡ k) × HasEnded k op answer new
turned_tells j n k op answer (Done o) old new named a given is tells =
    let e : IsDone o ≡ answer = same_answer (IsDone o) answer is in
    let h : (session_in o ≡ k) × (number_in o ≡ op) = subst (TellsEnd k op) (sym e) tells in
    let number : old.session.op ≡ op = sym a.own_number ∙ h.1 in
    (sym a.own_session ∙ h.0, has_ended k op answer new (subst (λ x. 1 ≤ x) number (named.some a.busy)) (a.number ∙ number) a.idle (ap (ended k op) a.is ∙ e))
turned_tells j n k op answer Abandoned old new named a given is tells =
    let e : Gone j n ≡ answer = same_answer (Gone j n) answer is in
    let h : (j ≡ k) × (n ≡ op) = subst (TellsEnd k op) (sym e) tells in
    let g = given refl in
    (h.0, has_ended k op answer new (subst (λ x. 1 ≤ x) h.1 g.0) (a.number ∙ sym g.1 ∙ h.1) a.idle (ap (ended k op) a.none ∙ cc (h.0, h.1, e)))
turned_tells j n k op answer (Refused word) old new named a given is tells = absurd (refused_no_end j n old.session.op k op word answer is tells)
turned_tells j n k op answer told old new named a given is tells = absurd (cc)

pub moved_tells : (site : Site) (local : Local) (doing : Doing) (k op : ℕ) (answer : Answer) → AllNamed local → Moves site local doing → doing.answer ≡ Some answer → TellsEnd k op answer → IsHere site k × HasEnded k op answer (doing.local.residents k)
moved_tells site local doing k op answer named (Stays still) is tells =
    let h = still.tells k op answer named is tells in
    (h.0, alike_ended k op answer (local.residents k) (doing.local.residents k) (still.each k) h.1)
moved_tells site local doing k op answer named (Goes_on j n told turns) is tells =
    let h = turned_tells j n k op answer told (local.residents j) (doing.local.residents j) (named j) turns.after turns.given_up (sym turns.answer ∙ is) tells in
    (subst (IsHere site) h.0 turns.here, subst (λ x. HasEnded k op answer (doing.local.residents x)) h.0 h.1)

-- ---- each step is such a one

alike_refl : (r : Resident) → IsAlike r r.session r.outcome
alike_refl r = record { number = refl; current = refl; same = refl }

-- all stays, and nothing is told
quiet : (site : Site) (local : Local) (doing : Doing) → doing.local.residents ≡ local.residents → doing.answer ≡ None → IsStill site local doing
quiet site local doing same none = record {
  reserved = λ k. ap (λ rs. (rs k).reserved) same;
  each = λ k. subst (λ (r : Resident). IsAlike (local.residents k) r.session r.outcome) (sym (ap (λ rs. rs k) same)) (alike_refl (local.residents k));
  tells = λ k op answer named is tells. let e = sym none ∙ is in absurd (cc);
}

-- all stays, and this is told, which is no end
says : (site : Site) (local : Local) (doing : Doing) (a : Answer) → doing.local ≡ local → doing.answer ≡ Some a → ((k op : ℕ) → TellsEnd k op a → ⊥) → IsStill site local doing
says site local doing a same is never = record {
  reserved = λ k. ap (λ (l : Local). (l.residents k).reserved) same;
  each = λ k. subst (λ (l : Local). IsAlike (local.residents k) (l.residents k).session (l.residents k).outcome) (sym same) (alike_refl (local.residents k));
  tells = λ k op answer named told tells. absurd (never k op (subst (TellsEnd k op) (sym (same_answer a answer (sym is ∙ told))) tells));
}

own_resident : (local : Local) (j : ℕ) (r : Resident) → (with_resident local j r).residents j ≡ r
own_resident local j r = rw (eq-eqb j j refl) refl

other_resident : (local : Local) (j k : ℕ) (r : Resident) → (j == k) ≡ false → (with_resident local j r).residents k ≡ local.residents k
other_resident local j k r other = rw other refl

-- a session that goes on
goes_on_turns : (site : Site) (local : Local) (j n : ℕ) (doing : Doing) (r : Resident) (told : Told) (floor : ℕ) → IsHere site j → doing.local ≡ with_resident local j r → doing.answer ≡ answer_of j n (local.residents j).session.op told →
    r.reserved ≡ reserved_by (reserving j (local.residents j).reserved told floor) (local.residents j).reserved →
    AfterTold j told (local.residents j) r.session r.outcome → (told ≡ Abandoned → (1 ≤ n) × (n ≡ (local.residents j).session.op)) → Turns site local doing j n told
goes_on_turns site local j n doing r told floor here part answer reserved after given = record {
  here = here;
  after = subst (λ (x : Resident). AfterTold j told (local.residents j) x.session x.outcome) (sym now) after;
  others = λ k other. ap (λ (l : Local). l.residents k) part ∙ other_resident local j k r other;
  reserved = λ begun. ap (λ (x : Resident). x.reserved.op) now ∙ ap (λ (z : Reserved). z.op) reserved ∙ same_op told (local.residents j).reserved begun;
  answer = answer;
  given_up = given;
}
  where
    now : doing.local.residents j ≡ r
    now = ap (λ (l : Local). l.residents j) part ∙ own_resident local j r

    same_op : (told : Told) (z : Reserved) → NotBegun told → (reserved_by (reserving j z told floor) z).op ≡ z.op
    same_op (Began op first count) z begun = absurd begun
    same_op (Round round tag first count) z begun = by (nat_le floor z.floor)
      where
        by : (b : Bool) → (reserved_by (if b then None else Some (Numbered j (last_of_run greatest_number floor))) z).op ≡ z.op
        by true = refl
        by false = refl
    same_op told z begun = refl

-- ---- a request

told_still : (site : Site) (local : Local) (n j : ℕ) (b : Bool) (answer : Answer) → admission_in site local j n b ≡ Tells answer → IsStill site local (record { local = local; answer = Some answer; letters = []; transfer = None; fact = None })
told_still site local n j b answer is = record {
  reserved = λ k. refl;
  each = λ k. alike_refl (local.residents k);
  tells = λ k op end named told tells.
      let r : Resident = local.residents j in
      let e : admission_in site local j n b ≡ Tells end = is ∙ ap Tells (same_answer answer end told) in
      let h = site_ends site j n r.session.op k op b (is_some r.session.current) r.outcome end (named j).own e tells in
      let at : HasEnded k op end r = has_ended k op end r h.1.some h.1.number (not_going r.session.current h.1.idle) h.1.ends in
      (subst (IsHere site) h.1.session h.0, subst (λ x. HasEnded k op end (local.residents x)) h.1.session at);
}

refusal_no_end : (j n last k op : ℕ) (told : Told) (answer : Answer) → is_refusal told ≡ true → answer_of j n last told ≡ Some answer → TellsEnd k op answer → ⊥
refusal_no_end j n last k op (Refused word) answer refused is tells = refused_no_end j n last k op word answer is tells
refusal_no_end j n last k op (Done outcome) answer refused is tells = absurd (cc)
refusal_no_end j n last k op Abandoned answer refused is tells = absurd (cc)
refusal_no_end j n last k op told answer refused is tells = absurd (cc)

refused_still : (site : Site) (local : Local) (j n : ℕ) (told : Told) → is_refusal told ≡ true → IsStill site local (record { local = local; answer = answer_of j n (local.residents j).session.op told; letters = []; transfer = None; fact = None })
refused_still site local j n told refused = record {
  reserved = λ k. refl;
  each = λ k. alike_refl (local.residents k);
  tells = λ k op answer named is tells. absurd (refusal_no_end j n (local.residents j).session.op k op told answer refused is tells);
}

-- one that is given up has the number of the last operation
up_number : (k n last : ℕ) (going : Bool) (outcome : Option Outcome) → own_admission k n false last going outcome ≡ Goes → (1 ≤ n) × (n ≡ last)
up_number k n last going outcome goes = elim (cases_Bool (nat_lt n last || n == 0)) [
  | inl old ↦ (let e = rw old at goes in absurd (cc))
  | inr late ↦ (elim (cases_Bool (n == last)) [
    | inl same ↦ (not_zero n last late, eqb-true n last same)
    | inr other ↦ (let e = rw (late, other) at goes in absurd (cc))
  ])
]

-- what session k has and is told by a line of it that is not refused
record ItsTurn (k : ℕ) (line : Line) : Type 0 where
  its : asker line ≡ Some k
  after : (site : Site) (local : Local) (aim : Servers) → is_refusal (asked_step site.grid site.row (state_of aim local) line).told ≡ false → (begins line ≡ false → is_some (local.residents k).session.current ≡ true) →
      let old : Resident = local.residents k in
      let state : State = state_of aim local in
      let told : Told = (asked_step site.grid site.row state line).told in
      AfterTold k told old ((changed (entry_of state (Own line) (asked_step site.grid site.row state line)) state).session k) (outcome_after told old.outcome)
  given : (site : Site) (local : Local) (aim : Servers) → (asked_step site.grid site.row (state_of aim local) line).told ≡ Abandoned → begins line ≡ false

request_moves : (op : ℕ) (line : Line) (k : ℕ) (site : Site) (local : Local) → ItsTurn k line → Moves site local (asks op line site local)
request_moves op line k site local turn = by (admission_in site local k op (begins line)) refl
  where
    r : Resident
    r = local.residents k

    aim : Servers
    aim = aim_at site.grid r

    step : Step
    step = asked_step site.grid site.row (state_of aim local) line

    its : asker line ≡ Some k
    its = turn.its

    same : asks op line site local ≡ asks_in site local op line k
    same = rw its refl

    own : admission_in site local k op (begins line) ≡ Goes → begins line ≡ false → own_admission k op false r.session.op (is_some r.session.current) r.outcome ≡ Goes
    own goes ends = subst (λ b. own_admission k op b r.session.op (is_some r.session.current) r.outcome ≡ Goes) ends (goes_home site k op r.session.op (begins line) (is_some r.session.current) r.outcome goes).2

    said : admission_in site local k op (begins line) ≡ Goes → (b : Bool) → is_refusal step.told ≡ b → Moves site local (asked_by local k op (state_of aim local) line step)
    said goes true is =
        let e : asked_by local k op (state_of aim local) line step ≡ record { local = local; answer = answer_of k op r.session.op step.told; letters = []; transfer = None; fact = None } = rw is refl in
        subst (Moves site local) (sym e) (Stays (refused_still site local k op step.told is))
    said goes false is =
        let doing : Doing = goes_on local k op false (state_of aim local) (entry_of (state_of aim local) (Own line) step) in
        let e : asked_by local k op (state_of aim local) line step ≡ doing = rw is refl in
        let there = goes_home site k op r.session.op (begins line) (is_some r.session.current) r.outcome goes in
        subst (Moves site local) (sym e) (Goes_on k op step.told (goes_on_turns site local k op doing _ step.told _ (record { inside = there.0; home = there.1 }) refl refl refl
        (turn.after site local aim is (λ ends. gives_up k op r.session.op (is_some r.session.current) r.outcome (own goes ends)))
        (λ abandoned. up_number k op r.session.op (is_some r.session.current) r.outcome (own goes (turn.given site local aim abandoned)))))

    by : (g : Admission) → admission_in site local k op (begins line) ≡ g → Moves site local (asks op line site local)
    by (Tells answer) is =
        let e : asks_in site local op line k ≡ record { local = local; answer = Some answer; letters = []; transfer = None; fact = None } = rw is refl in
        subst (Moves site local) (sym (same ∙ e)) (Stays (told_still site local op k (begins line) answer is))
    by Passes is =
        let e : asks_in site local op line k ≡ silently local = rw is refl in
        subst (Moves site local) (sym (same ∙ e)) (Stays (quiet site local (silently local) refl refl))
    by Goes is =
        let e : asks_in site local op line k ≡ asked_by local k op (state_of aim local) line step = rw is refl in
        subst (Moves site local) (sym (same ∙ e)) (said is (is_refusal step.told) refl)

begun_turn : (volumes : List VolumeRow) (k n first count : ℕ) (line : Line) (old : Resident) → AfterTold k (Began n first count) old (session_by volumes k (if k == k then Begins line else Elsewhere) old.session) None
begun_turn volumes k n first count line old = rw (eq-eqb k k refl) (refl, refl)

given_turn : (volumes : List VolumeRow) (k : ℕ) (old : Resident) → is_some old.session.current ≡ true → AfterTold k Abandoned old (session_by volumes k (if k == k then Ends else Elsewhere) old.session) None
given_turn volumes k old busy = rw (eq-eqb k k refl) (record { busy = busy; number = refl; idle = refl; none = refl })

its_turn : (site : Site) (local : Local) (aim : Servers) (line : Line) (k : ℕ) (d : Deed) (old : Resident) → is_refusal (asked_step site.grid site.row (state_of aim local) line).told ≡ false →
    AfterTold k (session_step site.grid (state_of aim local) line).told old (session_by local.volumes k d (local.residents k).session) (outcome_after (session_step site.grid (state_of aim local) line).told old.outcome) →
    AfterTold k (asked_step site.grid site.row (state_of aim local) line).told old (session_by local.volumes k d (local.residents k).session) (outcome_after (asked_step site.grid site.row (state_of aim local) line).told old.outcome)
its_turn site local aim line k d old is after =
    let same = not_refused (first_cause (session_causes site.grid site.row (state_of aim local) line)) (session_step site.grid (state_of aim local) line) is in
    subst (λ (z : Step). AfterTold k z.told old (session_by local.volumes k d (local.residents k).session) (outcome_after z.told old.outcome)) (sym same) after

-- a line that begins is not told that it gives up
never_given : (o : Option Refusal) (step : Step) (b : Bool) → (step.told ≡ Abandoned → b ≡ false) → (unless o step).told ≡ Abandoned → b ≡ false
never_given None step b not is = not is
never_given (Some word) step b not is = absurd (cc)

requests_move : (op : ℕ) (line : Line) (site : Site) (local : Local) → Moves site local (asks op line site local)
requests_move op (Write k v f bytes) site local = request_moves op (Write k v f bytes) k site local (record {
  its = refl;
  after = λ site local aim is busy. its_turn site local aim (Write k v f bytes) k _ (local.residents k) is (begun_turn local.volumes k 0 0 0 (Write k v f bytes) (local.residents k));
  given = λ site local aim is. never_given (first_cause (session_causes site.grid site.row (state_of aim local) (Write k v f bytes))) (session_step site.grid (state_of aim local) (Write k v f bytes)) true (λ e. absurd (cc)) is;
})
requests_move op (Read k v f) site local = request_moves op (Read k v f) k site local (record {
  its = refl;
  after = λ site local aim is busy. its_turn site local aim (Read k v f) k _ (local.residents k) is (begun_turn local.volumes k 0 0 0 (Read k v f) (local.residents k));
  given = λ site local aim is. never_given (first_cause (session_causes site.grid site.row (state_of aim local) (Read k v f))) (session_step site.grid (state_of aim local) (Read k v f)) true (λ e. absurd (cc)) is;
})
requests_move op (ListFiles k v) site local = request_moves op (ListFiles k v) k site local (record {
  its = refl;
  after = λ site local aim is busy. its_turn site local aim (ListFiles k v) k _ (local.residents k) is (begun_turn local.volumes k 0 0 0 (ListFiles k v) (local.residents k));
  given = λ site local aim is. never_given (first_cause (session_causes site.grid site.row (state_of aim local) (ListFiles k v))) (session_step site.grid (state_of aim local) (ListFiles k v)) true (λ e. absurd (cc)) is;
})
requests_move op (Abandon k) site local = request_moves op (Abandon k) k site local (record {
  its = refl;
  after = λ site local aim is busy. its_turn site local aim (Abandon k) k (if k == k then Ends else Elsewhere) (local.residents k) is (given_turn local.volumes k (local.residents k) (busy refl));
  given = λ site local aim is. refl;
})
requests_move op line site local = Stays (says site local (asks op line site local) IsBad refl refl (λ k op h. h))

-- ---- a letter

hears_move : (site : Site) (local : Local) (m : OwnMessage) → to_server m.body ≡ false → IsHere site m.session → Moves site local (hears site local m)
hears_move site local m goes here = by (has_above (local.residents m.session).session.floor && of_round (operation (state_for site local m.session) m.session) m.file) refl
  where
    k : ℕ
    k = m.session

    r : Resident
    r = local.residents k

    state : State
    state = state_behind site local m

    step : Step
    step = hear_step site.grid state m (operation state k)

    doing : Doing
    doing = goes_on local k r.session.op (heard_servers r.session.heard m.server) state (brings m step)

    after : AfterTold k step.told r ((changed (brings m step) state).session k) (outcome_after step.told r.outcome)
    after =
        let same : (changed (brings m step) state).session k ≡ session_by local.volumes k (heard_deed m step.told) r.session = rw (goes, eq-eqb k k refl) refl in
        subst (λ (x : Session). AfterTold k step.told r x (outcome_after step.told r.outcome)) (sym same) (hear_after local.volumes k site.grid state m r r.session.current refl)

    by : (b : Bool) → (has_above r.session.floor && of_round (operation state k) m.file) ≡ b → Moves site local (hears site local m)
    by false is = let e : hears site local m ≡ silently local = rw is refl in subst (Moves site local) (sym e) (Stays (quiet site local (silently local) refl refl))
    by true is =
        let e : hears site local m ≡ doing = rw is refl in
        subst (Moves site local) (sym e) (Goes_on k r.session.op step.told (goes_on_turns site local k r.session.op doing _ step.told _ here refl refl refl after (λ abandoned. absurd (never_abandoned (operation state k) abandoned))))
      where
        heard_never : (h : Heard) → (heard_step (length state.sent) h).told ≡ Abandoned → ⊥
        heard_never HeardStale is = cc
        heard_never HeardNoted is = cc
        heard_never (HeardNext round tag messages) is = cc
        heard_never (HeardDone outcome) is = cc

        never_abandoned : (o : Option Operation) → (hear_step site.grid state m o).told ≡ Abandoned → ⊥
        never_abandoned None is = cc
        never_abandoned (Some o) is = heard_never (hear site.grid state.up o m) is

at_server_still : (site : Site) (local : Local) (m : OwnMessage) → IsStill site local (at_server site local m)
at_server_still site local m = by (local.lacks m.file) refl
  where
    by : (b : Bool) → local.lacks m.file ≡ b → IsStill site local (at_server site local m)
    by true is = subst (IsStill site local) (sym (lacks_it site local m is)) (quiet site local (silently local) refl refl)
    by false is = subst (IsStill site local) (sym (has_it site local m is)) (quiet site local (serves site local m) refl refl)

letters_move : (from : ℕ) (m : OwnMessage) (site : Site) (local : Local) → Moves site local (receives from m site local)
letters_move from m site local = elim (cases_Bool (letter_fits site (limit_at (state_of everyone local) m.file.volume m.file.place) from m)) [
  | inr not ↦ (let e : receives from m site local ≡ silently local = rw not refl in subst (Moves site local) (sym e) (Stays (quiet site local (silently local) refl refl)))
  | inl fits ↦ (elim (cases_Bool (to_server m.body)) [
    | inl goes ↦ (subst (Moves site local) (sym (to_the_server from m site local fits goes)) (Stays (at_server_still site local m)))
    | inr goes ↦ (
        let p = parts site (limit_at (state_of everyone local) m.file.volume m.file.place) from m fits in
        subst (Moves site local) (sym (to_a_session from m site local fits goes)) (hears_move site local m goes (record { inside = p.session; home = session_here site from m goes p.between })))
  ])
]

-- ---- a short letter

shorts_move : (from : ℕ) (s : OwnShort) (bytes : List ℕ) (site : Site) (local : Local) → Moves site local (takes_short from s bytes site local).doing
shorts_move from s bytes site local = by_arms (λ act doing. Moves site local doing) from s bytes site local (record {
  passed = Stays (quiet site local (silently local) refl refl);
  served = λ h. Stays (quiet site local (serves site local (letter_with bytes s)) refl refl);
  heard = λ h. hears_move site local (letter_with bytes s) h.goes (record { inside = h.session; home = eq-eqb (site.home s.session) site.here h.home });
  again = λ h. Stays (quiet site local (stored_again site local s) refl refl);
})

-- ---- a tick

tried_alike : (grid : Grid) (b : Bool) (r : Resident) → IsAlike r (tries_next grid b r).session (tries_next grid b r).outcome
tried_alike grid true r = record { number = refl; current = refl; same = refl }
tried_alike grid false r = record { number = refl; current = refl; same = refl }

-- the session tries on, or has waited now
tries_still : (site : Site) (local : Local) (doing : Doing) (j : ℕ) (r : Resident) → doing.local ≡ with_resident local j r → doing.answer ≡ None → r.reserved ≡ (local.residents j).reserved → IsAlike (local.residents j) r.session r.outcome → IsStill site local doing
tries_still site local doing j r part none numbers a = record {
  reserved = λ k. ap (λ (l : Local). (l.residents k).reserved) part ∙ numbers_at k (j == k) refl;
  each = λ k. subst (λ (l : Local). IsAlike (local.residents k) (l.residents k).session (l.residents k).outcome) (sym part) (one k (j == k) refl);
  tells = λ k op answer named is tells. let e = sym none ∙ is in absurd (cc);
}
  where
    numbers_at : (k : ℕ) (b : Bool) → (j == k) ≡ b → ((with_resident local j r).residents k).reserved ≡ (local.residents k).reserved
    numbers_at k true same = rw same (numbers ∙ ap (λ x. (local.residents x).reserved) (eqb-true j k same))
    numbers_at k false other = rw other refl

    one : (k : ℕ) (b : Bool) → (j == k) ≡ b → IsAlike (local.residents k) ((with_resident local j r).residents k).session ((with_resident local j r).residents k).outcome
    one k true same = subst (λ (x : Resident). IsAlike (local.residents k) x.session x.outcome) (sym (own_at k same)) (subst (λ n. IsAlike (local.residents n) r.session r.outcome) (eqb-true j k same) a)
      where
        own_at : (k : ℕ) → (j == k) ≡ true → (with_resident local j r).residents k ≡ r
        own_at k same = rw same refl
    one k false other = subst (λ (x : Resident). IsAlike (local.residents k) x.session x.outcome) (sym (other_resident local j k r other)) (alike_refl (local.residents k))

ticks_move : (k : ℕ) (site : Site) (local : Local) → Moves site local (ticks k site local)
ticks_move k site local = elim (cases_Bool (is_some (local.residents k).session.current)) [
  | inr idle ↦ (let e : ticks k site local ≡ silently local = rw idle refl in subst (Moves site local) (sym e) (Stays (quiet site local (silently local) refl refl)))
  | inl busy ↦ (subst (Moves site local) (sym (busy_is k site local busy)) (Stays (by (local.residents k).waited)))
]
  where
    r : Resident
    r = local.residents k

    by : (b : Bool) → IsStill site local (waits_on site local k b)
    by false = tries_still site local (waits_on site local k false) k (record r { waited = true }) refl refl refl (record { number = refl; current = refl; same = refl })
    by true = tries_still site local (waits_on site local k true) k (tries_next site.grid (is_collect r.session.round) r) refl refl (tried_reserved site.grid (is_collect r.session.round) r) (tried_alike site.grid (is_collect r.session.round) r)

-- ---- what a new node asks for and is given

pub asks_quiet : (site : Site) (local : Local) (lane place : ℕ) → ((asks_peer site local lane place).local.residents ≡ local.residents) × ((asks_peer site local lane place).answer ≡ None)
asks_quiet site local lane place = by (first_lacked local lane) refl
  where
    by : (o : Option File) → first_lacked local lane ≡ o → ((asks_peer site local lane place).local.residents ≡ local.residents) × ((asks_peer site local lane place).answer ≡ None)
    by None is = rw is (refl, refl)
    by (Some file) is = rw is (refl, refl)

looks_move : (lane : ℕ) (site : Site) (local : Local) → Moves site local (looks lane site local)
looks_move lane site local = elim (cases_Bool (all_joined site local.joined)) [
  | inr not' ↦ (let e : looks lane site local ≡ silently local = rw not' refl in subst (Moves site local) (sym e) (Stays (quiet site local (silently local) refl refl)))
  | inl all ↦ (
      let place : ℕ = peer_for site lane local.peer in
      let e : looks lane site local ≡ asks_peer site local lane place = rw all refl in
      subst (Moves site local) (sym e) (Stays (quiet site local (asks_peer site local lane place) (asks_quiet site local lane place).0 (asks_quiet site local lane place).1)))
]

joins_move : (from losses : ℕ) (site : Site) (local : Local) → Moves site local (hears_joined from losses site local)
joins_move from losses site local = by (is_new site && has_node site from && losses == site.losses) refl
  where
    by : (b : Bool) → (is_new site && has_node site from && losses == site.losses) ≡ b → Moves site local (hears_joined from losses site local)
    by true is = rw is (Stays (quiet site local (silently (record local { joined = with_server (place_of from) local.joined })) refl refl))
    by false is = rw is (Stays (quiet site local (silently local) refl refl))

gives_move : (from : ℕ) (file : File) (site : Site) (local : Local) → Moves site local (gives from file site local)
gives_move from file site local = by (is_peer site from && has_file local file) refl
  where
    by : (b : Bool) → (is_peer site from && has_file local file) ≡ b → Moves site local (gives from file site local)
    by true is = rw is (Stays (quiet site local (record (silently local) { transfer = Some (Brings from file (copy_in (part_in local) file)) }) refl refl))
    by false is = rw is (Stays (quiet site local (silently local) refl refl))

takes_move : (from : ℕ) (file : File) (copy : StoredCopy) (site : Site) (local : Local) → Moves site local (takes from file copy site local)
takes_move from file copy site local = by (is_peer site from && local.lacks file && file_fits (limit_at (state_of everyone local) file.volume file.place) (Store copy)) refl
  where
    asked : Doing
    asked = asks_peer site (given file copy local) (lane_of local.volumes file.volume) (place_of from)

    by : (b : Bool) → (is_peer site from && local.lacks file && file_fits (limit_at (state_of everyone local) file.volume file.place) (Store copy)) ≡ b → Moves site local (takes from file copy site local)
    by true is =
        let q = asks_quiet site (given file copy local) (lane_of local.volumes file.volume) (place_of from) in
        let e : takes from file copy site local ≡ record asked { fact = Some (Had file copy) } = rw is refl in
        subst (Moves site local) (sym e) (Stays (quiet site local (record asked { fact = Some (Had file copy) }) q.0 q.1))
    by false is = rw is (Stays (quiet site local (silently local) refl refl))

-- what is told of a volume is no end of an operation
looks_end_nothing : (mark volume : ℕ) (site : Site) (local : Local) (k op : ℕ) → TellsEnd k op (look_answer mark volume site local) → ⊥
looks_end_nothing mark volume site local k op = by (nat_lt volume (length local.volumes))
  where
    by : (b : Bool) → TellsEnd k op (if b then IsLooked (look_of mark volume site local) else NotLooked mark volume) → ⊥
    by true ends = ends
    by false ends = ends

pub all_move : (input : Input) (site : Site) (local : Local) → Moves site local (does input site local)
all_move (Asked op line) site local = requests_move op line site local
all_move AskedPlan site local = Stays (says site local (does AskedPlan site local) _ refl refl (λ k op h. h))
all_move (AskedLook mark volume) site local = Stays (says site local (does (AskedLook mark volume) site local) _ refl refl (looks_end_nothing mark volume site local))
all_move (Brought from letter) site local = letters_move from letter site local
all_move (Shortened from short bytes) site local = shorts_move from short bytes site local
all_move (Ticked session) site local = ticks_move session site local
all_move (Looked lane) site local = looks_move lane site local
all_move (Joined from losses) site local = joins_move from losses site local
all_move (Fetching from file) site local = gives_move from file site local
all_move (Fetched from file copy) site local = takes_move from file copy site local
