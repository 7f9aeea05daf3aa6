-- A letter comes to a session.
use Rattle.std.proofs.Common.{◌≡◌, ◌∙◌, ℕ, ◌-◌, ◌<◌, Bool, true, false, List, [], length, map, refl, sym, ap, subst, Option, Some, None, inl, inr}
use Rattle.std.specs.Prelude.{option_map, slice_set, ◌&&◌, unwrap_or}
use Rattle.std.proofs.lemmas.Bool.{cases_Bool, eq-eqb}
use Rattle.std.proofs.lemmas.List.{set-get_or}
use Rattle.gq_grid.specs.Grid.{Grid, Servers}
use Rattle.gq_tag.specs.declared.StoredCopy.{StoredCopy}
use Rattle.gq_tag.specs.declared.FileId.{FileId}
use Rattle.gq_tag.specs.declared.Message.{Message}
use Rattle.gq_tag.specs.Tag.{File, is_file, file_place, OwnMessage, own_message, message_of, to_server}
use Rattle.gq_desk.specs.declared.volumes.VolumeRow.{VolumeRow}
use Rattle.gq_phase.specs.declared.Outcome.{Outcome}
use Rattle.gq_phase.specs.declared.Heard.{Heard}
use Rattle.gq_phase.specs.declared.operation.Operation.{Operation as Code}
use Rattle.gq_phase.specs.Phase.{Task, Reply, Operation, heard_servers, Heard as Saying, HeardStale, HeardNoted, HeardNext, HeardDone}
use Rattle.gq_phase.specs.Standing.{heard_as, messages_of}
use Rattle.gq_model.specs.declared.events.Line.TheVariants.{Deliver}
use Rattle.gq_model.specs.Trace.{Own, Entry, State, Session, changed, operation, operation_with, session_by, heard_deed, floor_by}
use Rattle.gq_model.specs.Lone.{heard_step, hear_step}
use Rattle.gq_node.specs.declared.session_states.SessionState.{SessionState}
use Rattle.gq_node.specs.declared.output.Output.{Output}
use Rattle.gq_node.specs.Sites.{Site, session_state_place, site_of}
use Rattle.gq_cluster.specs.Facts.{Reserved, reserved_by}
use Rattle.gq_node.specs.Local.{Local, Resident, Doing, state_of, state_for, silently, goes_on, brings, hears, has_above, of_round, aim_behind, state_behind, outcome_after, waits_after, answer_of, session_fact}
use Rattle.gq_node.specs.Columns.{stays_after}
use Rattle.gq_node.specs.Heard.{HeardGives, heard_answer, heard_fact, heard_run, heard_outcome, heard_waits, heard_stays}
use Rattle.gq_node.specs.SessionStates.{has_heard, is_of_round, session_state_aim_behind, SessionStateHears, SessionStateAttends, SaysAndGives, GivesNothing, said_by, operation_after, last_of, last_in}
use Rattle.gq_node.specs.Shape.{IsShaped}
use Rattle.gq_node.specs.Tables.{Tables, Agrees, Acts, Leads, Gives, SessionStateAgrees, IsOfPlan, Sits, session_states_at, session_state_at, with_session_state, no_session_state}
use Rattle.gq_node.proofs.Reserving.{heard_keeps, heard_reserves, heard_gives_fact}
use Rattle.gq_node.proofs.Choosing.{aim_behind_is}
use Rattle.gq_node.proofs.Placing.{Settles, session_state_of, session_state_leads, session_state_there, same_leads, last_is, last_agrees}

-- ---- what the model says

-- the entry of the letter
abbrev pub delivery : OwnMessage → Saying → Entry
delivery m s = record { turn = Own (Deliver 0); message = Some m; told = (heard_step 0 s).told; new = (heard_step 0 s).new }

hears_as : (grid : Grid) (state : State) (m : OwnMessage) (o : Option Operation) → hear_step grid state m o ≡ heard_step (length state.sent) (said_by grid state.up o m)
hears_as grid state m None = refl
hears_as grid state m (Some o) = refl

-- whether the session hears it
abbrev heard_in : Site → Local → OwnMessage → Bool
heard_in site local m = has_above (local.residents m.session).session.floor && of_round (operation (state_for site local m.session) m.session) m.file

-- and what it then does
abbrev heard_by : Site → Local → OwnMessage → Saying → Doing
heard_by site local m s =
    goes_on local m.session (local.residents m.session).session.op (heard_servers (local.residents m.session).session.heard m.server) (state_behind site local m) (delivery m s)

hears_is : (site : Site) (local : Local) (m : OwnMessage) → heard_in site local m ≡ true →
    hears site local m ≡ heard_by site local m (said_by site.grid (aim_behind site local m) (operation (state_for site local m.session) m.session) m)
hears_is site local m fits =
    rw fits (ap (λ step. goes_on local m.session (local.residents m.session).session.op (heard_servers (local.residents m.session).session.heard m.server) (state_behind site local m) (brings m step))
    (hears_as site.grid (state_behind site local m) m (operation (state_for site local m.session) m.session)))

hears_nothing : (site : Site) (local : Local) (m : OwnMessage) → heard_in site local m ≡ false → hears site local m ≡ silently local
hears_nothing site local m none = rw none refl

-- ---- the session

heard_op : (volumes : List VolumeRow) (k : ℕ) (m : OwnMessage) (s : Saying) (session : Session) → (session_by volumes k (heard_deed m (heard_step 0 s).told) session).op ≡ session.op
heard_op volumes k m HeardStale session = refl
heard_op volumes k m HeardNoted session = refl
heard_op volumes k m (HeardNext round tag messages) session = refl
heard_op volumes k m (HeardDone outcome) session = refl

abbrev session_of : ℕ → Option Task → ℕ → List Reply → List StoredCopy → ℕ → Session
session_of op current round heard collected floor = record { op = op; current = current; round = round; heard = heard; collected = collected; floor = floor }

any_last : (grid : Grid) (t own last also : ℕ) (code : Option Code) (o : Operation) → Sits grid t own code last (Some o) → Sits grid t own code also (Some o)
any_last grid t own last also None o sits = sits
any_last grid t own last also (Some code) o sits = sits

heard_sits : (grid : Grid) (t k : ℕ) (volumes : List VolumeRow) (m : OwnMessage) (op : ℕ) (current : Option Task) (round : ℕ) (heard : List Reply) (collected : List StoredCopy) (floor : ℕ) (s : Saying) (own : ℕ) (code : Option Code) →
    (current ≡ None → s ≡ HeardStale) →
    Sits grid t own code (last_of floor (option_map (operation_with k (session_of op current round heard collected floor)) current)) (operation_after (option_map (operation_with k (session_of op current round heard collected floor)) current) m s) →
    Sits grid t own code (session_by volumes k (heard_deed m (heard_step 0 s).told) (session_of op current round heard collected floor)).floor
    (option_map (operation_with k (session_by volumes k (heard_deed m (heard_step 0 s).told) (session_of op current round heard collected floor))) (session_by volumes k (heard_deed m (heard_step 0 s).told) (session_of op current round heard collected floor)).current)
heard_sits grid t k volumes m op None round heard collected floor HeardStale own code none sits = sits
heard_sits grid t k volumes m op None round heard collected floor HeardNoted own code none sits = let e = none refl in absurd (cc)
heard_sits grid t k volumes m op None round heard collected floor (HeardNext r tag messages) own code none sits = let e = none refl in absurd (cc)
heard_sits grid t k volumes m op None round heard collected floor (HeardDone outcome) own code none sits = let e = none refl in absurd (cc)
heard_sits grid t k volumes m op (Some task) round heard collected floor HeardStale own code none sits = sits
heard_sits grid t k volumes m op (Some task) round heard collected floor HeardNoted own code none sits = sits
heard_sits grid t k volumes m op (Some task) round heard collected floor (HeardNext r tag messages) own code none sits = any_last grid t own floor (floor_by tag floor (Some task)) code _ sits
heard_sits grid t k volumes m op (Some task) round heard collected floor (HeardDone outcome) own code none sits = sits

own_session : (state : State) (m : OwnMessage) (s : Saying) → to_server m.body ≡ false →
    (changed (delivery m s) state).session m.session ≡ session_by state.volumes m.session (heard_deed m (heard_step 0 s).told) (state.session m.session)
own_session state m s goes = rw (goes, eq-eqb m.session m.session refl) refl

-- a session without an operation says that the letter is stale
says_stale : (grid : Grid) (up : Servers) (k : ℕ) (session : Session) (m : OwnMessage) (s : Saying) → said_by grid up (option_map (operation_with k session) session.current) m ≡ s → session.current ≡ None → s ≡ HeardStale
says_stale grid up k session m s says none = sym says ∙ ap (λ current. said_by grid up (option_map (operation_with k session) current) m) none

waits_as : (t : ℕ) (s : Saying) (heard_before old new : Bool) → old ≡ new → heard_waits (heard_as t s) heard_before old ≡ waits_after (heard_step 0 s).told heard_before new
waits_as t HeardStale heard_before old new same = same
waits_as t HeardNoted heard_before old new same = ap (λ b. heard_before && b) same
waits_as t (HeardNext round tag messages) heard_before old new same = refl
waits_as t (HeardDone outcome) heard_before old new same = refl

-- the servers heard are those of the model; without an operation nothing is new
waits_is : (grid : Grid) (up : Servers) (t k own : ℕ) (code : Option Code) (session : Session) (current : Option Task) (m : OwnMessage) (old new : Bool) →
    Sits grid t own code session.floor (option_map (operation_with k session) current) → old ≡ new →
    heard_waits (heard_as t (said_by grid up (option_map (operation_with k session) current) m)) (has_heard code m.server) old
    ≡ waits_after (heard_step 0 (said_by grid up (option_map (operation_with k session) current) m)).told (heard_servers session.heard m.server) new
waits_is grid up t k own None session None m old new sits same = same
waits_is grid up t k own None session (Some task) m old new sits same = absurd sits
waits_is grid up t k own (Some code) session None m old new sits same = absurd sits
waits_is grid up t k own (Some code) session (Some task) m old new sits same =
    let s : Saying = said_by grid up (Some (operation_with k session task)) m in
    ap (λ (set : Servers). heard_waits (heard_as t s) (set m.server) old) sits.heard ∙ waits_as t s (heard_servers session.heard m.server) old new same

stays_as : (t : ℕ) (s : Saying) (old new : ℕ) → old ≡ new → heard_stays (heard_as t s) old ≡ stays_after (heard_step 0 s).told new
stays_as t HeardStale old new same = same
stays_as t HeardNoted old new same = same
stays_as t (HeardNext round tag messages) old new same = ap (λ n. n - 1) same
stays_as t (HeardDone outcome) old new same = same

outcome_as : (t : ℕ) (s : Saying) (old new : Option Outcome) → old ≡ new → heard_outcome (heard_as t s) old ≡ outcome_after (heard_step 0 s).told new
outcome_as t HeardStale old new same = same
outcome_as t HeardNoted old new same = same
outcome_as t (HeardNext round tag messages) old new same = same
outcome_as t (HeardDone outcome) old new same = refl

-- the file of the round is that of the model
round_is : (grid : Grid) (t k own : ℕ) (code : Option Code) (session : Session) (current : Option Task) (file : File) →
    Sits grid t own code session.floor (option_map (operation_with k session) current) → is_of_round code file ≡ of_round (option_map (operation_with k session) current) file
round_is grid t k own None session None file sits = refl
round_is grid t k own None session (Some task) file sits = absurd sits
round_is grid t k own (Some code) session None file sits = absurd sits
round_is grid t k own (Some code) session (Some task) file sits = ap (λ (id : FileId). is_file file (file_place id)) sits.file

-- the resident that the letter leaves
abbrev heard_resident : Local → State → OwnMessage → Saying → Resident
heard_resident local state m s = record (local.residents m.session) {
  session = (changed (delivery m s) state).session m.session;
  reserved = reserved_by (session_fact local m.session state (delivery m s)) (local.residents m.session).reserved;
  outcome = outcome_after (heard_step 0 s).told (local.residents m.session).outcome;
  waited = waits_after (heard_step 0 s).told (heard_servers (local.residents m.session).session.heard m.server) (local.residents m.session).waited;
  stays = stays_after (heard_step 0 s).told (local.residents m.session).stays;
}

-- the run that had to be reserved is
abbrev IsReservedFor : SessionState → SessionState → Heard → Type 0
IsReservedFor old new heard = new.reserved_floor ≡ unwrap_or (heard_run old.reserved_floor (last_in new) heard) old.reserved_floor

heard_agrees : (grid : Grid) (t : ℕ) (local : Local) (up : Servers) (M : Message) (old new : SessionState) (heard : Heard) → to_server M.body ≡ false →
    SessionStateAgrees grid t M.session old (local.residents M.session) → SessionStateHears old new up M heard → IsReservedFor old new heard →
    SessionStateAgrees grid t M.session new (heard_resident local (state_of up local) (own_message M) (said_by grid up (operation (state_of up local) M.session) (own_message M)))
heard_agrees grid t local up M old new heard goes agrees h reserved =
    let k : ℕ = M.session in
    let m : OwnMessage = own_message M in
    let state : State = state_of up local in
    let session : Session = state.session k in
    let s : Saying = said_by grid up (operation state k) m in
    let P : Session → Type 0 = λ after. (new.op ≡ after.op) × Sits grid t new.floor new.operation after.floor (option_map (operation_with k after) after.current) in
    let both : P (session_by state.volumes k (heard_deed m (heard_step 0 s).told) session) = (
      h.op ∙ agrees.op ∙ sym (heard_op state.volumes k m s session),
      heard_sits grid t k state.volumes m session.op session.current session.round session.heard session.collected session.floor s new.floor new.operation
          (says_stale grid up k session m s refl) (h.sits grid t session.floor (operation state k) agrees.sits),
    ) in
    let after : Session = (changed (delivery m s) state).session k in
    let now : P after = subst P (sym (own_session state m s goes)) both in
    let r : Reserved = (local.residents k).reserved in
    let is : heard ≡ heard_as t s = h.says grid t session.floor (operation state k) agrees.sits in
    let last : last_in new ≡ after.floor = last_is grid t new.floor 0 new.operation k after after.current now.1 in
    record {
      op = now.0;
      reserved_op = h.reserved_op ∙ agrees.reserved_op ∙ heard_keeps k after.floor r s;
      reserved_floor = reserved
          ∙ ap (λ x. unwrap_or (heard_run old.reserved_floor (last_in new) x) old.reserved_floor) is
          ∙ ap (λ n. unwrap_or (heard_run n (last_in new) (heard_as t s)) n) agrees.reserved_floor
          ∙ ap (λ n. unwrap_or (heard_run r.floor n (heard_as t s)) r.floor) last
          ∙ heard_reserves t k after.floor r s;
      sits = now.1;
      outcome = h.outcome ∙ ap (λ x. heard_outcome x old.outcome) is ∙ outcome_as t s old.outcome (local.residents k).outcome agrees.outcome;
      row = h.row ∙ agrees.row;
      column = h.column ∙ agrees.column;
      waited = h.waited ∙ ap (λ x. heard_waits x (has_heard old.operation M.server) old.waited) is
          ∙ waits_is grid up t k old.floor old.operation session session.current m old.waited (local.residents k).waited agrees.sits agrees.waited;
      stays = h.stays ∙ ap (λ x. heard_stays x old.stays) is ∙ stays_as t s old.stays (local.residents k).stays agrees.stays;
    }

-- ---- what is given

answer_as : (k op last t : ℕ) (s : Saying) → heard_answer (heard_as t s) ≡ answer_of k op last (heard_step 0 s).told
answer_as k op last t HeardStale = refl
answer_as k op last t HeardNoted = refl
answer_as k op last t (HeardNext round tag messages) = refl
answer_as k op last t (HeardDone outcome) = refl

sent_as : (t : ℕ) (s : Saying) → messages_of (heard_as t s) ≡ map (message_of t) (heard_step 0 s).new
sent_as t HeardStale = refl
sent_as t HeardNoted = refl
sent_as t (HeardNext round tag messages) = refl
sent_as t (HeardDone outcome) = refl

heard_gives : (grid : Grid) (t : ℕ) (local : Local) (up : Servers) (M : Message) (old new : SessionState) (heard : Heard) (out : Output) → to_server M.body ≡ false →
    SessionStateAgrees grid t M.session old (local.residents M.session) → SessionStateHears old new up M heard → IsReservedFor old new heard → HeardGives t M.session (heard_run old.reserved_floor (last_in new) heard) heard out →
    Gives t (goes_on local M.session (local.residents M.session).session.op (heard_servers (local.residents M.session).session.heard M.server) (state_of up local)
    (delivery (own_message M) (said_by grid up (operation (state_of up local) M.session) (own_message M)))) out
heard_gives grid t local up M old new heard out goes agrees h reserved gives =
    let k : ℕ = M.session in
    let m : OwnMessage = own_message M in
    let state : State = state_of up local in
    let s : Saying = said_by grid up (operation state k) m in
    let is : heard ≡ heard_as t s = h.says grid t (state.session k).floor (operation state k) agrees.sits in
    let r : Reserved = (local.residents k).reserved in
    let after : Resident = heard_resident local state m s in
    let last : last_in new ≡ after.session.floor = last_agrees grid t k new after (heard_agrees grid t local up M old new heard goes agrees h reserved) in
    record {
      answer = gives.answer ∙ ap heard_answer is ∙ answer_as k (state.session k).op (state.session k).op t s;
      letters = gives.letters ∙ ap messages_of is ∙ sent_as t s;
      transfer = gives.transfer;
      fact = gives.fact
          ∙ ap (λ x. heard_fact t k (heard_run old.reserved_floor (last_in new) x) x) is
          ∙ ap (λ n. heard_fact t k (heard_run n (last_in new) (heard_as t s)) (heard_as t s)) agrees.reserved_floor
          ∙ ap (λ n. heard_fact t k (heard_run r.floor n (heard_as t s)) (heard_as t s)) last
          ∙ heard_gives_fact t k after.session.floor r s;
    }

-- ---- the tables

abbrev session_state_hears_it : SessionState → Message → Bool
session_state_hears_it session_state M = has_above (last_in session_state) && is_of_round session_state.operation (file_place M.file)

attends_it : (t k : ℕ) (grid : Grid) (old new : SessionState) (M : Message) (out : Output) → session_state_hears_it old M ≡ true → SessionStateAttends t k grid old new M out → SaysAndGives t k (session_state_aim_behind grid old M) old new M out
attends_it t k grid old new M out fits attends = rw fits at attends

attends_not : (t k : ℕ) (grid : Grid) (old new : SessionState) (M : Message) (out : Output) → session_state_hears_it old M ≡ false → SessionStateAttends t k grid old new M out → (new ≡ old) × GivesNothing out
attends_not t k grid old new M out none attends = rw none at attends

-- the session state hears what the session hears
hears_it : (site : Site) (t : ℕ) (local : Local) (session_state : SessionState) (M : Message) → SessionStateAgrees site.grid t M.session session_state (local.residents M.session) → session_state_hears_it session_state M ≡ heard_in site local (own_message M)
hears_it site t local session_state M agrees =
    let k : ℕ = M.session in
    let session : Session = (local.residents k).session in
    ap (λ n. has_above n && is_of_round session_state.operation (file_place M.file)) (last_agrees site.grid t k session_state (local.residents k) agrees)
    ∙ ap (λ b. has_above session.floor && b) (round_is site.grid t k session_state.floor session_state.operation session session.current (file_place M.file) agrees.sits)

-- what a part of the node that agrees does
record Attended (w : Tables) (t : ℕ) (M : Message) (session_state : SessionState) (out : Output) (local : Local) : Type 0 where
  pub settles : Settles w t M.session session_state (λ site local. hears site local (own_message M)) local
  pub gives : Gives t (hears (site_of w.plan w.here t) local (own_message M)) out

attended : (w : Tables) (t : ℕ) (M : Message) (session_state : SessionState) (out : Output) (local : Local) → to_server M.body ≡ false → IsOfPlan w t M.session →
    session_state_hears_it (session_state_at w t M.session) M ≡ true → SessionStateAttends t M.session w.plan.grid (session_state_at w t M.session) session_state M out → Agrees w t local → Attended w t M session_state out local
attended w t M session_state out local goes at fits attends agrees =
    let k : ℕ = M.session in
    let m : OwnMessage = own_message M in
    let site : Site = site_of w.plan w.here t in
    let grid : Grid = w.plan.grid in
    let old : SessionState = session_state_at w t k in
    let r : Resident = local.residents k in
    let before : SessionStateAgrees grid t k old r = session_state_of w t k local agrees at in
    let h : SaysAndGives t k (session_state_aim_behind grid old M) old session_state M out = attends_it t k grid old session_state M out fits attends in
    let up : Servers = aim_behind site local m in
    let hears' : SessionStateHears old session_state up M h.heard = subst (λ (x : Servers). SessionStateHears old session_state x M h.heard) (aim_behind_is grid t k old r M before) h.hears in
    let is = hears_is site local m (sym (hears_it site t local old M before) ∙ fits) in
    let state : State = state_behind site local m in
    let s : Saying = said_by grid up (operation state k) m in
    record {
      settles = record {
        resident = heard_resident local state m s;
        agrees = heard_agrees grid t local up M old session_state h.heard goes before hears' h.reserved;
        left = ap (λ (d : Doing). d.local) is;
      };
      gives = subst (λ (d : Doing). Gives t d out) (sym is) (heard_gives grid t local up M old session_state h.heard out goes before hears' h.reserved h.gives);
    }

gives_nothing : (t : ℕ) (local : Local) (out : Output) → GivesNothing out → Gives t (silently local) out
gives_nothing t local out none = record { answer = none.answer; letters = none.letters; transfer = none.transfer; fact = none.fact }

-- a session state put in its place again
pub unchanged : (w : Tables) (t k : ℕ) (session_state : SessionState) → session_state ≡ session_state_at w t k → w ≡ with_session_state w t k session_state
unchanged w t k session_state is =
    let session_states : slice_set (session_states_at w.session_states t) (session_state_place k) session_state ≡ session_states_at w.session_states t = ap (slice_set (session_states_at w.session_states t) (session_state_place k)) is ∙ set-get_or (session_states_at w.session_states t) (session_state_place k) no_session_state in
    sym (ap (λ all. record w { session_states = all }) (ap (slice_set w.session_states t) session_states ∙ set-get_or w.session_states t []))

pub attend_acts : (w : Tables) (t : ℕ) (M : Message) (session_state : SessionState) (out : Output) → IsShaped w → t < length w.plan.rows → to_server M.body ≡ false → IsOfPlan w t M.session →
    SessionStateAttends t M.session w.plan.grid (session_state_at w t M.session) session_state M out → Acts w t (λ site local. hears site local (own_message M)) out (with_session_state w t M.session session_state)
attend_acts w t M session_state out shaped within goes at attends =
    let k : ℕ = M.session in
    let old : SessionState = session_state_at w t k in
    let step = λ (site : Site) (local : Local). hears site local (own_message M) in
    let there = session_state_there w t k shaped within at in
    elim (cases_Bool (session_state_hears_it old M)) [
      | inl fits ↦ (record {
        leads = session_state_leads w t k session_state step there (λ local agrees. (attended w t M session_state out local goes at fits attends agrees).settles);
        gives = λ local agrees. (attended w t M session_state out local goes at fits attends agrees).gives;
      })
      | inr none ↦ (
          let h = attends_not t k w.plan.grid old session_state M out none attends in
          let model : (local : Local) → Agrees w t local → hears (site_of w.plan w.here t) local (own_message M) ≡ silently local =
          λ local agrees. hears_nothing (site_of w.plan w.here t) local (own_message M)
          (sym (hears_it (site_of w.plan w.here t) t local old M (session_state_of w t k local agrees at)) ∙ none) in
          record {
            leads = subst (λ (x : Tables). Leads w t step x) (unchanged w t k session_state h.0) (same_leads w t step (λ local agrees. ap (λ (d : Doing). d.local) (model local agrees)));
            gives = λ local agrees. subst (λ (d : Doing). Gives t d out) (sym (model local agrees)) (gives_nothing t local out h.1);
          })
    ]
