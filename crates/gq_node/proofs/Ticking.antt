-- A tick comes to a session.
use Rattle.std.proofs.Common.{◌≡◌, ◌∙◌, ℕ, ◌<◌, Bool, true, false, List, [], length, map, refl, sym, ap, subst, Option, Some, None}
use Rattle.std.specs.Prelude.{option_map, is_some, unwrap_or}
use Rattle.gq_grid.specs.Grid.{Grid, Servers}
use Rattle.gq_tag.specs.declared.Message.{Message}
use Rattle.gq_tag.specs.Tag.{message_of}
use Rattle.gq_phase.specs.declared.operation.Operation.{Operation as Code}
use Rattle.gq_phase.specs.Phase.{Task, Operation, is_collect, round_quorum, resent}
use Rattle.gq_phase.proofs.Saying.{collects_is}
use Rattle.gq_model.specs.Trace.{State, Session, operation_with}
use Rattle.gq_model.specs.Lone.{retry_step}
use Rattle.gq_node.specs.declared.session_states.SessionState.{SessionState}
use Rattle.gq_node.specs.declared.output.Output.{Output}
use Rattle.gq_node.specs.Sites.{Site, site_of, next_of}
use Rattle.gq_node.specs.Local.{Local, Resident, Doing, state_of, silently, ticks, waits_on, aim_at, tries_next}
use Rattle.gq_node.specs.SessionStates.{ResendsIn, TicksIn, TicksWith, SessionStateTicks, collects_in, session_state_aim, session_state_tries}
use Rattle.gq_node.specs.Shape.{IsShaped}
use Rattle.gq_node.specs.Tables.{Tables, Agrees, Acts, Leads, Gives, SessionStateAgrees, IsOfPlan, Sits, session_state_at, with_session_state}
use Rattle.gq_node.proofs.Placing.{Settles, aim_is, session_state_of, session_state_leads, session_state_there, same_leads}
use Rattle.gq_node.proofs.Attending.{unchanged}

-- ---- what goes out once more

again_some : (grid : Grid) (state : State) (o : Operation) (quorum : Servers) → round_quorum grid state.up o.round ≡ Some quorum → (retry_step grid state (Some o)).new ≡ resent grid o quorum
again_some grid state o quorum is = rw is refl

again_none : (grid : Grid) (state : State) (o : Operation) → round_quorum grid state.up o.round ≡ None → (retry_step grid state (Some o)).new ≡ []
again_none grid state o is = rw is refl

resends_as : (grid : Grid) (t k floor : ℕ) (state : State) (session : Session) (current : Option Task) (code : Code) (messages : Option (List Message)) →
    Sits grid t floor (Some code) session.floor (option_map (operation_with k session) current) → ResendsIn (Some code) state.up messages →
    unwrap_or messages [] ≡ map (message_of t) (retry_step grid state (option_map (operation_with k session) current)).new
resends_as grid t k floor state session None code messages sits sends = absurd sits
resends_as grid t k floor state session (Some task) code (Some messages) sits sends =
    let h = sends grid t (operation_with k session task) sits in
    h.2 ∙ ap (map (message_of t)) (sym (again_some grid state (operation_with k session task) h.0 h.1))
resends_as grid t k floor state session (Some task) code None sits sends =
    ap (map (message_of t)) (sym (again_none grid state (operation_with k session task) (sends grid t (operation_with k session task) sits)))

-- ---- the session

-- the session state after a tick, and what is sent, by its operation and whether it has waited
ticks_none : (grid : Grid) (old new : SessionState) (messages : Option (List Message)) → old.operation ≡ None → SessionStateTicks grid old new messages → (new ≡ old) × (messages ≡ None)
ticks_none grid old new messages is h = let P : Option Code → Type 0 = λ o. TicksWith o grid old new messages in subst P is h

ticks_some : (grid : Grid) (old new : SessionState) (messages : Option (List Message)) (code : Code) → old.operation ≡ Some code → SessionStateTicks grid old new messages → TicksIn grid old.waited old new messages
ticks_some grid old new messages code is h = let P : Option Code → Type 0 = λ o. TicksWith o grid old new messages in subst P is h

-- the resident has an operation where the session state has one
none_there : (grid : Grid) (t k floor : ℕ) (code : Option Code) (session : Session) (current : Option Task) → code ≡ None → Sits grid t floor code session.floor (option_map (operation_with k session) current) → is_some current ≡ false
none_there grid t k floor None session None is sits = refl
none_there grid t k floor None session (Some task) is sits = absurd sits
none_there grid t k floor (Some code) session current is sits = absurd (cc)

some_there : (grid : Grid) (t k floor : ℕ) (code : Code) (session : Session) (current : Option Task) → Sits grid t floor (Some code) session.floor (option_map (operation_with k session) current) → is_some current ≡ true
some_there grid t k floor code session None sits = absurd sits
some_there grid t k floor code session (Some task) sits = refl

idle_is : (k : ℕ) (site : Site) (local : Local) → is_some (local.residents k).session.current ≡ false → ticks k site local ≡ silently local
idle_is k site local is = rw is refl

pub busy_is : (k : ℕ) (site : Site) (local : Local) → is_some (local.residents k).session.current ≡ true → ticks k site local ≡ waits_on site local k (local.residents k).waited
busy_is k site local is = rw is refl

-- what a tick gives
pub record IsSent (messages : Option (List Message)) (out : Output) : Type 0 where
  pub answer : out.answer ≡ None
  pub letters : out.letters.items ≡ unwrap_or messages []
  pub transfer : out.transfer ≡ None
  pub fact : out.fact ≡ None

record Ticked (w : Tables) (t k : ℕ) (session_state : SessionState) (out : Output) (local : Local) : Type 0 where
  pub settles : Settles w t k session_state (ticks k) local
  pub gives : Gives t (ticks k (site_of w.plan w.here t) local) out

-- the round of the value collects where that of the operation does
collects_there : (grid : Grid) (t k floor : ℕ) (code : Code) (session : Session) (current : Option Task) → Sits grid t floor (Some code) session.floor (option_map (operation_with k session) current) → collects_in (Some code) ≡ is_collect session.round
collects_there grid t k floor code session None sits = absurd sits
collects_there grid t k floor code session (Some task) sits = collects_is code.course session.round sits.round

-- the next row or column of both
tries_agrees : (grid : Grid) (t k : ℕ) (session_state : SessionState) (r : Resident) (collects : Bool) → SessionStateAgrees grid t k session_state r → SessionStateAgrees grid t k (session_state_tries grid collects session_state) (tries_next grid collects r)
tries_agrees grid t k session_state r true a = record { op = a.op; reserved_op = a.reserved_op; reserved_floor = a.reserved_floor; sits = a.sits; outcome = a.outcome; row = ap (next_of grid.rows) a.row; column = a.column; waited = a.waited; stays = a.stays }
tries_agrees grid t k session_state r false a = record { op = a.op; reserved_op = a.reserved_op; reserved_floor = a.reserved_floor; sits = a.sits; outcome = a.outcome; row = a.row; column = ap (next_of grid.cols) a.column; waited = a.waited; stays = refl }

ticked : (w : Tables) (t k : ℕ) (session_state : SessionState) (messages : Option (List Message)) (out : Output) (local : Local) (code : Code) (waited : Bool) → IsOfPlan w t k → (session_state_at w t k).operation ≡ Some code → (session_state_at w t k).waited ≡ waited →
    TicksIn w.plan.grid waited (session_state_at w t k) session_state messages → IsSent messages out → Agrees w t local → Ticked w t k session_state out local
ticked w t k session_state messages out local code false at is waits h sent agrees =
    let site : Site = site_of w.plan w.here t in
    let grid : Grid = w.plan.grid in
    let old : SessionState = session_state_at w t k in
    let r : Resident = local.residents k in
    let before = session_state_of w t k local agrees at in
    let P : Option Code → Type 0 = λ o. Sits grid t old.floor o r.session.floor (option_map (operation_with k r.session) r.session.current) in
    let sits : P (Some code) = subst P is before.sits in
    let step : ticks k site local ≡ waits_on site local k false = busy_is k site local (some_there grid t k old.floor code r.session r.session.current sits) ∙ ap (waits_on site local k) (sym before.waited ∙ waits) in
    let now : SessionStateAgrees grid t k (record old { waited = true }) (record r { waited = true }) =
    record { op = before.op; reserved_op = before.reserved_op; reserved_floor = before.reserved_floor; sits = before.sits; outcome = before.outcome; row = before.row; column = before.column; waited = refl; stays = before.stays } in
    record {
      settles = record {
        resident = record r { waited = true };
        agrees = subst (λ (x : SessionState). SessionStateAgrees grid t k x (record r { waited = true })) (sym h.0) now;
        left = ap (λ (d : Doing). d.local) step;
      };
      gives = subst (λ (d : Doing). Gives t d out) (sym step) (record { answer = sent.answer; letters = sent.letters ∙ ap (λ m. unwrap_or m []) h.1; transfer = sent.transfer; fact = sent.fact });
    }
ticked w t k session_state messages out local code true at is waits h sent agrees =
    let site : Site = site_of w.plan w.here t in
    let grid : Grid = w.plan.grid in
    let old : SessionState = session_state_at w t k in
    let r : Resident = local.residents k in
    let before = session_state_of w t k local agrees at in
    let P : Option Code → Type 0 = λ o. Sits grid t old.floor o r.session.floor (option_map (operation_with k r.session) r.session.current) in
    let sits : P (Some code) = subst P is before.sits in
    let step : ticks k site local ≡ waits_on site local k true = busy_is k site local (some_there grid t k old.floor code r.session r.session.current sits) ∙ ap (waits_on site local k) (sym before.waited ∙ waits) in
    let same : collects_in old.operation ≡ is_collect r.session.round = ap collects_in is ∙ collects_there grid t k old.floor code r.session r.session.current sits in
    let after : Resident = tries_next grid (is_collect r.session.round) r in
    let tried : SessionState = session_state_tries grid (collects_in old.operation) old in
    let now : SessionStateAgrees grid t k tried after =
    subst (λ b. SessionStateAgrees grid t k tried (tries_next grid b r)) same (tries_agrees grid t k old r (collects_in old.operation) before) in
    let state : State = state_of (aim_at grid after) local in
    let Q : Option Code → Servers → Type 0 = λ o up. ResendsIn o up messages in
    let sends : Q (Some code) (aim_at grid after) = subst (Q (Some code)) (aim_is grid t k tried after now) (subst (λ o. Q o (session_state_aim grid tried)) is h.1) in
    record {
      settles = record {
        resident = after;
        agrees = subst (λ (x : SessionState). SessionStateAgrees grid t k x after) (sym h.0) now;
        left = ap (λ (d : Doing). d.local) step;
      };
      gives = subst (λ (d : Doing). Gives t d out) (sym step) (record {
        answer = sent.answer;
        letters = sent.letters ∙ resends_as grid t k old.floor state r.session r.session.current code messages sits sends;
        transfer = sent.transfer;
        fact = sent.fact;
      });
    }

pub tick_acts : (w : Tables) (t k : ℕ) (session_state : SessionState) (messages : Option (List Message)) (out : Output) → IsShaped w → t < length w.plan.rows → IsOfPlan w t k →
    SessionStateTicks w.plan.grid (session_state_at w t k) session_state messages → IsSent messages out → Acts w t (ticks k) out (with_session_state w t k session_state)
tick_acts w t k session_state messages out shaped within at h sent = by (session_state_at w t k).operation refl
  where
    by : (code : Option Code) → (session_state_at w t k).operation ≡ code → Acts w t (ticks k) out (with_session_state w t k session_state)
    by None is =
        let site : Site = site_of w.plan w.here t in
        let old : SessionState = session_state_at w t k in
        let none = ticks_none w.plan.grid old session_state messages is h in
        let model : (local : Local) → Agrees w t local → ticks k site local ≡ silently local =
        λ local agrees. idle_is k site local (none_there w.plan.grid t k old.floor old.operation (local.residents k).session (local.residents k).session.current is (session_state_of w t k local agrees at).sits) in
        record {
          leads = subst (λ (x : Tables). Leads w t (ticks k) x) (unchanged w t k session_state none.0) (same_leads w t (ticks k) (λ local agrees. ap (λ (d : Doing). d.local) (model local agrees)));
          gives = λ local agrees. subst (λ (d : Doing). Gives t d out) (sym (model local agrees)) (record { answer = sent.answer; letters = sent.letters ∙ ap (λ m. unwrap_or m []) none.1; transfer = sent.transfer; fact = sent.fact });
        }
    by (Some code) is =
        let does = ticks_some w.plan.grid (session_state_at w t k) session_state messages code is h in
        record {
          leads = session_state_leads w t k session_state (ticks k) (session_state_there w t k shaped within at)
              (λ local agrees. (ticked w t k session_state messages out local code (session_state_at w t k).waited at is refl does sent agrees).settles);
          gives = λ local agrees. (ticked w t k session_state messages out local code (session_state_at w t k).waited at is refl does sent agrees).gives;
        }
