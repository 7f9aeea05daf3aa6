-- What a session's state stands for after a message.
use Rattle.std.proofs.Common.{◌≡◌, ◌≢◌, ◌∙◌, ℕ, ◌-◌, ◌<◌, Bool, true, false, Option, Some, None, refl, sym, ap, subst, arith}
use Rattle.std.specs.Prelude.{◌&&◌, unwrap_or}
use Rattle.std.proofs.lemmas.Bool.{lt-ltb}
use Rattle.gq_grid.specs.Grid.{Grid, Servers}
use Rattle.gq_grid.specs.Sets.{servers}
use Rattle.gq_tag.specs.declared.StoredCopy.{StoredCopy}
use Rattle.gq_tag.specs.declared.Message.{Message}
use Rattle.gq_tag.specs.Tag.{File, OwnMessage, own_message, file_place}
use Rattle.gq_phase.specs.declared.Outcome.{Outcome}
use Rattle.gq_phase.specs.declared.Heard.{Heard}
use Rattle.gq_phase.specs.declared.Heard.TheVariants.{Stale, Noted, Next, Done}
use Rattle.gq_phase.specs.declared.operation.Operation.{Operation as Code}
use Rattle.gq_phase.specs.Phase.{Operation, Heard as Saying, HeardStale, HeardNoted, HeardNext, HeardDone, hear}
use Rattle.gq_phase.specs.Standing.{StandsAfter, HearsAs, DifferInContent, heard_as, floor_of}
use Rattle.gq_node.specs.Heard.{heard_run, heard_outcome, heard_waits, heard_stays, HeardGives}
use Rattle.gq_node.specs.Local.{has_above}
use Rattle.gq_node.specs.ShortSteps.{TakesContent, with_content}
use Rattle.gq_node.specs.Tables.{Sits}
use Rattle.gq_node.specs.declared.output.Output.{Output}
use Rattle.gq_node.specs.declared.session_states.SessionState.{SessionState}
use Rattle.gq_node.specs.SessionStates.{TakenIn, has_heard, is_of_round, said_by, operation_after, last_of, last_in, session_state_aim_behind, SessionStateHears, SessionStateAttends, SaysAndGives}

-- what the value says is what the operation says
pub session_state_says : (old new : Code) (floor : ℕ) (up : Servers) (m : Message) (heard : Heard) → HearsAs old new up m heard →
    (grid : Grid) (t last : ℕ) (o : Option Operation) → Sits grid t floor (Some old) last o → heard ≡ heard_as t (said_by grid up o (own_message m))
session_state_says old new floor up m heard hears grid t last None sits = absurd sits
session_state_says old new floor up m heard hears grid t last (Some o) sits = (hears grid t o sits).0

-- it goes on
after_saying : (grid : Grid) (t floor : ℕ) (new : Code) (o : Operation) (l : OwnMessage) (heard : Heard) (s : Saying) → heard ≡ heard_as t s → ((x : Outcome) → heard ≡ Done x → ⊥) → StandsAfter grid t new o l s →
    Sits grid t floor (Some new) o.floor (operation_after (Some o) l s)
after_saying grid t floor new o l heard HeardStale is not stands = stands
after_saying grid t floor new o l heard HeardNoted is not stands = stands
after_saying grid t floor new o l heard (HeardNext round tag messages) is not stands = stands
after_saying grid t floor new o l heard (HeardDone outcome) is not stands = absurd (not outcome is)

pub session_state_goes_on : (old new : Code) (floor : ℕ) (up : Servers) (m : Message) (heard : Heard) → HearsAs old new up m heard → ((x : Outcome) → heard ≡ Done x → ⊥) →
    (grid : Grid) (t last : ℕ) (o : Option Operation) → Sits grid t floor (Some old) last o → Sits grid t floor (Some new) (last_of last o) (operation_after o (own_message m) (said_by grid up o (own_message m)))
session_state_goes_on old new floor up m heard hears not grid t last None sits = absurd sits
session_state_goes_on old new floor up m heard hears not grid t last (Some o) sits =
    let h = hears grid t o sits in
    after_saying grid t floor new o (own_message m) heard (hear grid up o (own_message m)) h.0 not h.1

-- it is done
done_saying : (grid : Grid) (t floor : ℕ) (new : Code) (o : Operation) (l : OwnMessage) (outcome : Outcome) (s : Saying) → ◌≡◌ {A = Heard} (Done outcome) (heard_as t s) → StandsAfter grid t new o l s → floor ≡ floor_of new →
    Sits grid t floor None o.floor (operation_after (Some o) l s)
done_saying grid t floor new o l outcome HeardStale is stands own = absurd (cc)
done_saying grid t floor new o l outcome HeardNoted is stands own = absurd (cc)
done_saying grid t floor new o l outcome (HeardNext round tag messages) is stands own = absurd (cc)
done_saying grid t floor new o l outcome (HeardDone other) is stands own = own ∙ stands.1

pub session_state_rests : (old new : Code) (before floor : ℕ) (up : Servers) (m : Message) (outcome : Outcome) → HearsAs old new up m (Done outcome) → floor ≡ floor_of new →
    (grid : Grid) (t last : ℕ) (o : Option Operation) → Sits grid t before (Some old) last o → Sits grid t floor None (last_of last o) (operation_after o (own_message m) (said_by grid up o (own_message m)))
session_state_rests old new before floor up m outcome hears own grid t last None sits = absurd sits
session_state_rests old new before floor up m outcome hears own grid t last (Some o) sits =
    let h = hears grid t o sits in
    done_saying grid t floor new o (own_message m) outcome (hear grid up o (own_message m)) h.0 h.1 own

-- a session state without an operation says that the message is stale
pub empty_says : (floor : ℕ) (up : Servers) (m : Message) (grid : Grid) (t last : ℕ) (o : Option Operation) → Sits grid t floor None last o → Stale ≡ heard_as t (said_by grid up o (own_message m))
empty_says floor up m grid t last None sits = refl
empty_says floor up m grid t last (Some o) sits = absurd sits

pub empty_stays : (floor : ℕ) (up : Servers) (m : Message) (grid : Grid) (t last : ℕ) (o : Option Operation) → Sits grid t floor None last o → Sits grid t floor None (last_of last o) (operation_after o (own_message m) (said_by grid up o (own_message m)))
empty_stays floor up m grid t last None sits = sits
empty_stays floor up m grid t last (Some o) sits = absurd sits

-- ---- the session state

not_stale : (heard : Heard) (heard_before waited : Bool) → (heard ≡ Stale → ⊥) → (heard ≡ Noted → ⊥) → heard_waits heard heard_before waited ≡ false
not_stale Stale heard_before waited not noted = absurd (not refl)
not_stale Noted heard_before waited not noted = absurd (noted refl)
not_stale (Next round tag messages) heard_before waited not noted = refl
not_stale (Done outcome) heard_before waited not noted = refl

not_done : (heard : Heard) (outcome : Option Outcome) → ((x : Outcome) → heard ≡ Done x → ⊥) → outcome ≡ heard_outcome heard outcome
not_done Stale outcome not = refl
not_done Noted outcome not = refl
not_done (Next round tag messages) outcome not = refl
not_done (Done done) outcome not = absurd (not done refl)

pub session_state_hears : (old : SessionState) (code new : Code) (waited : Bool) (stays : ℕ) (up : Servers) (m : Message) (heard : Heard) → old.operation ≡ Some code → HearsAs code new up m heard → ((x : Outcome) → heard ≡ Done x → ⊥) →
    waited ≡ heard_waits heard (servers code.heard m.server) old.waited → stays ≡ heard_stays heard old.stays → SessionStateHears old (record old { operation = Some new; waited = waited; stays = stays }) up m heard
session_state_hears old code new waited stays up m heard is hears not waits fewer = record {
  op = refl;
  reserved_op = refl;
  row = refl;
  column = refl;
  outcome = not_done heard old.outcome not;
  waited = waits ∙ ap (λ o. heard_waits heard (has_heard o m.server) old.waited) (sym is);
  stays = fewer;
  says = λ grid t last o sits. session_state_says code new old.floor up m heard hears grid t last o (rw is at sits);
  sits = λ grid t last o sits. session_state_goes_on code new old.floor up m heard hears not grid t last o (rw is at sits);
}

fewer : (heard : Heard) (stays : ℕ) → ((x : Outcome) → heard ≡ Done x → ⊥) → (heard ≡ Stale → ⊥) → (heard ≡ Noted → ⊥) → stays - 1 ≡ heard_stays heard stays
fewer Stale stays done not noted = absurd (not refl)
fewer Noted stays done not noted = absurd (noted refl)
fewer (Next round tag messages) stays done not noted = refl
fewer (Done outcome) stays done not noted = absurd (done outcome refl)

-- what is new ends the waiting
pub session_state_moves : (old : SessionState) (code new : Code) (up : Servers) (m : Message) (heard : Heard) → old.operation ≡ Some code → HearsAs code new up m heard → ((x : Outcome) → heard ≡ Done x → ⊥) →
    (heard ≡ Stale → ⊥) → (heard ≡ Noted → ⊥) → SessionStateHears old (record old { operation = Some new; waited = false; stays = old.stays - 1 }) up m heard
session_state_moves old code new up m heard is hears not stale noted =
    session_state_hears old code new false (old.stays - 1) up m heard is hears not (sym (not_stale heard (servers code.heard m.server) old.waited stale noted)) (fewer heard old.stays not stale noted)

pub session_state_ends : (old : SessionState) (code new : Code) (floor : ℕ) (up : Servers) (m : Message) (outcome : Outcome) → old.operation ≡ Some code → HearsAs code new up m (Done outcome) → floor ≡ floor_of new →
    SessionStateHears old (record old { floor = floor; operation = None; outcome = Some outcome; waited = false }) up m (Done outcome)
session_state_ends old code new floor up m outcome is hears own = record {
  op = refl;
  reserved_op = refl;
  row = refl;
  column = refl;
  outcome = refl;
  waited = refl;
  stays = refl;
  says = λ grid t last o sits. session_state_says code new old.floor up m (Done outcome) hears grid t last o (rw is at sits);
  sits = λ grid t last o sits. session_state_rests code new old.floor floor up m outcome hears own grid t last o (rw is at sits);
}

pub session_state_is_empty : (old : SessionState) (up : Servers) (m : Message) → old.operation ≡ None → SessionStateHears old old up m Stale
session_state_is_empty old up m is = record {
  op = refl;
  reserved_op = refl;
  row = refl;
  column = refl;
  outcome = refl;
  waited = refl;
  stays = refl;
  says = λ grid t last o sits. empty_says old.floor up m grid t last o (rw is at sits);
  sits = λ grid t last o sits. rw is (empty_stays old.floor up m grid t last o (rw is at sits));
}

-- ---- a run of numbers is reserved for what it said

session_state_reserves : (old heard_by : SessionState) (floor : ℕ) (up : Servers) (m : Message) (heard : Heard) → SessionStateHears old heard_by up m heard → SessionStateHears old (record heard_by { reserved_floor = floor }) up m heard
session_state_reserves old heard_by floor up m heard h = record {
  op = h.op;
  reserved_op = h.reserved_op;
  row = h.row;
  column = h.column;
  outcome = h.outcome;
  waited = h.waited;
  stays = h.stays;
  says = h.says;
  sits = h.sits;
}

pub session_state_attends : (t k : ℕ) (grid : Grid) (old heard_by new : SessionState) (up : Servers) (m : Message) (heard : Heard) (run : Option ℕ) (out : Output) →
    (has_above (last_in old) && is_of_round old.operation (file_place m.file)) ≡ true → up ≡ session_state_aim_behind grid old m → SessionStateHears old heard_by up m heard → heard_by.reserved_floor ≡ old.reserved_floor →
    run ≡ heard_run heard_by.reserved_floor (last_in heard_by) heard → new ≡ record heard_by { reserved_floor = unwrap_or run heard_by.reserved_floor } → HeardGives t k run heard out → SessionStateAttends t k grid old new m out
session_state_attends t k grid old heard_by new up m heard run out fits aims hears same reserves after gives =
    let floor : ℕ = unwrap_or run heard_by.reserved_floor in
    let run_is : run ≡ heard_run old.reserved_floor (last_in heard_by) heard = reserves ∙ ap (λ n. heard_run n (last_in heard_by) heard) same in
    let S : Servers → Type 0 = λ x. SessionStateHears old (record heard_by { reserved_floor = floor }) x m heard in
    let G : Option ℕ → Type 0 = λ r. HeardGives t k r heard out in
    let says : SaysAndGives t k (session_state_aim_behind grid old m) old (record heard_by { reserved_floor = floor }) m out = record {
      heard = heard;
      hears = subst S aims (session_state_reserves old heard_by floor up m heard hears);
      reserved = ap (λ r. unwrap_or r heard_by.reserved_floor) run_is ∙ ap (unwrap_or (heard_run old.reserved_floor (last_in heard_by) heard)) same;
      gives = subst G run_is gives;
    } in
    rw fits (subst (λ (x : SessionState). SaysAndGives t k (session_state_aim_behind grid old m) old x m out) (sym after) says)

-- ---- where the messages differ in content

pub taken : (o : Option Code) (code : Code) (a b : Message) → o ≡ Some code → TakenIn o a b → DifferInContent code a b
taken o code a b is d = (rw is at d).1

pub taken_file : (o : Option Code) (a b : Message) → TakenIn o a b → file_place b.file ≡ file_place a.file
taken_file None a b d = absurd d
taken_file (Some code) a b d = d.0

pub taken_in : (o : Option Code) (m : Message) (copy : StoredCopy) → TakesContent o m.body copy → TakenIn o m (with_content m copy)
taken_in None m copy h = absurd h
taken_in (Some code) m copy h = (refl, record { op = refl; round = refl; server = refl; body = h })

-- ---- whether it hears

pub may_hear : (session_state : SessionState) (file : File) (last : ℕ) (of_round : Bool) → last ≡ last_in session_state → last < 18446744073709551616 → last ≢ 18446744073709551615 → of_round ≡ is_of_round session_state.operation file → of_round ≡ true →
    (has_above (last_in session_state) && is_of_round session_state.operation file) ≡ true
may_hear session_state file last of_round last_is small below round is =
    let less : last_in session_state < 18446744073709551615 = subst (λ n. n < 18446744073709551615) last_is (omega arith) in
    rw (lt-ltb (last_in session_state) 18446744073709551615 less, sym round ∙ is) refl
