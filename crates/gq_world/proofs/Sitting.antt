-- What a session's state stands for after a message.
use Rattle.std.proofs.Common.{◌≡◌, ◌∙◌, ℕ, Option, Some, None, List, refl}
use Rattle.gq_grid.specs.Grid.{Grid, Servers}
use Rattle.gq_grid.specs.declared.ServerSet.{ServerSet}
use Rattle.gq_tag.specs.declared.Tag.{Tag}
use Rattle.gq_tag.specs.declared.Message.{Message}
use Rattle.gq_tag.specs.Tag.{OwnMessage, own_message}
use Rattle.gq_phase.specs.declared.Outcome.{Outcome}
use Rattle.gq_phase.specs.declared.Heard.{Heard}
use Rattle.gq_phase.specs.declared.Heard.TheVariants.{Stale, Noted, Next, Done}
use Rattle.gq_phase.specs.declared.operation.Operation.{Operation as Code}
use Rattle.gq_phase.specs.Phase.{Operation, Heard as Saying, HeardStale, HeardNoted, HeardNext, HeardDone, hear}
use Rattle.gq_phase.specs.Standing.{StandsAfter, HearsAs, heard_as, floor_of}
use Rattle.gq_world.specs.Tables.{Sits}
use Rattle.gq_world.specs.declared.sessions.SessionState.{SessionState}
use Rattle.gq_world.specs.SessionStates.{said_by, operation_after, last_of, answered_after, SessionStateHears}

-- what the value says is what the operation says
pub session_state_says : (old new : Code) (floor : ℕ) (up : Servers) (m : Message) (heard : Heard) → HearsAs old new up m heard →
    (grid : Grid) (t last : ℕ) (o : Option Operation) → Sits grid t floor (Some old) last o → heard ≡ heard_as t (said_by grid up o (own_message m))
session_state_says old new floor up m heard hears grid t last None sits = absurd sits
session_state_says old new floor up m heard hears grid t last (Some o) sits = (hears grid t o sits).0

-- it goes on
after_saying : (grid : Grid) (t floor : ℕ) (new : Code) (o : Operation) (l : OwnMessage) (heard : Heard) (s : Saying) → heard ≡ heard_as t s → ((x : Outcome) → heard ≡ Done x → ⊥) → StandsAfter grid t new o l s →
    Sits grid t floor (Some new) o.floor (operation_after (Some o) l s)
after_saying grid t floor new o l heard HeardStale is not stands = stands
after_saying grid t floor new o l heard HeardNoted is not stands = stands
after_saying grid t floor new o l heard (HeardNext round tag messages) is not stands = stands
after_saying grid t floor new o l heard (HeardDone outcome) is not stands = absurd (not outcome is)

pub session_state_goes_on : (old new : Code) (floor : ℕ) (up : Servers) (m : Message) (heard : Heard) → HearsAs old new up m heard → ((x : Outcome) → heard ≡ Done x → ⊥) →
    (grid : Grid) (t last : ℕ) (o : Option Operation) → Sits grid t floor (Some old) last o → Sits grid t floor (Some new) (last_of last o) (operation_after o (own_message m) (said_by grid up o (own_message m)))
session_state_goes_on old new floor up m heard hears not grid t last None sits = absurd sits
session_state_goes_on old new floor up m heard hears not grid t last (Some o) sits =
    let h = hears grid t o sits in
    after_saying grid t floor new o (own_message m) heard (hear grid up o (own_message m)) h.0 not h.1

-- it is done
done_saying : (grid : Grid) (t floor : ℕ) (new : Code) (o : Operation) (l : OwnMessage) (outcome : Outcome) (s : Saying) → ◌≡◌ {A = Heard} (Done outcome) (heard_as t s) → StandsAfter grid t new o l s → floor ≡ floor_of new →
    Sits grid t floor None o.floor (operation_after (Some o) l s)
done_saying grid t floor new o l outcome HeardStale is stands own = absurd (cc)
done_saying grid t floor new o l outcome HeardNoted is stands own = absurd (cc)
done_saying grid t floor new o l outcome (HeardNext round tag messages) is stands own = absurd (cc)
done_saying grid t floor new o l outcome (HeardDone other) is stands own = own ∙ stands.1

pub session_state_rests : (old new : Code) (before floor : ℕ) (up : Servers) (m : Message) (outcome : Outcome) → HearsAs old new up m (Done outcome) → floor ≡ floor_of new →
    (grid : Grid) (t last : ℕ) (o : Option Operation) → Sits grid t before (Some old) last o → Sits grid t floor None (last_of last o) (operation_after o (own_message m) (said_by grid up o (own_message m)))
session_state_rests old new before floor up m outcome hears own grid t last None sits = absurd sits
session_state_rests old new before floor up m outcome hears own grid t last (Some o) sits =
    let h = hears grid t o sits in
    done_saying grid t floor new o (own_message m) outcome (hear grid up o (own_message m)) h.0 h.1 own

-- a session state without an operation says that the message is stale
pub empty_says : (floor : ℕ) (up : Servers) (m : Message) (grid : Grid) (t last : ℕ) (o : Option Operation) → Sits grid t floor None last o → Stale ≡ heard_as t (said_by grid up o (own_message m))
empty_says floor up m grid t last None sits = refl
empty_says floor up m grid t last (Some o) sits = absurd sits

pub empty_stays : (floor : ℕ) (up : Servers) (m : Message) (grid : Grid) (t last : ℕ) (o : Option Operation) → Sits grid t floor None last o → Sits grid t floor None (last_of last o) (operation_after o (own_message m) (said_by grid up o (own_message m)))
empty_stays floor up m grid t last None sits = sits
empty_stays floor up m grid t last (Some o) sits = absurd sits

-- ---- the session state

pub session_state_hears : (old : SessionState) (code new : Code) (up : Servers) (m : Message) (heard : Heard) → old.operation ≡ Some code → HearsAs code new up m heard → ((x : Outcome) → heard ≡ Done x → ⊥) →
    SessionStateHears old (record { op = old.op; floor = old.floor; operation = Some new; answered = answered_after heard old.answered }) up m heard
session_state_hears old code new up m heard is hears not = record {
  op = refl;
  answered = refl;
  says = λ grid t last o sits. session_state_says code new old.floor up m heard hears grid t last o (rw is at sits);
  sits = λ grid t last o sits. session_state_goes_on code new old.floor up m heard hears not grid t last o (rw is at sits);
}

pub session_state_ends : (old : SessionState) (code new : Code) (floor : ℕ) (up : Servers) (m : Message) (outcome : Outcome) → old.operation ≡ Some code → HearsAs code new up m (Done outcome) → floor ≡ floor_of new →
    SessionStateHears old (record { op = old.op; floor = floor; operation = None; answered = old.answered }) up m (Done outcome)
session_state_ends old code new floor up m outcome is hears own = record {
  op = refl;
  answered = refl;
  says = λ grid t last o sits. session_state_says code new old.floor up m (Done outcome) hears grid t last o (rw is at sits);
  sits = λ grid t last o sits. session_state_rests code new old.floor floor up m outcome hears own grid t last o (rw is at sits);
}

pub session_state_is_empty : (old : SessionState) (up : Servers) (m : Message) → old.operation ≡ None → SessionStateHears old old up m Stale
session_state_is_empty old up m is = record {
  op = refl;
  answered = refl;
  says = λ grid t last o sits. empty_says old.floor up m grid t last o (rw is at sits);
  sits = λ grid t last o sits. rw is (empty_stays old.floor up m grid t last o (rw is at sits));
}

-- a reply that begins no round leaves who sent replies
pub answered_still : (heard : Heard) (answered : ServerSet) → ((round : ℕ) (tag : Option Tag) (messages : List Message) → heard ≡ Next round tag messages → ⊥) → answered_after heard answered ≡ answered
answered_still Stale answered not = refl
answered_still Noted answered not = refl
answered_still (Next round tag messages) answered not = absurd (not round tag messages refl)
answered_still (Done outcome) answered not = refl
