-- What a session's line or a letter to it is told depends on this session alone, on the volumes, and on whom the quorums are
-- taken of; a letter to a server on the copies of its file there. Numbers of messages aside.
use Rattle.std.proofs.Common.{◌≡◌, ℕ, ◌+◌, Bool, true, false, List, [], ◌∷◌, length, refl, ap, ◌∙◌, Option, Some, None}
use Rattle.std.specs.Prelude.{option_map, is_none}
use Rattle.gq_grid.specs.Grid.{Grid, Servers}
use Rattle.gq_tag.specs.Tag.{OwnMessage, to_server, greatest, first_copy}
use Rattle.gq_desk.specs.declared.plans.TenantRow.{TenantRow}
use Rattle.gq_desk.specs.declared.volumes.VolumeRow.{VolumeRow}
use Rattle.gq_phase.specs.Laws.{SameQuorums}
use Rattle.gq_phase.specs.Phase.{Task, Writing, Reading, Listing, Operation, round_quorum, round_messages, hear}
use Rattle.gq_phase.proofs.ByQuorums.{round_quorum_up, round_messages_up, hear_up}
use Rattle.gq_model.specs.declared.events.Line.{Line}
use Rattle.gq_model.specs.declared.events.Line.TheVariants.{Write, Read, List as ListFiles, Retry, Abandon}
use Rattle.gq_model.specs.declared.events.Refusal.TheVariants.{NoQuorum}
use Rattle.gq_model.specs.Told.{Began, Replied}
use Rattle.gq_model.specs.Trace.{State, Session, serves, operation, operation_with, files_of}
use Rattle.gq_model.specs.Lone.{Cause, asked_step, begin_step, first_operation, first_cause, session_causes, session_step, no_session, busy, idle, no_volume, no_file, too_long, retry_step, hear_step, heard_step, deliver_step, reply_to, unless}
use Rattle.gq_cluster.specs.Cluster.{session_named, IsOfSession}
use Rattle.gq_cluster.proofs.Numbers.{numbered_step, unless_is, heard_step_is}

-- ---- two states that agree on a session

-- the two states agree on session k, on the volumes and on the quorums
pub record Alike (grid : Grid) (k : ℕ) (a b : State) : Type 0 where
  pub volumes : a.volumes ≡ b.volumes
  pub session : a.session k ≡ b.session k
  pub quorums : SameQuorums grid a.up b.up

-- the first state with these volumes, and with this for each session
abbrev with_these : State → List VolumeRow → Session → State
with_these a volumes session = record { up = a.up; gone = a.gone; volumes = volumes; sent = a.sent; is_lost = a.is_lost; lacks = a.lacks; brought = a.brought; offered = a.offered; session = λ k. session }

-- ---- whom the quorums are taken of

begun_up : (grid : Grid) (a b : State) (k : ℕ) (task : Task) → SameQuorums grid a.up b.up →
    begin_step grid (with_these a b.volumes (b.session k)) k (Some task) ≡ numbered_step (length a.sent) (begin_step grid b k (Some task))
begun_up grid a b k task same = λ i. record { told = Began ((b.session k).op + 1) (length a.sent) (length (messages i)); new = messages i }
  where
    messages : round_messages grid a.up (first_operation b k task) ≡ round_messages grid b.up (first_operation b k task)
    messages = round_messages_up grid a.up b.up (first_operation b k task) same

again_up : (grid : Grid) (a b : State) (o : Option Operation) → SameQuorums grid a.up b.up → retry_step grid a o ≡ numbered_step (length a.sent) (retry_step grid b o)
again_up grid a b None same = refl
again_up grid a b (Some o) same = by (round_quorum grid b.up o.round) refl
  where
    quorum : round_quorum grid a.up o.round ≡ round_quorum grid b.up o.round
    quorum = round_quorum_up grid a.up b.up o.round same

    by : (q : Option Servers) → round_quorum grid b.up o.round ≡ q → retry_step grid a (Some o) ≡ numbered_step (length a.sent) (retry_step grid b (Some o))
    by None is = let was : round_quorum grid a.up o.round ≡ None = quorum ∙ is in rw (was, is) refl
    by (Some set) is = let was : round_quorum grid a.up o.round ≡ Some set = quorum ∙ is in rw (was, is) refl

no_quorum_up : (grid : Grid) (up also : Servers) (round : ℕ) → SameQuorums grid up also → ◌≡◌ {A = Cause} (is_none (round_quorum grid up round), NoQuorum) (is_none (round_quorum grid also round), NoQuorum)
no_quorum_up grid up also round same = λ i. (is_none (round_quorum_up grid up also round same i), NoQuorum)

asked_up : (grid : Grid) (row : TenantRow) (a b : State) (line : Line) → IsOfSession line → SameQuorums grid a.up b.up →
    asked_step grid row (with_these a b.volumes (b.session (session_named line))) line ≡ numbered_step (length a.sent) (asked_step grid row b line)
asked_up grid row a b (Write k v f bytes) its same =
    (λ i. unless (first_cause (no_session row k ∷ busy b k ∷ no_volume b v ∷ no_file b v f ∷ too_long b v f bytes ∷ no_quorum_up grid a.up b.up 1 same i ∷ [])) (begun_up grid a b k (Writing (record { volume = v; place = f }) bytes) same i))
    ∙ unless_is (length a.sent) (first_cause (session_causes grid row b (Write k v f bytes))) (session_step grid b (Write k v f bytes))
asked_up grid row a b (Read k v f) its same =
    (λ i. unless (first_cause (no_session row k ∷ busy b k ∷ no_volume b v ∷ no_file b v f ∷ no_quorum_up grid a.up b.up 1 same i ∷ [])) (begun_up grid a b k (Reading (record { volume = v; place = f })) same i))
    ∙ unless_is (length a.sent) (first_cause (session_causes grid row b (Read k v f))) (session_step grid b (Read k v f))
asked_up grid row a b (ListFiles k v) its same =
    (λ i. unless (first_cause (no_session row k ∷ busy b k ∷ no_volume b v ∷ no_quorum_up grid a.up b.up 1 same i ∷ [])) (begun_up grid a b k (Listing v (files_of b.volumes v)) same i))
    ∙ unless_is (length a.sent) (first_cause (session_causes grid row b (ListFiles k v))) (session_step grid b (ListFiles k v))
asked_up grid row a b (Retry k) its same =
    (λ i. unless (first_cause (no_session row k ∷ idle b k ∷ no_quorum_up grid a.up b.up (b.session k).round same i ∷ [])) (again i))
    ∙ unless_is (length a.sent) (first_cause (session_causes grid row b (Retry k))) (session_step grid b (Retry k))
  where
    again : retry_step grid (with_these a b.volumes (b.session k)) (operation b k) ≡ numbered_step (length a.sent) (retry_step grid b (operation b k))
    again = again_up grid (with_these a b.volumes (b.session k)) b (operation b k) same
asked_up grid row a b (Abandon k) its same = unless_is (length a.sent) (first_cause (session_causes grid row b (Abandon k))) (session_step grid b (Abandon k))
asked_up grid row a b other its same = absurd its

-- ---- what is asked of a session

pub asked_alike : (grid : Grid) (row : TenantRow) (a b : State) (line : Line) → IsOfSession line → Alike grid (session_named line) a b → asked_step grid row a line ≡ numbered_step (length a.sent) (asked_step grid row b line)
asked_alike grid row a b (Write k v f bytes) its alike = (λ i. asked_step grid row (with_these a (alike.volumes i) (alike.session i)) (Write k v f bytes)) ∙ asked_up grid row a b (Write k v f bytes) its alike.quorums
asked_alike grid row a b (Read k v f) its alike = (λ i. asked_step grid row (with_these a (alike.volumes i) (alike.session i)) (Read k v f)) ∙ asked_up grid row a b (Read k v f) its alike.quorums
asked_alike grid row a b (ListFiles k v) its alike = (λ i. asked_step grid row (with_these a (alike.volumes i) (alike.session i)) (ListFiles k v)) ∙ asked_up grid row a b (ListFiles k v) its alike.quorums
asked_alike grid row a b (Retry k) its alike = (λ i. asked_step grid row (with_these a (alike.volumes i) (alike.session i)) (Retry k)) ∙ asked_up grid row a b (Retry k) its alike.quorums
asked_alike grid row a b (Abandon k) its alike = (λ i. asked_step grid row (with_these a (alike.volumes i) (alike.session i)) (Abandon k)) ∙ asked_up grid row a b (Abandon k) its alike.quorums
asked_alike grid row a b other its alike = absurd its

-- ---- what comes to it

heard_up : (grid : Grid) (a b : State) (m : OwnMessage) (o : Option Operation) → SameQuorums grid a.up b.up → hear_step grid a m o ≡ numbered_step (length a.sent) (hear_step grid b m o)
heard_up grid a b m None same = refl
heard_up grid a b m (Some o) same = ap (heard_step (length a.sent)) (hear_up grid a.up b.up o m same) ∙ heard_step_is (length a.sent) (length b.sent) (hear grid b.up o m)

pub heard_alike : (grid : Grid) (a b : State) (m : OwnMessage) → to_server m.body ≡ false → Alike grid m.session a b → deliver_step grid a (Some m) ≡ numbered_step (length a.sent) (deliver_step grid b (Some m))
heard_alike grid a b m reply alike = rw reply (ap (hear_step grid a m) same ∙ heard_up grid a b m (operation b m.session) alike.quorums)
  where
    same : operation a m.session ≡ operation b m.session
    same = λ i. option_map (operation_with m.session (alike.session i)) (alike.session i).current

-- ---- and to a server

pub served_alike : (grid : Grid) (a b : State) (m : OwnMessage) → to_server m.body ≡ true → serves a.up a.lacks m.server m.file ≡ serves b.up b.lacks m.server m.file → a.brought m.server m.file ≡ b.brought m.server m.file →
    deliver_step grid a (Some m) ≡ numbered_step (length a.sent) (deliver_step grid b (Some m))
served_alike grid a b m ask same copies = by (serves b.up b.lacks m.server m.file) refl
  where
    by : (serving : Bool) → serves b.up b.lacks m.server m.file ≡ serving → deliver_step grid a (Some m) ≡ numbered_step (length a.sent) (deliver_step grid b (Some m))
    by true there =
        let here : serves a.up a.lacks m.server m.file ≡ true = same ∙ there in
        rw (ask, here, there) (λ i. record { told = Replied (length a.sent); new = reply_to (greatest (first_copy ∷ copies i)) m ∷ [] })
    by false there = let here : serves a.up a.lacks m.server m.file ≡ false = same ∙ there in rw (ask, here, there) refl
