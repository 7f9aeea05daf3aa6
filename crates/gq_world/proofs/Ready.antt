-- What the messages of a tenant that is ready can ask of the tables.
use Rattle.std.proofs.Common.{◌≡◌, ◌∙◌, ℕ, ◌+◌, ◌-◌, ◌<◌, ◌≤◌, Bool, true, false, List, length, refl, sym, ap, subst, Option, Some, None, arith, All}
use Rattle.std.specs.Prelude.{slice_get, option_map, if◌then◌else◌}
use Rattle.std.proofs.lemmas.Option.{slice_get_within, get_or_from_slice_get}
use Rattle.gq_grid.specs.declared.TheConstants.{MOST_SERVERS}
use Rattle.gq_grid.specs.Grid.{Grid}
use Rattle.gq_tag.specs.declared.Body.{Body}
use Rattle.gq_tag.specs.declared.Body.TheVariants.{Ask, Copy, Store, Stored}
use Rattle.gq_tag.specs.declared.Message.{Message}
use Rattle.gq_tag.specs.Tag.{OwnMessage, own_message, message_of}
use Rattle.gq_desk.specs.CheckedPlan.{row_at}
use Rattle.gq_post.specs.Channels.{channel_at, message_at}
use Rattle.gq_phase.specs.Best.{copied_number}
use Rattle.gq_phase.specs.declared.operation.Operation.{Operation as Code}
use Rattle.gq_phase.specs.Phase.{Task, Operation}
use Rattle.gq_model.specs.Trace.{State, Session, Known, own_message_at, operation, operation_with}
use Rattle.gq_world.specs.Bounds.{BodyFits, MessageFits}
use Rattle.gq_world.specs.Tables.{Tables, Agrees, IsReady, IsShaped, Sits, session_states_at, session_state_in}
use Rattle.gq_world.specs.SessionStates.{FloorIsBelow}

pub all_at : {X : Type 0} (P : X → Type 0) (xs : List X) (n : ℕ) (x : X) → All P xs → slice_get xs n ≡ Some x → P x
all_at P xs n x all is = subst P (get_or_from_slice_get xs n x x is) (all n x (slice_get_within xs n x is))

-- ---- a message of a channel is a message of the tenant's run

pub found : (w : Tables) (t n : ℕ) (m : Message) (known : Known) → Agrees w t known → message_at (channel_at w.channels t) n ≡ Some m → (message : OwnMessage) × (own_message_at known.state n ≡ Some message) × (m ≡ message_of t message)
found w t n m known agrees is = by (own_message_at known.state n) refl (sym is ∙ agrees.messages n)
  where
    by : (o : Option OwnMessage) → own_message_at known.state n ≡ o → Some m ≡ option_map (message_of t) o → (message : OwnMessage) × (own_message_at known.state n ≡ Some message) × (m ≡ message_of t message)
    by None e h = absurd (cc)
    by (Some message) e h = (message, e, cc)

pub sent_at : (state : State) (n : ℕ) (message : OwnMessage) → own_message_at state n ≡ Some message → slice_get state.sent n ≡ Some message
sent_at state n message is = by (state.is_lost n) is
  where
    by : (b : Bool) → (if b then None else slice_get state.sent n) ≡ Some message → slice_get state.sent n ≡ Some message
    by true h = absurd (cc)
    by false h = h

pub message_fits : (w : Tables) (t n : ℕ) (m : Message) (r : IsReady w t) → message_at (channel_at w.channels t) n ≡ Some m → MessageFits w.plan.grid (row_at w.plan t) r.before r.known.state.volumes (own_message m)
message_fits w t n m r is =
    let f = found w t n m r.known r.agrees is in
    let P : OwnMessage → Type 0 = MessageFits w.plan.grid (row_at w.plan t) r.before r.known.state.volumes in
    subst P (sym (ap own_message f.2)) (all_at P r.known.state.sent n f.0 r.bounded.messages (sent_at r.known.state n f.0 f.1))

-- ---- its numbers

number_within : (n size : ℕ) (body : Body) → BodyFits n size body → copied_number body ≤ n
number_within n size Ask h = omega arith
number_within n size (Copy copy) h = h.number
number_within n size (Store copy) h = omega arith
number_within n size Stored h = omega arith

pub number_below : (w : Tables) (t n : ℕ) (m : Message) → IsReady w t → message_at (channel_at w.channels t) n ≡ Some m → copied_number m.body < 18446744073709551615
number_below w t n m r is =
    let fits = message_fits w t n m r is in
    let h = number_within r.before _ m.body fits.body in
    let taken = r.taken in
    let few = r.few in
    omega arith

pub server_below : (w : Tables) (t n : ℕ) (m : Message) → IsReady w t → IsShaped w → message_at (channel_at w.channels t) n ≡ Some m → m.server < MOST_SERVERS
server_below w t n m r shaped is =
    let h = (message_fits w t n m r is).server in
    let grid = shaped.grid in
    omega arith

-- ---- its session

pub session_within : (w : Tables) (t n : ℕ) (m : Message) → t < length w.plan.rows → IsReady w t → IsShaped w → message_at (channel_at w.channels t) n ≡ Some m → (1 ≤ m.session) × (m.session ≤ length (session_states_at w.session_states t))
session_within w t n m within r shaped is =
    let fits = message_fits w t n m r is in
    let first : 1 ≤ m.session = fits.first in
    let last : m.session ≤ (row_at w.plan t).sessions = fits.last in
    let count = shaped.session_states t within in
    (first, rw count last)

own_floor : (k : ℕ) (s : Session) (o : Operation) → option_map (operation_with k s) s.current ≡ Some o → o.floor ≡ s.floor
own_floor k s o is = by s.current is
  where
    by : (task : Option Task) → option_map (operation_with k s) task ≡ Some o → o.floor ≡ s.floor
    by None h = absurd (cc)
    by (Some task) h = let same : operation_with k s task ≡ o = cc in ap (λ (p : Operation). p.floor) (sym same)

floor_below : (grid : Grid) (t floor last n : ℕ) (code : Option Code) (o : Option Operation) → Sits grid t floor code last o → ((p : Operation) → o ≡ Some p → p.floor ≤ n) → n < 18446744073709551615 → FloorIsBelow code
floor_below grid t floor last n None o sits below few = tt
floor_below grid t floor last n (Some code) None sits below few = absurd sits
floor_below grid t floor last n (Some code) (Some p) sits below few =
    let h = below p refl in
    let same = sits.floor in
    omega arith

pub session_state_floor_below : (w : Tables) (t n : ℕ) (m : Message) → IsReady w t → message_at (channel_at w.channels t) n ≡ Some m → FloorIsBelow (session_state_in (session_states_at w.session_states t) (m.session - 1)).operation
session_state_floor_below w t n m r is =
    let fits = message_fits w t n m r is in
    let first : 1 ≤ m.session = fits.first in
    let last : m.session ≤ (row_at w.plan t).sessions = fits.last in
    let within : m.session - 1 < (row_at w.plan t).sessions = omega arith in
    let k : ℕ = m.session - 1 + 1 in
    let session_state = r.agrees.session_states (m.session - 1) within in
    let session = r.bounded.sessions k in
    let few : r.before < 18446744073709551615 = let taken = r.taken in let few = r.few in omega arith in
    floor_below w.plan.grid t (session_state_in (session_states_at w.session_states t) (m.session - 1)).floor _ r.before (session_state_in (session_states_at w.session_states t) (m.session - 1)).operation (operation r.known.state k) session_state.sits
    (λ p is'. let same = own_floor k (r.known.state.session k) p is' in let low = session.floor in omega arith) few
