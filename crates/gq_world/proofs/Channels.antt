-- Messages of a tenant are sent: its channel goes on as its messages do, and the other channels stay.
use Rattle.std.proofs.Common.{◌≡◌, ◌≢◌, ◌∙◌, ℕ, zero, suc, ◌*◌, ◌<◌, ◌≤◌, Bool, true, false, List, [], ◌∷◌, ◌++◌, length, map, refl, sym, ap, subst, Some, None, arith, length-append}
use Rattle.std.specs.Prelude.{slice_get, option_map, nat_lt, if◌then◌else◌}
use Rattle.std.proofs.lemmas.Bool.Decides.{nat_tests}
use Rattle.std.proofs.lemmas.List.{get_or-set_same, get_or-set_other, length-map}
use Rattle.gq_grid.specs.Grid.{Grid, Servers, choose}
use Rattle.gq_grid.specs.Sets.{servers}
use Rattle.gq_grid.specs.declared.ServerSet.{ServerSet}
use Rattle.gq_grid.proofs.Agreeing.{choose_agree}
use Rattle.gq_phase.specs.Laws.{SameQuorums}
use Rattle.gq_phase.proofs.Meeting.{quorums_in_grid}
use Rattle.gq_tag.specs.declared.Message.{Message}
use Rattle.gq_tag.specs.Tag.{OwnMessage, message_of}
use Rattle.gq_post.specs.Channels.{Channel, channel_at, message_at}
use Rattle.gq_model.specs.Trace.{State, own_message_at}
use Rattle.gq_world.specs.Tables.{up_in}
use Rattle.gq_world.specs.Saying.{with_sent}

-- ---- one channel

new_messages : (f : OwnMessage → Message) (new : List OwnMessage) (lost : ℕ → Bool) → ((m : ℕ) → lost m ≡ false) → (m : ℕ) → message_at (map Some (map f new)) m ≡ option_map f (if lost m then None else slice_get new m)
new_messages f [] lost none m = rw (none m) refl
new_messages f (x ∷ xs) lost none zero = rw (none zero) refl
new_messages f (x ∷ xs) lost none (suc m) = new_messages f xs (λ k. lost (suc k)) (λ k. none (suc k)) m

messages_push : (f : OwnMessage → Message) (channel : Channel) (sent new : List OwnMessage) (lost : ℕ → Bool) → length channel ≡ length sent →
    ((m : ℕ) → message_at channel m ≡ option_map f (if lost m then None else slice_get sent m)) → ((m : ℕ) → length sent ≤ m → lost m ≡ false) →
    (m : ℕ) → message_at (channel ++ map Some (map f new)) m ≡ option_map f (if lost m then None else slice_get (sent ++ new) m)
messages_push f [] [] new lost size before none m = new_messages f new lost (λ k. none k (omega arith)) m
messages_push f [] (y ∷ sent) new lost size before none m = absurd (omega arith)
messages_push f (x ∷ channel) [] new lost size before none m = absurd (omega arith)
messages_push f (x ∷ channel) (y ∷ sent) new lost size before none zero = before zero
messages_push f (x ∷ channel) (y ∷ sent) new lost size before none (suc m) =
    messages_push f channel sent new (λ k. lost (suc k)) (omega arith) (λ k. before (suc k)) (λ k past. none (suc k) (omega arith)) m

-- ---- the tenant's

pub sent_count : (channels : List Channel) (t : ℕ) (state : State) (new : List OwnMessage) → t < length channels → length (channel_at channels t) ≡ length state.sent →
    length (channel_at (with_sent channels t (map (message_of t) new)) t) ≡ length (state.sent ++ new)
sent_count channels t state new within size =
    let here : channel_at (with_sent channels t (map (message_of t) new)) t ≡ channel_at channels t ++ map Some (map (message_of t) new) = get_or-set_same channels t (channel_at channels t ++ map Some (map (message_of t) new)) [] within in
    rw here (simp (length-append, length-map) (omega arith))

pub sent_messages : (channels : List Channel) (t : ℕ) (state : State) (new : List OwnMessage) → t < length channels → length (channel_at channels t) ≡ length state.sent →
    ((m : ℕ) → message_at (channel_at channels t) m ≡ option_map (message_of t) (own_message_at state m)) → ((m : ℕ) → length state.sent ≤ m → state.is_lost m ≡ false) →
    (m : ℕ) → message_at (channel_at (with_sent channels t (map (message_of t) new)) t) m ≡ option_map (message_of t) (own_message_at (record state { sent = state.sent ++ new }) m)
sent_messages channels t state new within size before none m =
    ap (λ channel. message_at channel m) (get_or-set_same channels t (channel_at channels t ++ map Some (map (message_of t) new)) [] within)
    ∙ messages_push (message_of t) (channel_at channels t) state.sent new state.is_lost size before none m

-- none of the new ones is lost
pub new_not_lost : (state : State) (new : List OwnMessage) → ((m : ℕ) → length state.sent ≤ m → state.is_lost m ≡ false) → (m : ℕ) → length (state.sent ++ new) ≤ m → state.is_lost m ≡ false
new_not_lost state new none m past = none m (let size = length-append state.sent new in omega arith)

-- ---- the others'

pub channel_there : (channels : List Channel) (t u : ℕ) (messages : List Message) → u ≢ t → channel_at (with_sent channels t messages) u ≡ channel_at channels u
channel_there channels t u messages other = get_or-set_other channels t u (channel_at channels t ++ map Some messages) [] other

-- ---- the servers that are up

-- the set has the servers of the grid that the tables have
pub in_grid : (grid : Grid) (set : ServerSet) (s : ℕ) → s < grid.rows * grid.cols → up_in grid set s ≡ servers set s
in_grid grid set s within = by (nat_lt s (grid.rows * grid.cols)) (grind (arith, nat_tests))
  where
    by : (b : Bool) → b ≡ true → (if b then servers set s else true) ≡ servers set s
    by b is = rw is refl

pub choose_in : (grid : Grid) (set : ServerSet) → choose grid (up_in grid set) ≡ choose grid (servers set)
choose_in grid set = choose_agree grid (up_in grid set) (servers set) (in_grid grid set)

-- so they have the same quorums
pub quorums_in : (grid : Grid) (set : ServerSet) (up : Servers) → up_in grid set ≡ up → SameQuorums grid (servers set) up
quorums_in grid set up is = subst (SameQuorums grid (servers set)) is (quorums_in_grid grid (servers set) (up_in grid set) (λ s within. sym (in_grid grid set s within)))
