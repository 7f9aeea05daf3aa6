-- How the answers to the questions go on.
use Rattle.std.proofs.Common.{◌≡◌, ◌∷◌, ◌+◌, ℕ, Bool, true, false, Option, Some, None, refl}
use Rattle.std.specs.Prelude.{if◌then◌else◌}
use Rattle.gq_tag.specs.declared.Tag.{Tag}
use Rattle.gq_tag.specs.Tag.{OwnMessage}
use Rattle.gq_phase.specs.Phase.{Task, begun, with_reply, moved}
use Rattle.gq_model.specs.declared.events.Line.{Line}
use Rattle.gq_model.specs.Trace.{Entry, Trace, State, Elsewhere, Begins, Hears, Moves, Ends, Leaps, questions, changed, deed_in, task_of, operation, operation_with}

-- by one step of computation
pub questions_step : (e : Entry) (t : Trace) → questions (e ∷ t) ≡ changed e (questions t)
questions_step e t = refl

-- whatever the test is, and whatever entry
pub questions_on : (b : Bool) (e : Entry) (t : Trace) → questions (if b then t else e ∷ t) ≡ (if b then questions t else changed e (questions t))
questions_on true e t = refl
questions_on false e t = refl

-- ---- a session's operation after an entry, in the words of gq_phase

pub operation_elsewhere : (state : State) (e : Entry) (k : ℕ) → deed_in state.sent k (state.session k) e ≡ Elsewhere → operation (changed e state) k ≡ operation state k
operation_elsewhere state e k does = rw does refl

pub operation_begins : (state : State) (e : Entry) (k : ℕ) (line : Line) (task : Task) → deed_in state.sent k (state.session k) e ≡ Begins line → task_of state.volumes line ≡ Some task → operation (changed e state) k ≡ Some (begun k ((state.session k).op + 1) task (state.session k).floor)
operation_begins state e k line task does asks = rw (does, asks) refl

pub operation_hears : (state : State) (e : Entry) (k : ℕ) (message : OwnMessage) (task : Task) → deed_in state.sent k (state.session k) e ≡ Hears message → (state.session k).current ≡ Some task → operation (changed e state) k ≡ Some (with_reply (operation_with k (state.session k) task) message)
operation_hears state e k message task does busy = rw (does, busy) refl

pub operation_moves : (state : State) (e : Entry) (k : ℕ) (message : OwnMessage) (round : ℕ) (tag : Option Tag) (task : Task) → deed_in state.sent k (state.session k) e ≡ Moves message round tag → (state.session k).current ≡ Some task → operation (changed e state) k ≡ Some (moved (operation_with k (state.session k) task) message round tag)
operation_moves state e k message round tag task does busy = rw (does, busy) refl

pub operation_ends : (state : State) (e : Entry) (k : ℕ) → deed_in state.sent k (state.session k) e ≡ Ends → operation (changed e state) k ≡ None
operation_ends state e k does = rw does refl

pub operation_leaps : (state : State) (e : Entry) (k op number : ℕ) → deed_in state.sent k (state.session k) e ≡ Leaps op number → operation (changed e state) k ≡ None
operation_leaps state e k op number does = rw does refl
