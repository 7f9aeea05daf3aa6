-- The questions to a trace one by one, and what a turn then does.
use Rattle.std.proofs.Common.{ℕ, List, Option}
use Rattle.gq_grid.specs.Grid.{Grid}
use Rattle.gq_tag.specs.declared.StoredCopy.{StoredCopy}
use Rattle.gq_tag.specs.Tag.{File, OwnMessage}
use Rattle.gq_desk.specs.declared.plans.TenantRow.{TenantRow}
use Rattle.gq_phase.specs.Phase.{Task, Reply}
use Rattle.gq_model.specs.Trace.{Turn, Entry, Trace, Deed, deed_in, questions, sent, session, own_message_at, held as held_in}
use Rattle.gq_model.specs.Lone.{Step, step, message_of_turn}

-- how many operations session k began
abbrev pub op : Trace → ℕ → ℕ
op t k = (session t k).op

-- what its operation is to do
abbrev pub current : Trace → ℕ → Option Task
current t k = (session t k).current

-- its round
abbrev pub round : Trace → ℕ → ℕ
round t k = (session t k).round

-- what it heard in the round
abbrev pub heard : Trace → ℕ → List Reply
heard t k = (session t k).heard

-- the copies that its collect rounds ended with
abbrev pub collected : Trace → ℕ → List StoredCopy
collected t k = (session t k).collected

-- the session's last number
abbrev pub floor : Trace → ℕ → ℕ
floor t k = (session t k).floor

-- what a server holds of a file
abbrev pub held : Trace → ℕ → File → StoredCopy
held t server file = held_in (questions t) server file

-- what an entry does in session k behind the trace
abbrev pub deed_on : Trace → ℕ → Entry → Deed
deed_on t k e = deed_in (sent t) k (session t k) e

-- message n, none where it was never sent or is lost
abbrev pub message_at : Trace → ℕ → Option OwnMessage
message_at t n = own_message_at (questions t) n

-- the message that a turn delivers
abbrev pub delivered : Trace → Turn → Option OwnMessage
delivered t turn = message_of_turn (questions t) turn

-- what is told and sent to a turn after the trace, where so many steps are taken
abbrev pub step_on : Grid → TenantRow → ℕ → Trace → Turn → Step
step_on grid row lines t turn = step grid row (record { lines = lines; state = questions t }) turn
