-- What a session did, and what is left to do.
use Rattle.std.specs.Prelude.{◌≡◌, ◌<◌, List, drop, vec_len, vec_capacity}
use Rattle.gq_model.specs.declared.events.Line.{Line}
use Rattle.gq_session.specs.declared.event_log.EventLog.{EventLog}

-- the requests that are left
abbrev pub left_in : EventLog → List Line
left_in event_log = drop event_log.asked event_log.lines.items

-- there is room for one entry
abbrev pub HasRoom : EventLog → Type 0
HasRoom event_log = vec_len event_log.entries < vec_capacity event_log.entries

-- the requests, those that were asked, and the entries stay
pub record IsSameEventLog (old new : EventLog) : Type 0 where
  pub lines : new.lines.items ≡ old.lines.items
  pub asked : new.asked ≡ old.asked
  pub entries : new.entries.items ≡ old.entries.items
