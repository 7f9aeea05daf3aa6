-- What is told to a line, as the model says it.
use Rattle.std.specs.Prelude.{ℕ, List, Option}
use Rattle.gq_grid.specs.Grid.{Choice, Servers}
use Rattle.gq_tag.specs.declared.Tag.{Tag}
use Rattle.gq_desk.specs.declared.volumes.VolumeRow.{VolumeRow}
use Rattle.gq_phase.specs.declared.Outcome.{Outcome}
use Rattle.gq_model.specs.declared.events.Refusal.{Refusal}
use Rattle.gq_model.specs.declared.events.ServerRefusal.{ServerRefusal}

pub data Told : Type 0 where
  -- the chosen row and column, with their servers
  Chosen : (choice : Choice) (servers : Servers) → Told
  -- the number of the volume
  Opened : (volume : ℕ) → Told
  -- the blocks that are free, and the volumes
  VolumesAre : (free : ℕ) (volumes : List VolumeRow) → Told
  -- the number of the session's operation, and its messages: the number of the first, and how many they are
  Began : (op first count : ℕ) → Told
  -- the number of the server's reply
  Replied : (number : ℕ) → Told
  -- the message's server is down
  IsDown : Told
  Stale : Told
  Noted : Told
  -- the round that begins, its tag where it stores, and its messages
  Round : (round : ℕ) (tag : Option Tag) (first count : ℕ) → Told
  Done : (outcome : Outcome) → Told
  Lost : Told
  Resent : (first count : ℕ) → Told
  Abandoned : Told
  Refused : (refusal : Refusal) → Told
  ServerOk : Told
  -- the server has the copies of this one
  Repaired : (peer : ℕ) → Told
  ServerRefused : (refusal : ServerRefusal) → Told
  StrayBad : Told
