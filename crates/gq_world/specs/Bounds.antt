-- What holds of all that is known of a tenant's run: its numbers are at most the steps taken, and its messages are ones that
-- their servers and sessions can take. These are questions to the model alone; no table is named.
use Rattle.std.specs.Prelude.{◌≡◌, ℕ, ◌+◌, ◌*◌, ◌<◌, ◌≤◌, List, true, false, Option, Some, None, All, length, slice_get}
use Rattle.std.specs.List.{list_all}
use Rattle.gq_grid.specs.Grid.{Grid}
use Rattle.gq_tag.specs.declared.TheConstants.{BLOCK_BYTES}
use Rattle.gq_tag.specs.declared.StoredCopy.{StoredCopy}
use Rattle.gq_tag.specs.declared.Body.{Body}
use Rattle.gq_tag.specs.declared.Body.TheVariants.{Ask, Copy, Store, Stored}
use Rattle.gq_tag.specs.Tag.{File, OwnMessage}
use Rattle.gq_desk.specs.declared.plans.TenantRow.{TenantRow}
use Rattle.gq_desk.specs.declared.volumes.VolumeRow.{VolumeRow}
use Rattle.gq_desk.specs.Volumes.{is_sized}
use Rattle.gq_phase.specs.Phase.{Task, Writing, Reading, Listing, Operation, round_file, is_collect, heard_copies, stored_copy}
use Rattle.gq_model.specs.Trace.{State, Session, files_of, operation_with}

-- how many bytes each file of the volume may hold, 0 where there is no such volume
abbrev pub bytes_of : Option VolumeRow → ℕ
bytes_of None = 0
bytes_of (Some volume) = BLOCK_BYTES * volume.blocks

abbrev pub room : List VolumeRow → ℕ → ℕ
room volumes v = bytes_of (slice_get volumes v)

-- the file is there
abbrev pub IsThere : List VolumeRow → File → Type 0
IsThere volumes file = file.place < files_of volumes file.volume

-- a copy of a number of at most n, of at most so many bytes
pub record CopyFits (n size : ℕ) (copy : StoredCopy) : Type 0 where
  pub number : copy.tag.number ≤ n
  pub long : length copy.bytes ≤ size

abbrev pub BodyFits : ℕ → ℕ → Body → Type 0
BodyFits n size Ask = Unit {0}
BodyFits n size (Copy copy) = CopyFits n size copy
BodyFits n size (Store copy) = CopyFits n size copy
BodyFits n size Stored = Unit {0}

-- ---- tasks and operations

-- the volume of the task's files
abbrev pub volume_of : Task → ℕ
volume_of (Writing file bytes) = file.volume
volume_of (Reading file) = file.volume
volume_of (Listing volume files) = volume

-- the task's files are there, and have room for what is to be written
abbrev pub TaskFits : List VolumeRow → Task → Type 0
TaskFits volumes (Writing file bytes) = IsThere volumes file × (length bytes ≤ room volumes file.volume)
TaskFits volumes (Reading file) = IsThere volumes file
TaskFits volumes (Listing volume files) = files ≤ files_of volumes volume

-- the operation's numbers are at most n, its round's file is there, and all that it heard and collected fits
pub record OperationFits (n : ℕ) (volumes : List VolumeRow) (o : Operation) : Type 0 where
  pub op : o.op ≤ n
  pub floor : o.floor ≤ n
  pub task : TaskFits volumes o.task
  pub file : (round_file o.task o.round).place < files_of volumes (volume_of o.task)
  pub collects : is_collect o.round ≡ true → o.round ≡ 2 * length o.collected + 1
  pub stores : is_collect o.round ≡ false → o.round ≡ 2 * length o.collected
  pub heard : All (CopyFits n (room volumes (volume_of o.task))) (heard_copies o.heard)
  pub stored : CopyFits n (room volumes (volume_of o.task)) (stored_copy o.collected)

-- ---- sessions and messages

pub record SessionFits (n : ℕ) (volumes : List VolumeRow) (k : ℕ) (s : Session) : Type 0 where
  pub op : s.op ≤ n
  pub floor : s.floor ≤ n
  pub works : (task : Task) → s.current ≡ Some task → OperationFits n volumes (operation_with k s task)

-- the message has a server of the grid, a session of the row and a file that is there, which has room for its copy
pub record MessageFits (grid : Grid) (row : TenantRow) (n : ℕ) (volumes : List VolumeRow) (message : OwnMessage) : Type 0 where
  pub server : message.server < grid.rows * grid.cols
  pub first : 1 ≤ message.session
  pub last : message.session ≤ row.sessions
  pub file : IsThere volumes message.file
  pub body : BodyFits n (room volumes message.file.volume) message.body

-- the message is of an operation that its session began, where that is its last one of a round that began, and where it has it of a
-- file of its volume
pub record IsOfSession (s : Session) (message : OwnMessage) : Type 0 where
  pub begun : message.op ≤ s.op
  pub round : message.op ≡ s.op → message.round ≤ s.round
  pub volume : (task : Task) → s.current ≡ Some task → message.op ≡ s.op → message.file.volume ≡ volume_of task

-- ---- all of it

pub record IsBounded (grid : Grid) (row : TenantRow) (n : ℕ) (state : State) : Type 0 where
  pub messages : All (MessageFits grid row n state.volumes) state.sent
  pub owners : All (λ message. IsOfSession (state.session message.session) message) state.sent
  pub brought : (server : ℕ) (file : File) → All (CopyFits n (room state.volumes file.volume)) (state.brought server file)
  pub sessions : (k : ℕ) → SessionFits n state.volumes k (state.session k)
  pub sized : list_all (is_sized row.most_blocks) state.volumes ≡ true
