-- A look at a file: what servers were seen to have of it, each at a moment of its own.
--
-- The words: a *moment* of a run is how many of its turns have passed. A look goes on from one moment to another, and at each moment between it may
-- *see* a server, with the copy that it then has.
use Rattle.std.specs.Prelude.{◌≡◌, ℕ, ◌+◌, ◌-◌, ◌*◌, ◌≤◌, List, length, map, take, drop, Bool, true, false, ◌==◌, Some, Contains}
use Rattle.std.specs.List.{list_any}
use Rattle.gq_grid.specs.Grid.{Grid, Servers}
use Rattle.gq_tag.specs.declared.StoredCopy.{StoredCopy}
use Rattle.gq_tag.specs.Tag.{File, greatest, is_less}
use Rattle.gq_desk.specs.declared.plans.TenantRow.{TenantRow}
use Rattle.gq_phase.specs.Quorums.{ends_collect, ends_store}
use Rattle.gq_model.specs.Trace.{Turn, Trace, is_loss, lacks, held, questions}
use Rattle.gq_model.specs.Lone.{past_of}
use Rattle.gq_laws.specs.declared.ops.Kind.TheVariants.{Read as Reads}
use Rattle.gq_laws.specs.declared.ops.Op.{Op}

-- a server, when it was seen, and the copy that it had then
pub record Seen : Type 0 where
  pub server : ℕ
  pub moment : ℕ
  pub copy : StoredCopy

-- when the look began and ended; the servers from which it takes its copy, and those that confirm it
pub record Look : Type 0 where
  pub begin : ℕ
  pub end : ℕ
  pub collected : List Seen
  pub confirmed : List Seen

-- ---- in a run

-- what is known of the run at the moment
abbrev pub trace_at : Grid → TenantRow → List Turn → ℕ → Trace
trace_at grid row turns moment = (past_of grid row (take moment turns)).trace

-- the turns between two moments
abbrev pub turns_between : List Turn → (from to : ℕ) → List Turn
turns_between turns from to = take (to - from) (drop from turns)

-- whether one of the turns is a loss of the server's copy of the file
abbrev pub is_lost_by : List Turn → (server : ℕ) → File → Bool
is_lost_by turns server file = list_any (λ turn. is_loss turn server file) turns

-- the server was seen while the look went on; it had the file, and this copy of it, and lost it by no turn before the look ended
pub record WasSeen (grid : Grid) (row : TenantRow) (turns : List Turn) (file : File) (begin end : ℕ) (s : Seen) : Type 0 where
  pub after : begin ≤ s.moment
  pub before : s.moment ≤ end
  pub has : lacks (trace_at grid row turns s.moment) s.server file ≡ false
  pub copy : held (questions (trace_at grid row turns s.moment)) s.server file ≡ s.copy
  pub kept : is_lost_by (turns_between turns s.moment end) s.server file ≡ false

-- ---- what it tells

-- the servers that were seen, and those of them that had the tag or a greater one
abbrev pub servers_of : List Seen → Servers
servers_of seen server = list_any (λ s. s.server == server) seen

-- the greatest copy that was collected
abbrev pub copy_of : Look → StoredCopy
copy_of look = greatest (map (λ s. s.copy) look.collected)

-- Each server was seen so; those from which the copy is taken have a full row; and those that confirm it a full column, and no lesser tag.
pub record IsLook (grid : Grid) (row : TenantRow) (turns : List Turn) (file : File) (look : Look) : Type 0 where
  pub ends : look.begin ≤ look.end
  pub within : look.end ≤ length turns
  pub collected : (s : Seen) → Contains look.collected s → WasSeen grid row turns file look.begin look.end s
  pub confirmed : (s : Seen) → Contains look.confirmed s → WasSeen grid row turns file look.begin look.end s
  pub collects : ends_collect grid (servers_of look.collected) ≡ true
  pub confirms : ends_store grid (servers_of look.confirmed) ≡ true
  pub no_less : (s : Seen) → Contains look.confirmed s → is_less s.copy.tag (copy_of look).tag ≡ false

-- ---- among operations

-- Turns and looks in one list of places: between each turn and the next one there is a place at which looks begin, and behind it one at which
-- they end.
abbrev pub turn_place : ℕ → ℕ
turn_place i = 3 * i + 2

abbrev pub begin_place : ℕ → ℕ
begin_place moment = 3 * moment

abbrev pub end_place : ℕ → ℕ
end_place moment = 3 * moment + 1

-- the look as an operation, a read that tells the content
abbrev pub look_op : Look → Op
look_op look = record { kind = Reads (Some (copy_of look).bytes); session = 0; op = 0; begin = begin_place look.begin; end = Some (end_place look.end); tag = Some (copy_of look).tag }
