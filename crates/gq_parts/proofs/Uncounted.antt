-- Nodes count no steps: how many the tenant's row gives it changes nothing of what they do.
use Rattle.std.proofs.Common.{◌≡◌, List, refl, ℕ}
use Rattle.gq_desk.specs.declared.plans.TenantRow.{TenantRow}
use Rattle.gq_desk.specs.declared.volumes.VolumeRow.{VolumeRow}
use Rattle.gq_replace.specs.Fleet.{World, Fleet, FleetStep, all_node_steps}
use Rattle.gq_node.specs.Nodes.{NodeWorld, Nodes, Event, AllCanCome, AllOpen, all_steps}

-- the tenant has so many steps
abbrev pub world_of : ℕ → World → World
world_of many w = record w { setting = record w.setting { row = record w.setting.row { steps = many } } }

abbrev pub with_steps : ℕ → NodeWorld → NodeWorld
with_steps many w = record w { world = world_of many w.world }

pub same_can : (many : ℕ) (w : NodeWorld) (nodes : Nodes) (events : List Event) → AllCanCome w nodes events → AllCanCome (with_steps many w) nodes events
same_can many w nodes events can = can

pub same_steps : (many : ℕ) (w : NodeWorld) (nodes : Nodes) (events : List Event) → all_steps (with_steps many w) nodes events ≡ all_steps w nodes events
same_steps many w nodes events = refl

pub same_node_steps : (many : ℕ) (w : World) (u : Fleet) (steps : List FleetStep) → all_node_steps (world_of many w) u steps ≡ all_node_steps w u steps
same_node_steps many w u steps = refl

-- and so with the volumes that may be opened
pub same_open : (many : ℕ) (row : TenantRow) (before opens : List VolumeRow) (sessions : ℕ) → AllOpen row before opens → AllOpen (record row { sessions = sessions; steps = many }) before opens
same_open many row before opens sessions open_all = open_all
