-- The law of clusters: whatever happens at the nodes is a run of the service, in the model.
use Rattle.std.specs.Prelude.{◌≡◌, ℕ, ◌+◌, ◌*◌, ◌≤◌, List, [], ◌∷◌, ◌++◌, Option, Some, None, length, map, filter_map}
use Rattle.gq_grid.specs.Grid.{Grid}
use Rattle.gq_tag.specs.Tag.{File, OwnMessage}
use Rattle.gq_desk.specs.declared.plans.TenantRow.{TenantRow}
use Rattle.gq_desk.specs.declared.volumes.VolumeRow.{VolumeRow}
use Rattle.gq_model.specs.declared.events.Line.{Line}
use Rattle.gq_model.specs.declared.events.Line.TheVariants.{NewVolume}
use Rattle.gq_model.specs.declared.events.ServerLine.TheVariants.{Lost as ServerLost, Repaired as ServerRepaired}
use Rattle.gq_model.specs.Said.{said_in}
use Rattle.gq_model.specs.Trace.{Turn, Own, Serving, Leaping, Losing, Returning, Trace, State, Past, questions, sent, lacks, session, volumes, held}
use Rattle.gq_model.specs.Lone.{Step, step_at, after, past_of, message_of_turn}
use Rattle.gq_cluster.specs.Cluster.{Setting, Cluster, NodeStep, Loses, Returns, Arrival, LineCame, LetterCame, Exchange, new_cluster, copy_in, cluster_after, CanFollow, exchanges}

-- ---- what is done in a run of the model

abbrev pub arrival_by : Line → Option OwnMessage → Arrival
arrival_by line None = LineCame line
arrival_by line (Some letter) = LetterCame letter

-- the exchange of a turn; neither a server line nor a turn that no line makes is one
abbrev pub turn_exchanges : State → Turn → Step → List Exchange
turn_exchanges state (Own line) step = record { came = arrival_by line (message_of_turn state (Own line)); said = said_in step.told; new = step.new } ∷ []
turn_exchanges state (Serving line) step = []
turn_exchanges state (Leaping k op number) step = []
turn_exchanges state (Losing s volumes) step = []
turn_exchanges state (Returning s f peer copy) step = []

-- the exchanges of turns, from a past on, in order
abbrev pub exchanges_from : Grid → TenantRow → Past → List Turn → List Exchange
exchanges_from grid row past [] = []
exchanges_from grid row past (turn ∷ turns) = turn_exchanges (questions past.trace) turn (step_at grid row past turn) ++ exchanges_from grid row (after grid row past turn) turns

-- ---- the law

-- the volumes are opened first, in order
abbrev pub openings : List VolumeRow → List Turn
openings opens = map (λ v. Own (NewVolume v.files v.blocks)) opens

abbrev pub opened : Grid → TenantRow → List VolumeRow → Past
opened grid row opens = past_of grid row (openings opens)

-- the tenant's run at nodes, where the sessions have these homes, and the volumes are those that the openings leave
abbrev pub setting_of : Grid → TenantRow → (ℕ → ℕ) → List VolumeRow → Setting
setting_of grid row home opens = record { grid = grid; row = row; home = home; volumes = volumes (opened grid row opens).trace }

-- the trace has what the cluster has: at each server the copies of its node, of each session what its home has, and all that was sent
pub record Has (home : ℕ → ℕ) (trace : Trace) (c : Cluster) : Type 0 where
  pub lacking : (server : ℕ) (file : File) → lacks trace server file ≡ (c.part server).lacks file
  pub copies : (server : ℕ) (file : File) → held (questions trace) server file ≡ copy_in (c.part server) file
  pub sessions : (k : ℕ) → session trace k ≡ (c.part (home k)).session k
  pub sent : sent trace ≡ c.written

-- what becomes of disks, among turns, and among node steps
abbrev pub disk_turn : Turn → Option Turn
disk_turn (Losing server volumes) = Some (Losing server volumes)
disk_turn (Returning server file peer copy) = Some (Returning server file peer copy)
disk_turn (Serving (ServerLost server)) = Some (Serving (ServerLost server))
disk_turn (Serving (ServerRepaired server)) = Some (Serving (ServerRepaired server))
disk_turn _ = None

abbrev pub disk_step : NodeStep → Option Turn
disk_step (Loses server volumes) = Some (Losing server volumes)
disk_step (Returns server file peer copy) = Some (Returning server file peer copy)
disk_step _ = None

-- a run of the service that does what was done at the nodes
pub record IsServed (grid : Grid) (row : TenantRow) (home : ℕ → ℕ) (opens : List VolumeRow) (steps : List NodeStep) : Type 0 where
  -- behind the openings, the lines of sessions, deliveries, server lines, and leaps
  pub turns : List Turn
  -- of the turns those that lose a disk, or give a copy back, are those of the node steps
  pub disks : filter_map disk_turn turns ≡ filter_map disk_step steps
  -- by which the same comes to sessions and servers, in the same order, and the same is told and sent
  pub alike : exchanges_from grid row (opened grid row opens) turns ≡ exchanges (setting_of grid row home opens) new_cluster steps
  -- and at the end the model has what the nodes have
  pub has : Has home (past_of grid row (openings opens ++ turns)).trace (cluster_after (setting_of grid row home opens) steps)

-- the tenant's steps are enough: one for each volume, and for each node step as many as the tenant has sessions, and one more
abbrev pub StepsEnough : TenantRow → List VolumeRow → List NodeStep → Type 0
StepsEnough row opens steps = length opens + length steps * (row.sessions + 1) ≤ row.steps

-- whatever is lost, late, repeated or out of order, whoever is taken to be up, whichever nodes start again, and whichever disks are lost
abbrev pub AllClustersServe : Type 0
AllClustersServe = (grid : Grid) (row : TenantRow) (home : ℕ → ℕ) (opens : List VolumeRow) (steps : List NodeStep) →
    StepsEnough row opens steps → CanFollow (setting_of grid row home opens) new_cluster steps → IsServed grid row home opens steps
