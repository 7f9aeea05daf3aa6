-- What a node tells of a look is what its server has in the fleet that the law of nodes makes of the run.
use Rattle.std.specs.Prelude.{◌≡◌, ℕ, ◌<◌, List, [], ◌∷◌, ◌++◌, length, map, Option, Some, None, if◌then◌else◌}
use Rattle.gq_tag.specs.Tag.{File}
use Rattle.gq_phase.specs.declared.Row.{Row}
use Rattle.gq_phase.specs.Phase.{listed_row}
use Rattle.gq_model.specs.declared.events.Line.TheVariants.{Bad}
use Rattle.gq_model.specs.Trace.{files_of}
use Rattle.gq_keeper.specs.Runs.{Did}
use Rattle.gq_cluster.specs.Cluster.{copy_in}
use Rattle.gq_replace.specs.Fleet.{Fleet, IsActing, fleet_after}
use Rattle.gq_node.specs.declared.output.Answer.TheVariants.{Looked}
use Rattle.gq_node.specs.declared.output.Look.{Look}
use Rattle.gq_node.specs.Joining.{files_in_volume}
use Rattle.gq_node.specs.Nodes.{new_nodes}
use Rattle.gq_wire.specs.declared.incoming.Incoming.TheVariants.{Look as AsksLook}
use Rattle.gq_wire.specs.Incoming.{incoming_of}
use Rattle.gq_wire.specs.Texts.{told_line}
use Rattle.gq_parts.specs.AllNodes.{GridPlans, volumes_in, world_at, AreSound, AllNodes, AllNew, Happening, Took, AllHappen, all_events, LinesCanCome, fleet_steps}

-- the fleet behind these happenings, for the tenant at place t
abbrev pub fleet_at : GridPlans → (t : ℕ) → List Happening → Fleet
fleet_at g t hs = fleet_after (world_at g t).world (fleet_steps g t (all_events g t hs))

-- the length and the tag of the copy of the file that the server of node n has in it, unless it lacks the file
abbrev pub row_in : Fleet → (n : ℕ) → File → Option Row
row_in u n file = if (u.part n).lacks file then None else Some (listed_row (copy_in (u.part n) file))

-- of each file of the volume, with how many losses the plan tells of with which the node was started last
abbrev pub look_in : GridPlans → Fleet → (t n mark volume : ℕ) → Look
look_in g u t n mark volume = record {
  mark = mark;
  volume = volume;
  losses = length (g.lost (u.last_plan n));
  rows = map (row_in u n) (files_in_volume volume (files_of (volumes_in g (u.last_plan n) t) volume));
}

-- the node acts in the fleet, and tells that
pub record TellsOfFleet (g : GridPlans) (u : Fleet) (t n mark volume : ℕ) (did : Did) : Type 0 where
  pub acts : IsActing u n
  pub told : did.told ≡ told_line g.plan n t Bad (Looked (look_in g u t n mark volume))

-- Whatever happens to nodes of which none was ever started: where the last is that a tenant's look at a volume comes, and all that came for him can come.
abbrev pub AllLooksOfFleet : Type 0
AllLooksOfFleet =
    (g : GridPlans) (first last : AllNodes) (before : List Happening) (t n p : ℕ) (bytes : List ℕ) (did : Did) (mark volume : ℕ) → let hs : List Happening = before ++ Took n p bytes did ∷ [] in
    AreSound g → t < length g.plan.rows → AllNew first → AllHappen g first hs last → LinesCanCome g t (new_nodes (world_at g t)) hs →
    incoming_of g.plan n did.line ≡ AsksLook t mark volume → volume < length (volumes_in g p t) → TellsOfFleet g (fleet_at g t before) t n mark volume did
