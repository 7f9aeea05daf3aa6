-- What a node must not forget where nodes are replaced.
use Rattle.std.specs.Prelude.{◌≡◌, ℕ, List, [], ◌∷◌, Bool, true, ◌==◌, ◌&&◌, not, Option, Some, None, fold, if◌then◌else◌}
use Rattle.gq_tag.specs.Tag.{File, is_file}
use Rattle.gq_cluster.specs.Facts.{OwnFact, Had}
use Rattle.gq_cluster.specs.Cluster.{Part, fact_of}
use Rattle.gq_cluster.specs.Keeping.{KeptPart, kept_of, with_fact}
use Rattle.gq_replace.specs.Fleet.{World, Fleet, FleetStep, Does, Takes, new_fleet, first_part, after_fleet_step, fleet_after, AllMayHappen}

-- what is kept of a part, and which files it lacks
pub record KeptFiles : Type 0 where
  pub kept : KeptPart
  pub lacks : File → Bool

abbrev pub files_of_part : Part → KeptFiles
files_of_part part = record { kept = kept_of part; lacks = part.lacks }

-- what is kept after one fact more, if there is one: a node that was given a file has it
abbrev pub lacks_behind : Option OwnFact → (File → Bool) → File → Bool
lacks_behind (Some (Had file copy)) lacks f = lacks f && not (is_file file f)
lacks_behind _ lacks f = lacks f

abbrev pub with_fleet_fact : KeptFiles → Option OwnFact → KeptFiles
with_fleet_fact files fact = record { kept = with_fact files.kept fact; lacks = λ f. lacks_behind fact files.lacks f }

-- the fact of a step at node n, none where the step is another's
abbrev pub fleet_fact : World → Fleet → (n : ℕ) → FleetStep → Option OwnFact
fleet_fact w u n (Does node act) = if n == node then fact_of w.setting (u.part node) act else None
fleet_fact w u n (Takes node peer file copy) = if n == node then Some (Had file copy) else None
fleet_fact w u n _ = None

-- the facts of steps at node n, in order
abbrev pub fleet_facts : World → Fleet → (n : ℕ) → List FleetStep → List (Option OwnFact)
fleet_facts w u n [] = []
fleet_facts w u n (step ∷ steps) = fleet_fact w u n step ∷ fleet_facts w (after_fleet_step w u step) n steps

-- from its first plan and its facts alone, in order, each node that was started knows again what must not be forgotten, and which files it lacks
abbrev pub AllFleetFactsSuffice : Type 0
AllFleetFactsSuffice = (w : World) (steps : List FleetStep) (n : ℕ) → AllMayHappen w new_fleet steps →
    let u : Fleet = fleet_after w steps in
    u.begun n ≡ true → files_of_part (u.part n) ≡ fold with_fleet_fact (files_of_part (first_part w n (u.first_plan n))) (fleet_facts w new_fleet n steps)
