-- A worked case, computed: of two nodes in one column one is lost, and replaced by a new one, to which the other gives its file. No proof rests on it.
use Rattle.std.proofs.Common.{◌≡◌, ℕ, zero, suc, ◌<◌, Bool, true, false, List, [], ◌∷◌, ◌++◌, refl, arith}
use Rattle.std.specs.Prelude.{◌==◌, if◌then◌else◌}
use Rattle.std.specs.List.{list_any}
use Rattle.gq_grid.specs.Grid.{Grid}
use Rattle.gq_tag.specs.Tag.{File, first_copy}
use Rattle.gq_desk.specs.declared.plans.TenantRow.{TenantRow}
use Rattle.gq_desk.specs.declared.volumes.VolumeRow.{VolumeRow}
use Rattle.gq_phase.specs.Quorums.{collect_quorum, store_quorum, ends_collect, ends_store, are_peers}
use Rattle.gq_cluster.specs.Laws.{StepsEnough}
use Rattle.gq_replace.specs.Plans.{Plan, IsChain, place_of}
use Rattle.gq_replace.specs.Fleet.{World, FleetStep, Begins, StartsAgain, Answers, Hears, Gives, Takes, new_fleet, fleet_after, AllMayHappen, all_node_steps}
use Rattle.gq_replace.specs.Laws.{HomesStand, world_of}
use Rattle.gq_looks.specs.Losses.{loses_it, CanTell, losses_told}
use Rattle.gq_looks.proofs.Kept.{answers_kept}

-- two servers in one column; session 1 has its home at node 0, session 2 at node 1, and node 64 replaces node 0
abbrev column : Grid
column = record { rows = 2; cols = 1 }

abbrev row : TenantRow
row = record { name = 97 ∷ []; share = 4; sessions = 2; steps = 1000; most_blocks = 16; most_volumes = 64 }

abbrev home : ℕ → ℕ
home k = if k == 2 then 1 else 0

abbrev opens : List VolumeRow
opens = record { files = 1; blocks = 1 } ∷ []

abbrev plans : ℕ → Plan
plans zero = record { lost = []; volumes = 1 }
plans (suc j) = record { lost = 0 ∷ []; volumes = 1 }

abbrev two : World
two = world_of column row home opens plans

abbrev file : File
file = record { volume = 0; place = 0 }

-- both nodes are started
abbrev started : List FleetStep
started = Begins 0 0 ∷ Begins 1 0 ∷ []

-- node 0 is lost: the other has the next plan, and the new one hears that
abbrev lost : List FleetStep
lost = StartsAgain 1 1 ∷ Begins 64 1 ∷ Answers 1 64 ∷ Hears 64 1 ∷ []

-- the new one has the file
abbrev given : List FleetStep
given = Gives 1 64 file ∷ Takes 64 1 file first_copy ∷ []

pub homes_stand : HomesStand column home
homes_stand k = by (k == 2)
  where
    by : (b : Bool) → place_of (if b then 1 else 0) < 2
    by true = omega arith
    by false = omega arith

pub is_chain : IsChain plans
is_chain zero zero low = record { more = []; lost = refl; volumes = omega arith }
is_chain zero (suc j) low = record { more = 0 ∷ []; lost = refl; volumes = omega arith }
is_chain (suc i) zero low = absurd (omega arith)
is_chain (suc i) (suc j) low = record { more = []; lost = refl; volumes = omega arith }

-- a step, and those behind it
infixr 4 ◌and◌
◌and◌ : {P Q : Type 0} → P → Q → P × Q
p and q = (p, q)

pub may_happen : AllMayHappen two new_fleet ((started ++ lost) ++ given)
unfolding collect_quorum store_quorum ends_collect ends_store are_peers
may_happen =
    (refl, refl, refl)
    and (refl, refl, refl)
    and ((refl, refl), omega arith, refl)
    and (refl, refl, refl)
    and ((refl, refl), refl)
    and ((refl, refl), omega arith, (0, omega arith, refl))
    and ((refl, refl), refl, refl, refl)
    and ((refl, refl), refl, (0, omega arith, refl))
    and tt

enough : StepsEnough row opens (all_node_steps two new_fleet ((started ++ lost) ++ given))
enough = omega arith

-- with the next plan node 1 tells its copy, and the new node its own behind that: both tell one loss
pub tells : CanTell two (fleet_after two (started ++ lost)) 1 file
tells = record { acts = (refl, refl); place = omega arith; has = refl }

pub tells_too : CanTell two (fleet_after two ((started ++ lost) ++ given)) 64 file
tells_too = record { acts = (refl, refl); place = omega arith; has = refl }

-- so the law speaks of them
pub stood : list_any (loses_it 1 file) (all_node_steps two (fleet_after two (started ++ lost)) given) ≡ false
stood = answers_kept column row home opens plans (started ++ lost) given 1 64 file homes_stand is_chain enough may_happen tells tells_too refl

-- What node 0 told before it was lost told none: its server lost the file, and that answer is not counted with theirs.
pub tells_before : CanTell two (fleet_after two started) 0 file
tells_before = record { acts = (refl, refl); place = omega arith; has = refl }

pub told_other : losses_told two (fleet_after two started) 0 ≡ 0
told_other = refl

pub lost_it : list_any (loses_it 0 file) (all_node_steps two (fleet_after two started) (lost ++ given)) ≡ true
lost_it = refl
