-- Whatever happens at the nodes, step by step, is what happens in the cluster.
use Rattle.std.proofs.Common.{◌≡◌, ℕ, ◌+◌, ◌*◌, ◌≤◌, Bool, true, false, not, List, [], ◌∷◌, ◌++◌, length, refl, sym, ap, subst, arith, append-nil, append_assoc}
use Rattle.std.specs.Prelude.{fold, if◌then◌else◌}
use Rattle.std.proofs.lemmas.Bool.{and_parts}
use Rattle.std.proofs.lemmas.Nat.{mul-le}
use Rattle.std.proofs.lemmas.List.{length-append}
use Rattle.std.proofs.lemmas.List.Sums.{fold-append}
use Rattle.gq_grid.specs.Grid.{Grid}
use Rattle.gq_tag.specs.Tag.{first_copy, greatest}
use Rattle.gq_desk.specs.declared.plans.TenantRow.{TenantRow}
use Rattle.gq_desk.specs.declared.volumes.VolumeRow.{VolumeRow}
use Rattle.gq_cluster.specs.Cluster.{Setting, Cluster, NodeStep, Loses, new_cluster, after_step, cluster_after, CanFollow}
use Rattle.gq_cluster.specs.Laws.{setting_of, StepsEnough}
use Rattle.gq_cluster.proofs.Clusters.{all_clusters_serve}
use Rattle.gq_cluster.proofs.Registers.{all_clusters_legal}
use Rattle.gq_cluster.proofs.OwnWrites.{all_clusters_own_writes_rise}
use Rattle.gq_replace.specs.Plans.{Plan, IsChain, place_of}
use Rattle.gq_replace.specs.Fleet.{World, Fleet, FleetStep, Begins, StartsAgain, Does, Answers, Hears, Gives, Takes, new_fleet, plan_of, heard_all, with_heard, is_ready_by, with_ready, after_fleet_step, fleet_after, MayHappen, AllMayHappen, ends_of_gone, node_steps, all_node_steps}
use Rattle.gq_replace.specs.Laws.{SaidBy, AllSaid, Follows, world_of, HomesStand, AllFollow, AllRight}
use Rattle.gq_replace.proofs.Reached.{bounded, can_append}
use Rattle.gq_replace.proofs.Sound.{Sound, new_sound, has_it}
use Rattle.gq_replace.proofs.Agreeing.{Agrees, Known, Moved, new_agrees}
use Rattle.gq_replace.proofs.Moving.{begins_moves, again_moves, does_moves}
use Rattle.gq_replace.proofs.Taking.{answers_moves, heard_known, gives_moves, takes_moves}
use Rattle.gq_replace.proofs.Readying.{ready_moves}

-- ---- one step

pub moves : (w : World) (u : Fleet) (c : Cluster) (step : FleetStep) → Known w u c → HomesStand w.setting.grid w.setting.home → MayHappen w u step →
    Moved w c (after_fleet_step w u step) (node_steps w u step) × SaidBy w u c step
moves w u c (Begins node plan) known stand may = (begins_moves w u c node plan known may.0 may.1 may.2, tt)
moves w u c (StartsAgain node plan) known stand may = (again_moves w u c node plan known may.0 may.1 may.2, tt)
moves w u c (Does node act) known stand may = does_moves w u c node act known may.0 may.1
moves w u c (Answers node new) known stand may = (answers_moves w u c node new known may.0 may.1, tt)
moves w u c (Gives peer node file) known stand may = (gives_moves w u c peer node file known may.0 may.1 may.2 may.3, tt)
moves w u c (Takes node peer file copy) known stand may = (takes_moves w u c node peer file copy known may.0 may.1 may.2, tt)
moves w u c (Hears node other) known stand may = (by (is_ready_by w node other u) refl, tt)
  where
    heard : Fleet
    heard = with_heard node other u

    then_known : Known w heard c
    then_known = heard_known w u c node other known may.2

    by : (b : Bool) → is_ready_by w node other u ≡ b →
        Moved w c (if b then with_ready w node heard else heard) (if b then ends_of_gone w (plan_of w u node) ++ Loses (place_of node) (w.plans (u.first_plan node)).volumes ∷ [] else [])
    by false is = record { can = tt; sound = then_known.sound; agrees = then_known.agrees }
    by true is =
        let parts = and_parts (not (u.ready node)) (heard_all w heard node) is in
        ready_moves w heard c node then_known stand may.0 may.1 parts.1 (unready (u.ready node) parts.0)
      where
        unready : (b : Bool) → not b ≡ true → b ≡ false
        unready true e = sym e
        unready false e = refl

-- ---- all steps

module _ (grid : Grid) (row : TenantRow) (home : ℕ → ℕ) (opens : List VolumeRow) (plans : ℕ → Plan) (chain : IsChain plans) (stand : HomesStand grid home) where
  abbrev w : World
  w = world_of grid row home opens plans

  abbrev s : Setting
  s = setting_of grid row home opens

  -- what steps lead to, behind those of the cluster that were done before
  record Goes (u : Fleet) (before : List NodeStep) (steps : List FleetStep) : Type 0 where
    can : CanFollow s new_cluster (before ++ all_node_steps w u steps)
    said : AllSaid w u (cluster_after s before) steps
    agrees : Agrees w (fold (after_fleet_step w) u steps) (cluster_after s (before ++ all_node_steps w u steps))

  -- so many steps of the cluster are enough
  abbrev Enough : ℕ → Type 0
  Enough most = length opens + most * (row.sessions + 1) ≤ row.steps

  fewer : (steps : List NodeStep) (most : ℕ) → Enough most → length steps ≤ most → StepsEnough row opens steps
  fewer steps most enough few = let less = mul-le (length steps) (row.sessions + 1) most (row.sessions + 1) few (omega arith) in omega (arith, enough, less)

  -- a step in front of others
  goes_on : (step : FleetStep) (steps : List FleetStep) (u : Fleet) (before : List NodeStep) → SaidBy w u (cluster_after s before) step → Goes (after_fleet_step w u step) (before ++ node_steps w u step) steps → Goes u before (step ∷ steps)
  goes_on step steps u before said later = record {
    can = (let P : List NodeStep → Type 0 = λ z. CanFollow s new_cluster z in subst P (append_assoc before now (all_node_steps w v steps)) later.can);
    said = (said, (let P : Cluster → Type 0 = λ z. AllSaid w v z steps in subst P (fold-append (after_step s) new_cluster before now) later.said));
    agrees = (let P : List NodeStep → Type 0 = λ z. Agrees w (fold (after_fleet_step w) v steps) (cluster_after s z) in subst P (append_assoc before now (all_node_steps w v steps)) later.agrees);
  }
    where
      v : Fleet
      v = after_fleet_step w u step

      now : List NodeStep
      now = node_steps w u step

  known_at : (u : Fleet) (before : List NodeStep) → CanFollow s new_cluster before → Sound w u → Agrees w u (cluster_after s before) → StepsEnough row opens before → Known w u (cluster_after s before)
  known_at u before can sound agrees enough = record {
    chain = chain;
    sound = sound;
    agrees = agrees;
    bounded = bounded grid row home opens before enough can;
    reached = record { steps = before; is = refl };
  }

  goes : (steps : List FleetStep) (u : Fleet) (before : List NodeStep) (most : ℕ) → CanFollow s new_cluster before → Sound w u → Agrees w u (cluster_after s before) → Enough most → length before + length (all_node_steps w u steps) ≤ most → AllMayHappen w u steps → Goes u before steps
  goes [] u before most can sound agrees enough few may = record {
    can = (let P : List NodeStep → Type 0 = λ z. CanFollow s new_cluster z in subst P (sym (append-nil before)) can);
    said = tt;
    agrees = (let P : List NodeStep → Type 0 = λ z. Agrees w u (cluster_after s z) in subst P (sym (append-nil before)) agrees);
  }
  goes (step ∷ steps) u before most can sound agrees enough few may =
      let c : Cluster = cluster_after s before in
      let v : Fleet = after_fleet_step w u step in
      let now : List NodeStep = node_steps w u step in
      let sizes : length (now ++ all_node_steps w v steps) ≡ length now + length (all_node_steps w v steps) = length-append now (all_node_steps w v steps) in
      let size_before : length (before ++ now) ≡ length before + length now = length-append before now in
      let known : Known w u c = known_at u before can sound agrees (fewer before most enough (omega (arith, few, sizes))) in
      let moved : Moved w c v now × SaidBy w u c step = moves w u c step known stand may.0 in
      let P : Cluster → Type 0 = λ z. Agrees w v z in
      goes_on step steps u before moved.1
      (goes steps v (before ++ now) most (can_append s new_cluster before now can moved.0.can) moved.0.sound (subst P (sym (fold-append (after_step s) new_cluster before now)) moved.0.agrees) enough (omega (arith, few, size_before, sizes)) may.1)

  all_go : (steps : List FleetStep) → StepsEnough row opens (all_node_steps w new_fleet steps) → AllMayHappen w new_fleet steps → Goes new_fleet [] steps
  all_go steps enough may = goes steps new_fleet [] (length (all_node_steps w new_fleet steps)) tt (new_sound w) (new_agrees w) enough (omega arith) may

  follows : (steps : List FleetStep) → StepsEnough row opens (all_node_steps w new_fleet steps) → AllMayHappen w new_fleet steps → Follows w steps
  follows steps enough may = record {
    can = gone.can;
    said = gone.said;
    alike = record {
      sessions = λ k still. (gone.agrees.same k still).session;
      has = λ node file still it. (gone.agrees.holds node file still (has_it w (fleet_after w steps) node file it)).has;
      copies = λ node file still it. ap (λ z. greatest (first_copy ∷ z)) (gone.agrees.holds node file still (has_it w (fleet_after w steps) node file it)).brought;
      written = gone.agrees.written;
    };
  }
    where
      gone : Goes new_fleet [] steps
      gone = all_go steps enough may

-- ---- the laws

pub all_follow : AllFollow
all_follow grid row home opens plans steps stand chain enough may = follows grid row home opens plans chain stand steps enough may

pub all_right : AllRight
all_right grid row home opens plans steps stand chain enough may =
    let can = (all_follow grid row home opens plans steps stand chain enough may).can in
    record {
      served = all_clusters_serve grid row home opens (all_node_steps (world_of grid row home opens plans) new_fleet steps) enough can;
      legal = λ file. all_clusters_legal grid row home opens (all_node_steps (world_of grid row home opens plans) new_fleet steps) enough can file;
      own_writes = λ file. all_clusters_own_writes_rise grid row home opens (all_node_steps (world_of grid row home opens plans) new_fleet steps) enough can file;
    }
