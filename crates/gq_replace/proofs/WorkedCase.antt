-- A worked case, computed: of two nodes in one column one is lost, and replaced by a new one, which is given the file by the other. No proof
-- rests on it. The words on quorums are opened here to compute.
use Rattle.std.proofs.Common.{◌≡◌, ℕ, zero, suc, ◌<◌, Bool, true, false, List, [], ◌∷◌, ◌++◌, map, refl, sym, subst, Some, None, arith}
use Rattle.std.specs.Prelude.{◌==◌, if◌then◌else◌}
use Rattle.gq_grid.specs.Grid.{Grid}
use Rattle.gq_tag.specs.declared.StoredCopy.{StoredCopy}
use Rattle.gq_tag.specs.declared.Body.{Body}
use Rattle.gq_tag.specs.declared.Body.TheVariants.{Ask, Copy, Store, Stored}
use Rattle.gq_tag.specs.Tag.{File, OwnMessage, first_copy}
use Rattle.gq_desk.specs.declared.plans.TenantRow.{TenantRow}
use Rattle.gq_desk.specs.declared.volumes.VolumeRow.{VolumeRow}
use Rattle.gq_phase.specs.declared.Outcome.TheVariants.{Wrote, Gave}
use Rattle.gq_phase.specs.Quorums.{collect_quorum, store_quorum, ends_collect, ends_store, are_peers}
use Rattle.gq_model.specs.declared.events.Line.TheVariants.{Write, Read}
use Rattle.gq_model.specs.declared.said.Said.TheVariants.{Began, Noted, Round, Done, Abandoned}
use Rattle.gq_cluster.specs.Cluster.{NodeStep, Acts, Restarts, Reserves, Loses, Returns, Asks, Comes, everyone, new_cluster, exchanges}
use Rattle.gq_cluster.specs.Laws.{StepsEnough}
use Rattle.gq_replace.specs.Plans.{Plan, IsChain, place_of}
use Rattle.gq_replace.specs.Fleet.{World, FleetStep, Begins, StartsAgain, Does, Answers, Hears, Gives, Takes, new_fleet, AllMayHappen, all_node_steps}
use Rattle.gq_replace.specs.Laws.{HomesStand, world_of, IsRight}
use Rattle.gq_replace.proofs.Following.{all_right}

-- two servers in one column; session 1 has its home at node 0, session 2 at node 1, and session 17 at node 64, which replaces node 0
abbrev column : Grid
column = record { rows = 2; cols = 1 }

abbrev row : TenantRow
row = record { name = 97 ∷ []; share = 4; sessions = 18; steps = 1000; most_blocks = 16; most_volumes = 64 }

abbrev home : ℕ → ℕ
home k = if k == 17 then 64 else if k == 2 then 1 else 0

abbrev opens : List VolumeRow
opens = record { files = 1; blocks = 1 } ∷ []

abbrev plans : ℕ → Plan
plans zero = record { lost = []; volumes = 1 }
plans (suc j) = record { lost = 0 ∷ []; volumes = 1 }

abbrev two : World
two = world_of column row home opens plans

abbrev file : File
file = record { volume = 0; place = 0 }

abbrev written : StoredCopy
written = record { tag = record { number = 1; session = 2 }; bytes = 104 ∷ 105 ∷ [] }

-- a letter of an operation of session 2, to the server or from it
abbrev letter : (op round server : ℕ) → Body → OwnMessage
letter op round server body = record { session = 2; op = op; round = round; server = server; file = file; body = body }

-- and one of the first operation of session 17
abbrev own_letter : (round server : ℕ) → Body → OwnMessage
own_letter round server body = record { session = 17; op = 1; round = round; server = server; file = file; body = body }

-- session 2 writes, and both nodes store
abbrev write_steps : List FleetStep
write_steps =
    Begins 0 0
    ∷ Begins 1 0
    ∷ Does 1 (Asks (Write 2 0 0 (104 ∷ 105 ∷ [])) everyone)
    ∷ Does 0 (Comes (letter 1 1 0 Ask) everyone)
    ∷ Does 1 (Comes (letter 1 1 0 (Copy first_copy)) everyone)
    ∷ Does 0 (Comes (letter 1 2 0 (Store written)) everyone)
    ∷ Does 1 (Comes (letter 1 2 1 (Store written)) everyone)
    ∷ Does 1 (Comes (letter 1 2 0 Stored) everyone)
    ∷ Does 1 (Comes (letter 1 2 1 Stored) everyone)
    ∷ []

-- Node 0 is taken for lost. Node 1 starts with the plan that says so, and session 2 reads: it asks node 64, which does not answer until it has
-- heard node 1 and was given its copy. What session 1 began meanwhile at node 0 is given up. Session 17, of the new node, then reads too.
abbrev read_steps : List FleetStep
read_steps =
    StartsAgain 1 1
    ∷ Begins 64 1
    ∷ Does 0 (Asks (Read 1 0 0) everyone)
    ∷ Does 1 (Asks (Read 2 0 0) everyone)
    ∷ Answers 1 64
    ∷ Hears 64 1
    ∷ Gives 1 64 file
    ∷ Takes 64 1 file written
    ∷ Does 64 (Comes (letter 1025 1 0 Ask) everyone)
    ∷ Does 1 (Comes (letter 1025 1 0 (Copy written)) everyone)
    ∷ Does 64 (Comes (letter 1025 2 0 (Store written)) everyone)
    ∷ Does 1 (Comes (letter 1025 2 1 (Store written)) everyone)
    ∷ Does 1 (Comes (letter 1025 2 0 Stored) everyone)
    ∷ Does 1 (Comes (letter 1025 2 1 Stored) everyone)
    ∷ Does 64 (Asks (Read 17 0 0) everyone)
    ∷ Does 64 (Comes (own_letter 1 0 Ask) everyone)
    ∷ Does 64 (Comes (own_letter 1 0 (Copy written)) everyone)
    ∷ Does 64 (Comes (own_letter 2 0 (Store written)) everyone)
    ∷ Does 1 (Comes (own_letter 2 1 (Store written)) everyone)
    ∷ Does 64 (Comes (own_letter 2 0 Stored) everyone)
    ∷ Does 64 (Comes (own_letter 2 1 Stored) everyone)
    ∷ []

abbrev steps : List FleetStep
steps = write_steps ++ read_steps

-- ---- the premises of the law

pub homes_stand : HomesStand column home
homes_stand k = by (k == 17) (k == 2)
  where
    by : (a b : Bool) → place_of (if a then 64 else if b then 1 else 0) < 2
    by true b = omega arith
    by false true = omega arith
    by false false = omega arith

pub is_chain : IsChain plans
is_chain zero zero low = record { more = []; lost = refl; volumes = omega arith }
is_chain zero (suc j) low = record { more = 0 ∷ []; lost = refl; volumes = omega arith }
is_chain (suc i) zero low = absurd (omega arith)
is_chain (suc i) (suc j) low = record { more = []; lost = refl; volumes = omega arith }

-- a step, and those behind it
infixr 4 ◌and◌
◌and◌ : {P Q : Type 0} → P → Q → P × Q
p and q = (p, q)

pub may_happen : AllMayHappen two new_fleet steps
unfolding collect_quorum store_quorum ends_collect ends_store are_peers
may_happen =
    (refl, refl, refl)
    and (refl, refl, refl)
    and ((refl, refl), (tt, refl))
    and ((refl, refl), (1, (0, omega arith, refl), record { place = refl; home = refl; has = refl }))
    and ((refl, refl), (0, (1, omega arith, refl), refl))
    and ((refl, refl), (1, (2, omega arith, refl), record { place = refl; home = refl; has = refl }))
    and ((refl, refl), (1, (3, omega arith, refl), record { place = refl; home = refl; has = refl }))
    and ((refl, refl), (0, (4, omega arith, refl), refl))
    and ((refl, refl), (1, (5, omega arith, refl), refl))
    and ((refl, refl), omega arith, refl)
    and (refl, refl, refl)
    and ((refl, refl), (tt, refl))
    and ((refl, refl), (tt, refl))
    and ((refl, refl), refl)
    and ((refl, refl), omega arith, (0, omega arith, refl))
    and ((refl, refl), refl, refl, refl)
    and ((refl, refl), refl, (0, omega arith, refl))
    and ((refl, refl), (1, (7, omega arith, refl), record { place = refl; home = refl; has = refl }))
    and ((refl, refl), (64, (8, omega arith, refl), refl))
    and ((refl, refl), (1, (9, omega arith, refl), record { place = refl; home = refl; has = refl }))
    and ((refl, refl), (1, (10, omega arith, refl), record { place = refl; home = refl; has = refl }))
    and ((refl, refl), (64, (11, omega arith, refl), refl))
    and ((refl, refl), (1, (12, omega arith, refl), refl))
    and ((refl, refl), (tt, refl))
    and ((refl, refl), (64, (13, omega arith, refl), record { place = refl; home = refl; has = refl }))
    and ((refl, refl), (64, (14, omega arith, refl), refl))
    and ((refl, refl), (64, (15, omega arith, refl), record { place = refl; home = refl; has = refl }))
    and ((refl, refl), (64, (16, omega arith, refl), record { place = refl; home = refl; has = refl }))
    and ((refl, refl), (64, (17, omega arith, refl), refl))
    and ((refl, refl), (1, (18, omega arith, refl), refl))
    and tt

-- ---- what is done in the cluster

abbrev done_steps : List NodeStep
done_steps =
    Reserves 0 0
    ∷ Restarts 0
    ∷ Reserves 1 0
    ∷ Restarts 1
    ∷ Acts (Asks (Write 2 0 0 (104 ∷ 105 ∷ [])) everyone)
    ∷ Acts (Comes (letter 1 1 0 Ask) everyone)
    ∷ Acts (Comes (letter 1 1 0 (Copy first_copy)) everyone)
    ∷ Acts (Comes (letter 1 2 0 (Store written)) everyone)
    ∷ Acts (Comes (letter 1 2 1 (Store written)) everyone)
    ∷ Acts (Comes (letter 1 2 0 Stored) everyone)
    ∷ Acts (Comes (letter 1 2 1 Stored) everyone)
    ∷ Restarts 1
    ∷ Reserves 64 1099511627776
    ∷ Restarts 64
    ∷ Acts (Asks (Read 1 0 0) everyone)
    ∷ Acts (Asks (Read 2 0 0) everyone)
    ∷ map Restarts (0 ∷ 0 ∷ 0 ∷ 0 ∷ 0 ∷ 0 ∷ 0 ∷ 0 ∷ 0 ∷ 0 ∷ 0 ∷ 0 ∷ 0 ∷ 0 ∷ 0 ∷ 0 ∷ [])
    ++ Loses 0 1
    ∷ Returns 0 file 1 written
    ∷ Acts (Comes (letter 1025 1 0 Ask) everyone)
    ∷ Acts (Comes (letter 1025 1 0 (Copy written)) everyone)
    ∷ Acts (Comes (letter 1025 2 0 (Store written)) everyone)
    ∷ Acts (Comes (letter 1025 2 1 (Store written)) everyone)
    ∷ Acts (Comes (letter 1025 2 0 Stored) everyone)
    ∷ Acts (Comes (letter 1025 2 1 Stored) everyone)
    ∷ Acts (Asks (Read 17 0 0) everyone)
    ∷ Acts (Comes (own_letter 1 0 Ask) everyone)
    ∷ Acts (Comes (own_letter 1 0 (Copy written)) everyone)
    ∷ Acts (Comes (own_letter 2 0 (Store written)) everyone)
    ∷ Acts (Comes (own_letter 2 1 (Store written)) everyone)
    ∷ Acts (Comes (own_letter 2 0 Stored) everyone)
    ∷ Acts (Comes (own_letter 2 1 Stored) everyone)
    ∷ []

pub done : all_node_steps two new_fleet steps ≡ done_steps
unfolding collect_quorum store_quorum ends_collect ends_store are_peers
done = refl

pub said : map (λ e. e.said) (exchanges two.setting new_cluster done_steps) ≡
    Some (Began 1 1) ∷ None ∷ Some (Round 2 (Some written.tag) 2) ∷ None ∷ None ∷ Some Noted ∷ Some (Done (Wrote 2 1 written.tag))
    ∷ Some (Began 1 1) ∷ Some (Began 1025 1) ∷ Some Abandoned
    ∷ None ∷ Some (Round 2 (Some written.tag) 2) ∷ None ∷ None ∷ Some Noted ∷ Some (Done (Gave 2 1025 written))
    ∷ Some (Began 1 1) ∷ None ∷ Some (Round 2 (Some written.tag) 2) ∷ None ∷ None ∷ Some Noted ∷ Some (Done (Gave 17 1 written))
    ∷ []
unfolding collect_quorum store_quorum ends_collect ends_store
said = refl

-- so the law speaks of it
pub is_right : IsRight column row home opens (all_node_steps two new_fleet steps)
is_right = all_right column row home opens plans steps homes_stand is_chain enough may_happen
  where
    P : List NodeStep → Type 0
    P z = StepsEnough row opens z

    enough : StepsEnough row opens (all_node_steps two new_fleet steps)
    enough = subst P (sym done) (omega arith)
