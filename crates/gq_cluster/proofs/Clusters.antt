-- All steps of nodes, one after another, are a run of the service.
use Rattle.std.proofs.Common.{◌≡◌, ℕ, ◌+◌, ◌*◌, ◌≤◌, Bool, true, false, List, [], ◌∷◌, ◌++◌, length, map, refl, sym, ap, ◌∙◌, subst, Option, Some, None, arith, min, append_assoc, append-nil, eqb}
use Rattle.std.specs.Prelude.{nat_le, fold, is_some, ◌==◌, ◌&&◌, ⊤, filter_map, if◌then◌else◌}
use Rattle.std.specs.List.{range_with_len}
use Rattle.std.proofs.Math.Nat.{suc-mul}
use Rattle.std.specs.List.{cons_option}
use Rattle.std.specs.Option.{option_to_list}
use Rattle.std.proofs.lemmas.List.Elements.{filter_map-append}
use Rattle.std.proofs.lemmas.List.{length-map}
use Rattle.std.proofs.lemmas.List.FromFn.{length-range_with_len}
use Rattle.std.proofs.lemmas.List.Sums.{fold-append, length-filter, count_by-le-length}
use Rattle.gq_grid.specs.Grid.{Grid}
use Rattle.gq_tag.specs.Tag.{File, greatest, first_copy}
use Rattle.gq_desk.specs.declared.plans.TenantRow.{TenantRow}
use Rattle.gq_desk.specs.declared.volumes.VolumeRow.{VolumeRow}
use Rattle.gq_model.specs.declared.events.Line.TheVariants.{NewVolume}
use Rattle.gq_model.specs.Trace.{Turn, Own, Losing, Returning, Trace, Past, new_session, start, questions, up, gone, sent, is_lost, lacks, brought, session}
use Rattle.gq_model.specs.Lone.{Step, after, step_at, is_refusal, past_of}
use Rattle.gq_cluster.specs.Cluster.{Setting, Cluster, Act, NodeStep, Acts, Restarts, Reserves, Loses, Returns, Exchange, CanAct, CanHappen, CanFollow, new_cluster, going_at, gives_up, acts_of, after_act, after_acts, after_step, cluster_after, reserving_part, with_numbers, exchanges_of, exchanges}
use Rattle.gq_cluster.specs.Laws.{turn_exchanges, exchanges_from, openings, opened, setting_of, disk_turn, disk_step, StepsEnough, AllClustersServe}
use Rattle.gq_cluster.proofs.Standing.{Stands}
use Rattle.gq_cluster.proofs.OneAct.{IsActed, one_act}
use Rattle.gq_cluster.proofs.Abandoning.{given_up, all_given}
use Rattle.gq_cluster.proofs.Leaping.{leaps, IsLeapt, node_leaps}
use Rattle.gq_cluster.proofs.Disks.{loses, returns}

-- ---- one run behind another

exchanges-append : (grid : Grid) (row : TenantRow) (xs ys : List Turn) (p : Past) → exchanges_from grid row p (xs ++ ys) ≡ exchanges_from grid row p xs ++ exchanges_from grid row (fold (after grid row) p xs) ys
exchanges-append grid row [] ys p = refl
exchanges-append grid row (x ∷ xs) ys p =
    ap (λ z. turn_exchanges (questions p.trace) x (step_at grid row p x) ++ z) (exchanges-append grid row xs ys (after grid row p x))
    ∙ sym (append_assoc (turn_exchanges (questions p.trace) x (step_at grid row p x)) (exchanges_from grid row (after grid row p x) xs) (exchanges_from grid row (fold (after grid row) (after grid row p x) xs) ys))

-- turns by which this is done, and after which the past stands for the cluster; so many of them are lines at most
pub record Runs (s : Setting) (p : Past) (then_is : Cluster) (done : List Exchange) (gone : List Turn) (most : ℕ) : Type 0 where
  pub turns : List Turn
  pub disks : filter_map disk_turn turns ≡ gone
  pub did : exchanges_from s.grid s.row p turns ≡ done
  pub stands : Stands s (fold (after s.grid s.row) p turns) then_is
  pub lines : (fold (after s.grid s.row) p turns).lines ≤ p.lines + most

-- runs one behind the other
runs_on : (s : Setting) (p : Past) (mid last : Cluster) (first second : List Exchange) (gone also : List Turn) (few more most : ℕ) → few + more ≤ most → (one : Runs s p mid first gone few) → Runs s (fold (after s.grid s.row) p one.turns) last second also more → Runs s p last (first ++ second) (gone ++ also) most
runs_on s p mid last first second gone also few more most enough one two = record {
  turns = one.turns ++ two.turns;
  disks = filter_map-append disk_turn one.turns two.turns ∙ (λ i. one.disks i ++ two.disks i);
  did = exchanges-append s.grid s.row one.turns two.turns p ∙ (λ i. one.did i ++ two.did i);
  stands = subst P (sym grown) two.stands;
  lines = (let same = ap (λ z. z.lines) grown in let low = one.lines in let high = two.lines in omega arith);
}
  where
    P : Past → Type 0
    P z = Stands s z last

    grown : fold (after s.grid s.row) p (one.turns ++ two.turns) ≡ fold (after s.grid s.row) (fold (after s.grid s.row) p one.turns) two.turns
    grown = fold-append (after s.grid s.row) p one.turns two.turns

-- ---- acts

-- each of the acts can be done when it is
abbrev AllCan : Setting → Cluster → List Act → Type 0
AllCan s c [] = ⊤
AllCan s c (act ∷ acts) = CanAct c act × AllCan s (after_act s c act) acts

acts_run : (s : Setting) (acts : List Act) (p : Past) (c : Cluster) → Stands s p c → p.lines + length acts ≤ s.row.steps → AllCan s c acts → Runs s p (after_acts s c acts) (exchanges_of s c acts) [] (length acts)
acts_run s [] p c stands steps can = record { turns = []; disks = refl; did = refl; stands = stands; lines = omega arith }
acts_run s (act ∷ acts) p c stands steps can = runs_on s p (after_act s c act) (after_acts s c (act ∷ acts)) _ _ [] [] 1 (length acts) (length (act ∷ acts)) (omega arith) one (acts_run s acts q (after_act s c act) acted.stands (let lines = acted.lines in omega arith) can.1)
  where
    acted : IsActed s p c act
    acted = one_act s p c act stands (omega arith) can.0

    q : Past
    q = fold (after s.grid s.row) p acted.turns

    one : Runs s p (after_act s c act) (exchanges_of s c (act ∷ [])) [] 1
    one = record { turns = acted.turns; disks = acted.disks; did = acted.did; stands = acted.stands; lines = (let lines = acted.lines in omega arith) }

-- ---- node steps

abandons_can : (s : Setting) (ks : List ℕ) (c : Cluster) → AllCan s c (map gives_up ks)
abandons_can s [] c = tt
abandons_can s (k ∷ ks) c = (tt, abandons_can s ks (after_act s c (gives_up k)))

acts_can : (s : Setting) (c : Cluster) (step : NodeStep) → CanHappen s c step → AllCan s c (acts_of s c step)
acts_can s c (Acts act) can = (can, tt)
acts_can s c (Restarts node) can = abandons_can s (going_at s c node) c
acts_can s c (Reserves node number) can = tt
acts_can s c (Loses server volumes) can = tt
acts_can s c (Returns server file peer copy) can = tt

acts_few : (s : Setting) (c : Cluster) (step : NodeStep) → length (acts_of s c step) ≤ s.row.sessions + 1
acts_few s c (Acts act) = omega arith
acts_few s c (Reserves node number) = omega arith
acts_few s c (Loses server volumes) = omega arith
acts_few s c (Returns server file peer copy) = omega arith
acts_few s c (Restarts node) =
    let each = length-map (going_at s c node) gives_up in
    let test : ℕ → Bool = λ k. (s.home k == node) && is_some ((c.part node).session k).current in
    let passing = length-filter test (range_with_len 1 s.row.sessions) in
    let few = count_by-le-length test (range_with_len 1 s.row.sessions) in
    let all = length-range_with_len 1 s.row.sessions in
    omega arith

-- what becomes of a disk by a node step
abbrev pub gone_by : NodeStep → List Turn
gone_by step = option_to_list (disk_step step)

-- the model has nothing of what is reserved
numbers_stand : (s : Setting) (p : Past) (c : Cluster) (node number : ℕ) → Stands s p c → Stands s p (with_numbers s node number c)
numbers_stand s p c node number stands = record {
  opened = stands.opened;
  written = stands.written;
  kept = stands.kept;
  beyond = stands.beyond;
  none_gone = stands.none_gone;
  lacking = λ n file. stands.lacking n file ∙ same_lacks n file (eqb n node);
  copies = λ n file. stands.copies n file ∙ same_copies n file (eqb n node);
  sessions = λ k. stands.sessions k ∙ same_session (s.home k) k (eqb (s.home k) node);
  offers = stands.offers;
}
  where
    same_lacks : (n : ℕ) (file : File) (b : Bool) → (c.part n).lacks file ≡ (if b then reserving_part s node number (c.part n) else c.part n).lacks file
    same_lacks n file true = refl
    same_lacks n file false = refl

    same_copies : (n : ℕ) (file : File) (b : Bool) → (c.part n).brought file ≡ (if b then reserving_part s node number (c.part n) else c.part n).brought file
    same_copies n file true = refl
    same_copies n file false = refl

    same_session : (n k : ℕ) (b : Bool) → (c.part n).session k ≡ (if b then reserving_part s node number (c.part n) else c.part n).session k
    same_session n k true = refl
    same_session n k false = refl

-- behind the acts of a node step: nothing, or the sessions of a node go on behind their reserved numbers, or a turn for a disk
behind_run : (s : Setting) (step : NodeStep) (p : Past) (c : Cluster) → Stands s p (after_acts s c (acts_of s c step)) → CanHappen s c step → Runs s p (after_step s c step) [] (gone_by step) 0
behind_run s (Acts act) p c stands can = record { turns = []; disks = refl; did = refl; stands = stands; lines = omega arith }
behind_run s (Restarts node) p c stands can = record { turns = leaps s mid node; disks = leapt.disks; did = leapt.did; stands = leapt.stands; lines = (let lines = leapt.lines in omega arith) }
  where
    mid : Cluster
    mid = given_up s c node

    leapt : IsLeapt s p mid node
    leapt = node_leaps s p mid node stands (λ k home inside. ap (λ z. z.current) ((all_given s c node).own k home inside))
behind_run s (Reserves node number) p c stands can = record { turns = []; disks = refl; did = refl; stands = numbers_stand s p c node number stands; lines = omega arith }
behind_run s (Loses server volumes) p c stands can =
    let lost = loses s p c server volumes stands can in
    record { turns = Losing server volumes ∷ []; disks = refl; did = refl; stands = lost.stands; lines = (let lines = lost.lines in omega arith) }
behind_run s (Returns server file peer copy) p c stands can =
    let given = returns s p c server file peer copy stands can.0 can.1 can.2 in
    record { turns = Returning server file peer copy ∷ []; disks = refl; did = refl; stands = given.stands; lines = (let lines = given.lines in omega arith) }

steps_run : (s : Setting) (steps : List NodeStep) (p : Past) (c : Cluster) → Stands s p c → p.lines + length steps * (s.row.sessions + 1) ≤ s.row.steps → CanFollow s c steps → Runs s p (fold (after_step s) c steps) (exchanges s c steps) (filter_map disk_step steps) (length steps * (s.row.sessions + 1))
steps_run s [] p c stands enough can = record { turns = []; disks = refl; did = refl; stands = stands; lines = omega arith }
steps_run s (step ∷ steps) p c stands enough can = subst Run (sym (gone_first (disk_step step) steps)) (runs_on s p (after_step s c step) (fold (after_step s) c (step ∷ steps)) (exchanges_of s c (acts_of s c step)) (exchanges s (after_step s c step) steps) (gone_by step) (filter_map disk_step steps) (length (acts_of s c step)) (length steps * (s.row.sessions + 1)) (length (step ∷ steps) * (s.row.sessions + 1)) (omega (arith, few, each)) one
    (steps_run s steps (fold (after s.grid s.row) p one.turns) (after_step s c step) one.stands (let lines = one.lines in omega (arith, few, each, lines)) can.1))
  where
    Run : List Turn → Type 0
    Run gone = Runs s p (fold (after_step s) c (step ∷ steps)) (exchanges s c (step ∷ steps)) gone (length (step ∷ steps) * (s.row.sessions + 1))

    gone_first : (first : Option Turn) (rest : List NodeStep) → cons_option first (filter_map disk_step rest) ≡ option_to_list first ++ filter_map disk_step rest
    gone_first None rest = refl
    gone_first (Some turn) rest = refl

    few : length (acts_of s c step) ≤ s.row.sessions + 1
    few = acts_few s c step

    each : length (step ∷ steps) * (s.row.sessions + 1) ≡ length steps * (s.row.sessions + 1) + (s.row.sessions + 1)
    each = suc-mul (length steps) (s.row.sessions + 1)

    acts : Runs s p (after_acts s c (acts_of s c step)) (exchanges_of s c (acts_of s c step)) [] (length (acts_of s c step))
    acts = acts_run s (acts_of s c step) p c stands (omega (arith, few, each)) (acts_can s c step can.0)

    one : Runs s p (after_step s c step) (exchanges_of s c (acts_of s c step)) (gone_by step) (length (acts_of s c step))
    one =
        let P : List Exchange → Type 0 = λ z. Runs s p (after_step s c step) z (gone_by step) (length (acts_of s c step)) in
        let behind = behind_run s step (fold (after s.grid s.row) p acts.turns) c acts.stands can.0 in
        subst P (append-nil (exchanges_of s c (acts_of s c step))) (runs_on s p (after_acts s c (acts_of s c step)) (after_step s c step) (exchanges_of s c (acts_of s c step)) [] [] (gone_by step) (length (acts_of s c step)) 0 (length (acts_of s c step)) (omega arith) acts behind)

-- ---- the openings

-- nothing was asked yet
record IsFresh (p : Past) : Type 0 where
  none : sent p.trace ≡ []
  kept : (n : ℕ) → is_lost p.trace n ≡ false
  alive : (n : ℕ) → up p.trace n ≡ true
  here : (n : ℕ) → gone p.trace n ≡ false
  whole : (n : ℕ) (file : File) → lacks p.trace n file ≡ false
  copies : (n : ℕ) (file : File) → brought p.trace n file ≡ []
  sessions : (k : ℕ) → session p.trace k ≡ new_session

open_fresh : (grid : Grid) (row : TenantRow) (v : VolumeRow) (p : Past) → IsFresh p → IsFresh (after grid row p (Own (NewVolume v.files v.blocks)))
open_fresh grid row v p fresh = on (is_refusal step.told) refl
  where
    turn : Turn
    turn = Own (NewVolume v.files v.blocks)

    step : Step
    step = step_at grid row p turn

    quiet_is : (b : Bool) → nat_le row.steps (min row.steps p.lines) ≡ b → step.new ≡ []
    quiet_is true e = rw e refl
    quiet_is false e = rw e refl

    new : step.new ≡ []
    new = quiet_is (nat_le row.steps (min row.steps p.lines)) refl

    P : Trace → Type 0
    P t = IsFresh (record { lines = p.lines + 1; trace = t })

    on : (b : Bool) → is_refusal step.told ≡ b → IsFresh (after grid row p turn)
    on true e = rw e (record { none = fresh.none; kept = fresh.kept; alive = fresh.alive; here = fresh.here; whole = fresh.whole; copies = fresh.copies; sessions = fresh.sessions })
    on false e = rw e (record { none = (λ i. fresh.none i ++ new i); kept = fresh.kept; alive = fresh.alive; here = fresh.here; whole = fresh.whole; copies = fresh.copies; sessions = fresh.sessions })

opens_fresh : (grid : Grid) (row : TenantRow) (opens : List VolumeRow) (p : Past) → IsFresh p → IsFresh (fold (after grid row) p (openings opens))
opens_fresh grid row [] p fresh = fresh
opens_fresh grid row (v ∷ opens) p fresh = opens_fresh grid row opens (after grid row p (Own (NewVolume v.files v.blocks))) (open_fresh grid row v p fresh)

opens_lines : (grid : Grid) (row : TenantRow) (opens : List VolumeRow) (p : Past) → (fold (after grid row) p (openings opens)).lines ≡ p.lines + length opens
opens_lines grid row [] p = omega arith
opens_lines grid row (v ∷ opens) p = let later = opens_lines grid row opens (after grid row p (Own (NewVolume v.files v.blocks))) in omega arith

opened_stands : (grid : Grid) (row : TenantRow) (home : ℕ → ℕ) (opens : List VolumeRow) → Stands (setting_of grid row home opens) (opened grid row opens) new_cluster
opened_stands grid row home opens =
    let fresh : IsFresh (opened grid row opens) = opens_fresh grid row opens start (record { none = refl; kept = λ n. refl; alive = λ n. refl; here = λ n. refl; whole = λ n file. refl; copies = λ n file. refl; sessions = λ k. refl }) in
    record { opened = refl; written = fresh.none; kept = fresh.kept; beyond = λ n out. fresh.alive n; none_gone = fresh.here; lacking = fresh.whole; copies = fresh.copies; sessions = fresh.sessions; offers = λ server file peer copy within. absurd (omega (arith, within.1)) }

-- ---- the law

-- the run of the service that the steps are
pub run_of : (grid : Grid) (row : TenantRow) (home : ℕ → ℕ) (opens : List VolumeRow) (steps : List NodeStep) → StepsEnough row opens steps → CanFollow (setting_of grid row home opens) new_cluster steps →
    Runs (setting_of grid row home opens) (opened grid row opens) (cluster_after (setting_of grid row home opens) steps) (exchanges (setting_of grid row home opens) new_cluster steps) (filter_map disk_step steps) (length steps * (row.sessions + 1))
run_of grid row home opens steps enough can = steps_run (setting_of grid row home opens) steps (opened grid row opens) new_cluster (opened_stands grid row home opens) (omega (arith, few)) can
  where
    few : (opened grid row opens).lines ≡ length opens
    few = let all : (opened grid row opens).lines ≡ 0 + length opens = opens_lines grid row opens start in omega (arith, all)

-- it stands for the cluster at its end
pub run_stands : (grid : Grid) (row : TenantRow) (home : ℕ → ℕ) (opens : List VolumeRow) (steps : List NodeStep) (most : ℕ) →
    (run : Runs (setting_of grid row home opens) (opened grid row opens) (cluster_after (setting_of grid row home opens) steps) (exchanges (setting_of grid row home opens) new_cluster steps) (filter_map disk_step steps) most) →
    Stands (setting_of grid row home opens) (past_of grid row (openings opens ++ run.turns)) (cluster_after (setting_of grid row home opens) steps)
run_stands grid row home opens steps most run = subst P (sym (fold-append (after grid row) start (openings opens) run.turns)) run.stands
  where
    P : Past → Type 0
    P z = Stands (setting_of grid row home opens) z (cluster_after (setting_of grid row home opens) steps)

pub all_clusters_serve : AllClustersServe
all_clusters_serve grid row home opens steps enough can = record {
  turns = run.turns;
  disks = run.disks;
  alike = run.did;
  has = record {
    lacking = stands.lacking;
    copies = λ server file. ap (λ copies. greatest (first_copy ∷ copies)) (stands.copies server file);
    sessions = stands.sessions;
    sent = stands.written;
  };
}
  where
    run : Runs (setting_of grid row home opens) (opened grid row opens) (cluster_after (setting_of grid row home opens) steps) (exchanges (setting_of grid row home opens) new_cluster steps) (filter_map disk_step steps) (length steps * (row.sessions + 1))
    run = run_of grid row home opens steps enough can

    turns : List Turn
    turns = openings opens ++ run.turns

    stands : Stands (setting_of grid row home opens) (past_of grid row turns) (cluster_after (setting_of grid row home opens) steps)
    stands = run_stands grid row home opens steps (length steps * (row.sessions + 1)) run
