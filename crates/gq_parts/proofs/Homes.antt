-- Sessions of a plan, and where they are at home.
use Rattle.std.proofs.Common.{◌≡◌, ◌∙◌, ℕ, ◌*◌, ◌<◌, ◌≤◌, true, refl, sym, ap, subst, arith}
use Rattle.std.specs.Prelude.{nat_lt}
use Rattle.std.proofs.lemmas.Bool.{and_parts, eq-eqb, eqb-true, leb-true}
use Rattle.std.proofs.lemmas.Nat.{div-mul-add, mod-mul-add}
use Rattle.std.proofs.Math.Nat.{mod-lt, mul-le-mul_left, mul-le-mul_right}
use Rattle.gq_desk.specs.CheckedPlan.{CheckedPlan, row_at}
use Rattle.gq_text.specs.Canonical.{IsPlan}
use Rattle.gq_replace.specs.Laws.{HomesStand}
use Rattle.gq_replace.specs.Plans.{most_places, times, place_of, generation}
use Rattle.gq_node.specs.Nodes.{SessionsStay}
use Rattle.gq_node.specs.Sites.{plan_in, session_state_place, session_generation, home_place, home_of}
use Rattle.gq_parts.specs.AllNodes.{GridPlans, plans_of, world_at, AreSound}

pub few_places : (plan : CheckedPlan) → IsPlan plan → plan.grid.rows * plan.grid.cols ≤ most_places
few_places plan is =
    let rows : plan.grid.rows ≤ 8 = leb-true plan.grid.rows 8 (and_parts _ _ is.rows).1 in
    let cols : plan.grid.cols ≤ 8 = leb-true plan.grid.cols 8 (and_parts _ _ is.cols).1 in
    let one : plan.grid.rows * plan.grid.cols ≤ plan.grid.rows * 8 = mul-le-mul_left plan.grid.rows cols in
    let two : plan.grid.rows * 8 ≤ 8 * 8 = mul-le-mul_right 8 rows in
    omega (arith, one, two)

pub home_within : (plan : CheckedPlan) (t place : ℕ) → 1 < plan.grid.rows * plan.grid.cols → home_place plan t place < plan.grid.rows * plan.grid.cols
home_within plan t place many = mod-lt _ (omega (arith, many))

pub record HomeIs (plan : CheckedPlan) (t k : ℕ) : Type 0 where
  pub place : place_of (home_of plan t k) ≡ home_place plan t (session_state_place k)
  pub hop : generation (home_of plan t k) ≡ session_generation k

pub home_is : (plan : CheckedPlan) (t k : ℕ) → IsPlan plan → 1 < plan.grid.rows * plan.grid.cols → HomeIs plan t k
home_is plan t k is many =
    let few : home_place plan t (session_state_place k) < most_places = omega (arith, home_within plan t (session_state_place k) many, few_places plan is) in
    record { place = mod-mul-add (session_generation k) most_places (home_place plan t (session_state_place k)) few; hop = div-mul-add (session_generation k) most_places (home_place plan t (session_state_place k)) few }

pub some_servers : (g : GridPlans) → AreSound g → 1 < g.plan.grid.rows * g.plan.grid.cols
some_servers g sound = let servers = sound.servers in omega (arith, servers)

pub homes_stand : (g : GridPlans) (t : ℕ) → AreSound g → HomesStand g.plan.grid (home_of g.plan t)
homes_stand g t sound k =
    subst (λ n. n < g.plan.grid.rows * g.plan.grid.cols) (sym (home_is g.plan t k sound.plan (some_servers g sound)).place) (home_within g.plan t (session_state_place k) (some_servers g sound))

-- a session of a plan is one of a later plan that has its home
pub sessions_stay : (g : GridPlans) (t : ℕ) → AreSound g → SessionsStay (world_at g t)
sessions_stay g t sound p q k later has is =
    let home : HomeIs g.plan t k = home_is g.plan t k sound.plan (some_servers g sound) in
    let inside : nat_lt (session_state_place k) (row_at g.plan t).sessions ≡ true = (and_parts _ _ is).0 in
    let hop : session_generation k ≡ times (plans_of g t q) (home_place g.plan t (session_state_place k)) =
    sym home.hop ∙ eqb-true (generation (home_of g.plan t k)) (times (plans_of g t q) (place_of (home_of g.plan t k))) has ∙ ap (times (plans_of g t q)) home.place in
    rw (inside, eq-eqb (session_generation k) (times (plan_in (g.lost q)) (home_place g.plan t (session_state_place k))) hop) refl
