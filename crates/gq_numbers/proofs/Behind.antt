-- The numbers of a lost node stay below what plans with its loss leave to it.
use Rattle.std.proofs.Common.{◌≡◌, ◌≢◌, ◌⊎◌, ℕ, ◌*◌, ◌<◌, ◌≤◌, Bool, true, false, List, [], ◌∷◌, ◌++◌, length, refl, sym, ap, ◌∙◌, subst, inl, inr, arith, length-append}
use Rattle.std.specs.Prelude.{Contains, ◌==◌, fold}
use Rattle.std.proofs.lemmas.Bool.{cases_eq, cases_lt, eq-eqb, ne_eqb, eqb-true, lt-ltb, ltb-true, true≢false}
use Rattle.std.proofs.lemmas.List.Elements.{Contains-append_cases}
use Rattle.std.proofs.lemmas.List.Sums.{count_by-le-length}
use Rattle.gq_tag.specs.Tag.{OwnMessage}
use Rattle.gq_cluster.specs.Cluster.{step_of}
use Rattle.gq_replace.specs.declared.numbers.TheConstants.{NUMBERS_OF_A_LOSS}
use Rattle.gq_replace.specs.Plans.{Plan, IsChain, GoesOn, place_of, generation, times, has_node, is_replaced}
use Rattle.gq_replace.specs.Fleet.{World, Fleet, Posted, FleetStep, Begins, StartsAgain, Does, Answers, Hears, Gives, Takes, new_fleet, plan_of, address, posts, is_ready_by, after_fleet_step, fleet_after, MayHappen, AllMayHappen}
use Rattle.gq_replace.proofs.Agreeing.{from_map}
use Rattle.gq_replace.proofs.Chains.{times_grow}
use Rattle.gq_numbers.specs.Numbers.{IsBelow, FewLosses, node_of, IsNotSaid, AllAsked}

-- ---- a step of another node leaves what a node used

-- what both fleets have of the node
pub record SameAt (u v : Fleet) (h : ℕ) : Type 0 where
  pub part : v.part h ≡ u.part h
  pub letters : (x : Posted) → Contains v.posted x → x.from ≡ h → Contains u.posted x

pub same_below : (u v : Fleet) (h bound : ℕ) → SameAt u v h → IsBelow u h bound → IsBelow v h bound
same_below u v h bound same below = record {
  letters = λ x within from. below.letters x (same.letters x within from) from;
  copies = λ file copy within. below.copies file copy (subst (λ p. Contains (p.brought file) copy) same.part within);
  reserved = λ k. subst (λ p. (p.reserved k).floor < bound) (sym same.part) (below.reserved k);
}

pub other_same : (w : World) (u : Fleet) (step : FleetStep) (h : ℕ) → node_of step ≢ h → SameAt u (after_fleet_step w u step) h
other_same w u (Begins node plan) h away = record { part = rw (ne_eqb h node (λ e. away (sym e))) refl; letters = λ x within from. within }
other_same w u (StartsAgain node plan) h away = record { part = rw (ne_eqb h node (λ e. away (sym e))) refl; letters = λ x within from. within }
other_same w u (Does node act) h away = record { part = rw (ne_eqb h node (λ e. away (sym e))) refl; letters = letters }
  where
    new : List OwnMessage
    new = (step_of w.setting (u.part node) act).new

    letters : (x : Posted) → Contains (u.posted ++ posts w u node new) x → x.from ≡ h → Contains u.posted x
    letters x within from = by (Contains-append_cases u.posted (posts w u node new) x within)
      where
        by : Contains u.posted x ⊎ Contains (posts w u node new) x → Contains u.posted x
        by (inl old) = old
        by (inr its) =
            let found = from_map (λ (letter : OwnMessage). record { from = node; to = address w u node letter; letter = letter }) new x its in
            absurd (away (ap (λ (y : Posted). y.from) found.2 ∙ from))
other_same w u (Answers node new) h away = record { part = refl; letters = λ x within from. within }
other_same w u (Hears node other) h away = by (is_ready_by w node other u) refl
  where
    by : (b : Bool) → is_ready_by w node other u ≡ b → SameAt u (after_fleet_step w u (Hears node other)) h
    by true e = rw e (record { part = refl; letters = λ x within from. within })
    by false e = rw e (record { part = refl; letters = λ x within from. within })
other_same w u (Gives peer node file) h away = record { part = refl; letters = λ x within from. within }
other_same w u (Takes node peer file copy) h away = record { part = rw (ne_eqb h node (λ e. away (sym e))) refl; letters = λ x within from. within }

-- ---- which plans there are

module _ (w : World) (chain : IsChain w.plans) (h losses : ℕ) (said : (i : ℕ) → losses ≤ length (w.plans i).lost → is_replaced (w.plans i) h ≡ true) where
  -- some node that was started has a plan of so many losses
  record Seen (u : Fleet) : Type 0 where
    node : ℕ
    begun : u.begun node ≡ true
    many : losses ≤ length (plan_of w u node).lost

  abbrev Known : Fleet → Type 0
  Known u = FewLosses w u losses ⊎ (Seen u × IsBelow u h (losses * NUMBERS_OF_A_LOSS))

  -- a node that is started with such a plan is not the lost one
  not_lost : (node plan : ℕ) → has_node (w.plans plan) node ≡ true → losses ≤ length (w.plans plan).lost → node ≢ h
  not_lost node plan has many same =
      let its : generation node ≡ times (w.plans plan) (place_of node) = eqb-true (generation node) (times (w.plans plan) (place_of node)) has in
      let P : ℕ → Type 0 = λ z. is_replaced (w.plans plan) z ≡ true in
      let less : generation node < times (w.plans plan) (place_of node) = ltb-true (generation node) (times (w.plans plan) (place_of node)) (subst P (sym same) (said plan many)) in
      omega (arith, its, less)

  lost_grow : (i j : ℕ) → i ≤ j → length (w.plans i).lost ≤ length (w.plans j).lost
  lost_grow i j order = let on : GoesOn (w.plans i) (w.plans j) = chain i j order in omega (arith, ap length on.lost, length-append (w.plans i).lost on.more)

  -- the plans that nodes have behind a step
  record Changes (u v : Fleet) (node plan : ℕ) : Type 0 where
    begun : (m : ℕ) → m ≢ node → v.begun m ≡ u.begun m
    plans : (m : ℕ) → m ≢ node → v.last_plan m ≡ u.last_plan m
    now : v.begun node ≡ true
    plan_is : v.last_plan node ≡ plan

  begins_changes : (u : Fleet) (node plan : ℕ) → Changes u (after_fleet_step w u (Begins node plan)) node plan
  begins_changes u node plan = record {
    begun = λ m ne. rw (ne_eqb m node ne) refl;
    plans = λ m ne. rw (ne_eqb m node ne) refl;
    now = rw (eq-eqb node node refl) refl;
    plan_is = rw (eq-eqb node node refl) refl;
  }

  again_changes : (u : Fleet) (node plan : ℕ) → Changes u (after_fleet_step w u (StartsAgain node plan)) node plan
  again_changes u node plan = record {
    begun = λ m ne. rw (ne_eqb m node ne) refl;
    plans = λ m ne. rw (ne_eqb m node ne) refl;
    now = rw (eq-eqb node node refl) refl;
    plan_is = rw (eq-eqb node node refl) refl;
  }

  -- a start
  started : (u v : Fleet) (node plan : ℕ) → Changes u v node plan → has_node (w.plans plan) node ≡ true → (u.begun node ≡ true → u.last_plan node ≤ plan) → (node ≢ h → SameAt u v h) → (FewLosses w u losses → IsBelow u h (losses * NUMBERS_OF_A_LOSS)) →
      (Seen u → node ≢ h) → Known u → Known v
  started u v node plan changes has later same below apart (inl few) = elim (cases_lt (length (w.plans plan).lost) losses) [
    | inl less ↦ (inl (λ m begun. elim (cases_eq m node) [
      | inl its ↦ (
          let plan_is : v.last_plan m ≡ plan = ap v.last_plan its ∙ changes.plan_is in
          subst (λ p. length (w.plans p).lost < losses) (sym plan_is) less)
      | inr away ↦ (subst (λ p. length (w.plans p).lost < losses) (sym (changes.plans m away)) (few m (sym (changes.begun m away) ∙ begun)))
    ]))
    | inr many ↦ (inr (
      record { node = node; begun = changes.now; many = subst (λ p. losses ≤ length (w.plans p).lost) (sym changes.plan_is) many },
      same_below u v h (losses * NUMBERS_OF_A_LOSS) (same (not_lost node plan has many)) (below few),
    ))
  ]
  started u v node plan changes has later same below apart (inr (seen, under)) = inr (still, same_below u v h (losses * NUMBERS_OF_A_LOSS) (same (apart seen)) under)
    where
      still : Seen v
      still = elim (cases_eq seen.node node) [
        | inl its ↦ (
            let before : u.last_plan node ≤ plan = later (ap u.begun (sym its) ∙ seen.begun) in
            let old : losses ≤ length (w.plans (u.last_plan node)).lost = subst (λ m. losses ≤ length (w.plans (u.last_plan m)).lost) its seen.many in
            let more = lost_grow (u.last_plan node) plan before in
            record { node = node; begun = changes.now; many = subst (λ p. losses ≤ length (w.plans p).lost) (sym changes.plan_is) (omega (arith, old, more)) })
        | inr away ↦ (record {
          node = seen.node;
          begun = changes.begun seen.node away ∙ seen.begun;
          many = subst (λ p. losses ≤ length (w.plans p).lost) (sym (changes.plans seen.node away)) seen.many;
        })
      ]

  -- any other step leaves all plans
  left : (u v : Fleet) → v.begun ≡ u.begun → v.last_plan ≡ u.last_plan → (Seen u → SameAt u v h) → Known u → Known v
  left u v begun plans same (inl few) = inl (λ m is.
      let was : length (w.plans (u.last_plan m)).lost < losses = few m (ap (λ f. f m) (sym begun) ∙ is) in
      subst (λ f. length (w.plans (f m)).lost < losses) (sym plans) was)
  left u v begun plans same (inr (seen, under)) = inr (
    record { node = seen.node; begun = ap (λ f. f seen.node) begun ∙ seen.begun; many = subst (λ f. losses ≤ length (w.plans (f seen.node)).lost) (sym plans) seen.many },
    same_below u v h (losses * NUMBERS_OF_A_LOSS) (same seen) under,
  )

  -- where some node has such a plan, the step is none of the lost node
  apart_from : (u : Fleet) (step : FleetStep) → IsNotSaid w u step → Seen u → node_of step ≢ h
  apart_from u step silent seen same =
      let is : is_replaced (plan_of w u seen.node) h ≡ true = said (u.last_plan seen.node) seen.many in
      let not : is_replaced (plan_of w u seen.node) (node_of step) ≡ false = silent seen.node seen.begun in
      true≢false (sym is ∙ ap (is_replaced (plan_of w u seen.node)) (sym same) ∙ not)

  known_on : (u : Fleet) (step : FleetStep) → MayHappen w u step → (FewLosses w u losses → IsBelow u h (losses * NUMBERS_OF_A_LOSS)) → IsNotSaid w u step → Known u → Known (after_fleet_step w u step)
  known_on u (Begins node plan) may below silent known =
      started u (after_fleet_step w u (Begins node plan)) node plan (begins_changes u node plan) may.2 (λ begun. absurd (true≢false (sym begun ∙ may.0))) (other_same w u (Begins node plan) h) below (apart_from u (Begins node plan) silent) known
  known_on u (StartsAgain node plan) may below silent known =
      started u (after_fleet_step w u (StartsAgain node plan)) node plan (again_changes u node plan) may.2 (λ begun. may.1) (other_same w u (StartsAgain node plan) h) below (apart_from u (StartsAgain node plan) silent) known
  known_on u (Does node act) may below silent known = left u (after_fleet_step w u (Does node act)) refl refl (λ seen. other_same w u (Does node act) h (apart_from u (Does node act) silent seen)) known
  known_on u (Answers node new) may below silent known = left u (after_fleet_step w u (Answers node new)) refl refl (λ seen. other_same w u (Answers node new) h (apart_from u (Answers node new) silent seen)) known
  known_on u (Hears node other) may below silent known = by (is_ready_by w node other u) refl
    where
      v : Fleet
      v = after_fleet_step w u (Hears node other)

      by : (b : Bool) → is_ready_by w node other u ≡ b → Known v
      by true e = left u v (rw e refl) (rw e refl) (λ seen. other_same w u (Hears node other) h (apart_from u (Hears node other) silent seen)) known
      by false e = left u v (rw e refl) (rw e refl) (λ seen. other_same w u (Hears node other) h (apart_from u (Hears node other) silent seen)) known
  known_on u (Gives peer node file) may below silent known = left u (after_fleet_step w u (Gives peer node file)) refl refl (λ seen. other_same w u (Gives peer node file) h (apart_from u (Gives peer node file) silent seen)) known
  known_on u (Takes node peer file copy) may below silent known = left u (after_fleet_step w u (Takes node peer file copy)) refl refl (λ seen. other_same w u (Takes node peer file copy) h (apart_from u (Takes node peer file copy) silent seen)) known

  -- in the end the numbers of the lost node are below
  along : (steps : List FleetStep) (u : Fleet) → 0 < losses → AllMayHappen w u steps → AllAsked w u steps → Known u → IsBelow (fold (after_fleet_step w) u steps) h (losses * NUMBERS_OF_A_LOSS)
  along [] u some may asked (inl few) = asked losses h some few
  along [] u some may asked (inr (seen, under)) = under
  along (step ∷ steps) u some may asked known = along steps (after_fleet_step w u step) some may.1 asked.2 (known_on u step may.0 (λ few. asked.0 losses h some few) asked.1 known)

  pub stays_behind : (steps : List FleetStep) → 0 < losses → AllMayHappen w new_fleet steps → AllAsked w new_fleet steps → IsBelow (fleet_after w steps) h (losses * NUMBERS_OF_A_LOSS)
  stays_behind steps some may asked = along steps new_fleet some may asked (inl (λ m begun. absurd (true≢false (sym begun))))

-- ---- plans of so many losses

-- a plan that says that a node is replaced tells of a loss
pub some_loss : (plan : Plan) (h : ℕ) → is_replaced plan h ≡ true → 0 < length plan.lost
some_loss plan h is =
    let less : generation h < times plan (place_of h) = ltb-true (generation h) (times plan (place_of h)) is in
    let few = count_by-le-length (λ lost. lost == place_of h) plan.lost in
    omega (arith, less, few)

-- so does each that tells of as many losses
pub said_by : (w : World) → IsChain w.plans → (h j i : ℕ) → is_replaced (w.plans j) h ≡ true → length (w.plans j).lost ≤ length (w.plans i).lost → is_replaced (w.plans i) h ≡ true
said_by w chain h j i is many = elim (cases_lt i j) [
  | inl before ↦ (
      let on : GoesOn (w.plans i) (w.plans j) = chain i j (omega (arith, before)) in
      let none : length on.more ≡ 0 = omega (arith, many, ap length on.lost, length-append (w.plans i).lost on.more) in
      let same : (w.plans j).lost ≡ (w.plans i).lost = on.lost ∙ nothing (w.plans i).lost on.more none in
      let P : List ℕ → Type 0 = λ lost. is_replaced (record { lost = lost; volumes = (w.plans i).volumes }) h ≡ true in
      subst P same is)
  | inr order ↦ (
      let on : GoesOn (w.plans j) (w.plans i) = chain j i order in
      let grown = times_grow (w.plans j) (w.plans i) (place_of h) on in
      let less : generation h < times (w.plans j) (place_of h) = ltb-true (generation h) (times (w.plans j) (place_of h)) is in
      lt-ltb (generation h) (times (w.plans i) (place_of h)) (omega (arith, grown, less)))
]
  where
    nothing : (xs more : List ℕ) → length more ≡ 0 → xs ++ more ≡ xs
    nothing [] [] none = refl
    nothing [] (x ∷ more) none = absurd (omega (arith, none))
    nothing (y ∷ xs) more none = ap (λ zs. y ∷ zs) (nothing xs more none)
