-- A node that is stuck stays so.
use Rattle.std.proofs.Common.{◌≡◌, ◌⊎◌, ◌<◌, ◌≤◌, ℕ, Bool, true, false, Option, Some, None, refl, arith, inl, inr}
use Rattle.std.specs.Prelude.{◌==◌, ◌&&◌, ◌||◌, not, nat_le, if◌then◌else◌}
use Rattle.std.proofs.lemmas.Bool.{and_parts, leb-true, cases_eq, eq-eqb, ne_eqb, eqb-true, true≢false}
use Rattle.gq_column.specs.Column.{Setting, World, Act, Keeps, Raises, Starts, Answers, Takes, Passes, Fills, is_done, done, kept, keeps_it, then_has, answered}
use Rattle.gq_column.proofs.Standing.{Stuck}

-- ---- a content comes

-- what a node that has another content, or a later plan, tells now is not this content with these losses
other_untold : (w : World) (m c k x q y : ℕ) → w.has k ≡ Some y → (y ≡ x → ⊥) → w.told k x q ≡ false → (kept w m c).told k x q ≡ false
other_untold w m c k x q y has other untold = grind arith

later_untold : (w : World) (m c k x q : ℕ) → q < w.plan k → w.told k x q ≡ false → (kept w m c).told k x q ≡ false
later_untold w m c k x q later untold = grind arith

still_has : (w : World) (m c k y : ℕ) → w.has k ≡ Some y → (kept w m c).has k ≡ Some y
still_has w m c k y has = grind arith

-- ---- any act

pub stuck_stays : (s : Setting) (losses x : ℕ) (w : World) (act : Act) → is_done s w act ≡ true → Stuck s losses x w → Stuck s losses x (done w act)
stuck_stays s losses x w (Keeps m c) is st = by st.why
  where
    by : ((w.lacks st.node ≡ false) × (y : ℕ) × (w.has st.node ≡ Some y) × (y ≡ x → ⊥)) ⊎ (losses < w.plan st.node) → Stuck s losses x (kept w m c)
    by (inl why) = record { node = st.node; stands = st.stands; untold = other_untold w m c st.node x losses why.1 why.2 why.3 st.untold; why = inl (why.0, why.1, still_has w m c st.node why.1 why.2, why.3) }
    by (inr later) = record { node = st.node; stands = st.stands; untold = later_untold w m c st.node x losses later st.untold; why = inr later }
stuck_stays s losses x w (Raises m) is st = record { node = st.node; stands = st.stands; untold = st.untold; why = st.why }
stuck_stays s losses x w (Starts m q) is st = record { node = st.node; stands = st.stands; untold = st.untold; why = by st.why }
  where
    by : ((w.lacks st.node ≡ false) × (y : ℕ) × (w.has st.node ≡ Some y) × (y ≡ x → ⊥)) ⊎ (losses < w.plan st.node) →
        ((w.lacks st.node ≡ false) × (y : ℕ) × (w.has st.node ≡ Some y) × (y ≡ x → ⊥)) ⊎ (losses < (if st.node == m then q else w.plan st.node))
    by (inl why) = inl why
    by (inr later) =
        let rises : w.plan m ≤ q = leb-true (w.plan m) q (and_parts (nat_le (w.plan m) q) (s.stands q m) is).0 in
        inr (grind arith)
stuck_stays s losses x w (Answers p m) is st = by (w.has p)
  where
    by : (o : Option ℕ) → Stuck s losses x (answered w p m o)
    by (Some c) = record { node = st.node; stands = st.stands; untold = st.untold; why = st.why }
    by None = record { node = st.node; stands = st.stands; untold = st.untold; why = st.why }
stuck_stays s losses x w (Takes m p c) is st = record { node = st.node; stands = st.stands; untold = st.untold; why = by st.why }
  where
    by : ((w.lacks st.node ≡ false) × (y : ℕ) × (w.has st.node ≡ Some y) × (y ≡ x → ⊥)) ⊎ (losses < w.plan st.node) →
        ((w.lacks st.node ≡ false) × (y : ℕ) × ((if st.node == m then Some c else w.has st.node) ≡ Some y) × (y ≡ x → ⊥)) ⊎ (losses < w.plan st.node)
    by (inl why) =
        let lacks : w.lacks m ≡ true = (and_parts (w.lacks m) (s.stands (w.plan m) p) (and_parts (w.gave p m c) (w.lacks m && s.stands (w.plan m) p) is).1).0 in
        let has : (if st.node == m then Some c else w.has st.node) ≡ Some why.1 = grind (arith, why.0, why.2) in
        inl (why.0, why.1, has, why.3)
    by (inr later) = inr later
stuck_stays s losses x w (Passes m p) is st = record { node = st.node; stands = st.stands; untold = st.untold; why = st.why }
stuck_stays s losses x w (Fills m) is st = record { node = st.node; stands = st.stands; untold = st.untold; why = by st.why }
  where
    by : ((w.lacks st.node ≡ false) × (y : ℕ) × (w.has st.node ≡ Some y) × (y ≡ x → ⊥)) ⊎ (losses < w.plan st.node) →
        (((if st.node == m then false else w.lacks st.node) ≡ false) × (y : ℕ) × (w.has st.node ≡ Some y) × (y ≡ x → ⊥)) ⊎ (losses < w.plan st.node)
    by (inl why) =
        let whole : (if st.node == m then false else w.lacks st.node) ≡ false = grind (arith, why.0) in
        inl (whole, why.1, why.2, why.3)
    by (inr later) = inr later
