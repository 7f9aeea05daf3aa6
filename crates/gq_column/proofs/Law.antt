-- Act by act, to the law.
use Rattle.std.proofs.Common.{◌≡◌, ◌⊎◌, ◌<◌, ◌≤◌, ℕ, Bool, true, false, List, [], ◌∷◌, Option, Some, None, refl, sym, ◌∙◌, arith, inl, inr}
use Rattle.std.specs.Prelude.{◌&&◌, ◌||◌, not, nat_le, if◌then◌else◌}
use Rattle.std.proofs.lemmas.Bool.{and_parts, or_cases, leb-true, not-true, true≢false}
use Rattle.gq_column.specs.Column.{Setting, IsChain, World, Act, Keeps, Raises, Starts, Answers, Takes, Passes, Fills, is_done, done, first_world, after_act, after_acts}
use Rattle.gq_column.specs.Laws.{IsSince, Holds, Acknowledged}
use Rattle.gq_column.proofs.Standing.{Stuck, Good, Standing}
use Rattle.gq_column.proofs.Stuck.{stuck_stays}
use Rattle.gq_column.proofs.Acts.{keeps_stands, starts_stands, answers_stands, takes_stands, passes_stands, fills_stands}

good_stands : (s : Setting) (losses x : ℕ) (w : World) (act : Act) → IsChain s → is_done s w act ≡ true → Good s losses x w → Standing s losses x (done w act)
good_stands s losses x w (Keeps m c) chain is g = keeps_stands s losses x w m c g
good_stands s losses x w (Raises m) chain is g = inr (record { held = g.held; since = g.since; none_other = g.none_other; whole = g.whole; given = g.given; gives = g.gives; passes = g.passes; misses = g.misses; planned = g.planned })
good_stands s losses x w (Starts m q) chain is g = starts_stands s losses x w m q (leb-true (w.plan m) q (and_parts (nat_le (w.plan m) q) (s.stands q m) is).0) g
good_stands s losses x w (Answers p m) chain is g =
    let parts : (not (w.lacks p) ≡ true) × (s.stands (w.plan p) m ≡ true) = and_parts (not (w.lacks p)) (s.stands (w.plan p) m) is in
    answers_stands s losses x w p m chain g (not-true (w.lacks p) parts.0) parts.1
good_stands s losses x w (Takes m p c) chain is g =
    let parts : (w.gave p m c ≡ true) × ((w.lacks m && s.stands (w.plan m) p) ≡ true) = and_parts (w.gave p m c) (w.lacks m && s.stands (w.plan m) p) is in
    let rest : (w.lacks m ≡ true) × (s.stands (w.plan m) p ≡ true) = and_parts (w.lacks m) (s.stands (w.plan m) p) parts.1 in
    takes_stands s losses x w m p c chain g parts.0 rest.0 rest.1
good_stands s losses x w (Passes m p) chain is g =
    let parts : (w.missed p m ≡ true) × ((w.lacks m && s.stands (w.plan m) p) ≡ true) = and_parts (w.missed p m) (w.lacks m && s.stands (w.plan m) p) is in
    let rest : (w.lacks m ≡ true) × (s.stands (w.plan m) p ≡ true) = and_parts (w.lacks m) (s.stands (w.plan m) p) parts.1 in
    passes_stands s losses x w m p chain g parts.0 rest.1
good_stands s losses x w (Fills m) chain is g =
    let parts : (w.lacks m ≡ true) × ((w.given m || w.passed m) ≡ true) = and_parts (w.lacks m) (w.given m || w.passed m) is in
    fills_stands s losses x w m g (or_cases (w.given m) (w.passed m) parts.1)

act_stands : (s : Setting) (losses x : ℕ) (w : World) (act : Act) → IsChain s → Standing s losses x w → Standing s losses x (after_act s w act)
act_stands s losses x w act chain stands = by (is_done s w act) refl stands
  where
    by : (b : Bool) → is_done s w act ≡ b → Standing s losses x w → Standing s losses x (if b then done w act else w)
    by false is standing = standing
    by true is (inl st) = inl (stuck_stays s losses x w act is st)
    by true is (inr g) = good_stands s losses x w act chain is g

acts_stand : (s : Setting) (losses x : ℕ) (acts : List Act) (w : World) → IsChain s → Standing s losses x w → Standing s losses x (after_acts s w acts)
acts_stand s losses x [] w chain standing = standing
acts_stand s losses x (act ∷ acts) w chain standing = acts_stand s losses x acts (after_act s w act) chain (act_stands s losses x w act chain standing)

first_stands : (s : Setting) (losses x : ℕ) → Good s losses x (first_world s)
first_stands s losses x = record { held = λ m stands told. absurd (true≢false (sym told)); since = λ m stands told. absurd (true≢false (sym told)); none_other = λ m y stands whole has. grind arith; whole = λ m later whole. grind arith; given = λ m later is. absurd (true≢false (sym is)); gives = λ p m y since gave. absurd (true≢false (sym gave)); passes = λ m later. refl; misses = λ p m since later. refl; planned = λ m. omega arith }

holds_then : (s : Setting) (losses x : ℕ) (w : World) → Good s losses x w → ((node : ℕ) → s.stands losses node ≡ true → w.told node x losses ≡ true) → (node : ℕ) → IsSince s losses node → Holds w node x
holds_then s losses x w g told node (inl stands) =
    let its : w.has node ≡ Some x = g.held node stands (told node stands) in
    record { whole = λ full. its; given = λ is. its; gives = λ other d gave. g.gives node other d (inl stands) gave }
holds_then s losses x w g told node (inr later) = record { whole = g.whole node later; given = g.given node later; gives = λ other d gave. g.gives node other d (inr later) gave }

pub acknowledged : Acknowledged
acknowledged s acts losses x chain told node since = by (acts_stand s losses x acts (first_world s) chain (inr (first_stands s losses x)))
  where
    by : Standing s losses x (after_acts s (first_world s) acts) → Holds (after_acts s (first_world s) acts) node x
    by (inl st) = absurd (true≢false (sym (told st.node st.stands) ∙ st.untold))
    by (inr g) = holds_then s losses x (after_acts s (first_world s) acts) g told node since
