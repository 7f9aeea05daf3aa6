-- One number of a session's chunks, at the nodes of a column. Contents are told apart by numbers: nothing else of them matters here.
use Rattle.std.specs.Prelude.{◌≡◌, ◌≤◌, ◌<◌, ◌⊎◌, ℕ, Bool, true, false, ◌==◌, ◌&&◌, ◌||◌, not, nat_le, nat_lt, List, [], ◌∷◌, Option, Some, None, if◌then◌else◌}

-- The nodes of a column over time. A plan is known by how many losses it tells; `stands losses node`: the node is one of that plan's. A node's
-- generation is the least number of losses of a plan in which it stands: 0 of the first ones.
pub record Setting : Type 0 where
  pub stands : ℕ → ℕ → Bool
  pub generation : ℕ → ℕ

-- A node stands in no plan before its own; and whoever stands in a plan stood in each earlier one, or is a new node since.
pub record IsChain (s : Setting) : Type 0 where
  pub begins : (losses node : ℕ) → s.stands losses node ≡ true → s.generation node ≤ losses
  pub goes_on : (before losses node : ℕ) → before ≤ losses → s.stands losses node ≡ true → (s.stands before node ≡ true) ⊎ (before < s.generation node)

-- Of each node: what it has under the number; whether the number is at or below its floor; whether it lacks chunks, was given this one, and was told by a peer
-- that this has none; the losses of its plan; of which contents it told that they are kept, with which losses. And what nodes wrote to others: a content that
-- they give, or that they have none.
pub record World : Type 0 where
  pub has : ℕ → Option ℕ
  pub below : ℕ → Bool
  pub lacks : ℕ → Bool
  pub given : ℕ → Bool
  pub passed : ℕ → Bool
  pub plan : ℕ → ℕ
  pub told : ℕ → ℕ → ℕ → Bool
  pub gave : ℕ → ℕ → ℕ → Bool
  pub missed : ℕ → ℕ → Bool

-- no node has anything; new nodes lack it
abbrev pub first_world : Setting → World
first_world s = record { has = λ k. None; below = λ k. false; lacks = λ k. nat_lt 0 (s.generation k); given = λ k. false; passed = λ k. false; plan = s.generation; told = λ k c q. false; gave = λ p k c. false; missed = λ p k. false }

-- A content comes to a node that is asked to keep it; a node's floor comes to the number; a node starts again with a plan; a node answers another one about the
-- number; a node takes what another one gave it, or that this one has none; a node is filled.
pub data Act : Type 0 where
  Keeps : ℕ → ℕ → Act
  Raises : ℕ → Act
  Starts : ℕ → ℕ → Act
  Answers : ℕ → ℕ → Act
  Takes : ℕ → ℕ → ℕ → Act
  Passes : ℕ → ℕ → Act
  Fills : ℕ → Act

-- whether the node tells that the content is kept
abbrev pub keeps_it : Option ℕ → (below : Bool) → ℕ → Bool
keeps_it None below c = not below
keeps_it (Some d) below c = d == c

abbrev pub then_has : Option ℕ → (below : Bool) → ℕ → Option ℕ
then_has None true c = None
then_has None false c = Some c
then_has (Some d) below c = Some d

abbrev pub kept : World → ℕ → ℕ → World
kept w m c = record { has = λ k. if k == m then then_has (w.has m) (w.below m) c else w.has k; below = w.below; lacks = w.lacks; given = w.given; passed = w.passed; plan = w.plan; told = λ k d q. (if k == m then if d == c then if q == w.plan m then keeps_it (w.has m) (w.below m) c else false else false else false) || w.told k d q; gave = w.gave; missed = w.missed }

abbrev pub raised : World → ℕ → World
raised w m = record { has = w.has; below = λ k. if k == m then true else w.below k; lacks = w.lacks; given = w.given; passed = w.passed; plan = w.plan; told = w.told; gave = w.gave; missed = w.missed }

abbrev pub started : World → ℕ → ℕ → World
started w m q = record { has = w.has; below = w.below; lacks = w.lacks; given = w.given; passed = w.passed; plan = λ k. if k == m then q else w.plan k; told = w.told; gave = w.gave; missed = w.missed }

abbrev pub answered : World → ℕ → ℕ → Option ℕ → World
answered w p m (Some c) = record { has = w.has; below = w.below; lacks = w.lacks; given = w.given; passed = w.passed; plan = w.plan; told = w.told; gave = λ j k d. (if j == p then if k == m then d == c else false else false) || w.gave j k d; missed = w.missed }
answered w p m None = record { has = w.has; below = w.below; lacks = w.lacks; given = w.given; passed = w.passed; plan = w.plan; told = w.told; gave = w.gave; missed = λ j k. (if j == p then k == m else false) || w.missed j k }

abbrev pub taken : World → ℕ → ℕ → World
taken w m c = record { has = λ k. if k == m then Some c else w.has k; below = w.below; lacks = w.lacks; given = λ k. if k == m then true else w.given k; passed = w.passed; plan = w.plan; told = w.told; gave = w.gave; missed = w.missed }

abbrev pub passed_over : World → ℕ → World
passed_over w m = record { has = w.has; below = w.below; lacks = w.lacks; given = w.given; passed = λ k. if k == m then true else w.passed k; plan = w.plan; told = w.told; gave = w.gave; missed = w.missed }

abbrev pub filled : World → ℕ → World
filled w m = record { has = w.has; below = w.below; lacks = λ k. if k == m then false else w.lacks k; given = w.given; passed = w.passed; plan = w.plan; told = w.told; gave = w.gave; missed = w.missed }

-- whether the act does something: a node starts with no plan before its own last one, or in which it does not stand; it answers only a node of its plan, and once it lacks
-- nothing; it takes only what a node of its plan wrote to it, while it lacks chunks; and is filled only once it was given the content, or passed over it
abbrev pub is_done : Setting → World → Act → Bool
is_done s w (Keeps m c) = true
is_done s w (Raises m) = true
is_done s w (Starts m q) = nat_le (w.plan m) q && s.stands q m
is_done s w (Answers p m) = not (w.lacks p) && s.stands (w.plan p) m
is_done s w (Takes m p c) = w.gave p m c && (w.lacks m && s.stands (w.plan m) p)
is_done s w (Passes m p) = w.missed p m && (w.lacks m && s.stands (w.plan m) p)
is_done s w (Fills m) = w.lacks m && (w.given m || w.passed m)

abbrev pub done : World → Act → World
done w (Keeps m c) = kept w m c
done w (Raises m) = raised w m
done w (Starts m q) = started w m q
done w (Answers p m) = answered w p m (w.has p)
done w (Takes m p c) = taken w m c
done w (Passes m p) = passed_over w m
done w (Fills m) = filled w m

abbrev pub after_act : Setting → World → Act → World
after_act s w act = if is_done s w act then done w act else w

abbrev pub after_acts : Setting → World → List Act → World
after_acts s w [] = w
after_acts s w (act ∷ acts) = after_acts s (after_act s w act) acts
