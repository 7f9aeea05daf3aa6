-- Which node stands at a place of the grid.
--
-- The words: a *place* is a server of the grid. A *plan* says which nodes were lost, each by its place, in order, and how many volumes there are.
-- A node that is lost is *replaced* by a new one at the same place, with a number that no node had before: the first node of a place has the
-- place's number, and each further one a number that is greater by `most_places` than the one before. Its *generation* says how many stood
-- there before it.
use Rattle.std.specs.Prelude.{◌≡◌, ℕ, ◌+◌, ◌*◌, ◌/◌, ◌%◌, ◌≤◌, List, ◌++◌, Bool, ◌==◌, nat_lt, if◌then◌else◌}
use Rattle.std.specs.List.{count_by}
use Rattle.gq_replace.specs.declared.numbers.TheConstants.{NUMBERS_OF_A_LOSS}

pub record Plan : Type 0 where
  -- the places whose nodes were lost, in the order of the losses
  pub lost : List ℕ
  -- how many volumes the tenant has
  pub volumes : ℕ

-- how often the node of the place was replaced
abbrev pub times : Plan → (place : ℕ) → ℕ
times plan place = count_by (λ lost. lost == place) plan.lost

-- numbers tell places apart where a grid has at most so many
abbrev pub most_places : ℕ
most_places = 64

abbrev pub place_of : (node : ℕ) → ℕ
place_of node = node % most_places

abbrev pub generation : (node : ℕ) → ℕ
generation node = node / most_places

-- the node that the plan has at the place
abbrev pub node_at : Plan → (place : ℕ) → ℕ
node_at plan place = times plan place * most_places + place

-- the plan has the node
abbrev pub has_node : Plan → (node : ℕ) → Bool
has_node plan node = generation node == times plan (place_of node)

-- the plan has a later one at the node's place
abbrev pub is_replaced : Plan → (node : ℕ) → Bool
is_replaced plan node = nat_lt (generation node) (times plan (place_of node))

-- The sessions of a new node, begun with a plan that tells of so many losses, take numbers of tags above this one. So whatever a lost node wrote
-- has a lower number than what they write. The sessions of the first node of a place begin with 1.
abbrev pub base : (node losses : ℕ) → ℕ
base node losses = if nat_lt 0 (generation node) then losses * NUMBERS_OF_A_LOSS else 0

-- the new plan goes on from the old one: nodes may be lost, and volumes opened
pub record GoesOn (old new : Plan) : Type 0 where
  pub more : List ℕ
  pub lost : new.lost ≡ old.lost ++ more
  pub volumes : old.volumes ≤ new.volumes

-- each of the plans goes on from those before it
abbrev pub IsChain : (ℕ → Plan) → Type 0
IsChain plans = (i j : ℕ) → i ≤ j → GoesOn (plans i) (plans j)
