-- The order of a file's operations: by tag, a write before its reads, reads of one tag by their beginning, then by place.
use Rattle.std.specs.Prelude.{◌≡◌, ◌⊎◌, ◌<◌, ◌+◌, ℕ, List, [], ◌∷◌, Bool, true, false, ◌||◌, ◌&&◌, ◌==◌, nat_lt, is_some, Option, Some, None, IsSome, slice_get, if◌then◌else◌}
use Rattle.std.specs.List.{list_any}
use Rattle.gq_grid.specs.Grid.{Grid}
use Rattle.gq_tag.specs.declared.Tag.{Tag}
use Rattle.gq_tag.specs.Tag.{File, first_tag, is_less, equal_tags}
use Rattle.gq_desk.specs.declared.plans.TenantRow.{TenantRow}
use Rattle.gq_model.specs.Trace.{Turn}
use Rattle.gq_laws.specs.declared.ops.Op.{Op}
use Rattle.gq_laws.specs.Operations.{At, is_write, Tagged, Legal}
use Rattle.gq_laws.specs.Laws.{lone_operations}

-- the operation's tag, the first tag where it has none
abbrev pub tag_of : Op → Tag
tag_of a = by a.tag
  where
    by : Option Tag → Tag
    by None = first_tag
    by (Some tag) = tag

-- operations that are completed stand in the order, and open writes whose tag a completed operation gave
abbrev pub IsOrdered : List Op → Op → Type 0
IsOrdered ops a = IsSome a.end ⊎ ((is_write a ≡ true) × (j : ℕ) × (b : Op) × At ops j b × IsSome b.end × (b.tag ≡ a.tag))

-- a, at place i, stands before b, at place j
abbrev pub IsBefore : ℕ → Op → ℕ → Op → Type 0
IsBefore i a j b =
    (is_less (tag_of a) (tag_of b) ≡ true)
    ⊎ ((tag_of a ≡ tag_of b) × (((is_write a ≡ true) × (is_write b ≡ false)) ⊎ ((is_write a ≡ is_write b) × ((a.begin < b.begin) ⊎ ((a.begin ≡ b.begin) × (i < j))))))

-- the places are those of the operations that stand in the order, and stand in it
pub record IsOrder (ops : List Op) (places : List ℕ) : Type 0 where
  pub stands : (m i : ℕ) → slice_get places m ≡ Some i → (a : Op) × At ops i a × IsOrdered ops a
  pub all : (i : ℕ) (a : Op) → At ops i a → IsOrdered ops a → (m : ℕ) × (slice_get places m ≡ Some i)
  pub in_order : (m n i j : ℕ) (a b : Op) → m < n → slice_get places m ≡ Some i → slice_get places n ≡ Some j → At ops i a → At ops j b → IsBefore i a j b

-- of operations that are tagged each order by tag is legal
abbrev pub OrdersAreLegal : Type 0
OrdersAreLegal = (ops : List Op) (places : List ℕ) → Tagged ops → IsOrder ops places → Legal ops places

-- ---- the order as a list of places

-- the numbers by which the operation at the place stands
abbrev pub key : ℕ → Op → List ℕ
key i a = (tag_of a).number ∷ (tag_of a).session ∷ (if is_write a then 0 else 1) ∷ a.begin ∷ i ∷ []

-- the first number that differs is less
abbrev pub is_lex_less : List ℕ → List ℕ → Bool
is_lex_less [] ys = false
is_lex_less (x ∷ xs) [] = false
is_lex_less (x ∷ xs) (y ∷ ys) = nat_lt x y || ((x == y) && is_lex_less xs ys)

-- two tags are the same, or both are missing
abbrev pub equal_option_tags : Option Tag → Option Tag → Bool
equal_option_tags None None = true
equal_option_tags (Some x) (Some y) = equal_tags x y
equal_option_tags None (Some y) = false
equal_option_tags (Some x) None = false

-- whether the operation stands in the order
abbrev pub is_standing : List Op → Op → Bool
is_standing ops a = is_some a.end || (is_write a && list_any (λ b. is_some b.end && equal_option_tags b.tag a.tag) ops)

-- the key of the operation at a place
abbrev pub key_at : List Op → ℕ → List ℕ
key_at ops i = by (slice_get ops i)
  where
    by : Option Op → List ℕ
    by None = []
    by (Some a) = key i a

-- one more place in its place
abbrev pub insert : List Op → ℕ → List ℕ → List ℕ
insert ops i [] = i ∷ []
insert ops i (j ∷ js) = if is_lex_less (key_at ops i) (key_at ops j) then i ∷ j ∷ js else j ∷ insert ops i js

-- of these operations, which stand from place i on, those that stand in the order, in order
abbrev pub order_from : List Op → ℕ → List Op → List ℕ
order_from ops i [] = []
order_from ops i (a ∷ rest) = if is_standing ops a then insert ops i (order_from ops (i + 1) rest) else order_from ops (i + 1) rest

-- the order of the operations, as their places
abbrev pub order : List Op → List ℕ
order ops = order_from ops 0 ops

-- whatever the turns, the operations on each file have a legal order
abbrev pub AllRunsLegal : Type 0
AllRunsLegal = (grid : Grid) (row : TenantRow) (turns : List Turn) (file : File) → Legal (lone_operations grid row turns file) (order (lone_operations grid row turns file))
