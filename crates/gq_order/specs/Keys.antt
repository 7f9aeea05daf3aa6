-- The keys by which operations are sorted, and which of them stand in the order.
use Rattle.std.specs.Prelude.{ℕ, ◌+◌, List, [], ◌∷◌, Bool, false, ◌&&◌, ◌||◌, ◌==◌, is_some, if◌then◌else◌}
use Rattle.gq_laws.specs.declared.ops.Op.{Op}
use Rattle.gq_laws.specs.Operations.{is_write}
use Rattle.gq_laws.specs.Orders.{tag_of}
use Rattle.gq_order.specs.Walk.{is_done}
use Rattle.gq_order.specs.declared.keys.Key.{Key}

-- the key of the operation at the place
abbrev pub key_of : ℕ → Op → Key
key_of i a = record { number = (tag_of a).number; session = (tag_of a).session; rank = if is_write a then 0 else 1; begin = a.begin; place = i }

-- it may stand in the order: it is completed, or a write that has its tag
abbrev pub may_stand : Op → Bool
may_stand a = is_some a.end || (is_write a && is_some a.tag)

-- the keys of those of the operations that may stand, the first being at place i
abbrev pub candidates : ℕ → List Op → List Key
candidates i [] = []
candidates i (a ∷ ops) = if may_stand a then key_of i a ∷ candidates (i + 1) ops else candidates (i + 1) ops

-- the next key is of the same tag
abbrev pub is_next : Key → List Key → Bool
is_next k [] = false
is_next k (l ∷ keys) = (k.number == l.number) && (k.session == l.session)

-- the places of those that stand: they are completed, or a read or row of their tag comes next
abbrev pub kept : List Op → List Key → List ℕ
kept ops [] = []
kept ops (k ∷ keys) = if is_done ops k.place || is_next k keys then k.place ∷ kept ops keys else kept ops keys
