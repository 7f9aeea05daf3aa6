-- Columns have places.
use Rattle.std.proofs.Common.{◌≡◌, ℕ, ◌≤◌, List, [], ◌∷◌, max, length, refl, Option, Some, None, arith}
use Rattle.std.proofs.lemmas.List.{length-map}
use Rattle.gq_laws.specs.declared.ops.Op.{Op}
use Rattle.gq_picture.specs.Columns.{ends, latest_from}
use Rattle.gq_svg.specs.Laws.{HaveColumns, SideBySide}

pub side_by_side : SideBySide
side_by_side column low = omega arith

-- no operation has more than one end
few_ends : (ops : List Op) → length (ends ops) ≤ length ops
few_ends [] = omega arith
few_ends (a ∷ ops) = by a.end refl (few_ends ops)
  where
    by : (end : Option ℕ) → a.end ≡ end → length (ends ops) ≤ length ops → length (ends (a ∷ ops)) ≤ length (a ∷ ops)
    by None is few = rw is (omega arith)
    by (Some place) is few = rw is (omega arith)

-- each has one point
one_point : (last : ℕ) (ops : List Op) → length (latest_from last ops) ≡ length ops
one_point last [] = refl
one_point last (a ∷ ops) = let rest = one_point (max last a.begin) ops in omega arith

pub have_columns : HaveColumns
have_columns ops low = omega (arith, length-map ops (λ (a : Op). a.begin), few_ends ops, one_point 0 ops)
