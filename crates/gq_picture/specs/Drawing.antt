-- What is drawn of the operations on a file: a bar with a point for each operation in the order of the register, what the register
-- holds between the points of its writes, and when servers were down.
use Rattle.std.specs.Prelude.{◌≡◌, ℕ, ◌+◌, List, [], ◌∷◌, Bool, false, max, map, slice_get, Option, Some, None, if◌then◌else◌}
use Rattle.gq_laws.specs.declared.ops.Op.{Op}
use Rattle.gq_laws.specs.Operations.{is_write, ops_at}
use Rattle.gq_picture.specs.Columns.{begin_column, columns, last_column, point_column}
use Rattle.gq_picture.specs.declared.absences.Absence.{Absence}
use Rattle.gq_picture.specs.declared.drawing.Bar.{Bar}
use Rattle.gq_picture.specs.declared.drawing.Outage.{Outage}
use Rattle.gq_picture.specs.declared.drawing.Value.{Value}
use Rattle.gq_picture.specs.declared.drawing.Drawing.{Drawing}

-- ---- the operations

-- the bar of the operation at the place, which has so many before it in the order; the last beginning up to its own is at `last`
abbrev pub bar_of : List Op → ℕ → ℕ → ℕ → Op → Bar
bar_of seq m last place a = record { place = place; left = begin_column seq a.begin; point = point_column seq m last; right = last_column seq a.end }

-- the bars of the operations at these places, where so many stand before them and the last of those begins at `last`
abbrev pub bars_from : List Op → List Op → ℕ → ℕ → List ℕ → List Bar
bars_from ops seq m last [] = []
bars_from ops seq m last (place ∷ places) = by (slice_get ops place) (λ m last. bars_from ops seq m last places)
  where
    by : Option Op → (ℕ → ℕ → List Bar) → List Bar
    by None rest = rest m last
    by (Some a) rest = bar_of seq m (max last a.begin) place a ∷ rest (m + 1) (max last a.begin)

-- the bars of the operations in this order
abbrev pub bars : List Op → List ℕ → List Bar
bars ops order = bars_from ops (ops_at ops order) 0 0 order

-- ---- the register

-- the operation at the place is there, and a write
abbrev pub is_write_at : List Op → ℕ → Bool
is_write_at ops place = by (slice_get ops place)
  where
    by : Option Op → Bool
    by None = false
    by (Some a) = is_write a

-- what the register holds from this column on, where this write was the last one: up to the point of the next one, and so on
-- to the last of so many columns
abbrev pub values_from : List Op → ℕ → Option ℕ → ℕ → List Bar → List Value
values_from ops edge write left [] = record { write = write; left = left; right = edge } ∷ []
values_from ops edge write left (bar ∷ bars) =
    if is_write_at ops bar.place
    then record { write = write; left = left; right = bar.point } ∷ values_from ops edge (Some bar.place) bar.point bars
    else values_from ops edge write left bars

-- ---- servers

-- a server's absence, from column to column
abbrev pub outage_of : List Op → Absence → Outage
outage_of seq absence = record { server = absence.server; left = begin_column seq absence.from; right = until absence.until }
  where
    until : Option ℕ → ℕ
    until None = columns seq
    until (Some place) = begin_column seq place

-- ---- the drawing

-- the drawing is that of the operations in this order, beside these absences of servers
pub record IsDrawing (ops : List Op) (order : List ℕ) (absences : List Absence) (d : Drawing) : Type 0 where
  pub ops_are : d.ops.items ≡ ops
  pub bars_are : d.bars.items ≡ bars ops order
  pub values_are : d.values.items ≡ values_from ops (columns (ops_at ops order)) None 0 (bars ops order)
  pub outages_are : d.outages.items ≡ map (outage_of (ops_at ops order)) absences
  pub columns_are : d.columns ≡ columns (ops_at ops order)
