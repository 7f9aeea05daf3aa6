-- A drawing of a legal order tells no lie.
use Rattle.std.specs.Prelude.{◌≡◌, ◌≢◌, ◌↔◌, ◌<◌, ◌≤◌, ℕ, ◌*◌, List, [], ◌∷◌, ◌++◌, true, false, Some, None, Contains, length, map, slice_get}
use Rattle.gq_desk.specs.CheckedPlan.{CheckedPlan}
use Rattle.gq_model.specs.declared.events.Event.{Event}
use Rattle.gq_model.specs.Trace.{up}
use Rattle.gq_model.specs.Events.{past_at}
use Rattle.gq_laws.specs.declared.ops.Op.{Op}
use Rattle.gq_laws.specs.Operations.{At, Gives, Legal, Precedes, is_write}
use Rattle.gq_laws.specs.Tenants.{answers}
use Rattle.gq_picture.specs.declared.absences.Absence.{Absence}
use Rattle.gq_picture.specs.declared.absences.Effect.{Effect}
use Rattle.gq_picture.specs.declared.drawing.Bar.{Bar}
use Rattle.gq_picture.specs.declared.drawing.Outage.{Outage}
use Rattle.gq_picture.specs.declared.drawing.Value.{Value}
use Rattle.gq_picture.specs.declared.drawing.Drawing.{Drawing}
use Rattle.gq_picture.specs.Absences.{absences, counted_from, effects}
use Rattle.gq_picture.specs.Drawing.{IsDrawing, is_write_at}
use Rattle.gq_picture.specs.Register.{written_by}

-- the bar is drawn, and it is that of this operation
pub record IsBarOf (ops : List Op) (d : Drawing) (x : Bar) (a : Op) : Type 0 where
  pub drawn : Contains d.bars.items x
  pub at : At ops x.place a

-- the column lies between the two sides of the value
pub record Spans (v : Value) (column : ℕ) : Type 0 where
  pub begun : v.left < column
  pub lasting : column < v.right

-- the value is drawn, and it begins in the column of its write
pub record IsWrittenAt (ops : List Op) (d : Drawing) (v : Value) (place : ℕ) : Type 0 where
  pub bar : Bar
  pub drawn : Contains d.bars.items bar
  pub place_is : bar.place ≡ place
  pub begins : bar.point ≡ v.left
  pub writes : is_write_at ops place ≡ true

-- there is a value of the write, which begins at its point
pub record HasValue (d : Drawing) (x : Bar) : Type 0 where
  pub value : Value
  pub drawn : Contains d.values.items value
  pub write : value.write ≡ Some x.place
  pub begins : value.left ≡ x.point

-- the values stand one behind the other from the one column to the other
abbrev pub IsRow : ℕ → ℕ → List Value → Type 0
IsRow left right [] = left ≡ right
IsRow left right (v ∷ values) = (v.left ≡ left) × IsRow v.right right values

-- the column stands among the sides of the bars as the place stands among the beginnings and the ends of operations
pub record StandsAt (ops : List Op) (d : Drawing) (place column : ℕ) : Type 0 where
  pub left : (x : Bar) (a : Op) → IsBarOf ops d x a → ((place ≤ a.begin) ↔ (column ≤ x.left))
  pub right : (x : Bar) (a : Op) (e : ℕ) → IsBarOf ops d x a → a.end ≡ Some e → ((place ≤ e) ↔ (column ≤ x.right))

-- the outage is that of the server which was absent, from where it went down to where it came back, or to the end
pub record IsOutageOf (ops : List Op) (d : Drawing) (absence : Absence) (o : Outage) : Type 0 where
  pub server : o.server ≡ absence.server
  pub from : StandsAt ops d absence.from o.left
  pub until : (place : ℕ) → absence.until ≡ Some place → StandsAt ops d place o.right
  pub lasting : absence.until ≡ None → o.right ≡ d.columns

pub record TellsNoLie (ops : List Op) (order : List ℕ) (absences : List Absence) (d : Drawing) : Type 0 where
  -- each operation of the order has one bar with one point, no other has any, and they stand in this order
  pub each : map (λ x. x.place) d.bars.items ≡ order
  -- the points rise strictly in the order
  pub rise : (m n : ℕ) (x y : Bar) → slice_get d.bars.items m ≡ Some x → slice_get d.bars.items n ≡ Some y → m < n → x.point < y.point
  -- each lies between the beginning of its operation and the end
  pub within : (x : Bar) → Contains d.bars.items x → (x.left < x.point) × (x.point < x.right)
  -- a bar ends before another begins exactly where the one operation ended before the other began
  pub apart : (x y : Bar) (a b : Op) → IsBarOf ops d x a → IsBarOf ops d y b → (Precedes a b ↔ (x.right < y.left))
  -- and else it ends behind that, so no end stands in the column of a beginning
  pub together : (x y : Bar) (a b : Op) → IsBarOf ops d x a → IsBarOf ops d y b → ¬ Precedes a b → y.left < x.right
  -- one that did not end lasts behind all columns
  pub open_ends : (x : Bar) (a : Op) → IsBarOf ops d x a → a.end ≡ None → x.right ≡ d.columns
  -- no point stands in the column of a beginning or an end
  pub clear : (x y : Bar) → Contains d.bars.items x → Contains d.bars.items y → (x.point ≢ y.left) × (x.point ≢ y.right)
  -- what the register holds stands from the first column to the last
  pub row : IsRow 0 d.columns d.values.items
  -- what a write wrote begins at its point
  pub writes : (x : Bar) (a : Op) → IsBarOf ops d x a → is_write a ≡ true → HasValue d x
  -- and nowhere else
  pub written : (v : Value) (place : ℕ) → Contains d.values.items v → v.write ≡ Some place → IsWrittenAt ops d v place
  -- at the point of a read or a row the register holds a value
  pub under : (x : Bar) (a : Op) → IsBarOf ops d x a → is_write a ≡ false → (v : Value) × Contains d.values.items v × Spans v x.point
  -- which is what the read gave, or of the length that the row told
  pub gives : (x : Bar) (a : Op) (v : Value) → IsBarOf ops d x a → is_write a ≡ false → Contains d.values.items v → Spans v x.point → Gives a (written_by ops v.write)
  -- each absence has its outage, and there is no other
  pub outages : length d.outages.items ≡ length absences
  pub absent : (m : ℕ) (absence : Absence) (o : Outage) → slice_get absences m ≡ Some absence → slice_get d.outages.items m ≡ Some o → IsOutageOf ops d absence o

-- so it is with each drawing of operations in a legal order
abbrev pub DrawingsAreTrue : Type 0
DrawingsAreTrue = (ops : List Op) (order : List ℕ) (absences : List Absence) (d : Drawing) → IsDrawing ops order absences d → Legal ops order → TellsNoLie ops order absences d

-- ---- when servers were down

-- what the events of a run do to servers
abbrev pub all_effects : CheckedPlan → List Event → List Effect
all_effects plan events = effects events (answers plan events)

-- an absence of the server is told that lasts at the place: it began there or before, and ended behind it, if it did
pub record IsAbsentAt (absences : List Absence) (server place : ℕ) : Type 0 where
  pub absence : Absence
  pub told : Contains absences absence
  pub of_it : absence.server ≡ server
  pub from : absence.from ≤ place
  pub lasts : (until : ℕ) → absence.until ≡ Some until → place < until

-- a server of the grid is down, in the model's run of any tenant, after an event and those before it exactly where an absence of it
-- lasts at the place of that event
abbrev pub AbsencesAreTrue : Type 0
AbsencesAreTrue = (plan : CheckedPlan) (t server : ℕ) (before after : List Event) (event : Event) → server < plan.grid.rows * plan.grid.cols →
    ((up (past_at plan t (before ++ event ∷ [])).trace server ≡ false)
    ↔ IsAbsentAt (absences (plan.grid.rows * plan.grid.cols) (counted_from 0 (all_effects plan (before ++ event ∷ after))) (all_effects plan (before ++ event ∷ after))) server (length before))
