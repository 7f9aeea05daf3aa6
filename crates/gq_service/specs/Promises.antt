-- What is promised of all that a node's process writes, whatever its number and its plan.
use Rattle.std.specs.Prelude.{◌≡◌, ◌⊎◌, ◌<◌, ℕ, Bool, List, [], length, Option}
use Rattle.gq_chunks.specs.Machines.{Chunks}
use Rattle.gq_setup.specs.Setups.{Setup}
use Rattle.gq_lines.specs.Written.{first_text}
use Rattle.gq_service.specs.Both.{both}
use Rattle.gq_service.specs.Serving.{IsDurable, ServesSomehow, registers}

-- the one where the plan gives no tenant room for chunks, the other where it gives some
abbrev pub ByRoom : Setup → (none some : Type 0) → Type 0
ByRoom setup none some = ((setup.rooms ≡ []) × none) ⊎ ((0 < length setup.rooms) × some)

-- of a node that keeps registers alone, where its plan gives no room for chunks; else of one that keeps chunks as well
abbrev pub IsDurableByRoom : {C : Type 0} → (has : C → Chunks) → Setup → (number : ℕ) → (input : Option (List ℕ)) → (base synced shown : List ℕ) → Type 0
IsDurableByRoom has setup number input base synced shown = ByRoom setup (IsDurable registers setup number input base synced shown) (IsDurable (both has) setup number input base synced shown)

abbrev pub ServesByRoom : {C : Type 0} → (has : C → Chunks) → Setup → (number : ℕ) → (is_new : Bool) → (input : Option (List ℕ)) → (base shown : List ℕ) → Type 0
ServesByRoom has setup number is_new input base shown = ByRoom setup (ServesSomehow registers setup number is_new input base shown) (ServesSomehow (both has) setup number is_new input base shown)

-- the same by some plan
abbrev pub IsDurableByPlan : {C : Type 0} → (has : C → Chunks) → (number : ℕ) → (input : Option (List ℕ)) → (base synced shown : List ℕ) → Type 0
IsDurableByPlan has number input base synced shown = (setup : Setup) × IsDurableByRoom has setup number input base synced shown

abbrev pub ServesByPlan : {C : Type 0} → (has : C → Chunks) → (number : ℕ) → (is_new : Bool) → (input : Option (List ℕ)) → (base shown : List ℕ) → Type 0
ServesByPlan has number is_new input base shown = (setup : Setup) × ServesByRoom has setup number is_new input base shown

-- it is durable behind the first line, of some input
abbrev pub IsDurableBySome : {C : Type 0} → (has : C → Chunks) → (synced shown : List ℕ) → Type 0
IsDurableBySome has synced shown = (number : ℕ) × (input : Option (List ℕ)) × IsDurableByPlan has number input first_text synced shown
