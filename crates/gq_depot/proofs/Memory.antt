-- How many bytes of a tenant's contents are in memory.
use Rattle.std.proofs.Common.{◌≡◌, ◌≤◌, ℕ, [], ◌∷◌, sym, subst, arith}
use Rattle.std.specs.Prelude.{max}
use Rattle.gq_shelf.specs.Notes.{Noted}
use Rattle.gq_stock.specs.Stocks.{fresh_in}
use Rattle.gq_stock.specs.declared.stock.Stock.{Stock}
use Rattle.gq_stock.specs.declared.limits.TheConstants.{MOST_FRESH_BYTES}
use Rattle.gq_depot.specs.Depots.{StaysWithin, in_memory}
use Rattle.gq_depot.specs.Laws.{Deed, Asked, Filled, Moved, Does, MemoryIsBounded}
use Rattle.gq_depot.specs.declared.depot.Depot.{Depot}

not_more : (mid now most : ℕ) → now ≤ mid → now ≤ max mid most
not_more mid now most less = omega (arith, less)

-- one deed
step_within : (noted : Noted) (losses : ℕ) (mid now : Depot) (deed : Deed) → Does noted losses mid deed now → StaysWithin mid now
step_within noted losses mid now (Asked request answered) step = step.memory
step_within noted losses mid now (Filled filling fact) step = step.memory
step_within noted losses mid now (Moved s n end fact) step = not_more (in_memory mid) (in_memory now) MOST_FRESH_BYTES step.memory

from_both : (first mid now most : ℕ) → mid ≤ max first most → now ≤ max mid most → now ≤ max first most
from_both first mid now most one two = omega arith

from_one : (first most : ℕ) → first ≤ max first most
from_one first most = omega arith

pub memory_is_bounded : MemoryIsBounded
memory_is_bounded losses first now [] ran = subst (λ (x : Depot). in_memory x ≤ max (in_memory first) MOST_FRESH_BYTES) (sym ran) (from_one (in_memory first) MOST_FRESH_BYTES)
memory_is_bounded losses first now (did ∷ before) (mid, ran, step) =
    from_both (in_memory first) (in_memory mid) (in_memory now) MOST_FRESH_BYTES (memory_is_bounded losses first mid before ran) (step_within did.noted losses mid now did.deed step)

-- ---- one call

-- what a call left in memory, where the stock is as it left it
pub stays_on : (old : Depot) (mid new : Stock) → new ≡ mid → fresh_in mid.sessions.items ≤ max (in_memory old) MOST_FRESH_BYTES → fresh_in new.sessions.items ≤ max (in_memory old) MOST_FRESH_BYTES
stays_on old mid new same le = subst (λ (s : Stock). fresh_in s.sessions.items ≤ max (in_memory old) MOST_FRESH_BYTES) (sym same) le
