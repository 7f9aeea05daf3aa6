-- What a contract sees of a plan.
use Rattle.std.specs.Prelude.{ℕ, List, [], slice_get, unwrap_or}
use Rattle.gq_grid.specs.Grid.{Grid}
use Rattle.gq_desk.specs.declared.plans.TenantRow.{TenantRow}

-- the servers, the blocks of each, and the rows of the tenants in order
pub record CheckedPlan : Type 0 where
  pub grid : Grid
  pub blocks : ℕ
  pub rows : List TenantRow

-- the row of no tenant
abbrev pub nobody : TenantRow
nobody = record { name = []; share = 0; sessions = 0; steps = 0; most_blocks = 0; most_volumes = 0 }

-- the row of the tenant at place t
abbrev pub row_at : CheckedPlan → ℕ → TenantRow
row_at plan t = unwrap_or (slice_get plan.rows t) nobody
