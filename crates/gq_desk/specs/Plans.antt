-- Plans, and the first fault of a table of rows.
use Rattle.std.specs.Prelude.{◌≡◌, ◌≤◌, true, ℕ, List, [], ◌∷◌, ◌++◌, Option, Some, None, Bool, ◌&&◌, ◌==◌, not, nat_lt, nat_le, length, sum_by, if◌then◌else◌}
use Rattle.std.specs.List.{list_all, list_any}
use Rattle.std.specs.Option.{option_or}
use Rattle.std.specs.Str.{bytes_eq}
use Rattle.gq_desk.specs.declared.limits.TheConstants.{MOST_TENANTS, MOST_BLOCKS, MOST_FILE_BLOCKS, MOST_SESSIONS, MOST_STEPS, MOST_VOLUMES}
use Rattle.gq_desk.specs.Names.{is_name}
use Rattle.gq_desk.specs.declared.plans.TenantRow.{TenantRow}
use Rattle.gq_desk.specs.declared.plans.PlanFault.{PlanFault}
use Rattle.gq_desk.specs.declared.plans.PlanFault.TheVariants.{NoTenant, SameName, ZeroShare, Sessions, Steps, Most, Volumes, OverBlocks, TooMany}

-- whether the row is of the name
abbrev pub is_of : List ℕ → TenantRow → Bool
is_of name row = bytes_eq name row.name

-- the row's name is a name
abbrev pub is_named : TenantRow → Bool
is_named row = is_name row.name

-- a number in a range
abbrev pub is_in : ℕ → ℕ → ℕ → Bool
is_in low high n = nat_le low n && nat_le n high

-- the first number of the row at the place that is out of its range
abbrev pub number_fault : ℕ → TenantRow → Option PlanFault
number_fault place row =
    if row.share == 0 then Some (ZeroShare place)
    else if not (is_in 1 MOST_SESSIONS row.sessions) then Some (Sessions place)
    else if not (is_in 1 MOST_STEPS row.steps) then Some (Steps place)
    else if not (is_in 1 MOST_FILE_BLOCKS row.most_blocks) then Some (Most place)
    else if not (is_in 1 MOST_VOLUMES row.most_volumes) then Some (Volumes place)
    else None

-- the first fault of a row, those before it being so
abbrev pub row_fault : List TenantRow → TenantRow → Option PlanFault
row_fault before row =
    if nat_le MOST_TENANTS (length before) then Some (TooMany (length before))
    else if list_any (is_of row.name) before then Some (SameName (length before))
    else number_fault (length before) row

-- the first fault of the rows, those before them being so
abbrev pub rows_fault : List TenantRow → List TenantRow → Option PlanFault
rows_fault before [] = None
rows_fault before (row ∷ rows) = option_or (row_fault before row) (rows_fault (before ++ row ∷ []) rows)

-- the blocks that the tenants may reserve
abbrev pub shares : List TenantRow → ℕ
shares rows = sum_by (λ row. row.share) rows

-- the fault of the rows as a whole
abbrev pub table_fault : ℕ → List TenantRow → Option PlanFault
table_fault blocks rows =
    if length rows == 0 then Some NoTenant
    else if nat_lt blocks (shares rows) then Some (OverBlocks (shares rows) blocks)
    else None

-- the first fault of a plan
abbrev pub plan_fault : ℕ → List TenantRow → Option PlanFault
plan_fault blocks rows = option_or (rows_fault [] rows) (table_fault blocks rows)

-- `Plan::check` finds no fault: 1 to 64 rows of names and ranges of their own, whose shares sum to at most the blocks
pub record IsSound (blocks : ℕ) (rows : List TenantRow) : Type 0 where
  pub some : 1 ≤ length rows
  pub few : length rows ≤ MOST_TENANTS
  pub least : 1 ≤ blocks
  pub bound : blocks ≤ MOST_BLOCKS
  pub named : list_all is_named rows ≡ true
  pub within : shares rows ≤ blocks
  pub fault : plan_fault blocks rows ≡ None
