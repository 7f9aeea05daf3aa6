-- The line of a fault of rows is at most that of `go`.
use Rattle.std.proofs.Common.{◌≡◌, ◌≢◌, ℕ, ◌+◌, ◌≤◌, List, [], ◌∷◌, ◌++◌, length, length-append, Option, Some, None, Bool, true, false, cond, arith, subst, Ok, Err}
use Rattle.std.specs.Prelude.{IfSome, ◌==◌, not, nat_le, nat_lt}
use Rattle.std.specs.List.{list_any}
use Rattle.std.specs.Option.{option_or}
use Rattle.gq_desk.specs.declared.limits.TheConstants.{MOST_TENANTS, MOST_FILE_BLOCKS, MOST_SESSIONS, MOST_STEPS, MOST_VOLUMES}
use Rattle.gq_desk.specs.Plans.{is_of, is_in, shares, row_fault, rows_fault, table_fault, plan_fault}
use Rattle.gq_desk.specs.declared.plans.TenantRow.{TenantRow}
use Rattle.gq_desk.specs.declared.plans.PlanFault.{PlanFault}
use Rattle.gq_desk.specs.declared.plans.PlanFault.TheVariants.{TooMany, SameName, ZeroShare, Sessions, Steps, Most, Volumes, NoTenant, OverBlocks, Memory}
use Rattle.gq_text.specs.PlanText.{Reading, line_of_fault}

-- a fact of either choice's value
of_cond : (b : Bool) (x y : Option PlanFault) (P : PlanFault → Type 0) → IfSome x P → IfSome y P → IfSome (cond b x y) P
of_cond true x y P p q = p
of_cond false x y P p q = q

of_or : (x y : Option PlanFault) (P : PlanFault → Type 0) → IfSome x P → IfSome y P → IfSome (option_or x y) P
of_or None y P p q = q
of_or (Some x) y P p q = p

abbrev IsLow : ℕ → PlanFault → Type 0
IsLow n fault = line_of_fault n fault ≤ 3 + n

row_low : (before : List TenantRow) (row : TenantRow) (n : ℕ) → length before ≤ n → IfSome (row_fault before row) (IsLow n)
row_low before row n within =
    let low : 3 + length before ≤ 3 + n = omega arith in
    of_cond (nat_le MOST_TENANTS (length before)) (Some (TooMany (length before))) _ (IsLow n) low
    (of_cond (list_any (is_of row.name) before) (Some (SameName (length before))) _ (IsLow n) low
    (of_cond (row.share == 0) (Some (ZeroShare (length before))) _ (IsLow n) low
    (of_cond (not (is_in 1 MOST_SESSIONS row.sessions)) (Some (Sessions (length before))) _ (IsLow n) low
    (of_cond (not (is_in 1 MOST_STEPS row.steps)) (Some (Steps (length before))) _ (IsLow n) low
    (of_cond (not (is_in 1 MOST_FILE_BLOCKS row.most_blocks)) (Some (Most (length before))) _ (IsLow n) low
    (of_cond (not (is_in 1 MOST_VOLUMES row.most_volumes)) (Some (Volumes (length before))) None (IsLow n) low tt))))))

rows_low : (before rows : List TenantRow) (n : ℕ) → length before + length rows ≤ n → IfSome (rows_fault before rows) (IsLow n)
rows_low before [] n low = tt
rows_low before (row ∷ rows) n low =
    of_or (row_fault before row) (rows_fault (before ++ row ∷ []) rows) (IsLow n)
    (row_low before row n (omega arith))
    (rows_low (before ++ row ∷ []) rows n (omega (arith, length-append before (row ∷ []))))

table_low : (blocks : ℕ) (rows : List TenantRow) (n : ℕ) → IfSome (table_fault blocks rows) (IsLow n)
table_low blocks rows n =
    let low : 3 + n ≤ 3 + n = omega arith in
    of_cond (length rows == 0) (Some NoTenant) _ (IsLow n) low
    (of_cond (nat_lt blocks (shares rows)) (Some (OverBlocks (shares rows) blocks)) None (IsLow n) low tt)

some_low : (blocks : ℕ) (rows : List TenantRow) (fault : PlanFault) → plan_fault blocks rows ≡ Some fault → IsLow (length rows) fault
some_low blocks rows fault is =
    let P : Option PlanFault → Type 0 = λ o. IfSome o (IsLow (length rows)) in
    subst P is (of_or (rows_fault [] rows) (table_fault blocks rows) (IsLow (length rows)) (rows_low [] rows (length rows) (omega arith)) (table_low blocks rows (length rows)))

-- a fault of the rows, or want of memory
pub fault_low : (blocks : ℕ) (rows : List TenantRow) (fault : PlanFault) → (fault ≢ Memory tt → plan_fault blocks rows ≡ Some fault) → line_of_fault (length rows) fault ≤ 3 + length rows
fault_low blocks rows (Memory _) is = omega arith
fault_low blocks rows NoTenant is = omega arith
fault_low blocks rows (OverBlocks sum most) is = omega arith
fault_low blocks rows (TooMany row) is = some_low blocks rows (TooMany row) (is (λ e. cc))
fault_low blocks rows (SameName row) is = some_low blocks rows (SameName row) (is (λ e. cc))
fault_low blocks rows (ZeroShare row) is = some_low blocks rows (ZeroShare row) (is (λ e. cc))
fault_low blocks rows (Sessions row) is = some_low blocks rows (Sessions row) (is (λ e. cc))
fault_low blocks rows (Steps row) is = some_low blocks rows (Steps row) (is (λ e. cc))
fault_low blocks rows (Most row) is = some_low blocks rows (Most row) (is (λ e. cc))
fault_low blocks rows (Volumes row) is = some_low blocks rows (Volumes row) (is (λ e. cc))

-- what was read, after rows that were read before
abbrev pub with_front : List TenantRow → Reading (List TenantRow × List (List ℕ)) → Reading (List TenantRow × List (List ℕ))
with_front front (Ok read) = Ok (front ++ read.0, read.1)
with_front front (Err fault) = Err fault
