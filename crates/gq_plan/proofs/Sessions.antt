-- The line of a session.
use Rattle.std.proofs.Common.{◌≡◌, ◌∙◌, ℕ, ◌+◌, ◌*◌, ◌%◌, List, Option, Some, sym, ap, take}
use Rattle.std.specs.Prelude.{slice_get, unwrap_or}
use Rattle.gq_grid.specs.Grid.{Grid}
use Rattle.gq_desk.specs.CheckedPlan.{CheckedPlan, nobody, row_at}
use Rattle.gq_desk.specs.declared.plans.TenantRow.{TenantRow}
use Rattle.gq_node.specs.Sites.{home_place}
use Rattle.gq_plan.specs.PlanWords.{first_session, session_line}

pub row_is : (plan : CheckedPlan) (t : ℕ) (row : TenantRow) → slice_get plan.rows t ≡ Some row → row ≡ row_at plan t
row_is plan t row is = sym (ap (λ (o : Option TenantRow). unwrap_or o nobody) is)

pub session_told : (plan : CheckedPlan) (t place n before servers : ℕ) (row : TenantRow) (rows : List TenantRow) (grid : Grid) → slice_get plan.rows t ≡ Some row → rows ≡ plan.rows → n ≡ place → before ≡ first_session (take t rows) →
    grid ≡ plan.grid → servers ≡ grid.rows * grid.cols → session_line row.name place ((n + before) % servers) ≡ session_line (row_at plan t).name place (home_place plan t place)
session_told plan t place n before servers row rows grid is rows_are n_is before_is grid_is servers_are =
    let home : (n + before) % servers ≡ home_place plan t place =
    ap (λ m. (m + before) % servers) n_is
    ∙ ap (λ b. (place + b) % servers) (before_is ∙ ap (λ (rs : List TenantRow). first_session (take t rs)) rows_are)
    ∙ ap (λ s. (place + first_session (take t plan.rows)) % s) (servers_are ∙ ap (λ (g : Grid). g.rows * g.cols) grid_is) in
    ap (λ (r : TenantRow). session_line r.name place ((n + before) % servers)) (row_is plan t row is) ∙ ap (session_line (row_at plan t).name place) home
