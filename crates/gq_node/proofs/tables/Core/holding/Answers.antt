-- What the tables have of the tenant.
use Rattle.std.proofs.Common.{◌≡◌, ◌∙◌, ℕ, ◌*◌, Option, sym, ap}
use Rattle.std.specs.Prelude.{unwrap_or}
use Rattle.gq_grid.specs.Grid.{Grid}
use Rattle.gq_desk.specs.declared.plans.TenantRow.{TenantRow}
use Rattle.gq_desk.specs.CheckedPlan.{nobody, row_at}
use Rattle.gq_desk.specs.Volumes.{account_at}
use Rattle.gq_node.specs.Sites.{site_of, home_place, nodes_from}
use Rattle.gq_node.specs.Tables.{Tables}
use Rattle.gq_node.proofs.tables.Core.holding.Goals as goal

pub returns : goal.returns
returns c =
    let w : Tables = c.args.self.now in
    let t : ℕ = c.args.tenant in
    let row : row_at w.plan t ≡ c.row-row.result.now = ap (λ (x : Tables). row_at x.plan t) (sym c.self.view_is) ∙ ap (λ (o : Option TenantRow). unwrap_or o nobody) c.row-row.ensures.row in
    let servers : c.servers.result ≡ w.plan.grid.rows * w.plan.grid.cols = c.servers.ensures.value ∙ ap (λ (g : Grid). g.rows * g.cols) (c.grid.ensures ∙ ap (λ (x : Tables). x.plan.grid) c.self.view_is) in
    let home : c.home_place.result ≡ home_place w.plan t 0 = c.home_place.ensures.home ∙ ap (λ (x : Tables). home_place x.plan t 0) c.self.view_is in
    let volumes : c.in_ok-items.items.items ≡ (account_at w.desk t).volumes = c.in_ok-items.ensures.items ∙ c.volumes.ensures.volumes ∙ ap (λ (x : Tables). (account_at x.desk t).volumes) c.self.view_is in
    let nodes : c.in_ok-nodes_from.field-0.items ≡ nodes_from (site_of w.plan w.here t) 1 = c.in_ok-nodes_from.ensures t in
    λ i. record { servers = servers i; home = home i; sessions = (sym row i).sessions; share = (sym row i).share; most_blocks = (sym row i).most_blocks; volumes = volumes i; nodes = nodes i }
