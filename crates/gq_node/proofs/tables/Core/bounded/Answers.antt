-- It is in the shape of the tables, and each tenant was looked at.
use Rattle.std.proofs.Common.{◌≡◌, ◌∙◌, length, subst, ap, arith}
use Rattle.gq_node.specs.Shape.{IsShaped}
use Rattle.gq_node.specs.Tables.{Tables}
use Rattle.gq_node.proofs.Bounds.{shaped_bounded}
use Rattle.gq_node.proofs.tables.Core.bounded.Goals as goal

pub returns : goal.returns
returns c =
    let w : Tables = c.args.self.now in
    let shaped : IsShaped w = subst IsShaped c.self.view_is c.self.invariant in
    let given : length w.given ≡ length w.plan.rows = shaped.given in
    let end : c.tenants-tenant-end.result ≡ length w.plan.rows = c.tenants-tenant-end.ensures.value ∙ ap (λ (x : Tables). length x.plan.rows) c.self.view_is in
    shaped_bounded w shaped (λ t below. c.loop-tenant.invariant t (omega (arith, end, below, given, c.loop-tenant-test.false)))
