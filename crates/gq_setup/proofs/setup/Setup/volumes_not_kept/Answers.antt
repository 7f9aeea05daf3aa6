use Rattle.std.proofs.Common.{◌≡◌, ◌≤◌, List, true, length, sym, ap, ◌∙◌, subst}
use Rattle.gq_desk.specs.declared.plans.TenantRow.{TenantRow}
use Rattle.gq_setup.specs.GoingOn.{come_first, row_goes_on}
use Rattle.gq_setup.specs.Setups.{Setup}
use Rattle.gq_setup.proofs.Comparing.{no_fewer}
use Rattle.gq_setup.proofs.LineByLine.{after_openings-length, accounts-length}
use Rattle.gq_setup.proofs.setup.Setup.volumes_not_kept.Goals as goal

pub accounts_not_kept-requires-clause-olds : goal.accounts_not_kept-requires-clause-olds
accounts_not_kept-requires-clause-olds c =
    ap (λ (rows : List TenantRow). length rows) c.rows.ensures.rows ∙ sym (ap length c.old.invariant.0 ∙ after_openings-length _ c.old.inside.openings.items ∙ accounts-length c.old.inside.plan)

pub accounts_not_kept-requires-clause-news : goal.accounts_not_kept-requires-clause-news
accounts_not_kept-requires-clause-news c =
    let first : come_first (row_goes_on c.self.inside.gone.items) c.old.inside.plan.rows c.self.inside.plan.rows ≡ true =
    ap (λ (s : Setup). come_first (row_goes_on c.self.inside.gone.items) s.plan.rows c.self.inside.plan.rows) c.old.view_is ∙ ap (λ (s : Setup). come_first (row_goes_on s.gone) c.args.old.now.plan.rows s.plan.rows) c.self.view_is ∙ c.requires in
    subst (λ (rows : List TenantRow). length rows ≤ length c.self.inside.desk) (sym c.rows.ensures.rows)
    (subst (λ n. length c.old.inside.plan.rows ≤ n) (sym (ap length c.self.invariant.0 ∙ after_openings-length _ c.self.inside.openings.items ∙ accounts-length c.self.inside.plan))
    (no_fewer (row_goes_on c.self.inside.gone.items) c.old.inside.plan.rows c.self.inside.plan.rows first))
