use Rattle.std.proofs.Common.{◌≡◌, ◌≤◌, ◌∙◌, length, get_or, Some, sym, ap, subst, arith}
use Rattle.std.specs.Prelude.{slice_get}
use Rattle.std.proofs.lemmas.Option.{slice_get-get_or}
use Rattle.gq_desk.specs.CheckedPlan.{nobody}
use Rattle.gq_desk.specs.declared.volumes.VolumeRow.{VolumeRow}
use Rattle.gq_desk.specs.Volumes.{account_at}
use Rattle.gq_setup.specs.GoingOn.{same_volume, account_goes_on, accounts_left}
use Rattle.gq_setup.specs.NotKept.{is_kept_at}
use Rattle.gq_setup.proofs.Accounts.{account_differs, account_goes, left-length, left_volumes, row_there}
use Rattle.gq_setup.proofs.Comparing.{none_old}
use Rattle.gq_setup.proofs.going_on.accounts_not_kept.Goals as goal

pub returns-in-Some-clause-kept : goal.returns-in-Some-clause-kept
returns-in-Some-clause-kept c =
    sym (account_differs c.args.gone.now c.args.rows.now c.args.old.now c.args.new.now c.loop-tenant.tenant c.index-rows-tenant.result c.volumes-volumes.result.now c.volumes.result.now
    (record { same = c.requires.olds; within = omega arith; there = omega arith; row_is = c.index-rows-tenant.is ∙ row_there c.args.rows.now c.loop-tenant.tenant c.index-rows-tenant.result nobody (omega arith); olds_are = c.volumes-volumes.ensures.volumes; news_are = c.volumes.ensures.volumes }) (sym c.in-Some.ensures.kept)) ∙ c.loop-tenant.invariant

pub returns-in-Some-clause-told : goal.returns-in-Some-clause-told
returns-in-Some-clause-told c =
    let index = c.in-Some.index in
    let none : VolumeRow = record { files = 0; blocks = 0 } in
    let left : (account_at (accounts_left c.args.gone.now c.args.rows.now c.args.old.now) c.loop-tenant.tenant).volumes ≡ c.volumes-volumes.result.now =
    left_volumes c.args.gone.now c.args.rows.now c.args.old.now c.args.new.now c.loop-tenant.tenant c.index-rows-tenant.result c.volumes-volumes.result.now c.volumes.result.now
    (record { same = c.requires.olds; within = omega arith; there = omega arith; row_is = c.index-rows-tenant.is ∙ row_there c.args.rows.now c.loop-tenant.tenant c.index-rows-tenant.result nobody (omega arith); olds_are = c.volumes-volumes.ensures.volumes; news_are = c.volumes.ensures.volumes }) c.in-Some.ensures.stays in (
      subst (λ vs. slice_get vs index ≡ Some (get_or c.volumes-volumes.result.now index none)) (sym left) (slice_get-get_or c.volumes-volumes.result.now index none c.in-Some.ensures.within),
      ap (λ vs. is_kept_at same_volume vs (account_at c.args.new.now c.loop-tenant.tenant).volumes index) left
          ∙ ap (λ vs. is_kept_at same_volume c.volumes-volumes.result.now vs index) (sym c.volumes.ensures.volumes)
          ∙ c.in-Some.ensures.told,
    )

pub loop-tenant-preserved : goal.loop-tenant-preserved
loop-tenant-preserved c =
    sym (account_goes c.args.gone.now c.args.rows.now c.args.old.now c.args.new.now c.loop-tenant.tenant c.index-rows-tenant.result c.volumes-volumes.result.now c.volumes.result.now
    (record { same = c.requires.olds; within = omega arith; there = omega arith; row_is = c.index-rows-tenant.is ∙ row_there c.args.rows.now c.loop-tenant.tenant c.index-rows-tenant.result nobody (omega arith); olds_are = c.volumes-volumes.ensures.volumes; news_are = c.volumes.ensures.volumes }) (sym c.in_default.ensures.kept)) ∙ c.loop-tenant.invariant

pub returns-clause-kept : goal.returns-clause-kept
returns-clause-kept c =
    let left : length (accounts_left c.args.gone.now c.args.rows.now c.args.old.now) ≡ length c.args.rows.now = left-length c.args.gone.now c.args.rows.now c.args.old.now c.requires.olds in
    sym (none_old account_goes_on (accounts_left c.args.gone.now c.args.rows.now c.args.old.now) c.args.new.now c.loop-tenant.tenant (subst (λ n. n ≤ c.loop-tenant.tenant) (sym left) (omega arith))) ∙ c.loop-tenant.invariant
