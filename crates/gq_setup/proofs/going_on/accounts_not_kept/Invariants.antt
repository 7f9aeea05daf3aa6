use Rattle.std.proofs.Common.{◌≡◌, drop}
use Rattle.gq_setup.specs.GoingOn.{account_goes_on, accounts_left, come_first}
use Rattle.gq_setup.proofs.going_on.accounts_not_kept.Given as goal

abbrev pub invariant-loop-tenant : goal.invariant-loop-tenant
invariant-loop-tenant l = come_first account_goes_on (drop l.tenant (accounts_left l.gone l.rows l.old)) (drop l.tenant l.new) ≡ come_first account_goes_on (accounts_left l.gone l.rows l.old) l.new
