use Rattle.gq_setup.proofs.Staying.{gone_stay, gone_are_no_tenants, gone_never_back}
use Rattle.gq_setup.proofs.laws.gone_stay.Goals as goal

pub returns : goal.returns
returns c = record { stay = gone_stay; no_tenants = gone_are_no_tenants; never_back = gone_never_back }
