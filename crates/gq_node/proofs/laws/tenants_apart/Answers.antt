-- Each tenant is apart.
use Rattle.gq_node.proofs.Apart.{all_calls_act, calls_by_parts, tenants_apart}
use Rattle.gq_node.proofs.laws.tenants_apart.Goals as goal

pub returns : goal.returns
returns c = record { calls = all_calls_act; parts = calls_by_parts; apart = tenants_apart }
