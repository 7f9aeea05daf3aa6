use Rattle.gq_parts.proofs.Apart.{runs_by_parts, texts_by_parts, tenants_apart, others_left_out}
use Rattle.gq_parts.proofs.laws.tenants_apart.Goals as goal

pub returns-clause-runs : goal.returns-clause-runs
returns-clause-runs c = runs_by_parts

pub returns-clause-texts : goal.returns-clause-texts
returns-clause-texts c = texts_by_parts

pub returns-clause-apart : goal.returns-clause-apart
returns-clause-apart c = tenants_apart

pub returns-clause-others : goal.returns-clause-others
returns-clause-others c = others_left_out
