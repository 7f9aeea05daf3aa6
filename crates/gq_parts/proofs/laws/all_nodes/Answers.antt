use Rattle.gq_parts.proofs.AllNodes.{follows_law, all_by_law, all_steps_happen, all_starts_happen, all_renewals_happen}
use Rattle.gq_parts.proofs.laws.all_nodes.Goals as goal

pub returns-clause-follow : goal.returns-clause-follow
returns-clause-follow c = follows_law

pub returns-clause-nodes : goal.returns-clause-nodes
returns-clause-nodes c = all_by_law

pub returns-clause-steps : goal.returns-clause-steps
returns-clause-steps c = all_steps_happen

pub returns-clause-starts : goal.returns-clause-starts
returns-clause-starts c = all_starts_happen

pub returns-clause-renewals : goal.returns-clause-renewals
returns-clause-renewals c = all_renewals_happen
