use Rattle.gq_parts.proofs.Reading.{starts_by_parts, facts_by_parts}
use Rattle.gq_parts.proofs.laws.starts_apart.Goals as goal

pub returns-clause-starts : goal.returns-clause-starts
returns-clause-starts c = starts_by_parts

pub returns-clause-facts : goal.returns-clause-facts
returns-clause-facts c = facts_by_parts
