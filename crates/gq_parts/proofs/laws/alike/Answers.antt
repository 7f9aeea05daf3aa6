use Rattle.gq_parts.proofs.AlikeShorts.{does_same}
use Rattle.gq_parts.proofs.AlikeTexts.{all_write_same}
use Rattle.gq_parts.proofs.laws.alike.Goals as goal

pub returns-clause-does : goal.returns-clause-does
returns-clause-does c = does_same

pub returns-clause-writes : goal.returns-clause-writes
returns-clause-writes c = all_write_same
