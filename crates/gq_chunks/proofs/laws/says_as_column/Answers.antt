use Rattle.gq_chunks.proofs.Column.{says_as_column}
use Rattle.gq_chunks.proofs.laws.says_as_column.Goals as goal

pub returns : goal.returns
returns c = says_as_column
