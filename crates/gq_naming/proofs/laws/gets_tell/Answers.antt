use Rattle.gq_naming.proofs.Telling.{gets_tell}
use Rattle.gq_naming.proofs.laws.gets_tell.Goals as goal

pub returns : goal.returns
returns c = gets_tell
