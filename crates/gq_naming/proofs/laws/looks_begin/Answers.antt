use Rattle.gq_naming.proofs.LookSteps.{looks_begin}
use Rattle.gq_naming.proofs.laws.looks_begin.Goals as goal

pub returns : goal.returns
returns c = looks_begin
