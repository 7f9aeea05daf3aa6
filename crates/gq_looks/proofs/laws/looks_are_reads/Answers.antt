use Rattle.gq_looks.proofs.Among.{looks_tagged, looks_legal}
use Rattle.gq_looks.proofs.laws.looks_are_reads.Goals as goal

pub returns : goal.returns
returns c = record { tagged = looks_tagged; legal = looks_legal }
