use Rattle.gq_looks.proofs.Kept.{answers_kept}
use Rattle.gq_looks.proofs.laws.answers_stand.Goals as goal

pub returns : goal.returns
returns c = record { kept = answers_kept }
