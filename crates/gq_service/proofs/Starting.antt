-- What a start finds, more weakly said.
use Rattle.gq_keeper.specs.Started.{ForReady, ForStrange}
use Rattle.gq_keeper.specs.declared.starting.Recovered.{Recovered}
use Rattle.gq_keeper.specs.declared.starting.Started.{Started}
use Rattle.gq_keeper.specs.declared.starting.Started.TheVariants.{Ready, Damaged, Another, Strange}

pub ready_only : (found : Started) (P Q : Recovered → Type 0) → ((reading : Recovered) → P reading → Q reading) → ForReady found P → ForReady found Q
ready_only (Ready reading) P Q more holds = more reading holds
ready_only (Damaged at) P Q more holds = tt
ready_only Another P Q more holds = tt
ready_only Strange P Q more holds = tt

pub strange_only : (found : Started) (P Q : Type 0) → (P → Q) → ForStrange found P → ForStrange found Q
strange_only (Ready reading) P Q more holds = tt
strange_only (Damaged at) P Q more holds = tt
strange_only Another P Q more holds = tt
strange_only Strange P Q more holds = more holds
