-- What a start found.
use Rattle.std.specs.Prelude.{ℕ}
use Rattle.gq_keeper.specs.declared.starting.Recovered.{Recovered}
use Rattle.gq_keeper.specs.declared.starting.Started.{Started}
use Rattle.gq_keeper.specs.declared.starting.Started.TheVariants.{Ready, Damaged, Another, Strange}

-- where the journal was read, what was read is such
abbrev pub ForReady : Started → (Recovered → Type 0) → Type 0
ForReady (Ready reading) P = P reading
ForReady (Damaged at) P = Unit {0}
ForReady Another P = Unit {0}
ForReady Strange P = Unit {0}

-- where it is damaged, the place is such
abbrev pub ForDamage : Started → (ℕ → Type 0) → Type 0
ForDamage (Ready reading) P = Unit {0}
ForDamage (Damaged at) P = P at
ForDamage Another P = Unit {0}
ForDamage Strange P = Unit {0}

-- where it is another's, such is so
abbrev pub ForAnother : Started → Type 0 → Type 0
ForAnother (Ready reading) P = Unit {0}
ForAnother (Damaged at) P = Unit {0}
ForAnother Another P = P
ForAnother Strange P = Unit {0}

-- where a line of it is strange, such is so
abbrev pub ForStrange : Started → Type 0 → Type 0
ForStrange (Ready reading) P = Unit {0}
ForStrange (Damaged at) P = Unit {0}
ForStrange Another P = Unit {0}
ForStrange Strange P = P
