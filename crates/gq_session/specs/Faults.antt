-- Whose fault it is.
use Rattle.std.specs.Prelude.{◌≢◌, Result}
use Rattle.std.specs.Result.{ForErr}
use Rattle.gq_session.specs.declared.records.LiveFault.{LiveFault}
use Rattle.gq_session.specs.declared.records.LiveFault.TheVariants.{Gate}

-- the fault, if there is one, is not the gate's
abbrev pub NoGate : {A : Type 0} → Result A LiveFault → Type 0
NoGate result = ForErr result (λ fault. fault ≢ Gate)
