-- Which fault of a text is told.
use Rattle.std.specs.Prelude.{◌≡◌, Err}
use Rattle.gq_setup.specs.declared.openings.SetupFault.{SetupFault}
use Rattle.gq_setup.specs.declared.openings.SetupFault.TheVariants.{Plan, Live, OpenSize, OpenVolumes, OpenShare, Chunks, Replace, Gone, Memory}
use Rattle.gq_desk.specs.Volumes.{WrongSize, NoVolumeLeft, OverShare}
use Rattle.gq_setup.specs.Setups.{SetupReading, InPlan, NoOpening, NotOpened, NotHad, NotLost, NotGone}

-- the fault is the first one of the lines, unless it is want of memory
abbrev pub IsFirstFault : {A : Type 0} → SetupFault → SetupReading A → Type 0
IsFirstFault (Plan n fault) reading = reading ≡ Err (n, InPlan fault)
IsFirstFault (Live n) reading = reading ≡ Err (n, NoOpening)
IsFirstFault (OpenSize n) reading = reading ≡ Err (n, NotOpened WrongSize)
IsFirstFault (OpenVolumes n) reading = reading ≡ Err (n, NotOpened NoVolumeLeft)
IsFirstFault (OpenShare n free) reading = reading ≡ Err (n, NotOpened (OverShare free))
IsFirstFault (Chunks n) reading = reading ≡ Err (n, NotHad)
IsFirstFault (Replace n) reading = reading ≡ Err (n, NotLost)
IsFirstFault (Gone n) reading = reading ≡ Err (n, NotGone)
IsFirstFault (Memory _) reading = Unit {0}
