-- Whether a plan may follow an older one, and why it may not.
use Rattle.std.specs.Prelude.{◌≡◌, ℕ, List, Ok, Err, true}
use Rattle.gq_setup.specs.Setups.{Setup, SetupReading}
use Rattle.gq_setup.specs.Faults.{IsFirstFault}
use Rattle.gq_setup.specs.GoingOn.{goes_on}
use Rattle.gq_setup.specs.NotKept.{IsNotKept}
use Rattle.gq_setup.specs.declared.going_on.NotKept.{NotKept}
use Rattle.gq_plan.specs.Leaving.{next_text}
use Rattle.gq_plan.specs.declared.told.FollowFault.{FollowFault}
use Rattle.gq_plan.specs.declared.told.FollowFault.TheVariants.{Old, New, NotKept as IsNot}

-- both are plans, a node of the older one may start with the newer one, and the text says so and who leaves by it
abbrev pub TellsNext : (old new : SetupReading Setup) → (text : List ℕ) → Type 0
TellsNext (Ok old) (Ok new) text = (goes_on old new ≡ true) × (text ≡ next_text old new)
TellsNext _ _ text = ⊥

-- both are plans, and this of the older one is not kept
abbrev pub IsNotKeptIn : NotKept → (old new : SetupReading Setup) → Type 0
IsNotKeptIn what (Ok old) (Ok new) = IsNotKept old new what
IsNotKeptIn what _ _ = ⊥

-- some setup was read
abbrev pub IsRead : SetupReading Setup → Type 0
IsRead (Ok setup) = Unit {0}
IsRead (Err fault) = ⊥

-- the fault is that of the older text; where that is a plan, of the newer one; and where both are, what is not kept
abbrev pub IsFollowFault : FollowFault → (old new : SetupReading Setup) → Type 0
IsFollowFault (Old fault) old new = IsFirstFault fault old
IsFollowFault (New fault) old new = IsRead old × IsFirstFault fault new
IsFollowFault (IsNot what) old new = IsNotKeptIn what old new
