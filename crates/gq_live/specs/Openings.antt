-- Which of the volumes that are to be opened is refused.
use Rattle.std.specs.Prelude.{ℕ, ◌≡◌, ◌+◌, List, [], ◌∷◌, Option, Some, None, map, slice_set}
use Rattle.std.specs.Option.{option_or}
use Rattle.gq_desk.specs.CheckedPlan.{CheckedPlan}
use Rattle.gq_desk.specs.Volumes.{Account, OpenFault, account_at, open_fault, with_volume, new_account}
use Rattle.gq_session.specs.declared.records.LiveFault.{LiveFault}
use Rattle.gq_session.specs.declared.records.LiveFault.TheVariants.{Memory, Volume}
use Rattle.gq_session.specs.declared.records.Opening.{Opening}

-- why the desk refuses the volume, if it does
abbrev pub opening_fault : List Account → Opening → Option OpenFault
opening_fault desk o = open_fault (account_at desk o.tenant) (record { files = o.files; blocks = o.blocks })

-- the desk when it is open
abbrev pub desk_with : List Account → Opening → List Account
desk_with desk o = slice_set desk o.tenant (with_volume (record { files = o.files; blocks = o.blocks }) (account_at desk o.tenant))

-- the place, where there is a fault
abbrev pub place_if : ℕ → Option OpenFault → Option ℕ
place_if place None = None
place_if place (Some fault) = Some place

-- the place of the first volume that the desk refuses, where the volumes are opened one after another from this place on
abbrev pub first_refused : List Account → ℕ → List Opening → Option ℕ
first_refused desk place [] = None
first_refused desk place (o ∷ os) = option_or (place_if place (opening_fault desk o)) (first_refused (desk_with desk o) (place + 1) os)

-- the same of the volumes of a plan, of which none is open yet
abbrev pub refused_volume : CheckedPlan → List Opening → Option ℕ
refused_volume plan volumes = first_refused (map new_account plan.rows) 0 volumes

-- the first volume that is refused is told exactly where one is; but want of memory may come before it is found
abbrev pub TellsOfVolume : CheckedPlan → List Opening → LiveFault → Type 0
TellsOfVolume plan volumes (Volume place) = refused_volume plan volumes ≡ Some place
TellsOfVolume plan volumes (Memory _) = Unit {0}
TellsOfVolume plan volumes _ = refused_volume plan volumes ≡ None

-- a fault that tells of no volume
abbrev pub TellsOfNoVolume : LiveFault → Type 0
TellsOfNoVolume (Volume place) = ⊥
TellsOfNoVolume _ = Unit {0}
