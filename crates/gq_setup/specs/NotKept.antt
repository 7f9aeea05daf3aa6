-- What of an older setup a newer one does not keep, as it is told.
use Rattle.std.specs.Prelude.{◌≡◌, ◌⊎◌, ℕ, ◌<◌, List, slice_get, Option, Some, None, Bool, true, false, ◌&&◌, ◌==◌}
use Rattle.std.specs.Str.{bytes_eq}
use Rattle.gq_desk.specs.CheckedPlan.{CheckedPlan}
use Rattle.gq_desk.specs.declared.plans.TenantRow.{TenantRow}
use Rattle.gq_desk.specs.declared.volumes.VolumeRow.{VolumeRow}
use Rattle.gq_desk.specs.Volumes.{Account, account_at}
use Rattle.gq_lines.specs.Words.{Word}
use Rattle.gq_setup.specs.declared.going_on.NotKept.{NotKept}
use Rattle.gq_setup.specs.declared.going_on.NotKept.TheVariants.{Grid, Blocks, Loss, Gone, Tenant, Sessions, Share, Volume, Chunks}
use Rattle.gq_setup.specs.declared.openings.ChunkRoom.{ChunkRoom}
use Rattle.gq_setup.specs.Setups.{Setup, holdings, kib_of, is_gone, is_gone_at}
use Rattle.gq_setup.specs.GoingOn.{same_place, same_name, same_volume, holdings_left}

-- whether what was there, if anything, became what is there now, as the test wants it
abbrev pub kept_as : {A : Type 0} → (A → A → Bool) → (old now : Option A) → Bool
kept_as test None now = true
kept_as test (Some old) None = false
kept_as test (Some old) (Some now) = test old now

-- whether the one at this place of the old list is kept at its place
abbrev pub is_kept_at : {A : Type 0} → (A → A → Bool) → (olds news : List A) → (place : ℕ) → Bool
is_kept_at test olds news place = kept_as test (slice_get olds place) (slice_get news place)

-- the grid was this one, and is another; or servers had so many blocks, and have fewer
abbrev pub TellsServers : (old new : CheckedPlan) → NotKept → Type 0
TellsServers old new (Grid rows cols) = (rows ≡ old.grid.rows) × (cols ≡ old.grid.cols) × ((rows == new.grid.rows && cols == new.grid.cols) ≡ false)
TellsServers old new (Blocks before) = (before ≡ old.blocks) × (new.blocks < before)
TellsServers old new _ = ⊥

-- the loss of this index was at this place, and is not kept
abbrev pub TellsLoss : (olds news : List ℕ) → NotKept → Type 0
TellsLoss olds news (Loss index place) = (slice_get olds index ≡ Some place) × (is_kept_at same_place olds news index ≡ false)
TellsLoss olds news _ = ⊥

-- the one that was gone by the line of this index had this name, and is not told at its place
abbrev pub TellsGone : (olds news : List Word) → NotKept → Type 0
TellsGone olds news (Gone index name) = (slice_get olds index ≡ Some name) × (is_kept_at same_name olds news index ≡ false)
TellsGone olds news _ = ⊥

-- the tenant of this place is not gone and has another name, had so many sessions and has more or fewer, or is not gone, had a share of so many
-- blocks and has fewer
abbrev pub TellsRow : (gone : List Word) → (place : ℕ) → (old new : TenantRow) → NotKept → Type 0
TellsRow gone place old new (Tenant at) = (at ≡ place) × (is_gone gone old.name ≡ false) × (bytes_eq old.name new.name ≡ false)
TellsRow gone place old new (Sessions at before) = (at ≡ place) × (before ≡ old.sessions) × ((before == new.sessions) ≡ false)
TellsRow gone place old new (Share at before) = (at ≡ place) × (is_gone gone old.name ≡ false) × (before ≡ old.share) × (new.share < before)
TellsRow gone place old new _ = ⊥

-- the same where the row may be missing
abbrev pub TellsRowOf : (gone : List Word) → (place : ℕ) → NotKept → (old new : Option TenantRow) → Type 0
TellsRowOf gone place what None new = ⊥
TellsRowOf gone place what (Some old) None = what ≡ Tenant place
TellsRowOf gone place what (Some old) (Some new) = TellsRow gone place old new what

abbrev pub TellsRowAt : (gone : List Word) → (olds news : List TenantRow) → NotKept → Type 0
TellsRowAt gone olds news what = (place : ℕ) × TellsRowOf gone place what (slice_get olds place) (slice_get news place)

-- the tenant's volume of this index had so many files of so many blocks, and is not kept; those of tenants that are gone are not among the old ones
abbrev pub TellsVolume : (olds news : List Account) → NotKept → Type 0
TellsVolume olds news (Volume t index files blocks) =
    (slice_get (account_at olds t).volumes index ≡ Some (record { files = files; blocks = blocks })) × (is_kept_at same_volume (account_at olds t).volumes (account_at news t).volumes index ≡ false)
TellsVolume olds news _ = ⊥

-- the tenant of this place is not gone, had room for so many KiB of chunks, and has less
abbrev pub TellsRoom : (gone : List Word) → CheckedPlan → (olds news : List ChunkRoom) → NotKept → Type 0
TellsRoom gone plan olds news (Chunks place before) = (is_gone_at gone plan place ≡ false) × (before ≡ kib_of olds place) × (kib_of news place < before)
TellsRoom gone plan olds news _ = ⊥

-- what is told of the older setup was so, and the newer one does not keep it
abbrev pub IsNotKept : (old new : Setup) → NotKept → Type 0
IsNotKept old new what =
    TellsServers old.plan new.plan what
    ⊎ TellsLoss old.lost new.lost what
    ⊎ TellsGone old.gone new.gone what
    ⊎ TellsRowAt new.gone old.plan.rows new.plan.rows what
    ⊎ TellsVolume (holdings_left new.gone old) (holdings new) what
    ⊎ TellsRoom new.gone old.plan old.rooms new.rooms what
