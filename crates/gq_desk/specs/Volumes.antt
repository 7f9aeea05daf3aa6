-- A tenant's volumes inside its share of every server's blocks.
use Rattle.std.specs.Prelude.{◌≡◌, ℕ, ◌+◌, ◌-◌, ◌*◌, List, [], ◌∷◌, ◌++◌, Option, Some, None, Bool, ◌&&◌, not, nat_lt, nat_le, length, slice_get, unwrap_or, sum_by, if◌then◌else◌}
use Rattle.std.specs.Option.{option_and_then}
use Rattle.gq_tag.specs.declared.TheConstants.{BLOCK_BYTES}
use Rattle.gq_tag.specs.declared.FileId.{FileId}
use Rattle.gq_tag.specs.declared.TheConstants.{MOST_FILES}
use Rattle.gq_desk.specs.Plans.{is_in}
use Rattle.gq_desk.specs.declared.plans.TenantRow.{TenantRow}
use Rattle.gq_desk.specs.declared.volumes.VolumeRow.{VolumeRow}
use Rattle.gq_desk.specs.declared.volumes.OpenRefused.{OpenRefused}
use Rattle.gq_desk.specs.declared.volumes.OpenRefused.TheVariants.{Size, Volumes, Share, Memory}

-- the blocks that a volume takes of every server
abbrev pub blocks_of : VolumeRow → ℕ
blocks_of v = v.files * v.blocks

-- the blocks that the volumes take of every server
abbrev pub reserved : List VolumeRow → ℕ
reserved volumes = sum_by blocks_of volumes

-- a volume has a file and no more than it may, and each of its files has a block and no more than these
abbrev pub is_sized : ℕ → VolumeRow → Bool
is_sized most_blocks v = is_in 1 MOST_FILES v.files && is_in 1 most_blocks v.blocks

-- a tenant's share of every server's blocks, the most blocks of its files, how many volumes it may have, and its volumes in order
pub record Account : Type 0 where
  pub share : ℕ
  pub most_blocks : ℕ
  pub most_volumes : ℕ
  pub volumes : List VolumeRow

-- the blocks of the share that no volume takes
abbrev pub free_of : Account → ℕ
free_of account = account.share - reserved account.volumes

-- why a volume can't be opened
pub data OpenFault : Type 0 where
  -- its files or their blocks are too few or too many
  WrongSize : OpenFault
  -- the tenant has all the volumes that it may have
  NoVolumeLeft : OpenFault
  -- so many blocks are left of the share, and the volume takes more
  OverShare : (free : ℕ) → OpenFault

-- the first cause why the volume can't be opened
abbrev pub open_fault : Account → VolumeRow → Option OpenFault
open_fault account v =
    if not (is_sized account.most_blocks v) then Some WrongSize
    else if nat_le account.most_volumes (length account.volumes) then Some NoVolumeLeft
    else if nat_lt (free_of account) (blocks_of v) then Some (OverShare (free_of account))
    else None

-- the refusal tells the cause, or want of memory where there is no cause
abbrev pub IsRefusedFor : Option OpenFault → OpenRefused → Type 0
IsRefusedFor fault Size = fault ≡ Some WrongSize
IsRefusedFor fault Volumes = fault ≡ Some NoVolumeLeft
IsRefusedFor fault (Share free) = fault ≡ Some (OverShare free)
IsRefusedFor fault (Memory _) = fault ≡ None

-- the account with one volume more
abbrev pub with_volume : VolumeRow → Account → Account
with_volume v account = record { share = account.share; most_blocks = account.most_blocks; most_volumes = account.most_volumes; volumes = account.volumes ++ v ∷ [] }

-- the account of no tenant
abbrev pub no_account : Account
no_account = record { share = 0; most_blocks = 0; most_volumes = 0; volumes = [] }

-- the account of the tenant at place t
abbrev pub account_at : List Account → ℕ → Account
account_at accounts t = unwrap_or (slice_get accounts t) no_account

-- the account of a tenant with these volumes
abbrev pub account_with : TenantRow → List VolumeRow → Account
account_with row volumes = record { share = row.share; most_blocks = row.most_blocks; most_volumes = row.most_volumes; volumes = volumes }

-- and without one
abbrev pub new_account : TenantRow → Account
new_account row = account_with row []

-- how many bytes a file of the volume may hold, where the volume has it
abbrev pub limit_in : ℕ → VolumeRow → Option ℕ
limit_in file v = if nat_lt file v.files then Some (BLOCK_BYTES * v.blocks) else None

-- how many bytes the file may hold, where it is there
abbrev pub limit_of : List Account → FileId → Option ℕ
limit_of accounts id = option_and_then (limit_in id.file) (slice_get (account_at accounts id.tenant).volumes id.volume)
