-- One server's copies of all tenants' files, and the blocks that they take.
use Rattle.std.specs.Prelude.{ℕ, ◌-◌, List, [], length, map, replicate, Option, slice_index_or, slice_set}
use Rattle.std.specs.List.{sum_by}
use Rattle.gq_tag.specs.declared.FileId.{FileId}
use Rattle.gq_tag.specs.declared.StoredCopy.{StoredCopy}
use Rattle.gq_tag.specs.Tag.{first_copy}
use Rattle.gq_pool.specs.Blocks.{blocks_for}
use Rattle.gq_desk.specs.CheckedPlan.{CheckedPlan}
use Rattle.gq_desk.specs.Volumes.{Account, account_at, limit_of}
use Rattle.gq_desk.specs.declared.plans.TenantRow.{TenantRow}
use Rattle.gq_desk.specs.declared.volumes.VolumeRow.{VolumeRow}

-- a volume on the server: how many blocks each of its files may take, and the files' copies in order
pub record VolumeCopies : Type 0 where
  pub blocks : ℕ
  pub copies : List StoredCopy

-- a tenant's share of the server's blocks, the most blocks of its files, and its volumes in order
pub record TenantCopies : Type 0 where
  pub share : ℕ
  pub most_blocks : ℕ
  pub most_volumes : ℕ
  pub volumes : List VolumeCopies

-- the server's blocks, and the tenants in the order of the plan
pub record StoreCopies : Type 0 where
  pub blocks : ℕ
  pub tenants : List TenantCopies

-- ---- a file's copy

abbrev pub empty_volume : VolumeCopies
empty_volume = record { blocks = 0; copies = [] }

abbrev pub no_tenant : TenantCopies
no_tenant = record { share = 0; most_blocks = 0; most_volumes = 0; volumes = [] }

abbrev pub volume_copy : VolumeCopies → ℕ → StoredCopy
volume_copy volume file = slice_index_or volume.copies file first_copy

abbrev pub volume_in : TenantCopies → ℕ → VolumeCopies
volume_in tenant number = slice_index_or tenant.volumes number empty_volume

abbrev pub tenant_in : List TenantCopies → ℕ → TenantCopies
tenant_in tenants place = slice_index_or tenants place no_tenant

-- the file's copy; the first copy where the file is not there
abbrev pub copy_at : StoreCopies → FileId → StoredCopy
copy_at store id = volume_copy (volume_in (tenant_in store.tenants id.tenant) id.volume) id.file

-- ---- which files are there

-- the volume's size
abbrev pub volume_size : VolumeCopies → VolumeRow
volume_size volume = record { files = length volume.copies; blocks = volume.blocks }

-- the tenant's account: what it may have, and the sizes of its volumes
abbrev pub copies_account : TenantCopies → Account
copies_account tenant = record { share = tenant.share; most_blocks = tenant.most_blocks; most_volumes = tenant.most_volumes; volumes = map volume_size tenant.volumes }

-- the accounts of the tenants, as a desk has them
abbrev pub store_accounts : StoreCopies → List Account
store_accounts store = map copies_account store.tenants

abbrev pub tenant_account : StoreCopies → ℕ → Account
tenant_account store tenant = account_at (store_accounts store) tenant

-- how many bytes the file may hold, where it is there
abbrev pub file_limit : StoreCopies → FileId → Option ℕ
file_limit store id = limit_of (store_accounts store) id

-- ---- blocks

-- the blocks that a copy takes
abbrev pub taken : StoredCopy → ℕ
taken copy = blocks_for (length copy.bytes)

abbrev pub volume_taken : VolumeCopies → ℕ
volume_taken volume = sum_by taken volume.copies

abbrev pub tenant_taken : TenantCopies → ℕ
tenant_taken tenant = sum_by volume_taken tenant.volumes

-- the blocks that the copies of all tenants take
abbrev pub blocks_taken : StoreCopies → ℕ
blocks_taken store = sum_by tenant_taken store.tenants

-- the blocks that no copy takes
abbrev pub blocks_free : StoreCopies → ℕ
blocks_free store = store.blocks - blocks_taken store

-- ---- stores that were made or changed

-- the tenant of the row, without volumes
abbrev pub new_tenant : TenantRow → TenantCopies
new_tenant row = record { share = row.share; most_blocks = row.most_blocks; most_volumes = row.most_volumes; volumes = [] }

-- the store of a server of the plan, without volumes
abbrev pub empty_store : CheckedPlan → StoreCopies
empty_store plan = record { blocks = plan.blocks; tenants = map new_tenant plan.rows }

-- the volume, the tenant and the store once their copies are lost: each file that is there has its first copy again
abbrev pub lost_volume : VolumeCopies → VolumeCopies
lost_volume volume = record { blocks = volume.blocks; copies = map (λ copy. first_copy) volume.copies }

abbrev pub lost_tenant : TenantCopies → TenantCopies
lost_tenant tenant = record { share = tenant.share; most_blocks = tenant.most_blocks; most_volumes = tenant.most_volumes; volumes = map lost_volume tenant.volumes }

abbrev pub lost_copies : StoreCopies → StoreCopies
lost_copies store = record { blocks = store.blocks; tenants = map lost_tenant store.tenants }

-- a volume whose files have their first copies
abbrev pub new_volume : ℕ → ℕ → VolumeCopies
new_volume files blocks = record { blocks = blocks; copies = replicate files first_copy }

abbrev pub volume_with : VolumeCopies → ℕ → StoredCopy → VolumeCopies
volume_with volume file copy = record { blocks = volume.blocks; copies = slice_set volume.copies file copy }

abbrev pub tenant_with : TenantCopies → ℕ → ℕ → StoredCopy → TenantCopies
tenant_with tenant number file copy =
    record { share = tenant.share; most_blocks = tenant.most_blocks; most_volumes = tenant.most_volumes; volumes = slice_set tenant.volumes number (volume_with (volume_in tenant number) file copy) }

-- the tenants with another copy of one file
abbrev pub tenants_with : List TenantCopies → FileId → StoredCopy → List TenantCopies
tenants_with tenants id copy = slice_set tenants id.tenant (tenant_with (tenant_in tenants id.tenant) id.volume id.file copy)
