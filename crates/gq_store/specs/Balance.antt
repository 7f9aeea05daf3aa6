-- Why a store never lacks a block.
use Rattle.std.specs.Prelude.{◌≡◌, ℕ, ◌+◌, ◌≤◌, List, All}
use Rattle.std.specs.List.{sum_by}
use Rattle.gq_desk.specs.Volumes.{reserved}
use Rattle.gq_store.specs.Copies.{TenantCopies, copies_account, taken, tenant_taken}

-- each copy takes at most the blocks of its file
abbrev pub IsWithinFiles : TenantCopies → Type 0
IsWithinFiles tenant = All (λ volume. All (λ copy. taken copy ≤ volume.blocks) volume.copies) tenant.volumes

-- the free blocks are those that no copy takes; each copy is within its file, the files of each tenant within its
-- share, and the shares within the blocks
pub record Balanced (blocks free : ℕ) (tenants : List TenantCopies) : Type 0 where
  pub balance : free + sum_by tenant_taken tenants ≡ blocks
  pub within_files : All IsWithinFiles tenants
  pub within_shares : All (λ tenant. reserved (copies_account tenant).volumes ≤ tenant.share) tenants
  pub within_blocks : sum_by (λ tenant. tenant.share) tenants ≤ blocks
