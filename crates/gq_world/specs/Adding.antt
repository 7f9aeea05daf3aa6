-- What adding a volume's files does to the stores.
use Rattle.std.specs.Prelude.{◌≡◌, ℕ, ◌*◌, ◌<◌, ◌≤◌, length, slice_set}
use Rattle.gq_tag.specs.declared.FileId.{FileId}
use Rattle.gq_desk.specs.Volumes.{with_volume, free_of}
use Rattle.gq_store.specs.Copies.{StoreCopies, store_accounts, tenant_account, copy_at}

-- the volume fits in what the tenant's volumes leave
pub record HasRoomForFiles (t files blocks : ℕ) (store : StoreCopies) : Type 0 where
  pub tenant : t < length (store_accounts store)
  pub share : files * blocks ≤ free_of (tenant_account store t)

-- the tenant's next volume has its files, and no file's copy changes
pub record IsAdded (t files blocks : ℕ) (old new : StoreCopies) : Type 0 where
  pub accounts : store_accounts new ≡ slice_set (store_accounts old) t (with_volume (record { files = files; blocks = blocks }) (tenant_account old t))
  pub copies : (file : FileId) → copy_at new file ≡ copy_at old file

-- there are as many blocks and accounts as before
pub record IsKept (old new : StoreCopies) : Type 0 where
  pub blocks : new.blocks ≡ old.blocks
  pub tenants : length (store_accounts new) ≡ length (store_accounts old)
