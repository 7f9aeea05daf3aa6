-- A store never lacks a block.
use Rattle.std.proofs.Common.{◌≡◌, ℕ, ◌+◌, ◌<◌, ◌≤◌, List, [], ◌∷◌, length, map, get_or, ap, arith}
use Rattle.std.specs.Prelude.{All}
use Rattle.std.specs.List.{sum_by}
use Rattle.std.proofs.lemmas.List.Sums.{sum_by-set}
use Rattle.std.proofs.lemmas.List.Elements.{All-set, All-nil, All-cons}
use Rattle.gq_tag.specs.declared.FileId.{FileId}
use Rattle.gq_tag.specs.declared.StoredCopy.{StoredCopy}
use Rattle.gq_tag.specs.Tag.{first_copy}
use Rattle.gq_desk.specs.declared.plans.TenantRow.{TenantRow}
use Rattle.gq_desk.specs.Plans.{shares}
use Rattle.gq_desk.specs.Volumes.{Account, reserved, blocks_of}
use Rattle.gq_store.specs.Copies.{StoreCopies, TenantCopies, VolumeCopies, new_tenant, no_tenant, empty_volume, tenant_in, volume_in, volume_copy, copies_account, volume_size, taken, volume_taken, tenant_taken, volume_with, tenant_with, tenants_with}
use Rattle.gq_store.specs.Balance.{Balanced, IsWithinFiles}
use Rattle.gq_store.proofs.Sums.{sum_by_below, sum_by_spare, sum_by-map, sum_by-same, sum_by_at}
use Rattle.gq_store.proofs.There.{IsThere}
use Rattle.gq_store.proofs.Changed.{copies_account-tenant_with}

-- ---- what is reserved for a file is there for it

abbrev IsWithinBlocks : VolumeCopies → Type 0
IsWithinBlocks y = All (λ copy. taken copy ≤ y.blocks) y.copies

abbrev volume_reserved : VolumeCopies → ℕ
volume_reserved y = blocks_of (volume_size y)

volume_below : (y : VolumeCopies) → IsWithinBlocks y → volume_taken y ≤ volume_reserved y
volume_below y h = omega (arith, sum_by_below taken (λ copy. y.blocks) y.copies h, sum_by-same y.blocks y.copies)

volume_spare : (y : VolumeCopies) (f : ℕ) → f < length y.copies → IsWithinBlocks y → volume_taken y + y.blocks ≤ volume_reserved y + taken (volume_copy y f)
volume_spare y f lt h = omega (arith, sum_by_spare taken (λ copy. y.blocks) y.copies f first_copy lt h, sum_by-same y.blocks y.copies)

tenant_reserved : (x : TenantCopies) → reserved (copies_account x).volumes ≡ sum_by volume_reserved x.volumes
tenant_reserved x = sum_by-map blocks_of volume_size x.volumes

all_volumes_below : (x : TenantCopies) → IsWithinFiles x → All (λ y. volume_taken y ≤ volume_reserved y) x.volumes
all_volumes_below x h k d lt = volume_below (get_or x.volumes k d) (h k d lt)

tenant_spare : (x : TenantCopies) (v : ℕ) → v < length x.volumes → IsWithinFiles x → tenant_taken x + volume_reserved (volume_in x v) ≤ reserved (copies_account x).volumes + volume_taken (volume_in x v)
tenant_spare x v lt h = omega (arith, sum_by_spare volume_taken volume_reserved x.volumes v empty_volume lt (all_volumes_below x h), tenant_reserved x)

tenant_below : (x : TenantCopies) → IsWithinFiles x → reserved (copies_account x).volumes ≤ x.share → tenant_taken x ≤ x.share
tenant_below x h within = omega (arith, sum_by_below volume_taken volume_reserved x.volumes (all_volumes_below x h), tenant_reserved x)

-- the blocks of the file, beside those that all others may take
pub room : (blocks free : ℕ) (store : StoreCopies) (id : FileId) (n : ℕ) → Balanced blocks free store.tenants → IsThere store id n
    → (volume_in (tenant_in store.tenants id.tenant) id.volume).blocks ≤ free + taken (volume_copy (volume_in (tenant_in store.tenants id.tenant) id.volume) id.file)
room blocks free store id n is there =
    let x = tenant_in store.tenants id.tenant in let y = volume_in x id.volume in
    let files : IsWithinFiles x = is.within_files id.tenant no_tenant there.tenant in
    let within : reserved (copies_account x).volumes ≤ x.share = is.within_shares id.tenant no_tenant there.tenant in
    omega (
      arith,
      sum_by_spare tenant_taken (λ (t : TenantCopies). t.share) store.tenants id.tenant no_tenant there.tenant (λ k d lt. tenant_below (get_or store.tenants k d) (is.within_files k d lt) (is.within_shares k d lt)),
      tenant_spare x id.volume there.volume files,
      volume_spare y id.file there.file (files id.volume empty_volume there.volume),
      is.balance,
      is.within_blocks,
    )

-- the copy takes no more than all blocks
pub taken_below : (blocks free : ℕ) (store : StoreCopies) (id : FileId) (n : ℕ) → Balanced blocks free store.tenants → IsThere store id n
    → free + taken (volume_copy (volume_in (tenant_in store.tenants id.tenant) id.volume) id.file) ≤ blocks
taken_below blocks free store id n is there =
    let x = tenant_in store.tenants id.tenant in let y = volume_in x id.volume in
    omega (
      arith,
      sum_by_at tenant_taken store.tenants id.tenant no_tenant there.tenant,
      sum_by_at volume_taken x.volumes id.volume empty_volume there.volume,
      sum_by_at taken y.copies id.file first_copy there.file,
      is.balance,
    )

-- ---- a copy is put in the place of another

pub balanced_with : (blocks free left : ℕ) (store : StoreCopies) (id : FileId) (n : ℕ) (copy : StoredCopy) → Balanced blocks free store.tenants → IsThere store id n
    → taken copy ≤ (volume_in (tenant_in store.tenants id.tenant) id.volume).blocks
    → left + taken copy ≡ free + taken (volume_copy (volume_in (tenant_in store.tenants id.tenant) id.volume) id.file)
    → Balanced blocks left (tenants_with store.tenants id copy)
balanced_with blocks free left store id n copy is there fits moved =
    let x = tenant_in store.tenants id.tenant in let y = volume_in x id.volume in
    let x' = tenant_with x id.volume id.file copy in let y' = volume_with y id.file copy in
    let files : IsWithinFiles x = is.within_files id.tenant no_tenant there.tenant in
    let within : reserved (copies_account x).volumes ≤ x.share = is.within_shares id.tenant no_tenant there.tenant in
    let same : reserved (copies_account x').volumes ≡ reserved (copies_account x).volumes = ap (λ (a : Account). reserved a.volumes) (copies_account-tenant_with x id.volume id.file copy) in
    let volume_files : IsWithinBlocks y' = All-set (λ c. taken c ≤ y.blocks) y.copies id.file copy fits (files id.volume empty_volume there.volume) in
    record {
      balance = omega (
        arith,
        sum_by-set tenant_taken store.tenants id.tenant x' no_tenant there.tenant,
        sum_by-set volume_taken x.volumes id.volume y' empty_volume there.volume,
        sum_by-set taken y.copies id.file copy first_copy there.file,
        is.balance,
      );
      within_files = All-set IsWithinFiles store.tenants id.tenant x' (All-set IsWithinBlocks x.volumes id.volume y' volume_files files) is.within_files;
      within_shares = All-set (λ t. reserved (copies_account t).volumes ≤ t.share) store.tenants id.tenant x' (omega arith) is.within_shares;
      within_blocks = omega (arith, sum_by-set (λ (t : TenantCopies). t.share) store.tenants id.tenant x' no_tenant there.tenant, is.within_blocks);
    }

-- ---- a store without volumes

nothing_taken : (rows : List TenantRow) → sum_by tenant_taken (map new_tenant rows) ≡ 0
nothing_taken rows = omega (arith, sum_by-map tenant_taken new_tenant rows, sum_by-same 0 rows)

all_of_map : {X Y : Type 0} (P : Y → Type 0) (f : X → Y) (xs : List X) → ((x : X) → P (f x)) → All P (map f xs)
all_of_map P f [] h = All-nil P
all_of_map P f (x ∷ xs) h = All-cons P (f x) (map f xs) (h x) (all_of_map P f xs h)

pub balanced_empty : (blocks free : ℕ) (rows : List TenantRow) → free ≡ blocks → shares rows ≤ blocks → Balanced blocks free (map new_tenant rows)
balanced_empty blocks free rows all within =
    record {
      balance = omega (arith, nothing_taken rows);
      within_files = all_of_map IsWithinFiles new_tenant rows (λ row. All-nil (λ (y : VolumeCopies). All (λ copy. taken copy ≤ y.blocks) y.copies));
      within_shares = all_of_map (λ x. reserved (copies_account x).volumes ≤ x.share) new_tenant rows (λ row. omega arith);
      within_blocks = omega (arith, sum_by-map (λ (x : TenantCopies). x.share) new_tenant rows);
    }
