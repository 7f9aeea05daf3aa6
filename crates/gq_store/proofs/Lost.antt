-- A store whose copies are lost.
use Rattle.std.proofs.Common.{◌≡◌, ℕ, ◌≤◌, List, [], ◌∷◌, map, refl, ap, ◌∙◌, arith}
use Rattle.std.specs.Prelude.{All}
use Rattle.std.specs.List.{sum_by}
use Rattle.std.proofs.lemmas.List.{length-map}
use Rattle.std.proofs.Math.ListN.{get_or-map}
use Rattle.std.proofs.lemmas.List.Elements.{All-nil, All-cons}
use Rattle.std.proofs.lemmas.List.Sums.{sum_by-cons}
use Rattle.gq_tag.specs.declared.FileId.{FileId}
use Rattle.gq_tag.specs.declared.StoredCopy.{StoredCopy}
use Rattle.gq_tag.specs.Tag.{first_copy}
use Rattle.gq_desk.specs.Volumes.{Account, reserved}
use Rattle.gq_store.specs.Copies.{StoreCopies, TenantCopies, VolumeCopies, no_tenant, empty_volume, tenant_in, volume_in, volume_copy, copy_at, copies_account, volume_size, taken, volume_taken, tenant_taken, lost_volume, lost_tenant, lost_copies, blocks_free}
use Rattle.gq_store.specs.Balance.{Balanced, IsWithinFiles}
use Rattle.gq_store.proofs.Sums.{rest_all}
use Rattle.gq_store.proofs.Mixed.{sum_zero}

-- ---- the blocks

pub volume_nothing : (y : VolumeCopies) → volume_taken (lost_volume y) ≡ 0
volume_nothing y = sum_zero taken (λ (copy : StoredCopy). first_copy) y.copies (λ copy. refl)

pub tenant_nothing : (x : TenantCopies) → tenant_taken (lost_tenant x) ≡ 0
tenant_nothing x = sum_zero volume_taken lost_volume x.volumes volume_nothing

pub nothing_taken : (tenants : List TenantCopies) → sum_by tenant_taken (map lost_tenant tenants) ≡ 0
nothing_taken tenants = sum_zero tenant_taken lost_tenant tenants tenant_nothing

-- ---- the sizes

size_lost : (y : VolumeCopies) → volume_size (lost_volume y) ≡ volume_size y
size_lost y = λ i. record { files = length-map y.copies (λ (copy : StoredCopy). first_copy) i; blocks = y.blocks }

map_same : {X Y : Type 0} (g : X → Y) (f : X → X) (xs : List X) → ((x : X) → g (f x) ≡ g x) → map g (map f xs) ≡ map g xs
map_same g f [] h = refl
map_same g f (x ∷ xs) h = λ i. h x i ∷ map_same g f xs h i

pub account_lost : (x : TenantCopies) → copies_account (lost_tenant x) ≡ copies_account x
account_lost x = λ i. record { share = x.share; most_blocks = x.most_blocks; most_volumes = x.most_volumes; volumes = map_same volume_size lost_volume x.volumes size_lost i }

pub accounts_lost : (tenants : List TenantCopies) → map copies_account (map lost_tenant tenants) ≡ map copies_account tenants
accounts_lost tenants = map_same copies_account lost_tenant tenants account_lost

-- ---- the copies

copy_lost : (y : VolumeCopies) (f : ℕ) → volume_copy (lost_volume y) f ≡ first_copy
copy_lost y f = get_or-map (λ (copy : StoredCopy). first_copy) y.copies f first_copy

pub copies_lost : (store : StoreCopies) (id : FileId) → copy_at (lost_copies store) id ≡ first_copy
copies_lost store id =
    let at_tenant : tenant_in (map lost_tenant store.tenants) id.tenant ≡ lost_tenant (tenant_in store.tenants id.tenant) = get_or-map lost_tenant store.tenants id.tenant no_tenant in
    let x = tenant_in store.tenants id.tenant in
    let at_volume : volume_in (lost_tenant x) id.volume ≡ lost_volume (volume_in x id.volume) = get_or-map lost_volume x.volumes id.volume empty_volume in
    ap (λ (t : TenantCopies). volume_copy (volume_in t id.volume) id.file) at_tenant
    ∙ (ap (λ (v : VolumeCopies). volume_copy v id.file) at_volume ∙ copy_lost (volume_in x id.volume) id.file)

-- ---- the balance

all_mapped : {X : Type 0} (P : X → Type 0) (f : X → X) (xs : List X) → ((x : X) → P x → P (f x)) → All P xs → All P (map f xs)
all_mapped P f [] h all = All-nil P
all_mapped P f (x ∷ xs) h all = All-cons P (f x) (map f xs) (h x (all 0 x (omega arith))) (all_mapped P f xs h (rest_all P x xs all))

all_made : {X Y : Type 0} (P : Y → Type 0) (f : X → Y) (xs : List X) → ((x : X) → P (f x)) → All P (map f xs)
all_made P f [] h = All-nil P
all_made P f (x ∷ xs) h = All-cons P (f x) (map f xs) (h x) (all_made P f xs h)

abbrev share_of : TenantCopies → ℕ
share_of x = x.share

sum_same : {X : Type 0} (w : X → ℕ) (f : X → X) (xs : List X) → ((x : X) → w (f x) ≡ w x) → sum_by w (map f xs) ≡ sum_by w xs
sum_same w f [] h = refl
sum_same w f (x ∷ xs) h = omega (arith, sum_by-cons w (f x) (map f xs), sum_by-cons w x xs, h x, sum_same w f xs h)

pub balanced_lost : (blocks free left : ℕ) (tenants : List TenantCopies) → Balanced blocks free tenants → left ≡ blocks → Balanced blocks left (map lost_tenant tenants)
balanced_lost blocks free left tenants is all =
    record {
      balance = omega (arith, nothing_taken tenants);
      within_files = all_made IsWithinFiles lost_tenant tenants (λ x.
          all_made (λ (y : VolumeCopies). All (λ copy. taken copy ≤ y.blocks) y.copies) lost_volume x.volumes (λ y.
          all_made (λ copy. taken copy ≤ y.blocks) (λ (copy : StoredCopy). first_copy) y.copies (λ copy. omega arith)));
      within_shares = all_mapped (λ x. reserved (copies_account x).volumes ≤ x.share) lost_tenant tenants (λ x h. let same : reserved (copies_account (lost_tenant x)).volumes ≡ reserved (copies_account x).volumes = ap (λ (a : Account). reserved a.volumes) (account_lost x) in omega arith) is.within_shares;
      within_blocks = omega (arith, sum_same share_of lost_tenant tenants (λ x. refl), is.within_blocks);
    }

pub all_free : (store : StoreCopies) → blocks_free (lost_copies store) ≡ store.blocks
all_free store = omega (arith, nothing_taken store.tenants)
