-- A store with another copy of one file.
use Rattle.std.proofs.Common.{◌≡◌, ◌≢◌, ℕ, is_lt, ◌<◌, List, length, map, refl, ap, ◌∙◌, inl, inr}
use Rattle.std.proofs.lemmas.Bool.{cases_Bool, cases_eq}
use Rattle.std.proofs.lemmas.List.{get_or-set_same, get_or-set_other, length-set}
use Rattle.std.proofs.Math.Seq.{map-set_same}
use Rattle.gq_tag.specs.declared.FileId.{FileId}
use Rattle.gq_tag.specs.declared.StoredCopy.{StoredCopy}
use Rattle.gq_tag.specs.declared.Tag.{Tag}
use Rattle.gq_tag.specs.Tag.{first_copy, is_less, tag_cmp}
use Rattle.gq_store.specs.Copies.{StoreCopies, TenantCopies, VolumeCopies, no_tenant, empty_volume, tenant_in, volume_in, volume_copy, copies_account, volume_size, volume_with, tenant_with, tenants_with}
use Rattle.gq_store.proofs.There.{IsThere}

-- a comparison by `<` tells the lesser tag
pub lt_is_less : (a b : Tag) → is_lt (tag_cmp a b) ≡ is_less a b
lt_is_less a b =
    elim (cases_Bool (is_less a b)) [
      | inl e ↦ rw e refl
      | inr e ↦ elim (cases_Bool (is_less b a)) [
        | inl k ↦ rw (e, k) refl
        | inr k ↦ rw (e, k) refl
      ]
    ]

-- ---- the sizes stay

volume_size-volume_with : (x : VolumeCopies) (f : ℕ) (copy : StoredCopy) → volume_size (volume_with x f copy) ≡ volume_size x
volume_size-volume_with x f copy = λ i. record { files = length-set x.copies f copy i; blocks = x.blocks }

pub copies_account-tenant_with : (x : TenantCopies) (v f : ℕ) (copy : StoredCopy) → copies_account (tenant_with x v f copy) ≡ copies_account x
copies_account-tenant_with x v f copy =
    λ i. record { share = x.share; most_blocks = x.most_blocks; most_volumes = x.most_volumes; volumes = map-set_same volume_size x.volumes v (volume_with (volume_in x v) f copy) empty_volume (volume_size-volume_with (volume_in x v) f copy) i }

pub accounts-tenants_with : (tenants : List TenantCopies) (id : FileId) (copy : StoredCopy) → map copies_account (tenants_with tenants id copy) ≡ map copies_account tenants
accounts-tenants_with tenants id copy =
    let x = tenant_in tenants id.tenant in
    map-set_same copies_account tenants id.tenant (tenant_with x id.volume id.file copy) no_tenant (copies_account-tenant_with x id.volume id.file copy)

-- ---- the file's copy

abbrev copy_of : List TenantCopies → FileId → StoredCopy
copy_of tenants id = volume_copy (volume_in (tenant_in tenants id.tenant) id.volume) id.file

pub copy_of-same : (store : StoreCopies) (id : FileId) (n : ℕ) (copy : StoredCopy) → IsThere store id n → copy_of (tenants_with store.tenants id copy) id ≡ copy
copy_of-same store id n copy is =
    let x = tenant_in store.tenants id.tenant in let y = volume_in x id.volume in
    let at_tenant = get_or-set_same store.tenants id.tenant (tenant_with x id.volume id.file copy) no_tenant is.tenant in
    let at_volume = get_or-set_same x.volumes id.volume (volume_with y id.file copy) empty_volume is.volume in
    ap (λ (t : TenantCopies). volume_copy (volume_in t id.volume) id.file) at_tenant ∙ (ap (λ (v : VolumeCopies). volume_copy v id.file) at_volume ∙ get_or-set_same y.copies id.file copy first_copy is.file)

-- ---- the copies of other files

-- files that are equal in their three numbers are one
same_file : (a b : FileId) → a.tenant ≡ b.tenant → a.volume ≡ b.volume → a.file ≡ b.file → a ≡ b
same_file a b t v f = λ i. record { tenant = t i; volume = v i; file = f i }

in_file : (y : VolumeCopies) (f g : ℕ) (copy : StoredCopy) → g ≢ f → volume_copy (volume_with y f copy) g ≡ volume_copy y g
in_file y f g copy differs = get_or-set_other y.copies f g copy first_copy differs

in_volume : (x : TenantCopies) (v f w g : ℕ) (copy : StoredCopy) → v < length x.volumes → (w ≡ v → g ≢ f) → volume_copy (volume_in (tenant_with x v f copy) w) g ≡ volume_copy (volume_in x w) g
in_volume x v f w g copy lt differs =
    let new = volume_with (volume_in x v) f copy in
    elim (cases_eq w v) [
      | inl e ↦ rw e (ap (λ (y : VolumeCopies). volume_copy y g) (get_or-set_same x.volumes v new empty_volume lt) ∙ in_file (volume_in x v) f g copy (differs e))
      | inr e ↦ ap (λ (y : VolumeCopies). volume_copy y g) (get_or-set_other x.volumes v w new empty_volume e)
    ]

pub copy_of-other : (store : StoreCopies) (id other : FileId) (n : ℕ) (copy : StoredCopy) → IsThere store id n → other ≢ id → copy_of (tenants_with store.tenants id copy) other ≡ copy_of store.tenants other
copy_of-other store id other n copy is differs =
    let x = tenant_in store.tenants id.tenant in let new = tenant_with x id.volume id.file copy in
    elim (cases_eq other.tenant id.tenant) [
      | inl e ↦
          rw e (ap (λ (t : TenantCopies). volume_copy (volume_in t other.volume) other.file) (get_or-set_same store.tenants id.tenant new no_tenant is.tenant)
          ∙ in_volume x id.volume id.file other.volume other.file copy is.volume (λ same_volume same. differs (same_file other id e same_volume same)))
      | inr e ↦ ap (λ (t : TenantCopies). volume_copy (volume_in t other.volume) other.file) (get_or-set_other store.tenants id.tenant other.tenant new no_tenant e)
    ]
