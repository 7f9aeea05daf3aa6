-- A file that has a limit is there.
use Rattle.std.proofs.Common.{◌≡◌, ℕ, ◌*◌, ◌<◌, ◌≤◌, List, length, map, get_or, refl, sym, ap, ◌∙◌, arith, Option, Some, None, inl, inr}
use Rattle.std.specs.Prelude.{IsSome, IfSome, slice_get, unwrap_or, nat_lt}
use Rattle.std.specs.Option.{option_and_then, option_map}
use Rattle.std.proofs.lemmas.Bool.{cases_Bool, cases_lt}
use Rattle.std.proofs.lemmas.Bool.Decides.{nat_tests}
use Rattle.std.proofs.lemmas.Option.{slice_get-map, slice_get_within, unwrap_or-slice_get, get_or_from_slice_get}
use Rattle.std.proofs.Math.ListN.{get_or-map}
use Rattle.std.proofs.lemmas.List.{get_or_past}
use Rattle.gq_tag.specs.declared.FileId.{FileId}
use Rattle.gq_tag.specs.declared.TheConstants.{BLOCK_BYTES}
use Rattle.gq_pool.specs.Blocks.{blocks_for}
use Rattle.gq_desk.specs.Volumes.{Account, account_at, no_account, limit_in}
use Rattle.gq_store.specs.Copies.{StoreCopies, TenantCopies, VolumeCopies, no_tenant, empty_volume, tenant_in, volume_in, copies_account, volume_size, file_limit}

-- the account of a tenant of the store
pub account_at-store_accounts : (tenants : List TenantCopies) (t : ℕ) → account_at (map copies_account tenants) t ≡ copies_account (tenant_in tenants t)
account_at-store_accounts tenants t = unwrap_or-slice_get (map copies_account tenants) t no_account ∙ get_or-map copies_account tenants t no_tenant

-- where a file of that limit lies
pub record IsThere (store : StoreCopies) (id : FileId) (limit : ℕ) : Type 0 where
  pub tenant : id.tenant < length store.tenants
  pub volume : id.volume < length (tenant_in store.tenants id.tenant).volumes
  pub file : id.file < length (volume_in (tenant_in store.tenants id.tenant) id.volume).copies
  pub bytes : limit ≡ BLOCK_BYTES * (volume_in (tenant_in store.tenants id.tenant) id.volume).blocks

in_volume : (x : VolumeCopies) (f n : ℕ) → limit_in f (volume_size x) ≡ Some n → (f < length x.copies) × (n ≡ BLOCK_BYTES * x.blocks)
in_volume x f n h =
    elim (cases_Bool (nat_lt f (length x.copies))) [
      | inl e ↦ let k : Some (BLOCK_BYTES * x.blocks) ≡ Some n = rw e at h in (grind (arith, nat_tests), cc)
      | inr e ↦ let k : None ≡ Some n = rw e at h in absurd (cc)
    ]

in_volumes : (volumes : List VolumeCopies) (v f n : ℕ) (o : Option VolumeCopies) → slice_get volumes v ≡ o → option_and_then (limit_in f) (option_map volume_size o) ≡ Some n
    → (v < length volumes) × (f < length (get_or volumes v empty_volume).copies) × (n ≡ BLOCK_BYTES * (get_or volumes v empty_volume).blocks)
in_volumes volumes v f n None e h = absurd (cc)
in_volumes volumes v f n (Some x) e h =
    let at : get_or volumes v empty_volume ≡ x = get_or_from_slice_get volumes v x empty_volume e in
    let parts = in_volume x f n h in
    (slice_get_within volumes v x e, rw at parts.0, rw at parts.1)

in_tenants : (tenants : List TenantCopies) (t v : ℕ) → v < length (tenant_in tenants t).volumes → t < length tenants
in_tenants tenants t v h =
    elim (cases_lt t (length tenants)) [
      | inl within ↦ within
      | inr past ↦ let none : tenant_in tenants t ≡ no_tenant = get_or_past tenants t no_tenant past in let k : v < 0 = rw none at h in absurd (omega arith)
    ]

pub there : (store : StoreCopies) (id : FileId) (n : ℕ) → file_limit store id ≡ Some n → IsThere store id n
there store id n h =
    let tenant = tenant_in store.tenants id.tenant in
    let seen : option_and_then (limit_in id.file) (option_map volume_size (slice_get tenant.volumes id.volume)) ≡ Some n =
    ap (option_and_then (limit_in id.file)) (sym (slice_get-map volume_size tenant.volumes id.volume)) ∙ (ap (λ (a : Account). option_and_then (limit_in id.file) (slice_get a.volumes id.volume)) (sym (account_at-store_accounts store.tenants id.tenant)) ∙ h) in
    let parts = in_volumes tenant.volumes id.volume id.file n (slice_get tenant.volumes id.volume) refl seen in
    record { tenant = in_tenants store.tenants id.tenant id.volume parts.0; volume = parts.0; file = parts.1; bytes = parts.2 }

-- ---- a limit that is there

some_is : (o : Option ℕ) → IsSome o → o ≡ Some (unwrap_or o 0)
some_is None h = absurd (cc)
some_is (Some n) h = refl

-- the file's limit, or 0
abbrev pub limit_or_zero : StoreCopies → FileId → ℕ
limit_or_zero store id = unwrap_or (file_limit store id) 0

pub is_there : (store : StoreCopies) (id : FileId) → IsSome (file_limit store id) → IsThere store id (limit_or_zero store id)
is_there store id h = there store id (limit_or_zero store id) (some_is (file_limit store id) h)

within_some : (o : Option ℕ) (m : ℕ) → IsSome o → IfSome o (λ n. m ≤ n) → m ≤ unwrap_or o 0
within_some None m h k = absurd (cc)
within_some (Some n) m h k = k

-- a content within the file's limit takes at most the file's blocks
pub blocks_within : (store : StoreCopies) (id : FileId) (m : ℕ) → IsSome (file_limit store id) → IfSome (file_limit store id) (λ n. m ≤ n)
    → blocks_for m ≤ (volume_in (tenant_in store.tenants id.tenant) id.volume).blocks
blocks_within store id m h k =
    let within : m ≤ limit_or_zero store id = within_some (file_limit store id) m h k in
    let is : IsThere store id (limit_or_zero store id) = is_there store id h in
    omega arith
