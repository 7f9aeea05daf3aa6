-- A store with one volume more.
use Rattle.std.proofs.Common.{◌≡◌, ℕ, ◌+◌, ◌*◌, ◌<◌, ◌≤◌, List, [], ◌∷◌, ◌++◌, length, map, set, replicate, sym, ap, ◌∙◌, arith, inl, inr}
use Rattle.std.specs.Prelude.{All}
use Rattle.std.proofs.lemmas.Bool.{cases_eq, cases_lt}
use Rattle.std.proofs.lemmas.List.{map-set, map-append, length-replicate, get_or-set_same, get_or-set_other, get_or_append_left, get_or_push, get_or-replicate, get_or_past, length_push}
use Rattle.std.proofs.lemmas.List.Sums.{sum_by-set, sum_by_push}
use Rattle.std.proofs.lemmas.List.Folds.{sum_by-replicate}
use Rattle.std.proofs.lemmas.List.Elements.{All-set, All-push, All-replicate}
use Rattle.gq_tag.specs.declared.FileId.{FileId}
use Rattle.gq_tag.specs.declared.StoredCopy.{StoredCopy}
use Rattle.gq_tag.specs.Tag.{first_copy}
use Rattle.gq_desk.specs.declared.volumes.VolumeRow.{VolumeRow}
use Rattle.gq_desk.specs.Volumes.{Account, account_at, with_volume, reserved, blocks_of, free_of}
use Rattle.gq_store.specs.Copies.{TenantCopies, VolumeCopies, no_tenant, empty_volume, tenant_in, volume_in, volume_copy, copies_account, volume_size, taken, volume_taken, tenant_taken, new_volume}
use Rattle.gq_store.specs.Balance.{Balanced, IsWithinFiles}
use Rattle.gq_store.proofs.There.{account_at-store_accounts}

-- the tenant with a new volume
abbrev pub grown : TenantCopies → ℕ → ℕ → TenantCopies
grown x files blocks = record x { volumes = x.volumes ++ new_volume files blocks ∷ [] }

-- the tenants with a new volume of one of them
abbrev pub tenants_grown : List TenantCopies → ℕ → ℕ → ℕ → List TenantCopies
tenants_grown tenants t files blocks = set tenants t (grown (tenant_in tenants t) files blocks)

abbrev pub size : ℕ → ℕ → VolumeRow
size files blocks = record { files = files; blocks = blocks }

-- ---- the sizes

copies_account-grown : (x : TenantCopies) (files blocks : ℕ) → copies_account (grown x files blocks) ≡ with_volume (size files blocks) (copies_account x)
copies_account-grown x files blocks =
    λ i. record { share = x.share; most_blocks = x.most_blocks; most_volumes = x.most_volumes; volumes = volumes i }
  where
    volumes : map volume_size (x.volumes ++ new_volume files blocks ∷ []) ≡ map volume_size x.volumes ++ size files blocks ∷ []
    volumes = map-append volume_size x.volumes (new_volume files blocks ∷ []) ∙ ap (λ n. map volume_size x.volumes ++ size n blocks ∷ []) (length-replicate files first_copy)

pub accounts-tenants_grown : (tenants : List TenantCopies) (t files blocks : ℕ) → map copies_account (tenants_grown tenants t files blocks) ≡ set (map copies_account tenants) t (with_volume (size files blocks) (account_at (map copies_account tenants) t))
accounts-tenants_grown tenants t files blocks =
    let x = tenant_in tenants t in
    map-set copies_account tenants t (grown x files blocks)
    ∙ ap (set (map copies_account tenants) t) (copies_account-grown x files blocks ∙ ap (with_volume (size files blocks)) (sym (account_at-store_accounts tenants t)))

-- ---- the copies

abbrev copy_of : List TenantCopies → FileId → StoredCopy
copy_of tenants id = volume_copy (volume_in (tenant_in tenants id.tenant) id.volume) id.file

new_copy : (files blocks place : ℕ) → volume_copy (new_volume files blocks) place ≡ first_copy
new_copy files blocks place =
    elim (cases_lt place files) [
      | inl within ↦ get_or-replicate files place first_copy first_copy within
      | inr past ↦ get_or_past (replicate files first_copy) place first_copy (omega (arith, length-replicate files first_copy))
    ]

no_copy : (place : ℕ) → volume_copy empty_volume place ≡ first_copy
no_copy place = get_or_past [] place first_copy (omega arith)

-- a tenant's file has the copy that it had, or is new and has its first
grown_copy : (x : TenantCopies) (files blocks number place : ℕ) → volume_copy (volume_in (grown x files blocks) number) place ≡ volume_copy (volume_in x number) place
grown_copy x files blocks number place =
    let new = new_volume files blocks in
    elim (cases_lt number (length x.volumes)) [
      | inl there ↦ ap (λ (y : VolumeCopies). volume_copy y place) (get_or_append_left x.volumes (new ∷ []) empty_volume number there)
      | inr past ↦
          let before : volume_copy (volume_in x number) place ≡ first_copy = ap (λ (y : VolumeCopies). volume_copy y place) (get_or_past x.volumes number empty_volume past) ∙ no_copy place in
          elim (cases_eq number (length x.volumes)) [
            | inl last ↦ ap (λ (y : VolumeCopies). volume_copy y place) (get_or_push x.volumes new empty_volume number (sym last)) ∙ (new_copy files blocks place ∙ sym before)
            | inr apart ↦ ap (λ (y : VolumeCopies). volume_copy y place) (get_or_past (x.volumes ++ new ∷ []) number empty_volume (omega (arith, length_push x.volumes new))) ∙ (no_copy place ∙ sym before)
          ]
    ]

pub copy_of-grown : (tenants : List TenantCopies) (t files blocks : ℕ) (id : FileId) → t < length tenants → copy_of (tenants_grown tenants t files blocks) id ≡ copy_of tenants id
copy_of-grown tenants t files blocks id lt =
    let x = tenant_in tenants t in let new = grown x files blocks in
    elim (cases_eq id.tenant t) [
      | inl e ↦
          rw e (ap (λ (y : TenantCopies). volume_copy (volume_in y id.volume) id.file) (get_or-set_same tenants t new no_tenant lt)
          ∙ grown_copy x files blocks id.volume id.file)
      | inr e ↦ ap (λ (y : TenantCopies). volume_copy (volume_in y id.volume) id.file) (get_or-set_other tenants t id.tenant new no_tenant e)
    ]

-- ---- the blocks

new_taken : (files blocks : ℕ) → volume_taken (new_volume files blocks) ≡ 0
new_taken files blocks = omega (arith, sum_by-replicate taken files first_copy)

pub balanced_grown : (blocks free : ℕ) (tenants : List TenantCopies) (t files size : ℕ) → Balanced blocks free tenants → t < length tenants → files * size ≤ free_of (copies_account (tenant_in tenants t))
    → Balanced blocks free (tenants_grown tenants t files size)
balanced_grown blocks free tenants t files size is lt fits =
    let x = tenant_in tenants t in let new = new_volume files size in let x' = grown x files size in
    let old_files : IsWithinFiles x = is.within_files t no_tenant lt in
    let new_files : IsWithinFiles x' = All-push (λ (y : VolumeCopies). All (λ copy. taken copy ≤ y.blocks) y.copies) x.volumes new old_files (All-replicate (λ copy. taken copy ≤ size) files first_copy (omega arith)) in
    let within : reserved (copies_account x).volumes ≤ x.share = is.within_shares t no_tenant lt in
    let more : reserved (copies_account x').volumes ≡ reserved (copies_account x).volumes + files * size =
    ap (λ (a : Account). reserved a.volumes) (copies_account-grown x files size) ∙ sum_by_push blocks_of (map volume_size x.volumes) (record { files = files; blocks = size }) in
    record {
      balance = omega (arith, sum_by-set tenant_taken tenants t x' no_tenant lt, sum_by_push volume_taken x.volumes new, new_taken files size, is.balance);
      within_files = All-set IsWithinFiles tenants t x' new_files is.within_files;
      within_shares = All-set (λ y. reserved (copies_account y).volumes ≤ y.share) tenants t x' (omega arith) is.within_shares;
      within_blocks = omega (arith, sum_by-set (λ (y : TenantCopies). y.share) tenants t x' no_tenant lt, is.within_blocks);
    }
