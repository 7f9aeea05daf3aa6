-- What tenants have, compared one by one, but for those that are gone.
use Rattle.std.proofs.Common.{◌≡◌, ℕ, zero, suc, ◌+◌, ◌<◌, List, [], ◌∷◌, length, get_or, drop, Bool, true, false, refl, sym, ap, ◌∙◌, subst, arith}
use Rattle.std.proofs.lemmas.Option.{unwrap_or-slice_get}
use Rattle.gq_desk.specs.CheckedPlan.{nobody}
use Rattle.gq_desk.specs.declared.plans.TenantRow.{TenantRow}
use Rattle.gq_desk.specs.Volumes.{Account, account_at, no_account}
use Rattle.gq_desk.specs.declared.volumes.VolumeRow.{VolumeRow}
use Rattle.gq_lines.specs.Words.{Word}
use Rattle.gq_setup.specs.GoingOn.{come_first, same_volume, account_goes_on, volumes_left, accounts_left}
use Rattle.gq_setup.proofs.Comparing.{differs, goes}

-- ---- what is left

pub left-length : (gone : List Word) (rows : List TenantRow) (accounts : List Account) → length rows ≡ length accounts → length (accounts_left gone rows accounts) ≡ length rows
left-length gone [] accounts same = refl
left-length gone (row ∷ rows) [] same = absurd (omega arith)
left-length gone (row ∷ rows) (account ∷ accounts) same = ap suc (left-length gone rows accounts (omega arith))

-- of the account at a place
abbrev pub left_of : List Word → TenantRow → Account → Account
left_of gone row account = record account { volumes = volumes_left gone row account.volumes }

pub left_at : (gone : List Word) (rows : List TenantRow) (accounts : List Account) (t : ℕ) → length rows ≡ length accounts → t < length rows →
    get_or (accounts_left gone rows accounts) t no_account ≡ left_of gone (get_or rows t nobody) (get_or accounts t no_account)
left_at gone [] accounts t same within = absurd (omega arith)
left_at gone (row ∷ rows) [] t same within = absurd (omega arith)
left_at gone (row ∷ rows) (account ∷ accounts) zero same within = refl
left_at gone (row ∷ rows) (account ∷ accounts) (suc t) same within = left_at gone rows accounts t (omega arith) (omega arith)

-- the row that was read at a place, whatever else would be there
pub row_there : (rows : List TenantRow) (t : ℕ) (d e : TenantRow) → t < length rows → get_or rows t d ≡ get_or rows t e
row_there [] t d e within = absurd (omega arith)
row_there (row ∷ rows) zero d e within = refl
row_there (row ∷ rows) (suc t) d e within = row_there rows t d e (omega arith)

-- ---- compared

-- the row is that of this place, and the volumes were read of the tenant at it in both
pub record Read (gone : List Word) (rows : List TenantRow) (old new : List Account) (place : ℕ) (row : TenantRow) (olds news : List VolumeRow) : Type 0 where
  pub same : length rows ≡ length old
  pub within : place < length rows
  pub there : place < length new
  pub row_is : row ≡ get_or rows place nobody
  pub olds_are : olds ≡ (account_at old place).volumes
  pub news_are : news ≡ (account_at new place).volumes

compared : (gone : List Word) (rows : List TenantRow) (old new : List Account) (place : ℕ) (row : TenantRow) (olds news : List VolumeRow) (b : Bool) → Read gone rows old new place row olds news → come_first same_volume (volumes_left gone row olds) news ≡ b →
    account_goes_on (get_or (accounts_left gone rows old) place no_account) (get_or new place no_account) ≡ b
compared gone rows old new place row olds news b r is =
    ap (λ (a : Account). account_goes_on a (get_or new place no_account)) (left_at gone rows old place r.same r.within)
    ∙ ap (λ (x : TenantRow). come_first same_volume (volumes_left gone x (get_or old place no_account).volumes) (get_or new place no_account).volumes) (sym r.row_is)
    ∙ ap (λ (a : Account). come_first same_volume (volumes_left gone row a.volumes) (get_or new place no_account).volumes) (sym (unwrap_or-slice_get old place no_account))
    ∙ ap (λ (a : Account). come_first same_volume (volumes_left gone row (account_at old place).volumes) a.volumes) (sym (unwrap_or-slice_get new place no_account))
    ∙ ap (λ vs. come_first same_volume (volumes_left gone row vs) (account_at new place).volumes) (sym r.olds_are)
    ∙ ap (come_first same_volume (volumes_left gone row olds)) (sym r.news_are)
    ∙ is

old_there : (gone : List Word) (rows : List TenantRow) (old new : List Account) (place : ℕ) (row : TenantRow) (olds news : List VolumeRow) → Read gone rows old new place row olds news → place < length (accounts_left gone rows old)
old_there gone rows old new place row olds news r = subst (λ n. place < n) (sym (left-length gone rows old r.same)) r.within

pub account_differs : (gone : List Word) (rows : List TenantRow) (old new : List Account) (place : ℕ) (row : TenantRow) (olds news : List VolumeRow) → Read gone rows old new place row olds news → come_first same_volume (volumes_left gone row olds) news ≡ false →
    come_first account_goes_on (drop place (accounts_left gone rows old)) (drop place new) ≡ false
account_differs gone rows old new place row olds news r is =
    differs account_goes_on (accounts_left gone rows old) new place no_account no_account (old_there gone rows old new place row olds news r) r.there (compared gone rows old new place row olds news false r is)

pub account_goes : (gone : List Word) (rows : List TenantRow) (old new : List Account) (place : ℕ) (row : TenantRow) (olds news : List VolumeRow) → Read gone rows old new place row olds news → come_first same_volume (volumes_left gone row olds) news ≡ true →
    come_first account_goes_on (drop place (accounts_left gone rows old)) (drop place new) ≡ come_first account_goes_on (drop (place + 1) (accounts_left gone rows old)) (drop (place + 1) new)
account_goes gone rows old new place row olds news r is =
    goes account_goes_on (accounts_left gone rows old) new place no_account no_account (old_there gone rows old new place row olds news r) r.there (compared gone rows old new place row olds news true r is)

-- where the tenant is not gone its volumes are all left
pub left_volumes : (gone : List Word) (rows : List TenantRow) (old new : List Account) (place : ℕ) (row : TenantRow) (olds news : List VolumeRow) → Read gone rows old new place row olds news → volumes_left gone row olds ≡ olds →
    (account_at (accounts_left gone rows old) place).volumes ≡ olds
left_volumes gone rows old new place row olds news r stays =
    ap (λ (a : Account). a.volumes) (unwrap_or-slice_get (accounts_left gone rows old) place no_account ∙ left_at gone rows old place r.same r.within)
    ∙ ap (λ (x : TenantRow). volumes_left gone x (get_or old place no_account).volumes) (sym r.row_is)
    ∙ ap (λ (a : Account). volumes_left gone row a.volumes) (sym (unwrap_or-slice_get old place no_account))
    ∙ ap (volumes_left gone row) (sym r.olds_are)
    ∙ stays
