-- A store without volumes has the accounts of a desk without volumes.
use Rattle.std.proofs.Common.{◌≡◌, List, [], ◌∷◌, map, refl, ap}
use Rattle.gq_desk.specs.declared.plans.TenantRow.{TenantRow}
use Rattle.gq_desk.specs.Volumes.{Account, new_account}
use Rattle.gq_store.specs.Copies.{new_tenant, copies_account}

pub store_accounts-empty : (rows : List TenantRow) → map copies_account (map new_tenant rows) ≡ map new_account rows
store_accounts-empty [] = refl
store_accounts-empty (row ∷ rows) = ap (λ (xs : List Account). new_account row ∷ xs) (store_accounts-empty rows)
