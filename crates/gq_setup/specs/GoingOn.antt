-- When a setup goes on from an older one: no home's place moves, no loss is forgotten, and who is gone stays gone. Of each tenant that is not
-- gone no volume moves, and it gets no less room for chunks.
use Rattle.std.specs.Prelude.{ℕ, List, [], ◌∷◌, Bool, true, false, ◌&&◌, ◌||◌, ◌==◌, nat_le, Ok, Err, if◌then◌else◌}
use Rattle.std.specs.Str.{bytes_eq}
use Rattle.gq_desk.specs.CheckedPlan.{CheckedPlan}
use Rattle.gq_desk.specs.declared.plans.TenantRow.{TenantRow}
use Rattle.gq_desk.specs.declared.volumes.VolumeRow.{VolumeRow}
use Rattle.gq_desk.specs.Volumes.{Account}
use Rattle.gq_lines.specs.Words.{Word}
use Rattle.gq_setup.specs.declared.openings.ChunkRoom.{ChunkRoom}
use Rattle.gq_setup.specs.Setups.{Setup, SetupReading, holdings, kib_of, is_gone, is_gone_at}

-- the old ones come first, each as the test wants it
abbrev pub come_first : {A : Type 0} → (A → A → Bool) → List A → List A → Bool
come_first test [] news = true
come_first test (old ∷ olds) [] = false
come_first test (old ∷ olds) (new ∷ news) = test old new && come_first test olds news

-- the row is of the same tenant with as many sessions, and has no smaller share
abbrev pub same_tenant : TenantRow → TenantRow → Bool
same_tenant old new = bytes_eq old.name new.name && (old.sessions == new.sessions && nat_le old.share new.share)

-- the row of a tenant that is gone has as many sessions, whose ever it is now; every other one is of the same tenant
abbrev pub row_goes_on : (gone : List Word) → TenantRow → TenantRow → Bool
row_goes_on gone old new = if is_gone gone old.name then old.sessions == new.sessions else same_tenant old new

abbrev pub same_volume : VolumeRow → VolumeRow → Bool
same_volume old new = old.files == new.files && old.blocks == new.blocks

-- the old volumes come first
abbrev pub account_goes_on : Account → Account → Bool
account_goes_on old new = come_first same_volume old.volumes new.volumes

-- which of a tenant's volumes have to stay: none, where it is gone
abbrev pub volumes_left : (gone : List Word) → TenantRow → List VolumeRow → List VolumeRow
volumes_left gone row volumes = if is_gone gone row.name then [] else volumes

-- so what has to stay of what the tenants of these rows have
abbrev pub accounts_left : (gone : List Word) → List TenantRow → List Account → List Account
accounts_left gone (row ∷ rows) (account ∷ accounts) = record account { volumes = volumes_left gone row account.volumes } ∷ accounts_left gone rows accounts
accounts_left gone _ _ = []

abbrev pub holdings_left : (gone : List Word) → Setup → List Account
holdings_left gone setup = accounts_left gone setup.plan.rows (holdings setup)

abbrev pub same_servers : CheckedPlan → CheckedPlan → Bool
same_servers old new = (old.grid.rows == new.grid.rows && old.grid.cols == new.grid.cols) && nat_le old.blocks new.blocks

-- the old losses come first
abbrev pub same_place : ℕ → ℕ → Bool
same_place old new = old == new

abbrev pub losses_go_on : (olds news : List ℕ) → Bool
losses_go_on olds news = come_first same_place olds news

-- those who were gone come first
abbrev pub same_name : Word → Word → Bool
same_name old new = bytes_eq old new

abbrev pub gone_go_on : (olds news : List Word) → Bool
gone_go_on olds news = come_first same_name olds news

-- the old tenants come first, each that is not gone with its old volumes first
abbrev pub tenants_go_on : Setup → Setup → Bool
tenants_go_on old new =
    come_first (row_goes_on new.gone) old.plan.rows new.plan.rows && come_first account_goes_on (holdings_left new.gone old) (holdings new)

-- no tenant of these has less room for chunks than it had by the old plan, unless it is gone
abbrev pub rooms_kept : (gone : List Word) → CheckedPlan → (olds news rooms : List ChunkRoom) → Bool
rooms_kept gone plan olds news [] = true
rooms_kept gone plan olds news (room ∷ rooms) =
    (is_gone_at gone plan room.tenant || nat_le (kib_of olds room.tenant) (kib_of news room.tenant)) && rooms_kept gone plan olds news rooms

-- none that had some has less
abbrev pub rooms_go_on : (gone : List Word) → CheckedPlan → (olds news : List ChunkRoom) → Bool
rooms_go_on gone plan olds news = rooms_kept gone plan olds news olds

-- the same grid, no fewer blocks of a server, the old losses, those who were gone and the old tenants first, and no less room for chunks
abbrev pub goes_on : Setup → Setup → Bool
goes_on old new =
    same_servers old.plan new.plan
    && (losses_go_on old.lost new.lost && (gone_go_on old.gone new.gone && (tenants_go_on old new && rooms_go_on new.gone old.plan old.rooms new.rooms)))

-- the same of what a text tells, if it tells a setup
abbrev pub goes_on_from_read : SetupReading Setup → Setup → Bool
goes_on_from_read (Ok old) new = goes_on old new
goes_on_from_read (Err fault) new = false
