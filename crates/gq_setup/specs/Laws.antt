-- What stays where a setup goes on from an older one: the old tenants that are not gone, their volumes and their room for chunks; and of all places
-- the homes of sessions, and the losses. Who is gone stays gone.
use Rattle.std.specs.Prelude.{◌≡◌, ℕ, ◌<◌, ◌≤◌, List, [], ◌++◌, length, slice_get, None, true, false}
use Rattle.gq_desk.specs.CheckedPlan.{row_at}
use Rattle.gq_desk.specs.Volumes.{account_at}
use Rattle.gq_lines.specs.Words.{Word}
use Rattle.gq_text.specs.Input.{place_named}
use Rattle.gq_replace.specs.Plans.{times, node_at}
use Rattle.gq_node.specs.Sites.{Here, plan_in, home_place, session_at}
use Rattle.gq_setup.specs.Setups.{Setup, accounts_of, holdings, kib_of, is_gone, is_gone_at, CanGo, CanOpen}
use Rattle.gq_setup.specs.Leaving.{without}
use Rattle.gq_setup.specs.GoingOn.{goes_on}

-- an old tenant that is not gone has its place
abbrev pub TenantsStay : Type 0
TenantsStay =
    (old new : Setup) (t : ℕ) → goes_on old new ≡ true → t < length old.plan.rows → is_gone_at new.gone old.plan t ≡ false →
    (row_at new.plan t).name ≡ (row_at old.plan t).name

-- the home of each session of an old tenant's place stays, whose ever that is; the session is named by its place among the tenant's
abbrev pub HomesStay : Type 0
HomesStay =
    (old new : Setup) (t place : ℕ) → goes_on old new ≡ true → t < length old.plan.rows → home_place new.plan t place ≡ home_place old.plan t place

-- each old volume of a tenant that is not gone has its number, its files and their blocks
abbrev pub VolumesStay : Type 0
VolumesStay =
    (old new : Setup) (t v : ℕ) → goes_on old new ≡ true → t < length old.plan.rows → is_gone_at new.gone old.plan t ≡ false → v < length (account_at (holdings old) t).volumes →
    slice_get (account_at (holdings new) t).volumes v ≡ slice_get (account_at (holdings old) t).volumes v

-- each tenant that is not gone may have at least as many KiB of chunks as it might
abbrev pub RoomsGrow : Type 0
RoomsGrow = (old new : Setup) (t : ℕ) → goes_on old new ≡ true → is_gone_at new.gone old.plan t ≡ false → kib_of old.rooms t ≤ kib_of new.rooms t

-- who was gone is gone
abbrev pub GoneStay : Type 0
GoneStay = (old new : Setup) → goes_on old new ≡ true → (more : List Word) × (new.gone ≡ old.gone ++ more)

-- nobody of the plan is gone
abbrev pub GoneAreNoTenants : Type 0
GoneAreNoTenants = (setup : Setup) (name : Word) → CanGo setup.plan [] setup.gone → is_gone setup.gone name ≡ true → place_named setup.plan name ≡ None

-- so no later plan has a tenant of a name that is gone
abbrev pub GoneNeverBack : Type 0
GoneNeverBack = (old new : Setup) (name : Word) → CanGo new.plan [] new.gone → goes_on old new ≡ true → is_gone old.gone name ≡ true → place_named new.plan name ≡ None

-- without those who are gone each other tenant has what it had, and they have no volume and no room for chunks
pub record IsLeft (setup : Setup) (gone : List Word) (t : ℕ) : Type 0 where
  pub stays : is_gone_at gone setup.plan t ≡ false → account_at (holdings (without gone setup)) t ≡ account_at (holdings setup) t
  pub goes : is_gone_at gone setup.plan t ≡ true → (account_at (holdings (without gone setup)) t).volumes ≡ []
  pub room_stays : is_gone_at gone setup.plan t ≡ false → kib_of (without gone setup).rooms t ≡ kib_of setup.rooms t
  pub room_goes : is_gone_at gone setup.plan t ≡ true → kib_of (without gone setup).rooms t ≡ 0

abbrev pub WhatIsLeft : Type 0
WhatIsLeft = (setup : Setup) (gone : List Word) (t : ℕ) → CanOpen (accounts_of setup.plan) setup.openings → IsLeft setup gone t

-- the old losses are the first
abbrev pub LossesStay : Type 0
LossesStay = (old new : Setup) → goes_on old new ≡ true → (more : List ℕ) × (new.lost ≡ old.lost ++ more)

-- so a place loses no fewer nodes, and the node that stands there has no smaller number
abbrev pub TimesGrow : Type 0
TimesGrow = (old new : Setup) (place : ℕ) → goes_on old new ≡ true → times (plan_in old.lost) place ≤ times (plan_in new.lost) place

abbrev pub NodesGrow : Type 0
NodesGrow = (old new : Setup) (place : ℕ) → goes_on old new ≡ true → node_at (plan_in old.lost) place ≤ node_at (plan_in new.lost) place

-- which node a setup is of
abbrev pub here_of : ℕ → Setup → Here
here_of node setup = record { node = node; lost = setup.lost }

-- nor has the session at a place of an old tenant
abbrev pub SessionsGrow : Type 0
SessionsGrow =
    (old new : Setup) (node t place : ℕ) → goes_on old new ≡ true → t < length old.plan.rows →
    session_at old.plan (here_of node old) t place ≤ session_at new.plan (here_of node new) t place
