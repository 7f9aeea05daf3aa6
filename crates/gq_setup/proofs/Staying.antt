-- Where a setup goes on from an older one, tenants, the places of homes, volumes, losses and who is gone stay.
use Rattle.std.proofs.Common.{◌≡◌, ℕ, zero, suc, ◌+◌, ◌<◌, ◌≤◌, List, [], ◌∷◌, ◌++◌, length, get_or, take, Some, Bool, true, false, cond, refl, sym, ap, ◌∙◌, subst, arith}
use Rattle.std.specs.Prelude.{◌==◌, ◌&&◌, nat_le, slice_get, fold, unwrap_or}
use Rattle.std.specs.Str.{bytes_eq}
use Rattle.std.proofs.lemmas.Bool.{and_parts, eqb-true}
use Rattle.std.proofs.lemmas.Option.{slice_get-get_or, unwrap_or-slice_get}
use Rattle.std.proofs.lemmas.Slice.Eq.{bytes_eq-Decides}
use Rattle.gq_desk.specs.CheckedPlan.{CheckedPlan, nobody}
use Rattle.gq_desk.specs.declared.plans.TenantRow.{TenantRow}
use Rattle.gq_desk.specs.declared.volumes.VolumeRow.{VolumeRow}
use Rattle.gq_desk.specs.Volumes.{Account, account_at, no_account}
use Rattle.gq_lines.specs.Words.{Word}
use Rattle.gq_replace.specs.Plans.{times, GoesOn}
use Rattle.gq_replace.proofs.Chains.{times_grow}
use Rattle.gq_node.specs.Sites.{plan_in, number_of, home_place}
use Rattle.gq_setup.specs.Setups.{Setup, holdings, is_gone, is_gone_at}
use Rattle.gq_setup.specs.GoingOn.{come_first, same_tenant, row_goes_on, same_volume, account_goes_on, holdings_left, same_servers, same_place, losses_go_on, gone_go_on, tenants_go_on, rooms_go_on, goes_on}
use Rattle.gq_setup.specs.Laws.{GoneStay, GoneAreNoTenants, GoneNeverBack, TenantsStay, HomesStay, VolumesStay, LossesStay, RoomsGrow, TimesGrow, NodesGrow, SessionsGrow}
use Rattle.gq_setup.proofs.LineByLine.{holdings-length}
use Rattle.gq_setup.proofs.Accounts.{left-length, left_at}
use Rattle.gq_setup.proofs.Going.{no_tenants, gone_first, still_gone}
use Rattle.gq_setup.proofs.Rooms.{rooms_grow}

-- ---- what comes first stands there, as the test wants it

come_first_at : {A : Type 0} (test : A → A → Bool) (olds news : List A) (d : A) (i : ℕ) → come_first test olds news ≡ true → i < length olds → (i < length news) × (test (get_or olds i d) (get_or news i d) ≡ true)
come_first_at test [] news d i first within = absurd (omega arith)
come_first_at test (old ∷ olds) [] d i first within = cc
come_first_at test (old ∷ olds) (new ∷ news) d zero first within = (omega arith, (and_parts (test old new) (come_first test olds news) first).0)
come_first_at test (old ∷ olds) (new ∷ news) d (suc i) first within =
    let rest = come_first_at test olds news d i (and_parts (test old new) (come_first test olds news) first).1 (omega arith) in
    (omega (arith, rest.0), rest.1)

-- ---- what going on says

record Parts (old new : Setup) : Type 0 where
  servers : same_servers old.plan new.plan ≡ true
  losses : losses_go_on old.lost new.lost ≡ true
  gone : gone_go_on old.gone new.gone ≡ true
  rows : come_first (row_goes_on new.gone) old.plan.rows new.plan.rows ≡ true
  accounts : come_first account_goes_on (holdings_left new.gone old) (holdings new) ≡ true
  rooms : rooms_go_on new.gone old.plan old.rooms new.rooms ≡ true

parts_of : (old new : Setup) → goes_on old new ≡ true → Parts old new
parts_of old new on =
    let rooms : Bool = rooms_go_on new.gone old.plan old.rooms new.rooms in
    let first = and_parts (same_servers old.plan new.plan) (losses_go_on old.lost new.lost && (gone_go_on old.gone new.gone && (tenants_go_on old new && rooms))) on in
    let second = and_parts (losses_go_on old.lost new.lost) (gone_go_on old.gone new.gone && (tenants_go_on old new && rooms)) first.1 in
    let third = and_parts (gone_go_on old.gone new.gone) (tenants_go_on old new && rooms) second.1 in
    let fourth = and_parts (tenants_go_on old new) rooms third.1 in
    let tenants = and_parts (come_first (row_goes_on new.gone) old.plan.rows new.plan.rows) (come_first account_goes_on (holdings_left new.gone old) (holdings new)) fourth.0 in
    record { servers = first.0; losses = second.0; gone = third.0; rows = tenants.0; accounts = tenants.1; rooms = fourth.1 }

-- ---- tenants

row_at_is : (rows : List TenantRow) (t : ℕ) → unwrap_or (slice_get rows t) nobody ≡ get_or rows t nobody
row_at_is rows t = unwrap_or-slice_get rows t nobody

-- a tenant that is not gone
stays_at : (gone : List Word) (plan : CheckedPlan) (t : ℕ) → is_gone_at gone plan t ≡ false → is_gone gone (get_or plan.rows t nobody).name ≡ false
stays_at gone plan t stays = subst (λ (row : TenantRow). is_gone gone row.name ≡ false) (row_at_is plan.rows t) stays

goes_same : (gone : List Word) (old new : TenantRow) → is_gone gone old.name ≡ false → row_goes_on gone old new ≡ true → same_tenant old new ≡ true
goes_same gone old new stays on = subst (λ b. cond b (old.sessions == new.sessions) (same_tenant old new) ≡ true) stays on

name_stays : (old new : TenantRow) → same_tenant old new ≡ true → new.name ≡ old.name
name_stays old new on = sym ((bytes_eq-Decides old.name new.name).0 (and_parts (bytes_eq old.name new.name) (old.sessions == new.sessions && nat_le old.share new.share) on).0)

pub tenants_stay : TenantsStay
tenants_stay old new t on within stays =
    ap (λ (row : TenantRow). row.name) (row_at_is new.plan.rows t)
    ∙ name_stays (get_or old.plan.rows t nobody) (get_or new.plan.rows t nobody) (goes_same new.gone (get_or old.plan.rows t nobody) (get_or new.plan.rows t nobody) (stays_at new.gone old.plan t stays)
    (come_first_at (row_goes_on new.gone) old.plan.rows new.plan.rows nobody t (parts_of old new on).rows within).1)
    ∙ ap (λ (row : TenantRow). row.name) (sym (row_at_is old.plan.rows t))

-- ---- homes

sessions_of : (old new : TenantRow) (gone : Bool) → cond gone (old.sessions == new.sessions) (same_tenant old new) ≡ true → new.sessions ≡ old.sessions
sessions_of old new true on = sym (eqb-true old.sessions new.sessions on)
sessions_of old new false on =
    let rest = (and_parts (bytes_eq old.name new.name) (old.sessions == new.sessions && nat_le old.share new.share) on).1 in
    sym (eqb-true old.sessions new.sessions (and_parts (old.sessions == new.sessions) (nat_le old.share new.share) rest).0)

sessions_stay : (gone : List Word) (old new : TenantRow) → row_goes_on gone old new ≡ true → new.sessions ≡ old.sessions
sessions_stay gone old new on = sessions_of old new (is_gone gone old.name) on

abbrev counted : ℕ → List TenantRow → ℕ
counted n rows = fold (λ a (row : TenantRow). a + row.sessions) n rows

counts_stay : (gone : List Word) (olds news : List TenantRow) (t n : ℕ) → come_first (row_goes_on gone) olds news ≡ true → t ≤ length olds → counted n (take t news) ≡ counted n (take t olds)
counts_stay gone olds news zero n first within = refl
counts_stay gone [] news (suc t) n first within = absurd (omega arith)
counts_stay gone (old ∷ olds) [] (suc t) n first within = cc
counts_stay gone (old ∷ olds) (new ∷ news) (suc t) n first within =
    let parts = and_parts (row_goes_on gone old new) (come_first (row_goes_on gone) olds news) first in
    ap (λ m. counted (n + m) (take t news)) (sessions_stay gone old new parts.0) ∙ counts_stay gone olds news t (n + old.sessions) parts.1 (omega arith)

pub homes_stay : HomesStay
homes_stay old new t place on within =
    let parts = parts_of old new on in
    let grid = and_parts (old.plan.grid.rows == new.plan.grid.rows && old.plan.grid.cols == new.plan.grid.cols) (nat_le old.plan.blocks new.plan.blocks) parts.servers in
    let sides = and_parts (old.plan.grid.rows == new.plan.grid.rows) (old.plan.grid.cols == new.plan.grid.cols) grid.0 in
    let number : number_of new.plan.rows t place ≡ number_of old.plan.rows t place = ap (λ n. place + n) (counts_stay new.gone old.plan.rows new.plan.rows t 0 parts.rows (omega arith)) in
    rw (number, ← (eqb-true old.plan.grid.rows new.plan.grid.rows sides.0), ← (eqb-true old.plan.grid.cols new.plan.grid.cols sides.1)) refl

-- ---- volumes

volume_stays : (old new : VolumeRow) → same_volume old new ≡ true → new ≡ old
volume_stays old new same =
    let parts = and_parts (old.files == new.files) (old.blocks == new.blocks) same in
    ap (λ n. let row : VolumeRow = record { files = n; blocks = new.blocks } in row) (sym (eqb-true old.files new.files parts.0))
    ∙ ap (λ n. let row : VolumeRow = record { files = old.files; blocks = n } in row) (sym (eqb-true old.blocks new.blocks parts.1))

no_volume : VolumeRow
no_volume = record { files = 0; blocks = 0 }

rows_stay : (olds news : List VolumeRow) (v : ℕ) → come_first same_volume olds news ≡ true → v < length olds → slice_get news v ≡ slice_get olds v
rows_stay olds news v first within =
    let there = come_first_at same_volume olds news no_volume v first within in
    slice_get-get_or news v no_volume there.0 ∙ ap (λ row. Some row) (volume_stays (get_or olds v no_volume) (get_or news v no_volume) there.1) ∙ sym (slice_get-get_or olds v no_volume within)

account_at_is : (accounts : List Account) (t : ℕ) → account_at accounts t ≡ get_or accounts t no_account
account_at_is accounts t = unwrap_or-slice_get accounts t no_account

rows_are : (setup : Setup) → length setup.plan.rows ≡ length (holdings setup)
rows_are setup = sym (holdings-length setup.plan setup.openings)

-- what is left of a tenant that is not gone is all that it had
left_is : (gone : List Word) (setup : Setup) (t : ℕ) → t < length setup.plan.rows → is_gone_at gone setup.plan t ≡ false → (get_or (holdings_left gone setup) t no_account).volumes ≡ (get_or (holdings setup) t no_account).volumes
left_is gone setup t within stays =
    ap (λ (a : Account). a.volumes) (left_at gone setup.plan.rows (holdings setup) t (rows_are setup) within)
    ∙ ap (λ b. cond b [] (get_or (holdings setup) t no_account).volumes) (stays_at gone setup.plan t stays)

volumes_first : (old new : Setup) (t : ℕ) → goes_on old new ≡ true → t < length old.plan.rows → is_gone_at new.gone old.plan t ≡ false → come_first same_volume (account_at (holdings old) t).volumes (account_at (holdings new) t).volumes ≡ true
volumes_first old new t on within stays =
    let there : t < length (holdings_left new.gone old) = subst (λ n. t < n) (sym (left-length new.gone old.plan.rows (holdings old) (rows_are old))) within in
    rw (account_at_is (holdings old) t, account_at_is (holdings new) t)
    (subst (λ vs. come_first same_volume vs (get_or (holdings new) t no_account).volumes ≡ true) (left_is new.gone old t within stays)
    (come_first_at account_goes_on (holdings_left new.gone old) (holdings new) no_account t (parts_of old new on).accounts there).1)

pub volumes_stay : VolumesStay
volumes_stay old new t v on within stays less = rows_stay (account_at (holdings old) t).volumes (account_at (holdings new) t).volumes v (volumes_first old new t on within stays) less

-- ---- room for chunks

pub rooms_grow_on : RoomsGrow
rooms_grow_on old new t on stays = rooms_grow new.gone old.plan old.rooms new.rooms t (parts_of old new on).rooms stays

-- ---- who is gone

pub gone_stay : GoneStay
gone_stay old new on = gone_first old.gone new.gone (parts_of old new on).gone

pub gone_are_no_tenants : GoneAreNoTenants
gone_are_no_tenants setup name can is = no_tenants setup.plan [] setup.gone name can is

pub gone_never_back : GoneNeverBack
gone_never_back old new name can on is =
    let first = gone_stay old new on in
    no_tenants new.plan [] new.gone name can (subst (λ gone. is_gone gone name ≡ true) (sym first.1) (still_gone old.gone first.0 name is))

-- ---- losses

places_first : (olds news : List ℕ) → losses_go_on olds news ≡ true → (more : List ℕ) × (news ≡ olds ++ more)
places_first [] news first = (news, refl)
places_first (old ∷ olds) [] first = cc
places_first (old ∷ olds) (new ∷ news) first =
    let parts = and_parts (same_place old new) (losses_go_on olds news) first in
    let later = places_first olds news parts.1 in
    (later.0, ap (λ place. place ∷ news) (sym (eqb-true old new parts.0)) ∙ ap (λ places. old ∷ places) later.1)

pub losses_stay : LossesStay
losses_stay old new on = places_first old.lost new.lost (parts_of old new on).losses

goes_on_lost : (old new : Setup) → goes_on old new ≡ true → GoesOn (plan_in old.lost) (plan_in new.lost)
goes_on_lost old new on =
    let first = losses_stay old new on in
    record { more = first.0; lost = first.1; volumes = omega arith }

pub times_grow_on : TimesGrow
times_grow_on old new place on = times_grow (plan_in old.lost) (plan_in new.lost) place (goes_on_lost old new on)

pub nodes_grow : NodesGrow
nodes_grow old new place on = let more = times_grow_on old new place on in omega (arith, more)

pub sessions_grow : SessionsGrow
sessions_grow old new node t place on within =
    let stays = homes_stay old new t place on within in
    let more : times (plan_in old.lost) (home_place old.plan t place) ≤ times (plan_in new.lost) (home_place new.plan t place) =
    subst (λ home. times (plan_in old.lost) (home_place old.plan t place) ≤ times (plan_in new.lost) home) (sym stays) (times_grow_on old new (home_place old.plan t place) on) in
    omega (arith, more)
