-- Tables in which nothing has happened; tables that stand for something stay so.
use Rattle.std.proofs.Common.{◌≡◌, ◌∙◌, ℕ, zero, suc, ◌*◌, ◌<◌, ◌≤◌, List, [], ◌∷◌, length, map, replicate, false, Option, Some, None, refl, sym, ap, subst, arith, inl, inr, get_or}
use Rattle.std.specs.Prelude.{◌&&◌, not, nat_lt, slice_get, slice_index_or, unwrap_or}
use Rattle.std.specs.Option.{option_map}
use Rattle.std.proofs.lemmas.Bool.{cases_eq, true≢false}
use Rattle.gq_grid.proofs.Same.{none_below}
use Rattle.std.proofs.lemmas.Option.{slice_get-map}
use Rattle.std.proofs.lemmas.List.{get_or-replicate, length-map, length-replicate}
use Rattle.gq_grid.specs.declared.TheConstants.{MOST_SERVERS}
use Rattle.gq_tag.specs.Tag.{File, file_of, first_copy}
use Rattle.gq_desk.specs.declared.plans.TenantRow.{TenantRow}
use Rattle.gq_desk.specs.declared.limits.TheConstants.{MOST_VOLUMES}
use Rattle.gq_desk.specs.CheckedPlan.{CheckedPlan, nobody, row_at}
use Rattle.gq_desk.specs.declared.volumes.VolumeRow.{VolumeRow}
use Rattle.gq_desk.specs.Volumes.{Account, no_account, account_at, new_account}
use Rattle.gq_store.specs.Copies.{StoreCopies, VolumeCopies, copies_account, store_accounts, new_tenant, empty_store, tenant_in, volume_copy, copy_at, empty_volume}
use Rattle.gq_node.specs.declared.session_states.SessionState.{SessionState}
use Rattle.gq_replace.specs.Plans.{times, place_of}
use Rattle.gq_node.specs.declared.lost.TheConstants.{MOST_TIMES}
use Rattle.gq_node.specs.Sites.{Site, Here, plan_in, session_at, site_of}
use Rattle.gq_node.specs.Lacks.{Given, is_given, lacks_in}
use Rattle.gq_node.specs.Local.{Local, Doing, new_local, new_resident}
use Rattle.gq_node.specs.Opening.{Bereaves, Opens, opened}
use Rattle.gq_node.specs.Resting.{FirstPlan, begun_local}
use Rattle.gq_node.specs.Shape.{IsShaped, IsFirst, FewSessions}
use Rattle.gq_node.specs.Tables.{Tables, given_at, lacks_at, peer_at, Agrees, Leads, LeadsAll, Stands, AllStand, SessionStateAgrees, session_states_at, session_state_in, no_session_state, first_session_state}

fresh_at : (rows : List TenantRow) (t : ℕ) → account_at (map new_account rows) t ≡ new_account (unwrap_or (slice_get rows t) nobody)
fresh_at rows t = rw (slice_get-map new_account rows t) (by (slice_get rows t))
  where
    by : (o : Option TenantRow) → unwrap_or (option_map new_account o) no_account ≡ new_account (unwrap_or o nobody)
    by None = refl
    by (Some row) = refl

abbrev new_session_states : SessionState → TenantRow → List SessionState
new_session_states session_state row = replicate row.sessions session_state

session_states_are : (session_state : SessionState) (rows : List TenantRow) (t : ℕ) → t < length rows → session_states_at (map (new_session_states session_state) rows) t ≡ replicate (unwrap_or (slice_get rows t) nobody).sessions session_state
session_states_are session_state [] t within = absurd (omega arith)
session_states_are session_state (row ∷ rows) zero within = refl
session_states_are session_state (row ∷ rows) (suc t) within = session_states_are session_state rows t (omega arith)

accounts_first : (rows : List TenantRow) → map copies_account (map new_tenant rows) ≡ map new_account rows
accounts_first [] = refl
accounts_first (row ∷ rows) = ap (λ rest. new_account row ∷ rest) (accounts_first rows)

no_volumes : (rows : List TenantRow) (t : ℕ) → (tenant_in (map new_tenant rows) t).volumes ≡ []
no_volumes [] t = refl
no_volumes (row ∷ rows) zero = refl
no_volumes (row ∷ rows) (suc t) = no_volumes rows t

copy_first : (plan : CheckedPlan) (t : ℕ) (file : File) → copy_at (empty_store plan) (file_of t file) ≡ first_copy
copy_first plan t file = ap (λ (volumes : List VolumeCopies). volume_copy (get_or volumes file.volume empty_volume) file.place) (no_volumes plan.rows t)

abbrev pub no_volumes_given : Given
no_volumes_given = []

-- no tenant has a file that the server lacks, and each asked the node itself last
none_at : (rows : List TenantRow) (t : ℕ) → slice_index_or (map (λ (row : TenantRow). no_volumes_given) rows) t [] ≡ []
none_at [] t = refl
none_at (row ∷ rows) zero = refl
none_at (row ∷ rows) (suc t) = none_at rows t

pub map_none : (rows : List TenantRow) → map (λ (row : TenantRow). no_volumes_given) rows ≡ replicate (length rows) no_volumes_given
map_none [] = refl
map_none (row ∷ rows) = ap (λ gs. no_volumes_given ∷ gs) (map_none rows)

none_given_at : (w : Tables) (rows : List TenantRow) (t : ℕ) → w.given ≡ map (λ row. []) rows → given_at w t ≡ []
none_given_at w rows t is = ap (λ gs. slice_index_or gs t []) is ∙ none_at rows t

none_lacked : (w : Tables) (rows : List TenantRow) (t : ℕ) (f : File) → w.given ≡ map (λ row. []) rows → lacks_at w t f ≡ false
none_lacked w rows t f is = ap (λ g. lacks_in g f) (none_given_at w rows t is) ∙ nothing f.volume
  where
    nothing : (v : ℕ) → (nat_lt v 0 && not (is_given [] f)) ≡ false
    nothing v = let none : nat_lt v 0 ≡ false = none_below v in rw none refl

const_at : (n : ℕ) (rows : List TenantRow) (t : ℕ) → t < length rows → slice_index_or (map (λ (row : TenantRow). n) rows) t 0 ≡ n
const_at n [] t within = absurd (omega arith)
const_at n (row ∷ rows) zero within = refl
const_at n (row ∷ rows) (suc t) within = const_at n rows t (omega arith)

pub map_const : (n : ℕ) (rows : List TenantRow) → map (λ (row : TenantRow). n) rows ≡ replicate (length rows) n
map_const n [] = refl
map_const n (row ∷ rows) = ap (λ ns. n ∷ ns) (map_const n rows)

pub first_shaped : (plan : CheckedPlan) (here : Here) (w : Tables) → IsFirst plan here w → FewSessions plan → place_of here.node < plan.grid.rows * plan.grid.cols → plan.grid.rows * plan.grid.cols ≤ MOST_SERVERS → ((place : ℕ) → times (plan_in here.lost) place ≤ MOST_TIMES) → IsShaped w
first_shaped plan here w first few inside small rare =
    let server : ℕ = place_of here.node in
    let S : CheckedPlan → ℕ → Type 0 = λ p s. (s < p.grid.rows * p.grid.cols) × (p.grid.rows * p.grid.cols ≤ MOST_SERVERS) × (length w.desk ≡ length p.rows) × (length w.session_states ≡ length p.rows)
    × ((t : ℕ) → t < length p.rows → length (session_states_at w.session_states t) ≡ (row_at p t).sessions) × FewSessions p in
    let all : S plan server = (
      inside,
      small,
      ap length first.desk ∙ length-map plan.rows new_account,
      ap length first.session_states ∙ length-map plan.rows (new_session_states (first_session_state plan.grid server)),
      (λ t within. ap (λ all. length (session_states_at all t)) first.session_states ∙ ap length (session_states_are (first_session_state plan.grid server) plan.rows t within) ∙ length-replicate (row_at plan t).sessions (first_session_state plan.grid server)),
      few,
    ) in
    let rows : length plan.rows ≡ length w.plan.rows = ap (λ (p : CheckedPlan). length p.rows) (sym first.plan_is) in
    let h : S w.plan (place_of w.here.node) = subst (λ p. S p (place_of w.here.node)) (sym first.plan_is) (subst (S plan) (sym (ap (λ (x : Here). place_of x.node) first.here_is)) all) in
    record {
      place = h.0;
      few = subst (λ (x : Here). (place : ℕ) → times (plan_in x.lost) place ≤ MOST_TIMES) (sym first.here_is) rare;
      grid = h.1;
      desk = h.2;
      accounts = ap store_accounts first.store ∙ accounts_first plan.rows ∙ sym first.desk;
      volumes = λ t. let none : (account_at w.desk t).volumes ≡ [] = ap (λ desk. (account_at desk t).volumes) first.desk ∙ ap (λ (a : Account). a.volumes) (fresh_at plan.rows t) in
          subst (λ (vs : List VolumeRow). length vs ≤ MOST_VOLUMES) (sym none) (omega arith);
      given = ap length first.given ∙ length-map plan.rows (λ row. []) ∙ rows;
      whole = λ old t f. none_lacked w plan.rows t f first.given;
      bare = λ t f lacks. absurd (true≢false (sym lacks ∙ none_lacked w plan.rows t f first.given));
      few_given = λ t. subst (λ n. n ≤ MOST_VOLUMES) (sym (ap length (none_given_at w plan.rows t first.given))) (omega arith);
      marks = λ t v below. absurd (nothing v (subst (λ n. v < n) (ap length (none_given_at w plan.rows t first.given)) below));
      peers = ap length first.peers ∙ length-map plan.rows (λ row. server) ∙ rows;
      grid_peers = λ t within.
          let at : peer_at w t ≡ server = ap (λ ms. slice_index_or ms t 0) first.peers ∙ const_at server plan.rows t (subst (λ n. t < n) (sym rows) within) in
          subst (λ (p : CheckedPlan). peer_at w t < p.grid.rows * p.grid.cols) (sym first.plan_is) (subst (λ n. n < plan.grid.rows * plan.grid.cols) (sym at) inside);
      tenants = h.3;
      session_states = h.4;
      sessions = h.5;
    }
  where
    nothing : (v : ℕ) → v < 0 → ⊥
    nothing v below = omega (arith, below)

pub first_agrees : (plan : CheckedPlan) (here : Here) (w : Tables) (t : ℕ) → IsFirst plan here w → t < length plan.rows → Agrees w t (new_local plan.grid (place_of here.node) [])
first_agrees plan here w t first within =
    let server : ℕ = place_of here.node in
    let P : CheckedPlan → Here → Type 0 = λ p x. (account_at w.desk t ≡ new_account (row_at p t))
    × ((place : ℕ) → place < (row_at p t).sessions → SessionStateAgrees p.grid t (session_at p x t place) (session_state_in (session_states_at w.session_states t) place) (new_resident plan.grid server)) in
    let all : P plan here = (
      ap (λ desk. account_at desk t) first.desk ∙ fresh_at plan.rows t,
      (λ place inside.
          let are : session_states_at w.session_states t ≡ replicate (row_at plan t).sessions (first_session_state plan.grid server) = ap (λ all. session_states_at all t) first.session_states ∙ session_states_are (first_session_state plan.grid server) plan.rows t within in
          let is : session_state_in (session_states_at w.session_states t) place ≡ first_session_state plan.grid server = ap (λ (session_states : List SessionState). session_state_in session_states place) are ∙ get_or-replicate (row_at plan t).sessions place (first_session_state plan.grid server) no_session_state inside in
          subst (λ (session_state : SessionState). SessionStateAgrees plan.grid t (session_at plan here t place) session_state (new_resident plan.grid server)) (sym is) (record { op = refl; reserved_op = refl; reserved_floor = refl; sits = refl; outcome = refl; row = refl; column = refl; waited = refl; stays = refl })),
    ) in
    let h : P w.plan w.here = subst (λ p. P p w.here) (sym first.plan_is) (subst (P plan) (sym first.here_is) all) in
    record {
      account = h.0;
      copies = λ file. ap (λ (store : StoreCopies). copy_at store (file_of t file)) first.store ∙ copy_first plan t file;
      lacks = λ file. none_lacked w plan.rows t file first.given;
      joined = first.joined;
      peer = ap (λ ms. slice_index_or ms t 0) first.peers ∙ const_at server plan.rows t within;
      session_states = h.1;
    }

-- ---- all tenants

pub first_stand : (plan : CheckedPlan) (here : Here) (w : Tables) → IsFirst plan here w → AllStand w
first_stand plan here w first t within =
    record { local = new_local plan.grid (place_of here.node) []; agrees = first_agrees plan here w t first (subst (λ (p : CheckedPlan). t < length p.rows) first.plan_is within) }

pub stand_after : (old new : Tables) (t : ℕ) (step : Site → Local → Doing) → Leads old t step new → AllStand old → AllStand new
stand_after old new t step leads stand u within =
    let inside : u < length old.plan.rows = subst (λ (p : CheckedPlan). u < length p.rows) leads.plan within in
    let s : Stands old u = stand u inside in
    elim (cases_eq u t) [
      | inl same ↦ (
          let here : Stands new t = record { local = (step (site_of old.plan old.here t) (stand t (subst (λ x. x < length old.plan.rows) same inside)).local).local; agrees = leads.own _ (stand t (subst (λ x. x < length old.plan.rows) same inside)).agrees } in
          subst (Stands new) (sym same) here)
      | inr other ↦ (record { local = s.local; agrees = leads.others u other s.local s.agrees })
    ]

pub stand_opened : (old new : Tables) (t : ℕ) (row : VolumeRow) → Opens old t row new → AllStand old → AllStand new
stand_opened old new t row opens stand u within =
    let inside : u < length old.plan.rows = subst (λ (p : CheckedPlan). u < length p.rows) opens.plan within in
    let s : Stands old u = stand u inside in
    elim (cases_eq u t) [
      | inl same ↦ (
          let at : Stands old t = subst (Stands old) same s in
          let here : Stands new t = record { local = opened row at.local; agrees = opens.own at.local at.agrees } in
          subst (Stands new) (sym same) here)
      | inr other ↦ (record { local = s.local; agrees = opens.others u other s.local s.agrees })
    ]

-- where each part goes on
pub stand_all : (old new : Tables) (step : Site → Local → Doing) → LeadsAll old step new → AllStand old → AllStand new
stand_all old new step leads stands t within =
    let inside : t < length old.plan.rows = subst (λ (p : CheckedPlan). t < length p.rows) leads.plan within in
    record { local = (step (site_of old.plan old.here t) (stands t inside).local).local; agrees = leads.parts t inside (stands t inside).local (stands t inside).agrees }

-- where a tenant's part was new, and lacks files from now on
pub stand_bereaved : (old new : Tables) (t : ℕ) (first : FirstPlan) → Bereaves old t first new → AllStand old → AllStand new
stand_bereaved old new t first bereaves stands u within =
    let inside : u < length old.plan.rows = subst (λ (p : CheckedPlan). u < length p.rows) bereaves.plan within in
    elim (cases_eq u t) [
      | inl same ↦ (subst (Stands new) (sym same) (record { local = begun_local (site_of old.plan old.here t) (account_at old.desk t).volumes first; agrees = bereaves.own }))
      | inr other ↦ (record { local = (stands u inside).local; agrees = bereaves.others u other (stands u inside).local (stands u inside).agrees })
    ]
