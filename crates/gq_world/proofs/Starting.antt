-- Tables in which nothing has happened are shaped and sound.
use Rattle.std.proofs.Common.{◌≡◌, ◌∙◌, ℕ, zero, suc, ◌+◌, ◌*◌, ◌<◌, ◌≤◌, List, [], ◌∷◌, length, map, replicate, true, false, Option, Some, None, refl, sym, ap, subst, arith, inl, inr, ◌⊎◌, All, get_or}
use Rattle.std.proofs.Math.Path.{fun_ext}
use Rattle.std.specs.Prelude.{min, nat_lt, slice_get, unwrap_or}
use Rattle.std.specs.Option.{option_map}
use Rattle.std.proofs.lemmas.Bool.{cases_Bool, true≢false}
use Rattle.std.proofs.lemmas.Option.{unwrap_or-slice_get, slice_get-map}
use Rattle.std.proofs.lemmas.List.{get_or-replicate, length-map, length-replicate}
use Rattle.std.proofs.lemmas.List.Elements.{All-replicate}
use Rattle.gq_grid.specs.Grid.{Grid, Servers, all_servers}
use Rattle.gq_grid.specs.Sets.{servers}
use Rattle.gq_grid.specs.declared.ServerSet.{ServerSet}
use Rattle.gq_grid.specs.declared.TheConstants.{MOST_SERVERS}
use Rattle.gq_tag.specs.Tag.{File, file_of, first_copy}
use Rattle.gq_desk.specs.declared.limits.TheConstants.{MOST_SESSIONS}
use Rattle.gq_desk.specs.declared.plans.TenantRow.{TenantRow}
use Rattle.gq_desk.specs.CheckedPlan.{CheckedPlan, nobody, row_at}
use Rattle.gq_desk.specs.Volumes.{no_account, account_at, new_account}
use Rattle.gq_post.specs.Channels.{channel_at, message_at}
use Rattle.gq_store.specs.Copies.{StoreCopies, VolumeCopies, copies_account, store_accounts, new_tenant, empty_store, tenant_in, volume_copy, copy_at, empty_volume}
use Rattle.gq_model.specs.Trace.{questions}
use Rattle.gq_world.specs.declared.sessions.SessionState.{SessionState}
use Rattle.gq_world.specs.Tables.{Tables, Agrees, Stands, SessionStateAgrees, IsOfPlan, IsShaped, up_in, gone_in, store_at, no_store, session_states_at, session_state_in, no_session_state}
use Rattle.gq_world.specs.Whole.{AllSound, FewSessions, IsFirst}
use Rattle.gq_world.proofs.Steps.{start_bounded}

all_up : (grid : Grid) (set : ServerSet) → servers set ≡ all_servers grid → up_in grid set ≡ (λ server. true)
all_up grid set is = fun_ext (λ s. by s (cases_Bool (nat_lt s (grid.rows * grid.cols))))
  where
    by : (s : ℕ) → (nat_lt s (grid.rows * grid.cols) ≡ true) ⊎ (nat_lt s (grid.rows * grid.cols) ≡ false) → up_in grid set s ≡ true
    by s (inl within) = rw within (ap (λ (f : Servers). f s) is ∙ within)
    by s (inr outside) = rw outside refl

none_gone : (grid : Grid) (set : ServerSet) → servers set ≡ all_servers grid → gone_in grid set ≡ (λ server. false)
none_gone grid set is = fun_ext (λ s. by s (cases_Bool (nat_lt s (grid.rows * grid.cols))))
  where
    by : (s : ℕ) → (nat_lt s (grid.rows * grid.cols) ≡ true) ⊎ (nat_lt s (grid.rows * grid.cols) ≡ false) → gone_in grid set s ≡ false
    by s (inl within) = let here : servers set s ≡ true = ap (λ (f : Servers). f s) is ∙ within in rw (within, here) refl
    by s (inr outside) = rw outside refl

fresh_at : (rows : List TenantRow) (t : ℕ) → account_at (map new_account rows) t ≡ new_account (unwrap_or (slice_get rows t) nobody)
fresh_at rows t = rw (slice_get-map new_account rows t) (by (slice_get rows t))
  where
    by : (o : Option TenantRow) → unwrap_or (option_map new_account o) no_account ≡ new_account (unwrap_or o nobody)
    by None = refl
    by (Some row) = refl

no_channel : (count t : ℕ) → channel_at (replicate count []) t ≡ []
no_channel zero t = refl
no_channel (suc count) zero = refl
no_channel (suc count) (suc t) = no_channel count t

-- ---- the sessions

abbrev new_session_states : TenantRow → List SessionState
new_session_states row = replicate row.sessions no_session_state

session_states_are : (rows : List TenantRow) (t : ℕ) → t < length rows → session_states_at (map new_session_states rows) t ≡ replicate (unwrap_or (slice_get rows t) nobody).sessions no_session_state
session_states_are [] t within = absurd (omega arith)
session_states_are (row ∷ rows) zero within = refl
session_states_are (row ∷ rows) (suc t) within = session_states_are rows t (omega arith)

-- ---- the stores

accounts_first : (rows : List TenantRow) → map copies_account (map new_tenant rows) ≡ map new_account rows
accounts_first [] = refl
accounts_first (row ∷ rows) = ap (λ rest. new_account row ∷ rest) (accounts_first rows)

no_volumes : (rows : List TenantRow) (t : ℕ) → (tenant_in (map new_tenant rows) t).volumes ≡ []
no_volumes [] t = refl
no_volumes (row ∷ rows) zero = refl
no_volumes (row ∷ rows) (suc t) = no_volumes rows t

copy_first : (plan : CheckedPlan) (t : ℕ) (file : File) → copy_at (empty_store plan) (file_of t file) ≡ first_copy
copy_first plan t file = ap (λ (volumes : List VolumeCopies). volume_copy (get_or volumes file.volume empty_volume) file.place) (no_volumes plan.rows t)

store_first : (plan : CheckedPlan) (w : Tables) (s : ℕ) → IsFirst plan w → s < plan.grid.rows * plan.grid.cols → store_at w.stores s ≡ empty_store plan
store_first plan w s first within = ap (λ stores. store_at stores s) first.stores ∙ get_or-replicate (plan.grid.rows * plan.grid.cols) s (empty_store plan) no_store within

-- ---- the tables

of_plan : (plan : CheckedPlan) → IsOfPlan plan (empty_store plan)
of_plan plan = record { blocks = refl; tenants = length-map (map new_tenant plan.rows) copies_account ∙ length-map plan.rows new_tenant }

pub first_shaped : (plan : CheckedPlan) (w : Tables) → w.plan ≡ plan → IsFirst plan w → FewSessions plan → plan.grid.rows * plan.grid.cols ≤ MOST_SERVERS → IsShaped w
first_shaped plan w is first few small =
    let S : CheckedPlan → Type 0 = λ p. (length w.lines ≡ length p.rows) × (length w.desk ≡ length p.rows) × (length w.channels ≡ length p.rows) × (length w.stores ≡ p.grid.rows * p.grid.cols) × All (IsOfPlan p) w.stores × (length w.session_states ≡ length p.rows)
    × ((t : ℕ) → t < length p.rows → length (session_states_at w.session_states t) ≡ (row_at p t).sessions) × ((t : ℕ) → t < length p.rows → (row_at p t).sessions ≤ MOST_SESSIONS) × (p.grid.rows * p.grid.cols ≤ MOST_SERVERS) in
    let all : S plan = (
      ap length first.lines ∙ length-replicate (length plan.rows) 0,
      ap length first.desk ∙ length-map plan.rows new_account,
      ap length first.channels ∙ length-replicate (length plan.rows) [],
      ap length first.stores ∙ length-replicate (plan.grid.rows * plan.grid.cols) (empty_store plan),
      subst (All (IsOfPlan plan)) (sym first.stores) (All-replicate (IsOfPlan plan) (plan.grid.rows * plan.grid.cols) (empty_store plan) (of_plan plan)),
      ap length first.session_states ∙ length-map plan.rows new_session_states,
      (λ t within. ap (λ all. length (session_states_at all t)) first.session_states ∙ ap length (session_states_are plan.rows t within) ∙ length-replicate (row_at plan t).sessions no_session_state),
      few,
      small,
    ) in
    let h : S w.plan = subst S (sym is) all in
    record { lines = h.0; desk = h.1; channels = h.2; servers = h.3; stores = h.4; tenants = h.5; session_states = h.6; sessions = h.7; grid = h.8 }

agrees_first : (w : Tables) (t : ℕ) → IsFirst w.plan w → t < length w.plan.rows → Agrees w t (record { lines = 0; state = questions [] })
agrees_first w t first within = record {
  lines = ap (λ lines. unwrap_or (slice_get lines t) 0) first.lines ∙ unwrap_or-slice_get (replicate (length w.plan.rows) 0) t 0 ∙ get_or-replicate (length w.plan.rows) t 0 0 within;
  up = all_up w.plan.grid w.up first.up;
  gone = none_gone w.plan.grid w.kept first.kept;
  account = ap (λ desk. account_at desk t) first.desk ∙ fresh_at w.plan.rows t;
  sent = ap (λ channels. length (channel_at channels t)) first.channels ∙ ap length (no_channel (length w.plan.rows) t);
  lost = λ n past. refl;
  messages = λ n. ap (λ channels. message_at (channel_at channels t) n) first.channels ∙ ap (λ channel. message_at channel n) (no_channel (length w.plan.rows) t);
  accounts = λ s inside. ap (λ (store : StoreCopies). account_at (store_accounts store) t) (store_first w.plan w s first inside) ∙ ap (λ accounts. account_at accounts t) (accounts_first w.plan.rows ∙ sym first.desk);
  copies = λ s inside file. ap (λ (store : StoreCopies). copy_at store (file_of t file)) (store_first w.plan w s first inside) ∙ copy_first w.plan t file;
  lacking = λ s file. refl;
  down = λ s is. absurd (true≢false (sym is));
  session_states = λ place inside.
      let are : session_states_at w.session_states t ≡ replicate (row_at w.plan t).sessions no_session_state = ap (λ all. session_states_at all t) first.session_states ∙ session_states_are w.plan.rows t within in
      let is : session_state_in (session_states_at w.session_states t) place ≡ no_session_state = ap (λ (session_states : List SessionState). session_state_in session_states place) are ∙ get_or-replicate (row_at w.plan t).sessions place no_session_state no_session_state inside in
      subst (λ (session_state : SessionState). SessionStateAgrees w.plan.grid t (place + 1) session_state (questions [])) (sym is) (record { op = refl; answered = λ busy. absurd (cc); sits = refl });
}

pub first_sound : (plan : CheckedPlan) (w : Tables) → IsFirst plan w → AllSound w
first_sound plan w first t within =
    let f : IsFirst w.plan w = subst (λ p. IsFirst p w) (sym first.plan_is) first in
    record {
      known = record { lines = 0; state = questions [] };
      agrees = agrees_first w t f within;
      bounded = start_bounded w.plan.grid (row_at w.plan t);
    }

-- they stand for no event
pub first_stands : (plan : CheckedPlan) (w : Tables) → IsFirst plan w → Stands w []
first_stands plan w first =
    let f : IsFirst w.plan w = subst (λ p. IsFirst p w) (sym first.plan_is) first in
    record {
      tenants = λ t within. subst (λ n. Agrees w t (record { lines = n; state = questions [] })) (none_taken (row_at w.plan t).steps) (agrees_first w t f within);
      servers = all_up w.plan.grid w.up f.up;
      gone = none_gone w.plan.grid w.kept f.kept;
    }
  where
    none_taken : (steps : ℕ) → 0 ≡ min steps 0
    none_taken steps = omega arith
