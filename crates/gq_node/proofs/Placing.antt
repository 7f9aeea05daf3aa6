-- A session of the tables is another one.
use Rattle.std.proofs.Common.{◌≡◌, ◌≢◌, ◌∙◌, ℕ, ◌+◌, ◌-◌, ◌<◌, ◌≤◌, true, List, [], length, refl, sym, ap, subst, Option, Some, None, arith, inl, inr}
use Rattle.std.specs.Prelude.{◌*◌, ◌/◌, ◌%◌, ◌==◌, slice_set, option_map, slice_index_or, nat_le, nat_lt}
use Rattle.std.proofs.lemmas.Bool.{cases_eq, ne_eqb, eq-eqb, eqb-true, and_parts, and_from, le-leb, lt-ltb, ltb-true}
use Rattle.std.proofs.lemmas.Nat.{div-mul-add, mod-mul-add, div-add-mod'}
use Rattle.std.proofs.lemmas.Bool.Decides.{nat_tests}
use Rattle.std.proofs.lemmas.List.{get_or_default, get_or-set_same, get_or-set_other, length-set}
use Rattle.gq_grid.specs.Grid.{Grid}
use Rattle.gq_desk.specs.CheckedPlan.{row_at}
use Rattle.gq_desk.specs.Plans.{is_in}
use Rattle.gq_phase.specs.Phase.{Task, Operation}
use Rattle.gq_phase.specs.Standing.{last_number}
use Rattle.gq_phase.specs.declared.operation.Operation.{Operation as Code}
use Rattle.gq_model.specs.Trace.{Session, operation_with}
use Rattle.gq_node.specs.declared.session_states.SessionState.{SessionState}
use Rattle.gq_desk.specs.CheckedPlan.{CheckedPlan}
use Rattle.gq_desk.specs.declared.limits.TheConstants.{MOST_SESSIONS}
use Rattle.gq_replace.specs.Plans.{times}
use Rattle.gq_node.specs.declared.lost.TheConstants.{MOST_NUMBERS, MOST_TIMES}
use Rattle.gq_node.specs.Sites.{Site, Here, plan_in, home_place, session_state_place, session_generation, session_at, is_of_plan, site_of, has_session, aim}
use Rattle.gq_node.specs.Local.{Local, Resident, Doing, with_resident, aim_at}
use Rattle.gq_node.specs.SessionStates.{last_in, Goes, session_state_aim}
use Rattle.gq_node.specs.Shape.{IsShaped}
use Rattle.gq_node.specs.Tables.{Tables, Agrees, Leads, Stands, SessionStateAgrees, IsOfPlan, Sits, no_session_state, session_states_at, session_state_in, session_state_at, with_session_state}

-- ---- whom it asks

pub aim_is : (grid : Grid) (t k : ℕ) (session_state : SessionState) (r : Resident) → SessionStateAgrees grid t k session_state r → session_state_aim grid session_state ≡ aim_at grid r
aim_is grid t k session_state r agrees = ap (λ row. aim grid row session_state.column) agrees.row ∙ ap (aim grid r.row) agrees.column

-- ---- there is the session

low_end : (k : ℕ) → nat_le 1 k ≡ true → 1 ≤ k
low_end k e = grind (arith, nat_tests)

high_end : (n k : ℕ) → nat_le k n ≡ true → k ≤ n
high_end n k e = grind (arith, nat_tests)

pub in_range : (n k : ℕ) → is_in 1 n k ≡ true → (1 ≤ k) × (k ≤ n)
in_range n k is = let parts = and_parts (nat_le 1 k) (nat_le k n) is in (low_end k parts.0, high_end n k parts.1)

pub is_there_in : (n k : ℕ) → 1 ≤ k → k ≤ n → is_in 1 n k ≡ true
is_there_in n k low high = rw (le-leb 1 k low, le-leb k n high) refl

-- a session that the plan has has one of the numbers that there may be
pub is_number : (site : Site) (k : ℕ) → has_session site k ≡ true → is_in 1 site.row.sessions k ≡ true
is_number site k has = (and_parts (is_in 1 site.row.sessions k) (site.is_of_plan k) has).0

-- ---- the sessions of the plan

-- the session at a place has this place, and its home was lost so often
pub place_again : (plan : CheckedPlan) (here : Here) (t place : ℕ) → place < MOST_SESSIONS → session_state_place (session_at plan here t place) ≡ place
place_again plan here t place few =
    let lost : ℕ = times (plan_in here.lost) (home_place plan t place) in
    let less : lost * 16 + place + 1 - 1 ≡ lost * 16 + place = omega arith in
    ap (λ n. n % 16) less ∙ mod-mul-add lost 16 place few

pub turn_again : (plan : CheckedPlan) (here : Here) (t place : ℕ) → place < MOST_SESSIONS → session_generation (session_at plan here t place) ≡ times (plan_in here.lost) (home_place plan t place)
turn_again plan here t place few =
    let lost : ℕ = times (plan_in here.lost) (home_place plan t place) in
    let less : lost * 16 + place + 1 - 1 ≡ lost * 16 + place = omega arith in
    ap (λ n. n / 16) less ∙ div-mul-add lost 16 place few

-- a session that the plan has is the one at its place
pub placed : (w : Tables) (t k : ℕ) → has_session (site_of w.plan w.here t) k ≡ true → IsOfPlan w t k
placed w t k has =
    let parts = and_parts (is_in 1 MOST_NUMBERS k) (is_of_plan w.plan w.here t k) has in
    let there = and_parts (nat_lt (session_state_place k) (row_at w.plan t).sessions) (session_generation k == times (plan_in w.here.lost) (home_place w.plan t (session_state_place k))) parts.1 in
    let low : 1 ≤ k = (in_range MOST_NUMBERS k parts.0).0 in
    let turn : session_generation k ≡ times (plan_in w.here.lost) (home_place w.plan t (session_state_place k)) = eqb-true (session_generation k) (times (plan_in w.here.lost) (home_place w.plan t (session_state_place k))) there.1 in
    let whole : session_generation k * 16 + session_state_place k ≡ k - 1 = div-add-mod' (k - 1) 16 in
    let back : k - 1 + 1 ≡ k = omega (arith, low) in
    record {
      within = ltb-true (session_state_place k) (row_at w.plan t).sessions there.0;
      number = ap (λ n. n * 16 + session_state_place k + 1) (sym turn) ∙ ap (λ n. n + 1) whole ∙ back;
    }

-- and each that stands at a place is one
pub placed_at : (w : Tables) (t place : ℕ) → place < (row_at w.plan t).sessions → (row_at w.plan t).sessions ≤ MOST_SESSIONS → IsOfPlan w t (session_at w.plan w.here t place)
placed_at w t place within few =
    let again : session_state_place (session_at w.plan w.here t place) ≡ place = place_again w.plan w.here t place (omega (arith, within, few)) in
    record { within = subst (λ p. p < (row_at w.plan t).sessions) (sym again) within; number = ap (session_at w.plan w.here t) again }

pub has_placed : (w : Tables) (t place : ℕ) → place < (row_at w.plan t).sessions → (row_at w.plan t).sessions ≤ MOST_SESSIONS → times (plan_in w.here.lost) (home_place w.plan t place) ≤ MOST_TIMES →
    has_session (site_of w.plan w.here t) (session_at w.plan w.here t place) ≡ true
has_placed w t place within few lost =
    let k : ℕ = session_at w.plan w.here t place in
    let small : place < 16 = omega (arith, within, few) in
    let again : session_state_place k ≡ place = place_again w.plan w.here t place small in
    let turn : session_generation k ≡ times (plan_in w.here.lost) (home_place w.plan t (session_state_place k)) =
    turn_again w.plan w.here t place small ∙ ap (λ p. times (plan_in w.here.lost) (home_place w.plan t p)) (sym again) in
    let high : k ≤ 240 = omega (arith, small, lost) in
    let low : 1 ≤ k = omega arith in
    and_from (is_in 1 MOST_NUMBERS k) (is_of_plan w.plan w.here t k) (is_there_in MOST_NUMBERS k low high)
    (and_from (nat_lt (session_state_place k) (row_at w.plan t).sessions) (session_generation k == times (plan_in w.here.lost) (home_place w.plan t (session_state_place k)))
    (lt-ltb (session_state_place k) (row_at w.plan t).sessions (subst (λ p. p < (row_at w.plan t).sessions) (sym again) within))
    (eq-eqb (session_generation k) (times (plan_in w.here.lost) (home_place w.plan t (session_state_place k))) turn))

-- the session state of a session of the plan
pub session_state_of : (w : Tables) (t k : ℕ) (local : Local) → Agrees w t local → IsOfPlan w t k → SessionStateAgrees w.plan.grid t k (session_state_at w t k) (local.residents k)
session_state_of w t k local agrees at = subst (λ j. SessionStateAgrees w.plan.grid t j (session_state_at w t k) (local.residents j)) at.number (agrees.session_states (session_state_place k) at.within)

-- it has a place in tables that are shaped
pub place_there : (w : Tables) (t k : ℕ) → IsShaped w → t < length w.plan.rows → IsOfPlan w t k → session_state_place k < length (session_states_at w.session_states t)
place_there w t k shaped within at = subst (λ n. session_state_place k < n) (sym (shaped.session_states t within)) at.within

pub tenant_there : (w : Tables) (t : ℕ) → IsShaped w → t < length w.plan.rows → t < length w.session_states
tenant_there w t shaped within = rw shaped.tenants within

pub record HasSessionState (w : Tables) (t k : ℕ) : Type 0 where
  pub tenants : t < length w.session_states
  pub places : session_state_place k < length (session_states_at w.session_states t)
  pub at : IsOfPlan w t k
  pub few : (row_at w.plan t).sessions ≤ MOST_SESSIONS

pub session_state_there : (w : Tables) (t k : ℕ) → IsShaped w → t < length w.plan.rows → IsOfPlan w t k → HasSessionState w t k
session_state_there w t k shaped within at = record { tenants = tenant_there w t shaped within; places = place_there w t k shaped within at; at = at; few = shaped.sessions t within }

-- the session's state, read among the tenant's, among all
pub session_states_read : (w : Tables) (t : ℕ) (all : List (List SessionState)) (session_states empty : List SessionState) → all ≡ w.session_states → t < length w.session_states → session_states ≡ slice_index_or all t empty → session_states ≡ session_states_at w.session_states t
session_states_read w t all session_states empty all_is tenants session_states_is = session_states_is ∙ ap (λ x. slice_index_or x t empty) all_is ∙ get_or_default w.session_states t empty [] tenants

pub session_state_read : (w : Tables) (t k : ℕ) (all : List (List SessionState)) (session_states items : List SessionState) (session_state none : SessionState) (empty : List SessionState) → all ≡ w.session_states → t < length w.session_states → session_state_place k < length (session_states_at w.session_states t) →
    session_states ≡ slice_index_or all t empty → items ≡ session_states → session_state ≡ slice_index_or items (session_state_place k) none → session_state ≡ session_state_at w t k
session_state_read w t k all session_states items session_state none empty all_is tenants places session_states_is items_is session_state_is =
    let here : items ≡ session_states_at w.session_states t = items_is ∙ session_states_read w t all session_states empty all_is tenants session_states_is in
    session_state_is ∙ ap (λ x. slice_index_or x (session_state_place k) none) here ∙ get_or_default (session_states_at w.session_states t) (session_state_place k) none no_session_state places

-- the tables in which the tenant's sessions are those with another session state at its place
pub put_session_state : (w v : Tables) (t k : ℕ) (session_state : SessionState) (now session_states : List SessionState) → v ≡ w → now ≡ session_states_at v.session_states t → session_states ≡ slice_set now (session_state_place k) session_state → with_session_state w t k session_state ≡ record v { session_states = slice_set v.session_states t session_states }
put_session_state w v t k session_state now session_states is there put =
    ap (λ (x : Tables). with_session_state x t k session_state) (sym is)
    ∙ ap (λ (all : List SessionState). record v { session_states = slice_set v.session_states t (slice_set all (session_state_place k) session_state) }) (sym there)
    ∙ ap (λ all. record v { session_states = slice_set v.session_states t all }) (sym put)

-- ---- another session state

pub seated : (w : Tables) (t k : ℕ) (session_state : SessionState) (local : Local) (r : Resident) → HasSessionState w t k → Agrees w t local → SessionStateAgrees w.plan.grid t k session_state r → Agrees (with_session_state w t k session_state) t (with_resident local k r)
seated w t k session_state local r h agrees agreed =
    let session_states : List SessionState = slice_set (session_states_at w.session_states t) (session_state_place k) session_state in
    let after : Local = with_resident local k r in
    let here : session_states_at (slice_set w.session_states t session_states) t ≡ session_states = get_or-set_same w.session_states t session_states [] h.tenants in
    record {
      account = agrees.account;
      copies = agrees.copies;
      lacks = agrees.lacks;
      joined = agrees.joined;
      peer = agrees.peer;
      session_states = λ place within.
          let j : ℕ = session_at w.plan w.here t place in
          let Q : List SessionState → Type 0 = λ all. SessionStateAgrees w.plan.grid t j (session_state_in all place) (after.residents j) in
          subst Q (sym here) (elim (cases_eq place (session_state_place k)) [
            | inl same ↦ (
                let at : k ≡ j = sym (ap (session_at w.plan w.here t) same ∙ h.at.number) in
                let put : session_state_in session_states place ≡ session_state = ap (session_state_in session_states) same ∙ get_or-set_same (session_states_at w.session_states t) (session_state_place k) session_state no_session_state h.places in
                let resident : after.residents j ≡ r = rw (eq-eqb k j at) refl in
                let there : SessionStateAgrees w.plan.grid t j session_state r = subst (λ x. SessionStateAgrees w.plan.grid t x session_state r) at agreed in
                subst (λ (x : SessionState). SessionStateAgrees w.plan.grid t j x (after.residents j)) (sym put)
                (subst (λ (x : Resident). SessionStateAgrees w.plan.grid t j session_state x) (sym resident) there))
            | inr other ↦ (
                let again : session_state_place j ≡ place = place_again w.plan w.here t place (omega (arith, within, h.few)) in
                let apart : k ≢ j = λ x. other (sym again ∙ ap session_state_place (sym x)) in
                let kept : session_state_in session_states place ≡ session_state_in (session_states_at w.session_states t) place = get_or-set_other (session_states_at w.session_states t) (session_state_place k) place session_state no_session_state other in
                let resident : after.residents j ≡ local.residents j = rw (ne_eqb k j apart) refl in
                subst (λ (x : SessionState). SessionStateAgrees w.plan.grid t j x (after.residents j)) (sym kept)
                (subst (λ (x : Resident). SessionStateAgrees w.plan.grid t j (session_state_in (session_states_at w.session_states t) place) x) (sym resident) (agrees.session_states place within)))
          ]);
    }

pub seated_other : (w : Tables) (t u k : ℕ) (session_state : SessionState) (local : Local) → u ≢ t → Agrees w u local → Agrees (with_session_state w t k session_state) u local
seated_other w t u k session_state local other agrees =
    let there : session_states_at (with_session_state w t k session_state).session_states u ≡ session_states_at w.session_states u = get_or-set_other w.session_states t u _ [] other in
    record {
      account = agrees.account;
      copies = agrees.copies;
      lacks = agrees.lacks;
      joined = agrees.joined;
      peer = agrees.peer;
      session_states = λ p within. subst (λ all. SessionStateAgrees w.plan.grid u (session_at w.plan w.here u p) (session_state_in all p) (local.residents (session_at w.plan w.here u p))) (sym there) (agrees.session_states p within);
    }

-- as many sessions of the tenant leave the tables shaped
pub seated_shaped : (w : Tables) (t : ℕ) (session_states : List SessionState) → IsShaped w → length session_states ≡ length (session_states_at w.session_states t) → IsShaped (record w { session_states = slice_set w.session_states t session_states })
seated_shaped w t session_states shaped count = record {
  place = shaped.place;
  few = shaped.few;
  grid = shaped.grid;
  desk = shaped.desk;
  accounts = shaped.accounts;
  volumes = shaped.volumes;
  given = shaped.given;
  whole = shaped.whole;
  bare = shaped.bare;
  few_given = shaped.few_given;
  marks = shaped.marks;
  peers = shaped.peers;
  grid_peers = shaped.grid_peers;
  tenants = length-set w.session_states t session_states ∙ shaped.tenants;
  session_states = λ u within. elim (cases_eq u t) [
    | inr other ↦ (ap length (get_or-set_other w.session_states t u session_states [] other) ∙ shaped.session_states u within)
    | inl same ↦ (
        let P : ℕ → Type 0 = λ n. length (session_states_at (slice_set w.session_states t session_states) n) ≡ (row_at w.plan n).sessions in
        let here : t < length w.plan.rows = subst (λ n. n < length w.plan.rows) same within in
        subst P (sym same) (ap length (get_or-set_same w.session_states t session_states [] (tenant_there w t shaped here)) ∙ count ∙ shaped.session_states t here))
  ];
  sessions = shaped.sessions;
}

-- ---- what a step of a session leads to

-- the step leaves a resident for which the session state stands
pub record Settles (w : Tables) (t k : ℕ) (session_state : SessionState) (step : Site → Local → Doing) (local : Local) : Type 0 where
  pub resident : Resident
  pub agrees : SessionStateAgrees w.plan.grid t k session_state resident
  pub left : (step (site_of w.plan w.here t) local).local ≡ with_resident local k resident

pub session_state_leads : (w : Tables) (t k : ℕ) (session_state : SessionState) (step : Site → Local → Doing) → HasSessionState w t k →
    ((local : Local) → Agrees w t local → Settles w t k session_state step local) → Leads w t step (with_session_state w t k session_state)
session_state_leads w t k session_state step h settles = record {
  plan = refl;
  here = refl;
  own = λ local agrees. let s = settles local agrees in subst (Agrees (with_session_state w t k session_state) t) (sym s.left) (seated w t k session_state local s.resident h agrees s.agrees);
  others = λ u other local agrees. seated_other w t u k session_state local other agrees;
}

-- nothing is changed
pub same_leads : (w : Tables) (t : ℕ) (step : Site → Local → Doing) → ((local : Local) → Agrees w t local → (step (site_of w.plan w.here t) local).local ≡ local) → Leads w t step w
same_leads w t step same = record {
  plan = refl;
  here = refl;
  own = λ local agrees. subst (Agrees w t) (sym (same local agrees)) agrees;
  others = λ u other local agrees. agrees;
}

-- ---- what a session state stands for

-- the session's own last number
pub last_is : (grid : Grid) (t floor last : ℕ) (code : Option Code) (k : ℕ) (s : Session) (current : Option Task) → Sits grid t floor code s.floor (option_map (operation_with k s) current) → last_number floor code ≡ s.floor
last_is grid t floor last None k s None sits = sits
last_is grid t floor last None k s (Some task) sits = absurd sits
last_is grid t floor last (Some code) k s None sits = absurd sits
last_is grid t floor last (Some code) k s (Some task) sits = sits.floor

pub last_agrees : (grid : Grid) (t k : ℕ) (session_state : SessionState) (r : Resident) → SessionStateAgrees grid t k session_state r → last_in session_state ≡ r.session.floor
last_agrees grid t k session_state r agrees = last_is grid t session_state.floor 0 session_state.operation k r.session r.session.current agrees.sits

-- an operation that a session state has is not done
goes_at : (grid : Grid) (t floor last : ℕ) (code : Option Code) (o : Option Operation) → Sits grid t floor code last o → Goes code
goes_at grid t floor last None o sits = tt
goes_at grid t floor last (Some code) None sits = absurd sits
goes_at grid t floor last (Some code) (Some o) sits = sits.going

pub goes_there : (w : Tables) (t k : ℕ) → Stands w t → IsOfPlan w t k → Goes (session_state_at w t k).operation
goes_there w t k stands at =
    let session_state = session_state_of w t k stands.local stands.agrees at in
    goes_at w.plan.grid t (session_state_at w t k).floor _ (session_state_at w t k).operation _ session_state.sits
