-- The worked case in tables: what the two servers of the grid may have, and what parts of a node such tables have.
use Rattle.std.proofs.Common.{◌≡◌, ◌∙◌, ℕ, zero, suc, ◌<◌, Bool, true, false, [], ◌∷◌, refl, sym, ap, subst, arith, None, inl, inr, eqb}
use Rattle.std.specs.Prelude.{◌==◌, ◌&&◌, nat_lt, if◌then◌else◌}
use Rattle.std.specs.Int.{bit_at}
use Rattle.std.proofs.lemmas.Bool.{cases_eq, ne_eqb}
use Rattle.std.proofs.lemmas.Nat.Bits.{bit_at-zero, bit_at-pow_other}
use Rattle.gq_grid.specs.Grid.{no_servers, with_server}
use Rattle.gq_grid.specs.Sets.{servers}
use Rattle.gq_grid.specs.declared.ServerSet.{ServerSet}
use Rattle.gq_grid.proofs.Same.{same_servers, none_below}
use Rattle.gq_tag.specs.declared.StoredCopy.{StoredCopy}
use Rattle.gq_tag.specs.Tag.{File, is_file, file_of, first_copy, greatest}
use Rattle.gq_desk.specs.CheckedPlan.{row_at}
use Rattle.gq_desk.specs.Volumes.{account_with}
use Rattle.gq_desk.specs.declared.volumes.VolumeRow.{VolumeRow}
use Rattle.gq_store.specs.Copies.{StoreCopies, copy_at}
use Rattle.gq_laws.proofs.OperationMoments.{same_file}
use Rattle.gq_cluster.specs.Cluster.{is_within}
use Rattle.gq_replace.specs.Plans.{place_of, generation}
use Rattle.gq_node.specs.declared.session_states.SessionState.{SessionState}
use Rattle.gq_node.specs.Lacks.{Given, lacks_in}
use Rattle.gq_node.specs.Local.{Local, Resident}
use Rattle.gq_node.specs.Resting.{begun_local, begun_resident}
use Rattle.gq_node.specs.Sites.{Site, session_at, site_of, is_new}
use Rattle.gq_node.specs.Tables.{Tables, Agrees, SessionStateAgrees, session_state_in}
use Rattle.gq_parts.specs.AllNodes.{here_in, first_in, volumes_in}
use Rattle.gq_parts.specs.Resting.{IsNewNode}
use Rattle.gq_parts.specs.Worked.{grid_worked}

-- ---- tables

abbrev pub file : File
file = record { volume = 0; place = 0 }

abbrev pub volume : VolumeRow
volume = record { files = 1; blocks = 1 }

-- the site of the node with plan p; the number of its session at that place
abbrev pub site : (n p : ℕ) → Site
site n p = site_of grid_worked.plan (here_in grid_worked p n) 0

abbrev pub session : (n p place : ℕ) → ℕ
session n p place = session_at grid_worked.plan (here_in grid_worked p n) 0 place

-- what may differ in the tables of a node: the file's copy, what of the file it was given, who joined, whom it asked last, and the two sessions
pub record View : Type 0 where
  pub copy : StoredCopy
  pub given : Given
  pub joined : ServerSet
  pub peer : ℕ
  pub one : SessionState
  pub two : SessionState

abbrev pub store_of : StoredCopy → StoreCopies
store_of copy = record { blocks = 4; tenants = record { share = 4; most_blocks = 16; most_volumes = 64; volumes = record { blocks = 1; copies = copy ∷ [] } ∷ [] } ∷ [] }

abbrev pub tables_of : (n p : ℕ) → View → Tables
tables_of n p v = record {
  plan = grid_worked.plan;
  here = here_in grid_worked p n;
  desk = account_with (row_at grid_worked.plan 0) (volume ∷ []) ∷ [];
  store = store_of v.copy;
  given = v.given ∷ [];
  joined = v.joined;
  peers = v.peer ∷ [];
  session_states = (v.one ∷ v.two ∷ []) ∷ [];
}

-- ---- the parts that they have

-- the tables have this part: so it is where it agrees with them
pub record Sees (n p : ℕ) (v : View) (local : Local) : Type 0 where
  pub volumes : volume ∷ [] ≡ local.volumes
  pub copy : v.copy ≡ greatest (first_copy ∷ local.brought file)
  pub others : (f : File) → is_file file f ≡ false → first_copy ≡ greatest (first_copy ∷ local.brought f)
  pub lacks : (f : File) → lacks_in v.given f ≡ local.lacks f
  pub joined : servers v.joined ≡ local.joined
  pub peer : v.peer ≡ local.peer
  pub one : SessionStateAgrees grid_worked.plan.grid 0 (session n p 0) v.one (local.residents (session n p 0))
  pub two : SessionStateAgrees grid_worked.plan.grid 0 (session n p 1) v.two (local.residents (session n p 1))

pub not_first : (n : ℕ) → (0 == suc n) ≡ false
not_first n = ne_eqb 0 (suc n) (λ e. omega arith)

copy_here : (c : StoredCopy) (v place : ℕ) → copy_at (store_of c) (file_of 0 (record { volume = v; place = place })) ≡ (if is_file file (record { volume = v; place = place }) then c else first_copy)
copy_here c zero zero = refl
copy_here c zero (suc place) = rw (not_first place) refl
copy_here c (suc v) place = rw (not_first v) refl

pub agrees_of : (n p : ℕ) (v : View) (local : Local) → Sees n p v local → Agrees (tables_of n p v) 0 local
agrees_of n p v local sees = record {
  account = ap (account_with (row_at grid_worked.plan 0)) sees.volumes;
  copies = λ f. copy_here v.copy f.volume f.place ∙ its f (is_file file f) refl;
  lacks = sees.lacks;
  joined = sees.joined;
  peer = sees.peer;
  session_states = states;
}
  where
    its : (f : File) (b : Bool) → is_file file f ≡ b → (if is_file file f then v.copy else first_copy) ≡ greatest (first_copy ∷ local.brought f)
    its f true is = rw is (sees.copy ∙ ap (λ g. greatest (first_copy ∷ local.brought g)) (same_file file f is))
    its f false is = rw is (sees.others f is)

    states : (place : ℕ) → place < 2 → SessionStateAgrees grid_worked.plan.grid 0 (session n p place) (session_state_in (v.one ∷ v.two ∷ []) place) (local.residents (session n p place))
    states zero low = sees.one
    states (suc zero) low = sees.two
    states (suc (suc place)) low = absurd (omega arith)

pub sees_of : (n p : ℕ) (v : View) (local : Local) → Agrees (tables_of n p v) 0 local → Sees n p v local
sees_of n p v local agrees = record {
  volumes = ap (λ a. a.volumes) agrees.account;
  copy = agrees.copies file;
  others = λ f is. sym (copy_here v.copy f.volume f.place ∙ (rw is refl)) ∙ agrees.copies f;
  lacks = agrees.lacks;
  joined = agrees.joined;
  peer = agrees.peer;
  one = agrees.session_states 0 (omega arith);
  two = agrees.session_states 1 (omega arith);
}

-- ---- sessions without operations

-- a resident that has none, as the tables have it
abbrev pub idle_state : Resident → SessionState
idle_state r = record {
  op = r.session.op;
  floor = r.session.floor;
  reserved_op = r.reserved.op;
  reserved_floor = r.reserved.floor;
  operation = None;
  outcome = r.outcome;
  row = r.row;
  column = r.column;
  waited = r.waited;
  stays = r.stays;
}

-- ---- sets of servers

pub no_set_is : servers (record { bits = 0 }) ≡ no_servers
unfolding servers
no_set_is = λ i n. eqb (bit_at-zero n i) 1

-- the set of the first server alone
pub first_set_is : servers (record { bits = 1 }) ≡ with_server 0 no_servers
unfolding servers
first_set_is = same_servers _ _ (λ n. elim (cases_eq 0 n) [
  | inl same ↦ (subst (λ m. (bit_at 1 m == 1) ≡ with_server 0 no_servers m) same refl)
  | inr other ↦ (rw (ne_eqb 0 n other) (ap (λ b. eqb b 1) (bit_at-pow_other 0 n (λ e. other (sym e)))))
])

-- ---- nodes that were never started

abbrev pub lacked : (n : ℕ) → Given
lacked n = if nat_lt 0 (generation n) then [] ∷ [] else []

abbrev pub begun_view : (n first p : ℕ) → View
begun_view n first p = record {
  copy = first_copy;
  given = lacked n;
  joined = record { bits = 0 };
  peer = place_of n;
  one = idle_state (begun_resident (site n p) (first_in grid_worked first 0).losses (session n p 0));
  two = idle_state (begun_resident (site n p) (first_in grid_worked first 0).losses (session n p 1));
}

none_given : (v place : ℕ) → lacks_in ([] ∷ []) (record { volume = v; place = place }) ≡ is_within 1 (record { volume = v; place = place })
none_given zero place = refl
none_given (suc v) place = plain (nat_lt (suc v) 1)
  where
    plain : (b : Bool) → (b && true) ≡ b
    plain true = refl
    plain false = refl

lacks_all : (n p : ℕ) (f : File) → lacks_in (lacked n) f ≡ (is_new (site n p) && is_within 1 f)
lacks_all n p f = by (nat_lt 0 (generation n))
  where
    by : (b : Bool) → lacks_in (if b then [] ∷ [] else []) f ≡ (b && is_within 1 f)
    by true = none_given f.volume f.place
    by false = rw (none_below f.volume) refl

pub begun_sees : (n first p : ℕ) → Sees n p (begun_view n first p) (begun_local (site n p) (volume ∷ []) (first_in grid_worked first 0))
begun_sees n first p = record {
  volumes = refl;
  copy = refl;
  others = λ f is. refl;
  lacks = lacks_all n p;
  joined = no_set_is;
  peer = refl;
  one = record { op = refl; reserved_op = refl; reserved_floor = refl; sits = refl; outcome = refl; row = refl; column = refl; waited = refl; stays = refl };
  two = record { op = refl; reserved_op = refl; reserved_floor = refl; sits = refl; outcome = refl; row = refl; column = refl; waited = refl; stays = refl };
}

pub is_begun : (n first p : ℕ) → IsNewNode grid_worked.plan (here_in grid_worked p n) (volumes_in grid_worked p) (first_in grid_worked first) (tables_of n p (begun_view n first p))
is_begun n first p = record {
  node = record { plan_is = refl; here_is = refl };
  parts = λ t within. by t within;
}
  where
    by : (t : ℕ) → t < 1 → Agrees (tables_of n p (begun_view n first p)) t (begun_local (site_of grid_worked.plan (here_in grid_worked p n) t) (volumes_in grid_worked p t) (first_in grid_worked first t))
    by zero within = agrees_of n p (begun_view n first p) (begun_local (site n p) (volume ∷ []) (first_in grid_worked first 0)) (begun_sees n first p)
    by (suc t) within = absurd (omega arith)
