-- The files of the first volumes were lost with the node that stood here before, and the sessions of a new node begin above all that it wrote.
use Rattle.std.proofs.Common.{◌≡◌, ◌≢◌, ◌∙◌, ℕ, ◌+◌, ◌*◌, ◌<◌, ◌≤◌, Bool, true, false, List, [], length, refl, sym, ap, subst, inl, inr, arith}
use Rattle.std.specs.Prelude.{◌==◌, ◌&&◌, not, nat_lt, slice_set, slice_index_or, if◌then◌else◌}
use Rattle.std.proofs.lemmas.Bool.{cases_eq, cases_lt, eq-eqb, ne_eqb, lt-ltb, le-ltb, true≢false}
use Rattle.std.proofs.lemmas.List.{get_or-set_same, get_or-set_other, length-set}
use Rattle.gq_tag.specs.Tag.{File, file_of}
use Rattle.gq_grid.proofs.Same.{none_below}
use Rattle.gq_desk.specs.CheckedPlan.{CheckedPlan, row_at}
use Rattle.gq_desk.specs.Plans.{is_in}
use Rattle.gq_desk.specs.declared.limits.TheConstants.{MOST_SESSIONS, MOST_VOLUMES}
use Rattle.gq_desk.specs.declared.volumes.VolumeRow.{VolumeRow}
use Rattle.gq_desk.specs.Volumes.{Account, account_at}
use Rattle.gq_store.specs.Copies.{copy_at}
use Rattle.gq_cluster.specs.Cluster.{is_within}
use Rattle.gq_cluster.specs.Facts.{Numbered}
use Rattle.gq_replace.specs.declared.numbers.TheConstants.{NUMBERS_OF_A_LOSS}
use Rattle.gq_replace.specs.Plans.{place_of, base}
use Rattle.gq_node.specs.Lacks.{Given, lacks_in, marks_for, all_lost}
use Rattle.gq_node.specs.Local.{Local, Resident, Doing, new_local, new_resident, rested, recalled, recalls}
use Rattle.gq_node.specs.Opening.{Becomes, lost_local, Loses, reserved_at, Reserves, Bereaves}
use Rattle.gq_node.specs.Resting.{FirstPlan, begun_floor, bare_local, begun_local}
use Rattle.gq_node.specs.Shape.{IsShaped}
use Rattle.gq_node.specs.Sites.{Site, Here, site_of, is_new, has_session, session_at, session_state_place, home_of, home_place}
use Rattle.gq_node.specs.Tables.{Tables, Agrees, Leads, SessionStateAgrees, session_states_at, session_state_in, given_at, lacks_at, is_new_node}
use Rattle.gq_node.proofs.Lacking.{lost_count, lost_marks, none_given}
use Rattle.gq_node.proofs.Recalling.{recalls_fits}
use Rattle.gq_node.proofs.Placing.{place_again, has_placed, is_number}

-- the tenant's part as it was new
abbrev pub IsNew : Tables → ℕ → Type 0
IsNew w t = Agrees w t (new_local w.plan.grid (place_of w.here.node) (account_at w.desk t).volumes)

pub lost_lacks : (rows : List VolumeRow) (n : ℕ) (f : File) → lacks_in (all_lost rows n) f ≡ is_within n f
lost_lacks rows n f =
    ap (λ m. nat_lt f.volume m && not (slice_index_or (slice_index_or (all_lost rows n) f.volume []) f.place false)) (lost_count rows n)
    ∙ ap (λ b. nat_lt f.volume n && not b) (none_given rows n f.volume f.place)
    ∙ plain (nat_lt f.volume n)
  where
    plain : (b : Bool) → (b && true) ≡ b
    plain true = refl
    plain false = refl

abbrev pub with_lacks : Tables → ℕ → Given → Tables
with_lacks w t given = record w { given = slice_set w.given t given }

its_lacks : (w : Tables) (t lost : ℕ) (given : Given) (f : File) → t < length w.given → given ≡ all_lost (account_at w.desk t).volumes lost → lacks_at (with_lacks w t given) t f ≡ is_within lost f
its_lacks w t lost given f within is = ap (λ g. lacks_in g f) (get_or-set_same w.given t given [] within ∙ is) ∙ lost_lacks (account_at w.desk t).volumes lost f

other_lacks : (w : Tables) (t u : ℕ) (given : Given) (f : File) → u ≢ t → lacks_at (with_lacks w t given) u f ≡ lacks_at w u f
other_lacks w t u given f other = ap (λ g. lacks_in g f) (get_or-set_other w.given t u given [] other)

pub loses : (w : Tables) (t lost : ℕ) (given : Given) → t < length w.given → is_new_node w ≡ true → given ≡ all_lost (account_at w.desk t).volumes lost → IsNew w t → Loses w t lost (with_lacks w t given)
loses w t lost given within new is agrees = record {
  plan = refl;
  here = refl;
  desk = refl;
  own = record {
    account = agrees.account;
    copies = agrees.copies;
    lacks = λ f. its_lacks w t lost given f within is ∙ ap (λ b. b && is_within lost f) (sym new);
    joined = agrees.joined;
    peer = agrees.peer;
    session_states = agrees.session_states;
  };
  others = λ u other local before. record {
    account = before.account;
    copies = before.copies;
    lacks = λ f. other_lacks w t u given f other ∙ before.lacks f;
    joined = before.joined;
    peer = before.peer;
    session_states = before.session_states;
  };
}

pub loses_not : (w : Tables) (t lost : ℕ) → is_new_node w ≡ false → IsNew w t → Loses w t lost w
loses_not w t lost old agrees = record {
  plan = refl;
  here = refl;
  desk = refl;
  own = record {
    account = agrees.account;
    copies = agrees.copies;
    lacks = λ f. agrees.lacks f ∙ ap (λ b. b && is_within lost f) (sym old);
    joined = agrees.joined;
    peer = agrees.peer;
    session_states = agrees.session_states;
  };
  others = λ u other local before. before;
}

-- ---- where its sessions begin

-- a new session whose tags begin behind this number
abbrev pub behind : Site → ℕ → Resident
behind site floor = rested (new_resident site.grid site.place) (record { op = 0; floor = floor })

-- the part of a tenant with these volumes, whose sessions begin behind these numbers
abbrev pub with_floors : CheckedPlan → Here → (t : ℕ) → List VolumeRow → (lost : ℕ) → (ℕ → ℕ) → Local
with_floors plan here t volumes lost floors = bare_local (site_of plan here t) volumes lost (λ k. behind (site_of plan here t) (floors k))

-- that hangs on the sessions of the plan alone
abbrev SameFloors : CheckedPlan → Here → (t : ℕ) → (ℕ → ℕ) → (ℕ → ℕ) → Type 0
SameFloors plan here t a b = (p : ℕ) → p < (row_at plan t).sessions → a (session_at plan here t p) ≡ b (session_at plan here t p)

same_floors : (plan : CheckedPlan) (here : Here) (w : Tables) (t : ℕ) (volumes : List VolumeRow) (lost : ℕ) (a b : ℕ → ℕ) → w.plan ≡ plan → w.here ≡ here → SameFloors plan here t a b →
    Agrees w t (with_floors plan here t volumes lost a) → Agrees w t (with_floors plan here t volumes lost b)
same_floors plan here w t volumes lost a b plan_is here_is same agrees = record {
  account = agrees.account;
  copies = agrees.copies;
  lacks = agrees.lacks;
  joined = agrees.joined;
  peer = agrees.peer;
  session_states = λ p within.
      let k : ℕ = session_at w.plan w.here t p in
      let floors : a k ≡ b k = now p within in
      let P : ℕ → Type 0 = λ floor. SessionStateAgrees w.plan.grid t k (session_state_in (session_states_at w.session_states t) p) (behind (site_of plan here t) floor) in
      subst P floors (agrees.session_states p within);
}
  where
    now : SameFloors w.plan w.here t a b
    now = subst (λ (pl : CheckedPlan). SameFloors pl w.here t a b) (sym plan_is) (subst (λ (h : Here). SameFloors plan h t a b) (sym here_is) same)

-- a node that is no new one begins with 1
no_floor : (site : Site) (losses k : ℕ) → is_new site ≡ false → begun_floor site losses k ≡ 0
no_floor site losses k old = ap (λ z. if its then z else 0) none ∙ by its
  where
    its : Bool
    its = (site.home k == site.here) && is_in 1 site.row.sessions k

    none : base site.here losses ≡ 0
    none = ap (λ b. if b then losses * NUMBERS_OF_A_LOSS else 0) old

    by : (b : Bool) → ◌≡◌ {A = ℕ} (if b then 0 else 0) 0
    by true = refl
    by false = refl

pub bereaves_not : (w : Tables) (t : ℕ) (first : FirstPlan) → is_new_node w ≡ false → IsNew w t → Bereaves w t first w
bereaves_not w t first old agrees = record {
  plan = refl;
  here = refl;
  desk = refl;
  own = same_floors w.plan w.here w t (account_at w.desk t).volumes first.volumes (λ k. 0) (begun_floor (site_of w.plan w.here t) first.losses) refl refl (λ p within. sym (no_floor (site_of w.plan w.here t) first.losses (session_at w.plan w.here t p) old)) (loses_not w t first.volumes old agrees).own;
  others = λ u other local before. before;
}

-- the sessions below this place begin where they have to
abbrev pub floor_to : CheckedPlan → Here → (t losses n : ℕ) → ℕ → ℕ
floor_to plan here t losses n k = if nat_lt (session_state_place k) n then begun_floor (site_of plan here t) losses k else 0

abbrev pub part_to : Tables → (t lost losses n : ℕ) → Local
part_to w t lost losses n = with_floors w.plan w.here t (account_at w.desk t).volumes lost (floor_to w.plan w.here t losses n)

pub none_to : (w : Tables) (t lost losses : ℕ) → Agrees w t (lost_local w t lost) → Becomes w t (part_to w t lost losses 0) w
none_to w t lost losses agrees = record {
  plan = refl;
  here = refl;
  desk = refl;
  own = same_floors w.plan w.here w t (account_at w.desk t).volumes lost (λ k. 0) (floor_to w.plan w.here t losses 0) refl refl
      (λ p within. let k : ℕ = session_at w.plan w.here t p in sym (ap (λ b. if b then begun_floor (site_of w.plan w.here t) losses k else 0) (none_below (session_state_place k)))) agrees;
  others = λ u other local before. before;
}

-- the session at the place too
module _ (plan : CheckedPlan) (here : Here) (t p lost losses : ℕ) (volumes : List VolumeRow) (inside : p < (row_at plan t).sessions) (few : (row_at plan t).sessions ≤ MOST_SESSIONS)
    (has : has_session (site_of plan here t) (session_at plan here t p) ≡ true) (new : is_new (site_of plan here t) ≡ true) where
  abbrev site : Site
  site = site_of plan here t

  abbrev k : ℕ
  k = session_at plan here t p

  abbrev number : ℕ
  number = losses * NUMBERS_OF_A_LOSS

  again : session_state_place k ≡ p
  again = place_again plan here t p (omega (arith, inside, few))

  -- where they begin behind the step
  abbrev stepped : Bool → ℕ → ℕ
  stepped own j = if own && (k == j) then number else floor_to plan here t losses p j

  -- where this is whether the home is the node
  floor_own : (b : Bool) → (home_of plan t k == here.node) ≡ b → begun_floor site losses k ≡ (if b then number else 0)
  floor_own b is =
      (λ i. if is i && is_number site k has i then base here.node losses else 0)
      ∙ at b
    where
      all : base here.node losses ≡ number
      all = ap (λ z. if z then number else 0) new

      at : (b : Bool) → (if b && true then base here.node losses else 0) ≡ (if b then number else 0)
      at true = all
      at false = refl

  here_floor : (b : Bool) → (home_of plan t k == here.node) ≡ b → stepped b k ≡ floor_to plan here t losses (p + 1) k
  here_floor b is =
      by b
      ∙ sym (floor_own b is)
      ∙ sym (ap (λ z. if z then begun_floor site losses k else 0) below)
    where
      below : nat_lt (session_state_place k) (p + 1) ≡ true
      below = ap (λ n. nat_lt n (p + 1)) again ∙ lt-ltb p (p + 1) (omega arith)

      not_yet : nat_lt (session_state_place k) p ≡ false
      not_yet = ap (λ n. nat_lt n p) again ∙ le-ltb p p (omega arith)

      by : (b : Bool) → stepped b k ≡ (if b then number else 0)
      by true = ap (λ z. if z then number else floor_to plan here t losses p k) (eq-eqb k k refl)
      by false = ap (λ z. if z then begun_floor site losses k else 0) not_yet

  away_floor : (b : Bool) (q : ℕ) → q < (row_at plan t).sessions → q ≢ p → stepped b (session_at plan here t q) ≡ floor_to plan here t losses (p + 1) (session_at plan here t q)
  away_floor b q within apart =
      ap (λ z. if z then number else floor_to plan here t losses p j) (by b)
      ∙ ap (λ z. if z then begun_floor site losses j else 0) same
    where
      j : ℕ
      j = session_at plan here t q

      place : session_state_place j ≡ q
      place = place_again plan here t q (omega (arith, within, few))

      differs : k ≢ j
      differs e = apart (sym place ∙ ap session_state_place (sym e) ∙ again)

      by : (b : Bool) → (b && (k == j)) ≡ false
      by true = ne_eqb k j differs
      by false = refl

      same : nat_lt (session_state_place j) p ≡ nat_lt (session_state_place j) (p + 1)
      same = ap (λ n. nat_lt n p) place ∙ (elim (cases_lt q p) [
        | inl less ↦ (lt-ltb q p less ∙ sym (lt-ltb q (p + 1) (omega arith)))
        | inr most ↦ (le-ltb q p most ∙ sym (le-ltb q (p + 1) (omega (arith, above q apart most))))
      ]) ∙ sym (ap (λ n. nat_lt n (p + 1)) place)
        where
          above : (q : ℕ) → q ≢ p → p ≤ q → p < q
          above q apart most = elim (cases_lt p q) [
            | inl less ↦ less
            | inr least ↦ (absurd (apart (omega arith)))
          ]

  all_stepped : (b : Bool) → (home_of plan t k == here.node) ≡ b → SameFloors plan here t (stepped b) (floor_to plan here t losses (p + 1))
  all_stepped b is q within = elim (cases_eq q p) [
    | inl same ↦ (let P : ℕ → Type 0 = λ n. stepped b (session_at plan here t n) ≡ floor_to plan here t losses (p + 1) (session_at plan here t n) in subst P (sym same) (here_floor b is))
    | inr apart ↦ (away_floor b q within apart)
  ]

  -- the step makes this of the part
  stepped_part : (b : Bool) → (home_of plan t k == here.node) ≡ b →
      (if b then recalled (Numbered k number) (with_floors plan here t volumes lost (floor_to plan here t losses p)) else with_floors plan here t volumes lost (floor_to plan here t losses p)) ≡ with_floors plan here t volumes lost (stepped b)
  stepped_part true is = λ i. bare_local site volumes lost (λ j. moved j (k == j) i)
    where
      moved : (j : ℕ) (b : Bool) → (if b then behind site number else behind site (floor_to plan here t losses p j)) ≡ behind site (if b then number else floor_to plan here t losses p j)
      moved j true = refl
      moved j false = refl
  stepped_part false is = refl

-- what the step is at a session of another home, and at one of this
pub reserves_not : (w : Tables) (t place number k : ℕ) → k ≡ session_at w.plan w.here t place → (home_of w.plan t k == w.here.node) ≡ false → Reserves w t place number w
reserves_not w t place number k is away = record {
  plan = refl;
  here = refl;
  desk = refl;
  own = λ local agrees.
      let its : reserved_at w t place number local ≡ local =
      (λ i. if home_of w.plan t (sym is i) == w.here.node then recalled (Numbered (sym is i) number) local else local)
      ∙ ap (λ b. if b then recalled (Numbered k number) local else local) away in
      subst (Agrees w t) (sym its) agrees;
  others = λ u other local agrees. agrees;
}

pub reserves : (w new : Tables) (t place number k : ℕ) → k ≡ session_at w.plan w.here t place → (home_of w.plan t k == w.here.node) ≡ true → has_session (site_of w.plan w.here t) k ≡ true →
    Leads w t (recalls (Numbered k number)) new → new.desk ≡ w.desk → Reserves w t place number new
reserves w new t place number k is here has leads desk = record {
  plan = leads.plan;
  here = leads.here;
  desk = desk;
  own = λ local agrees.
      let made : Agrees new t (recalled (Numbered k number) local) = subst (λ (d : Doing). Agrees new t d.local) (recalls_fits (Numbered k number) (site_of w.plan w.here t) local has) (leads.own local agrees) in
      let its : reserved_at w t place number local ≡ recalled (Numbered k number) local =
      (λ i. if home_of w.plan t (sym is i) == w.here.node then recalled (Numbered (sym is i) number) local else local)
      ∙ ap (λ b. if b then recalled (Numbered k number) local else local) here in
      subst (Agrees new t) (sym its) made;
  others = leads.others;
}

-- one session after another
pub next_to : (old w new : Tables) (t p lost losses : ℕ) → IsShaped old → t < length old.plan.rows → is_new_node old ≡ true → p < (row_at old.plan t).sessions →
    Becomes old t (part_to old t lost losses p) w → Reserves w t p (losses * NUMBERS_OF_A_LOSS) new → Becomes old t (part_to old t lost losses (p + 1)) new
next_to old w new t p lost losses shaped within is_new inside before step = record {
  plan = step.plan ∙ before.plan;
  here = step.here ∙ before.here;
  desk = step.desk ∙ before.desk;
  own = same_floors old.plan old.here new t volumes lost (stepped old.plan old.here t p lost losses volumes inside few has is_new own) (floor_to old.plan old.here t losses (p + 1)) (step.plan ∙ before.plan) (step.here ∙ before.here)
      (all_stepped old.plan old.here t p lost losses volumes inside few has is_new own refl)
      (subst (Agrees new t) (stepped_part old.plan old.here t p lost losses volumes inside few has is_new own refl) at_old);
  others = λ u other local was. step.others u other local (before.others u other local was);
}
  where
    volumes : List VolumeRow
    volumes = (account_at old.desk t).volumes

    own : Bool
    own = home_of old.plan t (session_at old.plan old.here t p) == old.here.node

    local : Local
    local = part_to old t lost losses p

    few : (row_at old.plan t).sessions ≤ MOST_SESSIONS
    few = shaped.sessions t within

    has : has_session (site_of old.plan old.here t) (session_at old.plan old.here t p) ≡ true
    has = has_placed old t p inside few (shaped.few (home_place old.plan t p))

    at_old : Agrees new t (if own then recalled (Numbered (session_at old.plan old.here t p) (losses * NUMBERS_OF_A_LOSS)) local else local)
    at_old =
        let P : CheckedPlan → Here → Type 0 = λ pl h. Agrees new t
        (if home_of pl t (session_at pl h t p) == h.node then recalled (Numbered (session_at pl h t p) (losses * NUMBERS_OF_A_LOSS)) local else local) in
        subst (λ pl. P pl old.here) before.plan (subst (λ h. P w.plan h) before.here (step.own local before.own))

-- in the end all
pub all_to : (old w : Tables) (t lost losses n : ℕ) → (row_at old.plan t).sessions ≤ MOST_SESSIONS → (row_at old.plan t).sessions ≤ n → Becomes old t (part_to old t lost losses n) w → Bereaves old t (record { volumes = lost; losses = losses }) w
all_to old w t lost losses n few past b = record {
  plan = b.plan;
  here = b.here;
  desk = b.desk;
  own = same_floors old.plan old.here w t (account_at old.desk t).volumes lost (floor_to old.plan old.here t losses n) (begun_floor (site_of old.plan old.here t) losses) b.plan b.here
      (λ p within.
      let k : ℕ = session_at old.plan old.here t p in
      let place : session_state_place k ≡ p = place_again old.plan old.here t p (omega (arith, within, few)) in
      ap (λ z. if z then begun_floor (site_of old.plan old.here t) losses k else 0) (ap (λ q. nat_lt q n) place ∙ lt-ltb p n (omega (arith, within, past))))
      b.own;
  others = b.others;
}

-- the parts of all others stay in two such steps
pub bereaves : (old mid new : Tables) (t : ℕ) (first : FirstPlan) → Loses old t first.volumes mid → ((lost : ℕ) → Agrees mid t (lost_local mid t lost) → Bereaves mid t (record { volumes = lost; losses = first.losses }) new) → Bereaves old t first new
bereaves old mid new t first lost more = record {
  plan = then_is.plan ∙ lost.plan;
  here = then_is.here ∙ lost.here;
  desk = then_is.desk ∙ lost.desk;
  own = subst (λ (pl : CheckedPlan). Agrees new t (begun_local (site_of pl old.here t) (account_at old.desk t).volumes first)) lost.plan
      (subst (λ (h : Here). Agrees new t (begun_local (site_of mid.plan h t) (account_at old.desk t).volumes first)) lost.here
      (subst (λ (desk : List Account). Agrees new t (begun_local (site_of mid.plan mid.here t) (account_at desk t).volumes first)) lost.desk then_is.own));
  others = λ u other local was. then_is.others u other local (lost.others u other local was);
}
  where
    at_mid : Agrees mid t (lost_local mid t first.volumes)
    at_mid =
        let P : CheckedPlan → Here → List Account → Type 0 = λ pl h desk. Agrees mid t (bare_local (site_of pl h t) (account_at desk t).volumes first.volumes (λ k. new_resident pl.grid (place_of h.node))) in
        subst (λ pl. P pl mid.here mid.desk) (sym lost.plan) (subst (λ h. P old.plan h mid.desk) (sym lost.here) (subst (λ desk. P old.plan old.here desk) (sym lost.desk) lost.own))

    then_is : Bereaves mid t first new
    then_is = more first.volumes at_mid

pub bereaved_shaped : (w : Tables) (t lost : ℕ) (given : Given) → IsShaped w → t < length w.given → lost ≤ MOST_VOLUMES → is_new_node w ≡ true → given ≡ all_lost (account_at w.desk t).volumes lost → IsNew w t → IsShaped (with_lacks w t given)
bereaved_shaped w t lost given shaped within few new is agrees = record {
  place = shaped.place;
  few = shaped.few;
  grid = shaped.grid;
  desk = shaped.desk;
  accounts = shaped.accounts;
  volumes = shaped.volumes;
  given = length-set w.given t given ∙ shaped.given;
  whole = λ old. absurd (true≢false (sym new ∙ old));
  bare = λ u f lacks. elim (cases_eq u t) [
    | inl same ↦ (ap (λ n. copy_at w.store (file_of n f)) same ∙ agrees.copies f)
    | inr other ↦ (shaped.bare u f (sym (other_lacks w t u given f other) ∙ lacks))
  ];
  few_given = λ u. elim (cases_eq u t) [
    | inl same ↦ (subst (λ n. length (given_at (with_lacks w t given) n) ≤ MOST_VOLUMES) (sym same) (subst (λ (g : Given). length g ≤ MOST_VOLUMES) (sym (get_or-set_same w.given t given [] within ∙ is)) (subst (λ n. n ≤ MOST_VOLUMES) (sym (lost_count (account_at w.desk t).volumes lost)) few)))
    | inr other ↦ (subst (λ (g : Given). length g ≤ MOST_VOLUMES) (sym (get_or-set_other w.given t u given [] other)) (shaped.few_given u))
  ];
  marks = λ u. elim (cases_eq u t) [
    | inl same ↦ (subst (λ n. Marked (given_at (with_lacks w t given) n) n) (sym same) (subst (λ g. Marked g t) (sym (get_or-set_same w.given t given [] within ∙ is)) marked))
    | inr other ↦ (subst (λ g. Marked g u) (sym (get_or-set_other w.given t u given [] other)) (shaped.marks u))
  ];
  peers = shaped.peers;
  grid_peers = shaped.grid_peers;
  tenants = shaped.tenants;
  session_states = shaped.session_states;
  sessions = shaped.sessions;
}
  where
    Marked : Given → ℕ → Type 0
    Marked g u = (v : ℕ) → v < length g → marks_for (account_at w.desk u).volumes v ≤ length (slice_index_or g v [])

    marked : Marked (all_lost (account_at w.desk t).volumes lost) t
    marked v below = omega (arith, lost_marks (account_at w.desk t).volumes lost v (subst (λ n. v < n) (lost_count (account_at w.desk t).volumes lost) below))
