-- A node that was never started, with volumes that are opened one after another.
use Rattle.std.proofs.Common.{◌≡◌, ◌≢◌, ◌∙◌, ℕ, zero, suc, ◌+◌, ◌<◌, ◌≤◌, List, [], ◌∷◌, ◌++◌, length, take, Bool, true, false, refl, sym, ap, subst, arith, inl, inr, get_or, append_assoc, append-nil, None}
use Rattle.std.specs.Prelude.{◌==◌, map, slice_set, Result, Ok, Err, IsErr, OnOk, IfErr, MatchOption, Option, Some, IfSome}
use Rattle.std.proofs.lemmas.Bool.{cases_Bool, cases_eq, and_parts, eq-eqb, ne_eqb, eqb-true}
use Rattle.std.proofs.lemmas.List.{take_more, take_all, length-set, get_or-map, get_or-set_same, get_or-set_other}
use Rattle.std.proofs.lemmas.Option.{unwrap_or-slice_get}
use Rattle.gq_desk.specs.CheckedPlan.{CheckedPlan, nobody, row_at}
use Rattle.gq_desk.specs.Volumes.{Account, account_at, no_account, open_fault, with_volume, account_with, new_account}
use Rattle.gq_desk.specs.declared.plans.TenantRow.{TenantRow}
use Rattle.gq_desk.specs.declared.volumes.VolumeRow.{VolumeRow}
use Rattle.gq_journal.specs.Batches.{Line, batches_of, whole_lines}
use Rattle.gq_keeper.specs.Plans.{IsPlan, begins_with_plan}
use Rattle.gq_replace.specs.Plans.{place_of}
use Rattle.gq_node.specs.Local.{new_local}
use Rattle.gq_node.specs.Opening.{Bereaves, Opens}
use Rattle.gq_node.specs.Resting.{FirstPlan, begun_local}
use Rattle.gq_node.specs.Sites.{Here, site_of}
use Rattle.gq_node.specs.Tables.{Tables, Agrees}
use Rattle.gq_parts.specs.Resting.{IsNodeOf, IsNewNode, volumes_at, HasFirst}
use Rattle.gq_parts.proofs.Resting.{its_volumes}
use Rattle.gq_setup.specs.declared.openings.Opening.{Opening}
use Rattle.gq_setup.specs.Setups.{Setup, SetupReading, holdings, volume_of, accounts_of, after_opening, after_openings, opening_fault, CanOpen}
use Rattle.gq_setup.specs.Laws.{here_of}
use Rattle.gq_setup.specs.Texts.{first_read, first_of_lines, node_text, setup_of_node_text, OpensFor}
use Rattle.gq_service.specs.Kinds.{Kind}
use Rattle.gq_service.specs.declared.fault.NodeFault.{NodeFault}
use Rattle.gq_service.specs.declared.fault.NodeFault.TheVariants.{Memory, Read, Write, PlanRead, Plan, PlanText, NoServer, InUse, NoJournal, Journal, NoShelf, Shelf, ShelfRead, ShelfWrite, JournalRead, JournalWrite, Form, Damaged, Another, Strange}
use Rattle.gq_service.specs.Gone.{first_taken}
use Rattle.gq_service.specs.Serving.{IsOwnText, TellsAnother, TellsNoOther, LeavesJournal, volumes_in, first_of_read, begun_with, is_its_journal, IsOpen, IsNewFor}

-- ---- what tenants have

other_account : (accounts : List Account) (place t : ℕ) (a : Account) → place ≢ t → account_at (slice_set accounts place a) t ≡ account_at accounts t
other_account accounts place t a other =
    unwrap_or-slice_get (slice_set accounts place a) t no_account ∙ get_or-set_other accounts place t a no_account (λ e. other (sym e)) ∙ sym (unwrap_or-slice_get accounts t no_account)

its_account : (accounts : List Account) (t : ℕ) (a : Account) → t < length accounts → account_at (slice_set accounts t a) t ≡ a
its_account accounts t a within = unwrap_or-slice_get (slice_set accounts t a) t no_account ∙ get_or-set_same accounts t a no_account within

differ : (b : Bool) → b ≡ true → b ≡ false → ⊥
differ b holds fails = (cc)

accounts_after : (openings : List Opening) (accounts : List Account) (t : ℕ) (row : TenantRow) (volumes : List VolumeRow) → t < length accounts → account_at accounts t ≡ account_with row volumes →
    account_at (after_openings accounts openings) t ≡ account_with row (volumes ++ volumes_in t openings)
accounts_after [] accounts t row volumes within has = has ∙ ap (account_with row) (sym (append-nil volumes))
accounts_after (o ∷ openings) accounts t row volumes within has =
    let next : List Account = after_opening accounts o in
    let inside : t < length next = subst (λ n. t < n) (sym (length-set accounts o.tenant (with_volume (volume_of o) (account_at accounts o.tenant)))) within in
    elim (cases_Bool (o.tenant == t)) [
      | inl same ↦ (
          let is : o.tenant ≡ t = eqb-true o.tenant t same in
          let now : account_at next t ≡ account_with row (volumes ++ volume_of o ∷ []) =
          ap (λ p. account_at (slice_set accounts p (with_volume (volume_of o) (account_at accounts p))) t) is
          ∙ its_account accounts t (with_volume (volume_of o) (account_at accounts t)) within
          ∙ ap (with_volume (volume_of o)) has in
          rw same (accounts_after openings next t row (volumes ++ volume_of o ∷ []) inside now
          ∙ ap (account_with row) (append_assoc volumes (volume_of o ∷ []) (volumes_in t openings))))
      | inr other ↦ (
          let differs : o.tenant ≢ t = λ e. differ (o.tenant == t) (eq-eqb o.tenant t e) other in
          rw other (accounts_after openings next t row volumes inside (other_account accounts o.tenant t (with_volume (volume_of o) (account_at accounts o.tenant)) differs ∙ has)))
    ]

-- at first each has its share, and no volume
first_account : (plan : CheckedPlan) (t : ℕ) → t < length plan.rows → account_at (accounts_of plan) t ≡ new_account (row_at plan t)
first_account plan t within =
    unwrap_or-slice_get (accounts_of plan) t no_account
    ∙ get_or-map new_account plan.rows t nobody no_account within
    ∙ ap new_account (sym (unwrap_or-slice_get plan.rows t nobody))

-- ---- what can be opened

-- the volume behind those before it
record CanOpenAt (accounts : List Account) (opening : Opening) : Type 0 where
  within : opening.tenant < length accounts
  sound : opening_fault accounts opening ≡ None

can_at : (openings : List Opening) (accounts : List Account) (i : ℕ) (d : Opening) → i < length openings → CanOpen accounts openings → CanOpenAt (after_openings accounts (take i openings)) (get_or openings i d)
can_at [] accounts i d below can = absurd (omega arith)
can_at (o ∷ openings) accounts zero d below can = record { within = can.0; sound = can.1 }
can_at (o ∷ openings) accounts (suc i) d below can = can_at openings (after_opening accounts o) i d (omega arith) can.2

after-length : (openings : List Opening) (accounts : List Account) → length (after_openings accounts openings) ≡ length accounts
after-length [] accounts = refl
after-length (o ∷ openings) accounts = after-length openings (after_opening accounts o) ∙ length-set accounts o.tenant (with_volume (volume_of o) (account_at accounts o.tenant))

-- ---- one volume more

one_more : (t : ℕ) (openings : List Opening) (opening : Opening) → opening.tenant ≡ t → volumes_in t (openings ++ opening ∷ []) ≡ volumes_in t openings ++ volume_of opening ∷ []
one_more t [] opening its = rw (eq-eqb opening.tenant t its) refl
one_more t (o ∷ openings) opening its = elim (cases_Bool (o.tenant == t)) [
  | inl same ↦ (rw same (ap (λ vs. volume_of o ∷ vs) (one_more t openings opening its)))
  | inr other ↦ (rw other (one_more t openings opening its))
]

other_more : (t : ℕ) (openings : List Opening) (opening : Opening) → opening.tenant ≢ t → volumes_in t (openings ++ opening ∷ []) ≡ volumes_in t openings
other_more t [] opening differs = rw (ne_eqb opening.tenant t differs) refl
other_more t (o ∷ openings) opening differs = elim (cases_Bool (o.tenant == t)) [
  | inl same ↦ (rw same (ap (λ vs. volume_of o ∷ vs) (other_more t openings opening differs)))
  | inr other ↦ (rw other (other_more t openings opening differs))
]

-- the node of this number, never started, with these volumes open
abbrev pub HasOpen : CheckedPlan → Here → List Opening → Tables → Type 0
HasOpen plan here openings w = IsOpen plan here (λ t. volumes_in t openings) w

pub none_open : (plan own : CheckedPlan) (here : Here) (w : Tables) → own ≡ plan → w.plan ≡ own → w.here ≡ here → ((t : ℕ) → t < length own.rows → Agrees w t (new_local own.grid (place_of here.node) [])) → HasOpen plan here [] w
none_open plan own here w same is its parts =
    subst (λ (p : CheckedPlan). HasOpen p here [] w) same (record { node = record { plan_is = is; here_is = its }; parts = parts })

more_open : (plan : CheckedPlan) (here : Here) (openings : List Opening) (opening : Opening) (old new : Tables) → HasOpen plan here openings old → Opens old opening.tenant (volume_of opening) new → HasOpen plan here (openings ++ opening ∷ []) new
more_open plan here openings opening old new has opens = record {
  node = record { plan_is = opens.plan ∙ has.node.plan_is; here_is = opens.here ∙ has.node.here_is };
  parts = λ t within. elim (cases_eq opening.tenant t) [
    | inl same ↦ (
        let before : Agrees old opening.tenant (new_local plan.grid (place_of here.node) (volumes_in t openings)) = subst (λ u. Agrees old u (new_local plan.grid (place_of here.node) (volumes_in t openings))) (sym same) (has.parts t within) in
        let after : Agrees new opening.tenant (new_local plan.grid (place_of here.node) (volumes_in t openings ++ volume_of opening ∷ [])) = opens.own (new_local plan.grid (place_of here.node) (volumes_in t openings)) before in
        let at : Agrees new t (new_local plan.grid (place_of here.node) (volumes_in t openings ++ volume_of opening ∷ [])) = subst (λ u. Agrees new u (new_local plan.grid (place_of here.node) (volumes_in t openings ++ volume_of opening ∷ []))) same after in
        subst (λ vs. Agrees new t (new_local plan.grid (place_of here.node) vs)) (sym (one_more t openings opening same)) at)
    | inr other ↦ (
        let at : Agrees new t (new_local plan.grid (place_of here.node) (volumes_in t openings)) = opens.others t (λ e. other (sym e)) (new_local plan.grid (place_of here.node) (volumes_in t openings)) (has.parts t within) in
        subst (λ vs. Agrees new t (new_local plan.grid (place_of here.node) vs)) (sym (other_more t openings opening other)) at)
  ];
}

pub next_open : (plan : CheckedPlan) (here : Here) (openings all : List Opening) (i : ℕ) (d : Opening) (old new : Tables) → openings ≡ all → i < length openings → HasOpen plan here (take i all) old →
    Opens old (get_or openings i d).tenant (volume_of (get_or openings i d)) new → HasOpen plan here (take (i + 1) all) new
next_open plan here openings all i d old new are within has opens =
    let before : HasOpen plan here (take i openings) old = subst (λ xs. HasOpen plan here (take i xs) old) (sym are) has in
    let after : HasOpen plan here (take (i + 1) openings) new = subst (λ xs. HasOpen plan here xs new) (sym (take_more openings i d within)) (more_open plan here (take i openings) (get_or openings i d) old new before opens) in
    subst (λ xs. HasOpen plan here (take (i + 1) xs) new) are after

-- ---- the next volume can be opened

pub record NextCanOpen (w : Tables) (opening : Opening) : Type 0 where
  pub tenant : opening.tenant < length w.plan.rows
  pub sound : open_fault (account_at w.desk opening.tenant) (volume_of opening) ≡ None

rows-length : (rows : List TenantRow) → length (map new_account rows) ≡ length rows
rows-length [] = refl
rows-length (row ∷ rows) = ap suc (rows-length rows)

next_at : (plan : CheckedPlan) (here : Here) (done : List Opening) (opening : Opening) (w : Tables) → HasOpen plan here done w → CanOpenAt (after_openings (accounts_of plan) done) opening → NextCanOpen w opening
next_at plan here done opening w has can =
    let within : opening.tenant < length plan.rows = subst (λ n. opening.tenant < n) (after-length done (accounts_of plan) ∙ rows-length plan.rows) can.within in
    let rows : length (accounts_of plan) ≡ length plan.rows = rows-length plan.rows in
    let counted : account_at (after_openings (accounts_of plan) done) opening.tenant ≡ account_with (row_at plan opening.tenant) (volumes_in opening.tenant done) =
    accounts_after done (accounts_of plan) opening.tenant (row_at plan opening.tenant) [] (subst (λ n. opening.tenant < n) (sym rows) within) (first_account plan opening.tenant within) in
    let open_here : account_at w.desk opening.tenant ≡ account_with (row_at plan opening.tenant) (volumes_in opening.tenant done) =
    (has.parts opening.tenant within).account ∙ ap (λ (p : CheckedPlan). account_with (row_at p opening.tenant) (volumes_in opening.tenant done)) has.node.plan_is in
    record {
      tenant = subst (λ (p : CheckedPlan). opening.tenant < length p.rows) (sym has.node.plan_is) within;
      sound = ap (λ a. open_fault a (volume_of opening)) (open_here ∙ sym counted) ∙ can.sound;
    }

pub next_can : (plan : CheckedPlan) (here : Here) (openings all : List Opening) (i : ℕ) (d : Opening) (w : Tables) → openings ≡ all → i < length openings → HasOpen plan here (take i all) w →
    CanOpen (accounts_of plan) openings → NextCanOpen w (get_or openings i d)
next_can plan here openings all i d w are within has can =
    next_at plan here (take i openings) (get_or openings i d) w (subst (λ xs. HasOpen plan here (take i xs) w) (sym are) has) (can_at openings (accounts_of plan) i d within can)

-- ---- all are open

pub all_open : (plan : CheckedPlan) (here : Here) (openings all : List Opening) (i : ℕ) (w : Tables) → openings ≡ all → length openings ≤ i → HasOpen plan here (take i all) w → HasOpen plan here all w
all_open plan here openings all i w are past has = subst (λ xs. HasOpen plan here xs w) (take_all i all (subst (λ xs. length xs ≤ i) are past)) has

-- ---- what is lacked

-- the tenants below this place lack so many first volumes, and the others none
pub record Bereft (plan : CheckedPlan) (here : Here) (openings : List Opening) (lost : ℕ → FirstPlan) (n : ℕ) (w : Tables) : Type 0 where
  pub node : IsNodeOf plan here w
  pub done : (t : ℕ) → t < n → t < length plan.rows → Agrees w t (begun_local (site_of plan here t) (volumes_in t openings) (lost t))
  pub rest : (t : ℕ) → n ≤ t → t < length plan.rows → Agrees w t (new_local plan.grid (place_of here.node) (volumes_in t openings))

pub none_bereft : (plan : CheckedPlan) (here : Here) (openings : List Opening) (lost : ℕ → FirstPlan) (w : Tables) → HasOpen plan here openings w → Bereft plan here openings lost 0 w
none_bereft plan here openings lost w has = record { node = has.node; done = λ t below within. absurd (omega arith); rest = λ t above within. has.parts t within }

-- the next tenant is new
pub next_new : (plan : CheckedPlan) (here : Here) (openings : List Opening) (lost : ℕ → FirstPlan) (n : ℕ) (w : Tables) → Bereft plan here openings lost n w → n < length plan.rows →
    Agrees w n (new_local w.plan.grid (place_of w.here.node) (account_at w.desk n).volumes)
next_new plan here openings lost n w b within =
    let agrees : Agrees w n (new_local plan.grid (place_of here.node) (volumes_in n openings)) = b.rest n (omega arith) within in
    let P : CheckedPlan → Here → List VolumeRow → Type 0 = λ p h v. Agrees w n (new_local p.grid (place_of h.node) v) in
    subst (λ v. P w.plan w.here v) (sym (its_volumes w n (new_local plan.grid (place_of here.node) (volumes_in n openings)) agrees))
    (subst (λ p. P p w.here (volumes_in n openings)) (sym b.node.plan_is) (subst (λ h. P plan h (volumes_in n openings)) (sym b.node.here_is) agrees))

pub more_bereft : (plan : CheckedPlan) (here : Here) (openings : List Opening) (lost : ℕ → FirstPlan) (n : ℕ) (many : FirstPlan) (old new : Tables) → Bereft plan here openings lost n old → n < length plan.rows → many ≡ lost n → Bereaves old n many new →
    Bereft plan here openings lost (n + 1) new
more_bereft plan here openings lost n many old new b within is bereaves = record {
  node = record { plan_is = bereaves.plan ∙ b.node.plan_is; here_is = bereaves.here ∙ b.node.here_is };
  done = λ t below inside. elim (cases_eq t n) [
    | inl same ↦ (
        let agrees : Agrees old n (new_local plan.grid (place_of here.node) (volumes_in n openings)) = b.rest n (omega arith) within in
        let P : CheckedPlan → Here → List VolumeRow → FirstPlan → Type 0 = λ p h v m. Agrees new n (begun_local (site_of p h n) v m) in
        let own : P plan here (volumes_in n openings) (lost n) =
        subst (λ p. P p here (volumes_in n openings) (lost n)) b.node.plan_is (subst (λ h. P old.plan h (volumes_in n openings) (lost n)) b.node.here_is
        (subst (λ v. P old.plan old.here v (lost n)) (its_volumes old n (new_local plan.grid (place_of here.node) (volumes_in n openings)) agrees) (subst (λ m. P old.plan old.here (account_at old.desk n).volumes m) is bereaves.own))) in
        subst (λ u. Agrees new u (begun_local (site_of plan here u) (volumes_in u openings) (lost u))) (sym same) own)
    | inr other ↦ (bereaves.others t other (begun_local (site_of plan here t) (volumes_in t openings) (lost t)) (b.done t (below_of t below other) inside))
  ];
  rest = λ t above inside. bereaves.others t (λ e. omega arith) (new_local plan.grid (place_of here.node) (volumes_in t openings)) (b.rest t (omega arith) inside);
}
  where
    below_of : (t : ℕ) → t < n + 1 → t ≢ n → t < n
    below_of t below other = elim (cases_eq t n) [ inl same ↦ (absurd (other same)) | inr not ↦ (omega arith) ]

-- as many volumes, said in another way
pub same_lost : (plan : CheckedPlan) (here : Here) (volumes : ℕ → List VolumeRow) (lost other : ℕ → FirstPlan) (w : Tables) → ((t : ℕ) → lost t ≡ other t) → IsNewNode plan here volumes lost w → IsNewNode plan here volumes other w
same_lost plan here volumes lost other w same new = record { node = new.node; parts = λ t within. subst (λ n. Agrees w t (begun_local (site_of plan here t) (volumes t) n)) (same t) (new.parts t within) }

pub all_bereft : (plan : CheckedPlan) (here : Here) (openings : List Opening) (lost : ℕ → FirstPlan) (n : ℕ) (w : Tables) → Bereft plan here openings lost n w → length plan.rows ≤ n → IsNewNode plan here (λ t. volumes_in t openings) lost w
all_bereft plan here openings lost n w b past = record { node = b.node; parts = λ t within. b.done t (omega arith) within }

-- ---- how many volumes a setup that was read has

-- behind its tenants nobody has one
none_beyond : (accounts : List Account) (t : ℕ) → length accounts ≤ t → account_at accounts t ≡ no_account
none_beyond [] t past = refl
none_beyond (a ∷ accounts) zero past = absurd (omega arith)
none_beyond (a ∷ accounts) (suc t) past = none_beyond accounts t (omega arith)

pub no_volume_beyond : (setup : Setup) (t : ℕ) → length setup.plan.rows ≤ t → 0 ≡ length (account_at (holdings setup) t).volumes
no_volume_beyond setup t past =
    let counted : length (holdings setup) ≡ length setup.plan.rows = after-length setup.openings (accounts_of setup.plan) ∙ rows-length setup.plan.rows in
    sym (ap (λ (a : Account). length a.volumes) (none_beyond (holdings setup) t (subst (λ n. n ≤ t) (sym counted) past)))

-- of a node of the setup: those that it opens
pub own_volumes : (setup : Setup) (number : ℕ) (lost : ℕ → FirstPlan) (w : Tables) → IsNewFor setup number lost w → HasFirst (first_read (Ok setup)) w
own_volumes setup number lost w new t within =
    let inside : t < length setup.plan.rows = subst (λ (p : CheckedPlan). t < length p.rows) new.node.plan_is within in
    let rows : length (accounts_of setup.plan) ≡ length setup.plan.rows = rows-length setup.plan.rows in
    let held : account_at (holdings setup) t ≡ account_with (row_at setup.plan t) (volumes_in t setup.openings) =
    accounts_after setup.openings (accounts_of setup.plan) t (row_at setup.plan t) [] (subst (λ n. t < n) (sym rows) inside) (first_account setup.plan t inside) in
    let volumes : length (volumes_at w t) ≡ length (account_at (holdings setup) t).volumes =
    ap (λ (v : List VolumeRow). length v) (its_volumes w t (begun_local (site_of setup.plan (here_of number setup) t) (volumes_in t setup.openings) (lost t)) (new.parts t inside)) ∙ sym (ap (λ (a : Account). length a.volumes) held) in
    λ i. record { volumes = volumes i; losses = length (new.node.here_is i).lost }

-- as many by its plan's lines
pub is_of_plan : (lines : List Line) (setup : Setup) (w : Tables) → OpensFor lines setup → HasFirst (first_read (Ok setup)) w → HasFirst (first_of_lines lines) w
is_of_plan lines setup w opens has t within = has t within ∙ sym (opens t)

-- what was read, and what the text tells
pub read_is : (reading : SetupReading Setup) (read : Option Setup) → MatchOption read (IsErr reading) (λ setup. reading ≡ Ok setup) → (t : ℕ) → first_of_read read t ≡ first_read reading t
read_is (Ok setup) None is t = absurd (let e = is in cc)
read_is (Err fault) None is t = refl
read_is reading (Some setup) is t = ap (λ (r : SetupReading Setup). first_read r t) (sym is)

-- a journal of the node begins with a plan
pub begun_found : (setup : Setup) (number : ℕ) (journal : List ℕ) → is_its_journal setup number journal ≡ true → begun_with setup journal ≡ first_taken setup journal
begun_found setup number journal its = let begins : begins_with_plan (batches_of journal) ≡ true = (and_parts _ _ its).0 in rw begins refl

-- two things that hold where a call gave Ok
pub both_ok : {T E : Type 0} (r : Result T E) {P Q R : Type 0} → (P → Q → R) → OnOk r P → OnOk r Q → OnOk r R
both_ok (Ok x) f p q = f p q
both_ok (Err e) f p q = tt

pub always : {T E : Type 0} (r : Result T E) {P : Type 0} → P → OnOk r P
always (Ok x) p = p
always (Err e) p = tt

pub err_only : {T E : Type 0} (r : Result T E) (P Q : E → Type 0) → ((e : E) → P e → Q e) → IfErr r P → IfErr r Q
err_only (Ok x) P Q only told = tt
err_only (Err e) P Q only told = only e told

pub some_of : {A : Type 0} (o : Option A) (x : A) (P : A → Type 0) → o ≡ Some x → IfSome o P → P x
some_of o x P is holds = subst (λ m. IfSome m P) is holds

-- the text of a node's plan
pub own_text : (setup : Setup) (number : ℕ) (text : List ℕ) → text ≡ node_text number setup → IsPlan text → setup_of_node_text text ≡ Ok setup → OpensFor (whole_lines text) setup → IsOwnText setup number
own_text setup number text is plan back volumes = record {
  is_plan = subst IsPlan is plan;
  back = subst (λ (t : List ℕ). setup_of_node_text t ≡ Ok setup) is back;
  volumes = subst (λ (t : List ℕ). OpensFor (whole_lines t) setup) is volumes;
}

-- what is told of no other journal
pub tells_no_other : {M : Type 0} (k : Kind M) (setup : Setup) (number : ℕ) (journal : List ℕ) (fault : NodeFault) → TellsNoOther fault → TellsAnother k setup number journal fault
tells_no_other k setup number journal (Another why) told = absurd told
tells_no_other k setup number journal Strange told = absurd told
tells_no_other k setup number journal Memory told = tt
tells_no_other k setup number journal Read told = tt
tells_no_other k setup number journal Write told = tt
tells_no_other k setup number journal PlanRead told = tt
tells_no_other k setup number journal (Plan x) told = tt
tells_no_other k setup number journal PlanText told = tt
tells_no_other k setup number journal (NoServer x) told = tt
tells_no_other k setup number journal InUse told = tt
tells_no_other k setup number journal NoJournal told = tt
tells_no_other k setup number journal Journal told = tt
tells_no_other k setup number journal NoShelf told = tt
tells_no_other k setup number journal Shelf told = tt
tells_no_other k setup number journal ShelfRead told = tt
tells_no_other k setup number journal ShelfWrite told = tt
tells_no_other k setup number journal JournalRead told = tt
tells_no_other k setup number journal JournalWrite told = tt
tells_no_other k setup number journal (Form x) told = tt
tells_no_other k setup number journal (Damaged x) told = tt

-- a fault after which nothing is said of the journal
pub leaves_any : (same : Type 0) (fault : NodeFault) → LeavesJournal ⊥ fault → LeavesJournal same fault
leaves_any same (Another why) leaves = absurd leaves
leaves_any same Strange leaves = absurd leaves
leaves_any same Memory leaves = tt
leaves_any same Read leaves = tt
leaves_any same Write leaves = tt
leaves_any same PlanRead leaves = tt
leaves_any same (Plan x) leaves = tt
leaves_any same PlanText leaves = tt
leaves_any same (NoServer x) leaves = tt
leaves_any same InUse leaves = tt
leaves_any same NoJournal leaves = tt
leaves_any same Journal leaves = tt
leaves_any same NoShelf leaves = tt
leaves_any same Shelf leaves = tt
leaves_any same ShelfRead leaves = tt
leaves_any same ShelfWrite leaves = tt
leaves_any same JournalRead leaves = tt
leaves_any same JournalWrite leaves = tt
leaves_any same (Form x) leaves = absurd leaves
leaves_any same (Damaged x) leaves = absurd leaves
