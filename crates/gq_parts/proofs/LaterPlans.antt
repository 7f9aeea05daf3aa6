-- A start with a later plan of parts that start alike with an earlier one; and a start of one that was written anew.
use Rattle.std.proofs.Common.{◌≡◌, ◌∙◌, ℕ, zero, suc, ◌<◌, ◌≤◌, Bool, true, false, List, [], ◌∷◌, take, refl, sym, ap, arith, Option, None, inl, inr}
use Rattle.std.specs.Prelude.{◌==◌, ◌&&◌, nat_lt, is_some, slice_get}
use Rattle.std.specs.Option.{option_and_then}
use Rattle.std.proofs.lemmas.Bool.{cases_Bool, and_parts, eq-eqb, eqb-true, le-ltb, ltb-false, ltb-true}
use Rattle.gq_tag.specs.Tag.{File, first_copy, greatest}
use Rattle.gq_desk.specs.CheckedPlan.{row_at}
use Rattle.gq_desk.specs.Plans.{is_in}
use Rattle.gq_desk.specs.declared.volumes.VolumeRow.{VolumeRow}
use Rattle.gq_desk.specs.Volumes.{limit_in}
use Rattle.gq_cluster.specs.Cluster.{copy_in}
use Rattle.gq_model.specs.Trace.{limit_at}
use Rattle.gq_cluster.specs.Cluster.{everyone}
use Rattle.gq_cluster.specs.Facts.{OwnFact}
use Rattle.gq_replace.specs.Plans.{times, place_of, generation}
use Rattle.gq_node.specs.declared.lost.TheConstants.{MOST_NUMBERS}
use Rattle.gq_node.specs.Local.{Local, Resident, part_in, state_of}
use Rattle.gq_node.specs.Resting.{IsAtRest, begun_local}
use Rattle.gq_node.specs.Sites.{Site, site_of, has_session, is_new, is_of_plan, home_of, home_place, plan_in, session_state_place, session_generation}
use Rattle.gq_node.proofs.Using.{recall_volumes, recall_joined, recall_idle}
use Rattle.gq_parts.specs.Alike.{is_own_session, is_file_in, AreAlike}
use Rattle.gq_parts.specs.AllNodes.{GridPlans, AreSound, first_in, here_in, volumes_in, HasNode, start_in}
use Rattle.gq_parts.proofs.Alike.{same_limits}
use Rattle.gq_parts.proofs.AlikeStarts.{HaveFile, AllThere, file_behind, file_untold, session_same, all_rest_on, rests_on_by, rests_begun, recall_peer}
use Rattle.gq_parts.proofs.Homes.{HomeIs, home_is, some_servers}

-- ---- the volumes of a plan

-- the limit of a file among these volumes; and with that plan
abbrev pub limit_by : List VolumeRow → File → Option ℕ
limit_by volumes f = option_and_then (limit_in f.place) (slice_get volumes f.volume)

abbrev pub limits : GridPlans → (t p : ℕ) → File → Option ℕ
limits g t p f = limit_by (volumes_in g p t) f

taken_before : {A : Type 0} (xs : List A) (m n v : ℕ) → v < m → m ≤ n → slice_get (take m xs) v ≡ slice_get (take n xs) v
taken_before xs zero n v below few = absurd (omega arith)
taken_before xs (suc m) zero v below few = absurd (omega arith)
taken_before [] (suc m) (suc n) v below few = refl
taken_before (x ∷ xs) (suc m) (suc n) zero below few = refl
taken_before (x ∷ xs) (suc m) (suc n) (suc v) below few = taken_before xs m n v (omega arith) (omega arith)

taken_past : {A : Type 0} (xs : List A) (m v : ℕ) → m ≤ v → slice_get (take m xs) v ≡ None
taken_past xs zero v past = none v
  where
    none : {A : Type 0} (v : ℕ) → slice_get {X = A} [] v ≡ None
    none zero = refl
    none (suc v) = refl
taken_past [] (suc m) zero past = refl
taken_past [] (suc m) (suc v) past = refl
taken_past (x ∷ xs) (suc m) zero past = absurd (omega arith)
taken_past (x ∷ xs) (suc m) (suc v) past = taken_past xs m v (omega arith)

-- a later plan has as many volumes, or more
more_volumes : (g : GridPlans) (t q p : ℕ) → AreSound g → q ≤ p → g.count q t ≤ g.count p t
more_volumes g t q p sound later = (sound.chain t q p later).volumes

limit_stays : (g : GridPlans) (t q p : ℕ) (f : File) → AreSound g → q ≤ p → f.volume < g.count q t → limits g t q f ≡ limits g t p f
limit_stays g t q p f sound later below = ap (option_and_then (limit_in f.place)) (taken_before (g.opens t) (g.count q t) (g.count p t) f.volume below (more_volumes g t q p sound later))

no_limit : (g : GridPlans) (t q : ℕ) (f : File) → g.count q t ≤ f.volume → limits g t q f ≡ None
no_limit g t q f past = ap (option_and_then (limit_in f.place)) (taken_past (g.opens t) (g.count q t) f.volume past)

-- a file of an earlier plan is one of a later
pub there_still : (g : GridPlans) (t q p : ℕ) → AreSound g → q ≤ p → (f : File) → is_some (limits g t q f) ≡ true → is_some (limits g t p f) ≡ true
there_still g t q p sound later f there = elim (cases_Bool (nat_lt f.volume (g.count q t))) [
  | inl below ↦ (ap is_some (sym (limit_stays g t q p f sound later (ltb-true f.volume (g.count q t) below))) ∙ there)
  | inr past ↦ (absurd (let none : is_some (limits g t q f) ≡ false = ap is_some (no_limit g t q f (ltb-false f.volume (g.count q t) past)) in cc))
]

-- ---- the sessions of a plan

-- a session that the node serves with the one plan is one of the other, if that has the node
own_there : (g : GridPlans) (t n p q k : ℕ) → AreSound g → HasNode g q n → is_own_session (site_of g.plan (here_in g p n) t) k ≡ true → has_session (site_of g.plan (here_in g q n) t) k ≡ true
own_there g t n p q k sound has own =
    let one = and_parts (has_session (site_of g.plan (here_in g p n) t) k) (home_of g.plan t k == n) own in
    let two = and_parts (is_in 1 MOST_NUMBERS k) (is_of_plan g.plan (here_in g p n) t k) one.0 in
    let inside : nat_lt (session_state_place k) (row_at g.plan t).sessions ≡ true =
    (and_parts (nat_lt (session_state_place k) (row_at g.plan t).sessions) (session_generation k == times (plan_in (g.lost p)) (home_place g.plan t (session_state_place k))) two.1).0 in
    let home : HomeIs g.plan t k = home_is g.plan t k sound.plan (some_servers g sound) in
    let its : home_of g.plan t k ≡ n = eqb-true (home_of g.plan t k) n one.1 in
    let turn : session_generation k ≡ times (plan_in (g.lost q)) (home_place g.plan t (session_state_place k)) =
    sym home.hop ∙ ap generation its ∙ eqb-true (generation n) (times (plan_in (g.lost q)) (place_of n)) has ∙ ap (times (plan_in (g.lost q))) (ap place_of (sym its) ∙ home.place) in
    rw (two.0, inside, eq-eqb (session_generation k) (times (plan_in (g.lost q)) (home_place g.plan t (session_state_place k))) turn) refl

-- ---- starts with a later plan

start_limit : (g : GridPlans) (t n first p : ℕ) (facts : List OwnFact) (f : File) → limit_at (state_of everyone (start_in g t n first p facts)) f.volume f.place ≡ limits g t p f
start_limit g t n first p facts f =
    let site : Site = site_of g.plan (here_in g p n) t in
    let begun : Local = begun_local site (volumes_in g p t) (first_in g first t) in
    ap (λ (vs : List VolumeRow). limit_by vs f) (recall_volumes site facts begun)

-- who starts alike with one plan does with a later one
pub later_alike : (g : GridPlans) (t n q p first other : ℕ) (facts others : List OwnFact) → AreSound g → q ≤ p → HasNode g q n → HasNode g p n → first ≤ q → other ≤ q →
    AllThere (limits g t q) facts → AllThere (limits g t q) others →
    AreAlike (site_of g.plan (here_in g q n) t) (start_in g t n first q facts) (start_in g t n other q others) →
    AreAlike (site_of g.plan (here_in g p n) t) (start_in g t n first p facts) (start_in g t n other p others)
later_alike g t n q p first other facts others sound later has also low low_too there there_too alike = record {
  volumes = recall_volumes at facts (begun first p) ∙ sym (recall_volumes at others (begun other p));
  copies = λ f. copies f (nat_lt f.volume (g.count q t)) refl;
  lacks = λ f is. lacks f is (nat_lt f.volume (g.count q t)) refl;
  joined = recall_joined at facts (begun first p) ∙ sym (recall_joined at others (begun other p));
  peer = recall_peer at facts (begun first p) ∙ sym (recall_peer at others (begun other p));
  residents = λ k own. (
      let now : has_session at k ≡ true = (and_parts (has_session at k) (home_of g.plan t k == n) own).0 in
      let then : has_session before k ≡ true = own_there g t n p q k sound has own in
      let own_then : is_own_session before k ≡ true = rw (then, (and_parts (has_session at k) (home_of g.plan t k == n) own).1) refl in
      session_same at before facts (begun first p) (begun first q) k now then refl
      ∙ alike.residents k own_then
      ∙ session_same before at others (begun other q) (begun other p) k then now refl);
  idle = λ k not. (recall_idle at facts (begun first p) (λ j. refl) k, recall_idle at others (begun other p) (λ j. refl) k);
}
  where
    at : Site
    at = site_of g.plan (here_in g p n) t

    before : Site
    before = site_of g.plan (here_in g q n) t

    begun : (from plan : ℕ) → Local
    begun from plan = begun_local (site_of g.plan (here_in g plan n) t) (volumes_in g plan t) (first_in g from t)

    -- of a volume that the earlier plan has nothing changes
    old : (from : ℕ) (fs : List OwnFact) (f : File) → f.volume < g.count q t → HaveFile f (start_in g t n from p fs) (start_in g t n from q fs)
    old from fs f below = file_behind at before fs (begun from p) (begun from q) f (sym (limit_stays g t q p f sound later below)) (record { copies = refl; lacks = refl })

    -- of any other the facts say nothing
    new : (from : ℕ) (fs : List OwnFact) (f : File) → AllThere (limits g t q) fs → g.count q t ≤ f.volume → HaveFile f (start_in g t n from p fs) (begun from p)
    new from fs f all past = file_untold (limits g t q) at fs (begun from p) f all (ap is_some (no_limit g t q f past))

    copies : (f : File) (c : Bool) → nat_lt f.volume (g.count q t) ≡ c → copy_in (part_in (start_in g t n first p facts)) f ≡ copy_in (part_in (start_in g t n other p others)) f
    copies f true is =
        let below : f.volume < g.count q t = ltb-true f.volume (g.count q t) is in
        ap (λ xs. greatest (first_copy ∷ xs)) (old first facts f below).copies ∙ alike.copies f ∙ sym (ap (λ xs. greatest (first_copy ∷ xs)) (old other others f below).copies)
    copies f false is =
        let past : g.count q t ≤ f.volume = ltb-false f.volume (g.count q t) is in
        ap (λ xs. greatest (first_copy ∷ xs)) (new first facts f there past).copies ∙ sym (ap (λ xs. greatest (first_copy ∷ xs)) (new other others f there_too past).copies)

    none : (from : ℕ) (f : File) → from ≤ q → g.count q t ≤ f.volume → (begun from p).lacks f ≡ false
    none from f low past =
        let fewer : g.count from t ≤ g.count q t = more_volumes g t from q sound low in
        let out : nat_lt f.volume (g.count from t) ≡ false = le-ltb f.volume (g.count from t) (omega (arith, past, fewer)) in
        ap (λ c. is_new at && c) out ∙ off (is_new at)
      where
        off : (c : Bool) → (c && false) ≡ false
        off true = refl
        off false = refl

    lacks : (f : File) → is_file_in (start_in g t n other p others) f ≡ true → (c : Bool) → nat_lt f.volume (g.count q t) ≡ c → (start_in g t n first p facts).lacks f ≡ (start_in g t n other p others).lacks f
    lacks f is true low' =
        let below : f.volume < g.count q t = ltb-true f.volume (g.count q t) low' in
        let then : is_file_in (start_in g t n other q others) f ≡ true = ap is_some (start_limit g t n other q others f ∙ limit_stays g t q p f sound later below ∙ sym (start_limit g t n other p others f)) ∙ is in
        (old first facts f below).lacks ∙ alike.lacks f then ∙ sym (old other others f below).lacks
    lacks f is false low' =
        let past : g.count q t ≤ f.volume = ltb-false f.volume (g.count q t) low' in
        (new first facts f there past).lacks ∙ none first f low past ∙ sym ((new other others f there_too past).lacks ∙ none other f low_too past)

-- ---- starts of parts at rest

-- Two starts of one plan, each the rest of a part, are alike where the parts are.
pub rest_alike : (g : GridPlans) (t n q first other : ℕ) (facts others : List OwnFact) (a b : Local) → IsAtRest (site_of g.plan (here_in g q n) t) (start_in g t n first q facts) a → IsAtRest (site_of g.plan (here_in g q n) t) (start_in g t n other q others) b →
    AreAlike (site_of g.plan (here_in g q n) t) a b → AreAlike (site_of g.plan (here_in g q n) t) (start_in g t n first q facts) (start_in g t n other q others)
rest_alike g t n q first other facts others a b x y alike = record {
  volumes = recall_volumes at facts (begun first) ∙ sym (recall_volumes at others (begun other));
  copies = λ f. x.copies f ∙ alike.copies f ∙ sym (y.copies f);
  lacks = λ f is. (
      let there : is_file_in b f ≡ true = ap (λ (vs : List VolumeRow). is_some (limit_by vs f)) (sym y.volumes) ∙ is in
      x.lacks f (ap is_some (same_limits at a b f alike) ∙ there) ∙ alike.lacks f there ∙ sym (y.lacks f there));
  joined = recall_joined at facts (begun first) ∙ sym (recall_joined at others (begun other));
  peer = recall_peer at facts (begun first) ∙ sym (recall_peer at others (begun other));
  residents = λ k own. (
      let has : has_session at k ≡ true = (and_parts (has_session at k) (home_of g.plan t k == n) own).0 in
      rests_on_by at ((start_in g t n first q facts).residents k) ((start_in g t n other q others).residents k) (all_rest_on at facts (begun first) k has (rests_begun at (first_in g first t).losses k)) (all_rest_on at others (begun other) k has (rests_begun at (first_in g other t).losses k))
      (x.reserved k has ∙ ap (λ (r : Resident). r.reserved) (alike.residents k own) ∙ sym (y.reserved k has)));
  idle = λ k not. (recall_idle at facts (begun first) (λ j. refl) k, recall_idle at others (begun other) (λ j. refl) k);
}
  where
    at : Site
    at = site_of g.plan (here_in g q n) t

    begun : (from : ℕ) → Local
    begun from = begun_local at (volumes_in g q t) (first_in g from t)

-- a start from nothing is alike to itself
pub begun_alike : (g : GridPlans) (t n p first : ℕ) → AreAlike (site_of g.plan (here_in g p n) t) (start_in g t n first p []) (start_in g t n first p [])
begun_alike g t n p first = record { volumes = refl; copies = λ f. refl; lacks = λ f is. refl; joined = refl; peer = refl; residents = λ k own. refl; idle = λ k not. (refl, refl) }
