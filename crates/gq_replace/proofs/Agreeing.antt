-- The cluster has what the nodes have, and a change at one node keeps it so.
use Rattle.std.proofs.Common.{◌≡◌, ◌≢◌, ◌⊎◌, ℕ, zero, suc, ◌<◌, ◌≤◌, true, false, List, [], ◌∷◌, map, refl, sym, ap, ◌∙◌, subst, inl, inr, None, arith}
use Rattle.std.specs.Prelude.{Contains, fold}
use Rattle.std.proofs.lemmas.Bool.{cases_eq, true≢false}
use Rattle.gq_tag.specs.declared.StoredCopy.{StoredCopy}
use Rattle.gq_tag.specs.Tag.{File}
use Rattle.gq_desk.specs.Plans.{is_in}
use Rattle.gq_phase.specs.Quorums.{are_peers}
use Rattle.gq_cluster.specs.Cluster.{Cluster, Part, NodeStep, new_cluster, after_step, CanFollow}
use Rattle.gq_replace.specs.Plans.{place_of, IsChain}
use Rattle.gq_replace.specs.Fleet.{World, Fleet, Fetched, new_fleet}
use Rattle.gq_replace.proofs.Acting.{Same, Offers}
use Rattle.gq_replace.proofs.Reached.{Reached, IsBounded}
use Rattle.gq_replace.proofs.Sound.{Sound, HasIt, alone, GoesOnAt, it_still, first_still}

-- ---- the relation

-- the server, as the cluster has it, has the file, and the copies that came to the node
pub record Holds (p q : Part) (file : File) : Type 0 where
  pub has : q.lacks file ≡ false
  pub brought : q.brought file ≡ p.brought file

-- what a peer told its copy of can be given to the node, while this lacks the file
pub record IsGiven (w : World) (u : Fleet) (c : Cluster) (x : Fetched) : Type 0 where
  pub peers : are_peers w.setting.grid (place_of x.node) (place_of x.peer) ≡ true
  pub ready : u.ready x.node ≡ true
  pub offered : u.gone x.node ≡ false → (u.part x.node).lacks x.file ≡ true → Contains (c.offered (place_of x.node) x.file (place_of x.peer)) x.copy

pub record Agrees (w : World) (u : Fleet) (c : Cluster) : Type 0 where
  pub written : c.written ≡ map (λ posted. posted.letter) u.posted
  -- sessions, each at its home; those of nodes that are gone have no operation
  pub same : (k : ℕ) → u.gone (w.setting.home k) ≡ false → Same (u.part (w.setting.home k)) (c.part (w.setting.home k)) k
  pub idle : (k : ℕ) → u.gone (w.setting.home k) ≡ true → is_in 1 w.setting.row.sessions k ≡ true → ((c.part (w.setting.home k)).session k).current ≡ None
  -- files, each at its place
  pub holds : (n : ℕ) (file : File) → u.gone n ≡ false → HasIt w u n file → Holds (u.part n) (c.part (place_of n)) file
  pub lost : (n : ℕ) (file : File) → u.gone n ≡ false → u.ready n ≡ true → (u.part n).lacks file ≡ true → (c.part (place_of n)).lacks file ≡ true
  pub given : (x : Fetched) → Contains u.fetched x → IsGiven w u c x
  -- a file that no node of the place has, and one that was lost by none
  pub untouched : (place : ℕ) (file : File) → ((n : ℕ) → place_of n ≡ place → HasIt w u n file → ⊥) → (c.part place).brought file ≡ []
  pub kept : (place : ℕ) (file : File) → ((n : ℕ) → u.ready n ≡ true → place_of n ≡ place → (w.plans (u.first_plan n)).volumes ≤ file.volume) → (c.part place).lacks file ≡ false
  pub offers : Offers c

-- all that is known before a step
pub record Known (w : World) (u : Fleet) (c : Cluster) : Type 0 where
  pub chain : IsChain w.plans
  pub sound : Sound w u
  pub agrees : Agrees w u c
  pub bounded : IsBounded w.setting c
  pub reached : Reached w.setting c

-- the cluster's steps may follow, and all is so behind them
pub record Moved (w : World) (c : Cluster) (v : Fleet) (steps : List NodeStep) : Type 0 where
  pub can : CanFollow w.setting c steps
  pub sound : Sound w v
  pub agrees : Agrees w v (fold (after_step w.setting) c steps)

-- ---- a change at one node, by which no disk is lost or given

pub record FollowsAt (w : World) (n : ℕ) (u v : Fleet) (c d : Cluster) : Type 0 where
  pub still : u.gone n ≡ false
  pub fetched : v.fetched ≡ u.fetched
  pub written : d.written ≡ map (λ posted. posted.letter) v.posted
  pub others : (k : ℕ) → w.setting.home k ≢ n → Same (d.part (w.setting.home k)) (c.part (w.setting.home k)) k
  pub own : (k : ℕ) → w.setting.home k ≡ n → Same (v.part n) (d.part n) k
  pub lacks : (place : ℕ) (file : File) → (d.part place).lacks file ≡ (c.part place).lacks file
  pub brought : (place : ℕ) (file : File) → ((d.part place).brought file ≡ (c.part place).brought file) ⊎ ((place_of n ≡ place) × HasIt w u n file)
  pub holds : (file : File) → HasIt w v n file → Holds (v.part n) (d.part (place_of n)) file
  pub lost : (file : File) → v.ready n ≡ true → (v.part n).lacks file ≡ true → (u.part n).lacks file ≡ true
  pub offered : (server : ℕ) (file : File) (peer : ℕ) (copy : StoredCopy) → Contains (c.offered server file peer) copy → Contains (d.offered server file peer) copy
  pub offers : Offers d

pub agrees_on : (w : World) (n : ℕ) (u v : Fleet) (c d : Cluster) → IsChain w.plans → Sound w u → Agrees w u c → GoesOnAt w n u v → FollowsAt w n u v c d → Agrees w v d
agrees_on w n u v c d chain sound agrees on follows = record {
  written = follows.written;
  same = same;
  idle = idle;
  holds = holds;
  lost = λ m file still ready lacks. follows.lacks (place_of m) file ∙ agrees.lost m file (sym (on.gone m) ∙ still) (sym (on.ready m) ∙ ready) (lacked m file ready lacks);
  given = given;
  untouched = untouched;
  kept = kept;
  offers = follows.offers;
}
  where
    lacked : (m : ℕ) (file : File) → v.ready m ≡ true → (v.part m).lacks file ≡ true → (u.part m).lacks file ≡ true
    lacked m file ready lacks = elim (cases_eq m n) [
      | inl here ↦ (ap (λ z. (u.part z).lacks file) here ∙ follows.lost file (ap v.ready (sym here) ∙ ready) (ap (λ z. (v.part z).lacks file) (sym here) ∙ lacks))
      | inr ne ↦ (ap (λ z. z.lacks file) (sym (on.away_part m ne)) ∙ lacks)
    ]

    same : (k : ℕ) → v.gone (w.setting.home k) ≡ false → Same (v.part (w.setting.home k)) (d.part (w.setting.home k)) k
    same k still = elim (cases_eq (w.setting.home k) n) [
      | inl here ↦ (let P : ℕ → Type 0 = λ z. Same (v.part z) (d.part z) k in subst P (sym here) (follows.own k here))
      | inr ne ↦ (
          let old : Same (u.part (w.setting.home k)) (c.part (w.setting.home k)) k = agrees.same k (sym (on.gone (w.setting.home k)) ∙ still) in
          let part : v.part (w.setting.home k) ≡ u.part (w.setting.home k) = on.away_part (w.setting.home k) ne in
          let base = follows.others k ne in
          record { session = ap (λ z. z.session k) part ∙ old.session ∙ sym base.session; reserved = ap (λ z. z.reserved k) part ∙ old.reserved ∙ sym base.reserved })
    ]

    idle : (k : ℕ) → v.gone (w.setting.home k) ≡ true → is_in 1 w.setting.row.sessions k ≡ true → ((d.part (w.setting.home k)).session k).current ≡ None
    idle k gone inside = elim (cases_eq (w.setting.home k) n) [
      | inl here ↦ (absurd (true≢false (sym gone ∙ on.gone (w.setting.home k) ∙ ap u.gone here ∙ follows.still)))
      | inr ne ↦ (ap (λ z. z.current) (follows.others k ne).session ∙ agrees.idle k (sym (on.gone (w.setting.home k)) ∙ gone) inside)
    ]

    holds : (m : ℕ) (file : File) → v.gone m ≡ false → HasIt w v m file → Holds (v.part m) (d.part (place_of m)) file
    holds m file still it = elim (cases_eq m n) [
      | inl here ↦ (
          let P : ℕ → Type 0 = λ z. Holds (v.part z) (d.part (place_of z)) file in
          let Q : ℕ → Type 0 = λ z. HasIt w v z file in
          subst P (sym here) (follows.holds file (subst Q here it)))
      | inr ne ↦ (away ne (follows.brought (place_of m) file))
    ]
      where
        still_then : u.gone m ≡ false
        still_then = sym (on.gone m) ∙ still

        had : m ≢ n → HasIt w u m file
        had ne = record {
          begun = sym (on.away_begun m ne) ∙ it.begun;
          within = (let P : ℕ → Type 0 = λ z. file.volume < (w.plans z).volumes in subst P (on.away_plan m ne) it.within);
          has = ap (λ z. z.lacks file) (sym (on.away_part m ne)) ∙ it.has;
        }

        away : m ≢ n → ((d.part (place_of m)).brought file ≡ (c.part (place_of m)).brought file) ⊎ ((place_of n ≡ place_of m) × HasIt w u n file) → Holds (v.part m) (d.part (place_of m)) file
        away ne (inr other) = absurd (ne (alone w u m n file chain sound still_then follows.still (sym other.0) (had ne) other.1))
        away ne (inl unchanged) =
            let old : Holds (u.part m) (c.part (place_of m)) file = agrees.holds m file still_then (had ne) in
            record { has = follows.lacks (place_of m) file ∙ old.has; brought = unchanged ∙ old.brought ∙ ap (λ z. z.brought file) (sym (on.away_part m ne)) }

    given : (x : Fetched) → Contains v.fetched x → IsGiven w v d x
    given x within =
        let P : List Fetched → Type 0 = λ z. Contains z x in
        let old : IsGiven w u c x = agrees.given x (subst P follows.fetched within) in
        record {
          peers = old.peers;
          ready = on.ready x.node ∙ old.ready;
          offered = λ still lacks. follows.offered (place_of x.node) x.file (place_of x.peer) x.copy (old.offered (sym (on.gone x.node) ∙ still) (lacked x.node x.file (on.ready x.node ∙ old.ready) lacks));
        }

    untouched : (place : ℕ) (file : File) → ((m : ℕ) → place_of m ≡ place → HasIt w v m file → ⊥) → (d.part place).brought file ≡ []
    untouched place file none = elim (follows.brought place file) [
      | inl unchanged ↦ (unchanged ∙ agrees.untouched place file (λ m at it. none m at (it_still w n u v chain on m file it)))
      | inr other ↦ (absurd (none n other.0 (it_still w n u v chain on n file other.1)))
    ]

    kept : (place : ℕ) (file : File) → ((m : ℕ) → v.ready m ≡ true → place_of m ≡ place → (w.plans (v.first_plan m)).volumes ≤ file.volume) → (d.part place).lacks file ≡ false
    kept place file low = follows.lacks place file ∙ agrees.kept place file (λ m ready at.
        let P : ℕ → Type 0 = λ z. (w.plans z).volumes ≤ file.volume in
        subst P (first_still w n u v on m (sound.ready m ready)) (low m (on.ready m ∙ ready) at))

-- ---- no node was started yet

pub new_agrees : (w : World) → Agrees w new_fleet new_cluster
new_agrees w = record {
  written = refl;
  same = λ k still. record { session = refl; reserved = refl };
  idle = λ k gone inside. refl;
  holds = λ n file still it. absurd (true≢false (sym it.begun));
  lost = λ n file still ready lacks. absurd (true≢false (sym ready));
  given = λ x within. absurd (omega (arith, within.1));
  untouched = λ place file none. refl;
  kept = λ place file low. refl;
  offers = λ server file peer lacks has. absurd (true≢false (sym lacks));
}

-- ---- lists

-- what a list of images has is the image of one
pub from_map : {A B : Type 0} (f : A → B) (xs : List A) (y : B) → Contains (map f xs) y → (x : A) × Contains xs x × (f x ≡ y)
from_map f [] y within = absurd (omega (arith, within.1))
from_map f (x ∷ xs) y (zero, low, is) = (x, (0, omega arith, refl), is)
from_map f (x ∷ xs) y (suc i, low, is) = let later = from_map f xs y (i, omega arith, is) in (later.0, (suc later.1.0, omega (arith, later.1.1), later.1.2), later.2)

pub to_map : {A B : Type 0} (f : A → B) (xs : List A) (x : A) → Contains xs x → Contains (map f xs) (f x)
to_map f [] x within = absurd (omega (arith, within.1))
to_map f (y ∷ xs) x (zero, low, is) = (0, omega arith, ap f is)
to_map f (y ∷ xs) x (suc i, low, is) = let later = to_map f xs x (i, omega arith, is) in (suc later.0, omega (arith, later.1), later.2)
