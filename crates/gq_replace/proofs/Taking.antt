-- What new nodes are told, and the copies that they are given.
use Rattle.std.proofs.Common.{◌≡◌, ◌≢◌, ◌⊎◌, ℕ, ◌≤◌, Bool, true, false, ◌&&◌, not, List, [], ◌∷◌, ◌++◌, refl, sym, ap, ◌∙◌, subst, inl, inr, arith, eqb}
use Rattle.std.specs.Prelude.{Contains}
use Rattle.std.proofs.lemmas.Bool.{cases_eq, cases_Bool, cases_lt, eq-eqb, ne_eqb, eqb-true, and_parts, and_left, true≢false}
use Rattle.std.proofs.lemmas.List.Elements.{Contains-append_left, Contains-push_cases}
use Rattle.gq_tag.specs.declared.StoredCopy.{StoredCopy}
use Rattle.gq_tag.specs.Tag.{File, is_file, first_copy, greatest}
use Rattle.gq_phase.specs.Quorums.{are_peers}
use Rattle.gq_cluster.specs.Cluster.{Cluster, Part, Returns, copy_in, given_part, with_return}
use Rattle.gq_replace.specs.Plans.{place_of, generation, has_node}
use Rattle.gq_replace.specs.Fleet.{World, Fleet, Joined, Fetched, plan_of, IsActing, has_file, with_heard, gives, takes}
use Rattle.gq_replace.proofs.Chains.{same_node}
use Rattle.gq_replace.proofs.Acting.{Same, held_offered}
use Rattle.gq_replace.proofs.Sound.{Sound, Knows, going_same, HasIt, has_it, alone, GoesOnAt, GoesSame, it_still, sound_on}
use Rattle.gq_replace.proofs.Agreeing.{Holds, IsGiven, Agrees, Known, Moved}
use Rattle.gq_replace.proofs.Moving.{file_is}

-- ---- lists alone

-- what nodes heard, and what was written to new ones, may be other, where each of it is true
lists_known : (w : World) (u : Fleet) (c : Cluster) (heard : ℕ → ℕ → Bool) (joined : List Joined) (fetched : List Fetched) → Known w u c →
    ((n m : ℕ) → heard n m ≡ true → Knows w u m n) → ((x : Joined) → Contains joined x → Knows w u x.from x.to) → ((x : Fetched) → Contains fetched x → IsGiven w u c x) →
    Known w (record u { heard = heard; joined = joined; fetched = fetched }) c
lists_known w u c heard joined fetched known all_heard all_joined all_fetched = record {
  chain = known.chain;
  sound = record {
    begun = λ n is. let b = sound.begun n is in record { now = b.now; first = b.first; later = b.later; having = b.having; unknown = b.unknown };
    fresh = sound.fresh;
    lacking = sound.lacking;
    ready = sound.ready;
    older = sound.older;
    heard = λ n m is. let k = all_heard n m is in record { begun = k.begun; plan = k.plan; before = k.before; has = k.has };
    joined = λ x within. let k = all_joined x within in record { begun = k.begun; plan = k.plan; before = k.before; has = k.has };
    asks = λ x within ask home going. sound.asks x within ask home (record { busy = going.busy; op = going.op });
    replies = λ x within reply. let r = sound.replies x within reply in record { begun = r.begun; place = r.place; has = r.has; to = r.to; asked = λ going. r.asked (record { busy = going.busy; op = going.op }) };
  };
  agrees = record {
    written = agrees.written;
    same = agrees.same;
    idle = agrees.idle;
    holds = λ n file still it. agrees.holds n file still (record { begun = it.begun; within = it.within; has = it.has });
    lost = agrees.lost;
    given = λ x within. let g = all_fetched x within in record { peers = g.peers; ready = g.ready; offered = g.offered };
    untouched = λ place file none. agrees.untouched place file (λ n at it. none n at (record { begun = it.begun; within = it.within; has = it.has }));
    kept = agrees.kept;
    offers = agrees.offers;
  };
  bounded = known.bounded;
  reached = known.reached;
}
  where
    sound : Sound w u
    sound = known.sound

    agrees : Agrees w u c
    agrees = known.agrees

-- in the cluster nothing happens then
still_moved : (w : World) (v : Fleet) (c : Cluster) → Known w v c → Moved w c v []
still_moved w v c known = record { can = tt; sound = known.sound; agrees = known.agrees }

-- ---- a node answers a new one

pub answers_moves : (w : World) (u : Fleet) (c : Cluster) (n new : ℕ) → Known w u c → IsActing u n → has_node (plan_of w u n) new ≡ true → Moved w c (record u { joined = u.joined ++ record { from = n; to = new } ∷ [] }) []
answers_moves w u c n new known acting has =
    still_moved w (record u { joined = u.joined ++ record { from = n; to = new } ∷ [] }) c
    (lists_known w u c u.heard (u.joined ++ record { from = n; to = new } ∷ []) u.fetched known known.sound.heard joined known.agrees.given)
  where
    joined : (x : Joined) → Contains (u.joined ++ record { from = n; to = new } ∷ []) x → Knows w u x.from x.to
    joined x within = elim (Contains-push_cases u.joined (record { from = n; to = new }) x within) [
      | inl old ↦ (known.sound.joined x old)
      | inr is ↦ (let P : Joined → Type 0 = λ z. Knows w u z.from z.to in subst P is (record { begun = acting.0; plan = u.last_plan n; before = omega arith; has = has }))
    ]

-- ---- which a new node hears

pub heard_known : (w : World) (u : Fleet) (c : Cluster) (n other : ℕ) → Known w u c → Contains u.joined (record { from = other; to = n }) → Known w (with_heard n other u) c
heard_known w u c n other known within = lists_known w u c (with_heard n other u).heard u.joined u.fetched known heard known.sound.joined known.agrees.given
  where
    heard : (m o : ℕ) → (with_heard n other u).heard m o ≡ true → Knows w u o m
    heard m o is = by (cases_Bool (eqb m n && eqb o other))
      where
        by : ((eqb m n && eqb o other) ≡ true) ⊎ ((eqb m n && eqb o other) ≡ false) → Knows w u o m
        by (inl this) =
            let parts = and_parts (eqb m n) (eqb o other) this in
            let node : n ≡ m = sym (eqb-true m n parts.0) in
            let from : other ≡ o = sym (eqb-true o other parts.1) in
            let P : ℕ → Type 0 = λ z. Knows w u z m in
            let Q : ℕ → Type 0 = λ z. Knows w u other z in
            subst P from (subst Q node (known.sound.joined (record { from = other; to = n }) within))
        by (inr old) = known.sound.heard m o (rw old at is)

-- ---- a peer tells its copy

pub gives_moves : (w : World) (u : Fleet) (c : Cluster) (peer n : ℕ) (file : File) → Known w u c → IsActing u peer → has_file w u peer file ≡ true → are_peers w.setting.grid (place_of n) (place_of peer) ≡ true → u.ready n ≡ true → Moved w c (gives peer n file u) []
gives_moves w u c peer n file known acting has peers ready =
    still_moved w (gives peer n file u) c (lists_known w u c u.heard u.joined (gives peer n file u).fetched known known.sound.heard known.sound.joined given)
  where
    told : Fetched
    told = record { peer = peer; node = n; file = file; copy = copy_in (u.part peer) file }

    held : Holds (u.part peer) (c.part (place_of peer)) file
    held = known.agrees.holds peer file acting.1 (has_it w u peer file has)

    copies : copy_in (c.part (place_of peer)) file ≡ copy_in (u.part peer) file
    copies = ap (λ z. greatest (first_copy ∷ z)) held.brought

    its : IsGiven w u c told
    its = record {
      peers = peers;
      ready = ready;
      offered = λ still lacks.
          let P : StoredCopy → Type 0 = λ z. Contains (c.offered (place_of n) file (place_of peer)) z in
          subst P copies (known.agrees.offers (place_of n) file (place_of peer) (known.agrees.lost n file still ready lacks) held.has);
    }

    given : (x : Fetched) → Contains (gives peer n file u).fetched x → IsGiven w u c x
    given x within = elim (Contains-push_cases u.fetched told x within) [
      | inl old ↦ (known.agrees.given x old)
      | inr is ↦ (let P : Fetched → Type 0 = λ z. IsGiven w u c z in subst P is its)
    ]

-- ---- the node takes it

module _ (w : World) (u : Fleet) (c : Cluster) (n peer : ℕ) (file : File) (copy : StoredCopy) (known : Known w u c) (acting : IsActing u n) (lacks : (u.part n).lacks file ≡ true)
    (within : Contains u.fetched (record { peer = peer; node = n; file = file; copy = copy })) where
  abbrev given_fleet : Fleet
  given_fleet = takes n file copy u

  abbrev given_cluster : Cluster
  given_cluster = with_return (place_of n) file copy c

  its_given : IsGiven w u c (record { peer = peer; node = n; file = file; copy = copy })
  its_given = known.agrees.given (record { peer = peer; node = n; file = file; copy = copy }) within

  here : given_fleet.part n ≡ given_part file copy (u.part n)
  here = rw (eq-eqb n n refl) refl

  base_here : (m : ℕ) → place_of n ≡ m → given_cluster.part m ≡ given_part file copy (c.part m)
  base_here m same = rw (eq-eqb (place_of n) m same) refl

  base_away : (m : ℕ) → place_of n ≢ m → given_cluster.part m ≡ c.part m
  base_away m ne = rw (ne_eqb (place_of n) m ne) refl

  -- of another file, and of this one
  still_lacks : (p : Part) (f : File) → is_file file f ≡ false → (given_part file copy p).lacks f ≡ p.lacks f
  still_lacks p f other = by (p.lacks f)
    where
      by : (b : Bool) → (b && not (is_file file f)) ≡ b
      by true = rw other refl
      by false = refl

  still_brought : (p : Part) (f : File) → is_file file f ≡ false → (given_part file copy p).brought f ≡ p.brought f
  still_brought p f other = rw other refl

  has_this : (p : Part) (f : File) → is_file file f ≡ true → (given_part file copy p).lacks f ≡ false
  has_this p f this = by (p.lacks f)
    where
      by : (b : Bool) → (b && not (is_file file f)) ≡ false
      by true = rw this refl
      by false = refl

  this_copy : (p : Part) (f : File) → is_file file f ≡ true → (given_part file copy p).brought f ≡ copy ∷ []
  this_copy p f this = rw this refl

  lacked : (f : File) → (given_fleet.part n).lacks f ≡ true → ((u.part n).lacks f ≡ true) × (is_file file f ≡ false)
  lacked f is =
      let parts = and_parts ((u.part n).lacks f) (not (is_file file f)) (ap (λ z. z.lacks f) (sym here) ∙ is) in
      (parts.0, unnot (is_file file f) parts.1)
    where
      unnot : (b : Bool) → not b ≡ true → b ≡ false
      unnot true e = absurd (true≢false (sym e))
      unnot false e = refl

  -- a volume that the node does not know is not the file's
  other_volume : (f : File) → (plan_of w u n).volumes ≤ f.volume → is_file file f ≡ false
  other_volume f beyond =
      let was = known.sound.begun n acting.0 in
      let low = (known.sound.lacking n file lacks).1 in
      let more = (known.chain (u.first_plan n) (u.last_plan n) was.later).volumes in
      rw (ne_eqb file.volume f.volume (λ same. absurd (omega (arith, low, more, beyond, same)))) refl

  given_on : GoesOnAt w n u given_fleet
  given_on = record {
    away_begun = λ m ne. refl;
    away_first = λ m ne. refl;
    away_plan = λ m ne. refl;
    away_part = λ m ne. rw (ne_eqb m n ne) refl;
    begun = acting.0;
    first = λ is. refl;
    plan = λ is. omega arith;
    has = λ f is has. ap (λ z. z.lacks f) here ∙ and_left ((u.part n).lacks f) (not (is_file file f)) has;
    lacking = λ f is. known.sound.lacking n f (lacked f is).0;
    is_begun = record {
      now = (known.sound.begun n acting.0).now;
      first = (known.sound.begun n acting.0).first;
      later = (known.sound.begun n acting.0).later;
      having = λ f new inside has. its_given.ready;
      unknown = λ f beyond. ap (λ z. z.brought f) here ∙ still_brought (u.part n) f (other_volume f beyond) ∙ (known.sound.begun n acting.0).unknown f beyond;
    };
    ready = λ m. refl;
    gone = λ m. refl;
    heard = λ m other is. is;
    joined = refl;
  }

  own_session : (m k : ℕ) → Same (given_fleet.part m) (u.part m) k
  own_session m k = by (cases_eq m n)
    where
      by : (m ≡ n) ⊎ (m ≢ n) → Same (given_fleet.part m) (u.part m) k
      by (inl same) = let P : ℕ → Type 0 = λ z. Same (given_fleet.part z) (u.part z) k in subst P (sym same) (record { session = ap (λ z. z.session k) here; reserved = ap (λ z. z.reserved k) here })
      by (inr ne) = record { session = ap (λ z. z.session k) (given_on.away_part m ne); reserved = ap (λ z. z.reserved k) (given_on.away_part m ne) }

  given_goes : GoesSame w n u given_fleet
  given_goes x old home going = (going_same w u given_fleet x.letter (own_session (w.setting.home x.letter.session) x.letter.session).session going, refl)

  given_sound : Sound w given_fleet
  given_sound = sound_on w n u given_fleet known.sound given_on given_goes (λ x inside. inl inside)

  -- the node has the file then
  has_now : HasIt w given_fleet n file
  has_now = record {
    begun = acting.0;
    within = (
        let low = (known.sound.lacking n file lacks).1 in
        let more = (known.chain (u.first_plan n) (u.last_plan n) (known.sound.begun n acting.0).later).volumes in
        omega (arith, low, more));
    has = ap (λ z. z.lacks file) here ∙ has_this (u.part n) file this;
  }
    where
      this : is_file file file ≡ true
      this = rw (eq-eqb file.volume file.volume refl, eq-eqb file.place file.place refl) refl

  given_session : (m k : ℕ) → Same (given_cluster.part m) (c.part m) k
  given_session m k = by (cases_eq (place_of n) m)
    where
      by : (place_of n ≡ m) ⊎ (place_of n ≢ m) → Same (given_cluster.part m) (c.part m) k
      by (inl same) = record { session = ap (λ z. z.session k) (base_here m same); reserved = ap (λ z. z.reserved k) (base_here m same) }
      by (inr ne) = record { session = ap (λ z. z.session k) (base_away m ne); reserved = ap (λ z. z.reserved k) (base_away m ne) }

  -- the place has the same of another file, and any other place of all
  base_same : (place : ℕ) (f : File) → (place_of n ≢ place) ⊎ (is_file file f ≡ false) → ((given_cluster.part place).lacks f ≡ (c.part place).lacks f) × ((given_cluster.part place).brought f ≡ (c.part place).brought f)
  base_same place f (inl ne) = (ap (λ z. z.lacks f) (base_away place ne), ap (λ z. z.brought f) (base_away place ne))
  base_same place f (inr other) = by (cases_eq (place_of n) place)
    where
      by : (place_of n ≡ place) ⊎ (place_of n ≢ place) → ((given_cluster.part place).lacks f ≡ (c.part place).lacks f) × ((given_cluster.part place).brought f ≡ (c.part place).brought f)
      by (inl same) = (ap (λ z. z.lacks f) (base_here place same) ∙ still_lacks (c.part place) f other, ap (λ z. z.brought f) (base_here place same) ∙ still_brought (c.part place) f other)
      by (inr ne) = (ap (λ z. z.lacks f) (base_away place ne), ap (λ z. z.brought f) (base_away place ne))

  -- it is either so, or the file at the place of the node
  which : (place : ℕ) (f : File) → ((place_of n ≢ place) ⊎ (is_file file f ≡ false)) ⊎ ((place_of n ≡ place) × (is_file file f ≡ true))
  which place f = by (cases_eq (place_of n) place) (cases_Bool (is_file file f))
    where
      by : (place_of n ≡ place) ⊎ (place_of n ≢ place) → (is_file file f ≡ true) ⊎ (is_file file f ≡ false) → ((place_of n ≢ place) ⊎ (is_file file f ≡ false)) ⊎ ((place_of n ≡ place) × (is_file file f ≡ true))
      by (inr ne) either = inl (inl ne)
      by (inl same) (inr other) = inl (inr other)
      by (inl same) (inl this) = inr (same, this)

  -- two nodes of one place that are ready are one, where none is gone
  ready_alone : (m : ℕ) → place_of m ≡ place_of n → u.gone m ≡ false → u.ready m ≡ true → m ≡ n
  ready_alone m place still ready = elim (cases_lt (generation m) (generation n)) [
    | inl less ↦ (absurd (true≢false (sym (known.sound.older n m its_given.ready place less) ∙ still)))
    | inr most ↦ (elim (cases_lt (generation n) (generation m)) [
      | inl less ↦ (absurd (true≢false (sym (known.sound.older m n ready (sym place) less) ∙ acting.1)))
      | inr least ↦ (same_node m n place (let equal : generation m ≡ generation n = omega (arith, most, least) in equal))
    ])
  ]

  given_agrees : Agrees w given_fleet given_cluster
  given_agrees = record {
    written = known.agrees.written;
    same = λ k still.
        let old = known.agrees.same k still in
        let mine = own_session (w.setting.home k) k in
        let base = given_session (w.setting.home k) k in
        record { session = mine.session ∙ old.session ∙ sym base.session; reserved = mine.reserved ∙ old.reserved ∙ sym base.reserved };
    idle = λ k gone inside. ap (λ z. z.current) (given_session (w.setting.home k) k).session ∙ known.agrees.idle k gone inside;
    holds = holds;
    lost = lost;
    given = given;
    untouched = untouched;
    kept = kept;
    offers = λ server f m lacks_it has. held_offered (c.offered server f m) ((given_cluster.part m).lacks f) (copy_in (given_cluster.part m) f) has;
  }
    where
      -- at another node, all is as it was
      had : (m : ℕ) (f : File) → m ≢ n → HasIt w given_fleet m f → HasIt w u m f
      had m f ne it = record { begun = it.begun; within = it.within; has = ap (λ z. z.lacks f) (sym (given_on.away_part m ne)) ∙ it.has }

      holds : (m : ℕ) (f : File) → u.gone m ≡ false → HasIt w given_fleet m f → Holds (given_fleet.part m) (given_cluster.part (place_of m)) f
      holds m f still it = by (cases_eq m n) (which (place_of m) f)
        where
          by : (m ≡ n) ⊎ (m ≢ n) → ((place_of n ≢ place_of m) ⊎ (is_file file f ≡ false)) ⊎ ((place_of n ≡ place_of m) × (is_file file f ≡ true)) → Holds (given_fleet.part m) (given_cluster.part (place_of m)) f
          by (inr ne) (inl away) =
              let old : Holds (u.part m) (c.part (place_of m)) f = known.agrees.holds m f still (had m f ne it) in
              let base = base_same (place_of m) f away in
              record { has = base.0 ∙ old.has; brought = base.1 ∙ old.brought ∙ ap (λ z. z.brought f) (sym (given_on.away_part m ne)) }
          by (inr ne) (inr this) =
              let P : File → Type 0 = λ z. HasIt w given_fleet n z in
              absurd (ne (alone w given_fleet m n f known.chain given_sound still acting.1 (sym this.0) it (subst P (file_is file f this.1) has_now)))
          by (inl same) (inr this) =
              let mine : (given_fleet.part m).brought f ≡ copy ∷ [] = ap (λ z. (given_fleet.part z).brought f) same ∙ ap (λ z. z.brought f) here ∙ this_copy (u.part n) f this.1 in
              record {
                has = ap (λ z. z.lacks f) (base_here (place_of m) this.0) ∙ has_this (c.part (place_of m)) f this.1;
                brought = ap (λ z. z.brought f) (base_here (place_of m) this.0) ∙ this_copy (c.part (place_of m)) f this.1 ∙ sym mine;
              }
          by (inl same) (inl (inl away)) = absurd (away (ap place_of (sym same)))
          by (inl same) (inl (inr other)) =
              let mine_lacks : (given_fleet.part m).lacks f ≡ (u.part m).lacks f = ap (λ z. (given_fleet.part z).lacks f) same ∙ ap (λ z. z.lacks f) here ∙ still_lacks (u.part n) f other ∙ ap (λ z. (u.part z).lacks f) (sym same) in
              let mine : (given_fleet.part m).brought f ≡ (u.part m).brought f = ap (λ z. (given_fleet.part z).brought f) same ∙ ap (λ z. z.brought f) here ∙ still_brought (u.part n) f other ∙ ap (λ z. (u.part z).brought f) (sym same) in
              let old : Holds (u.part m) (c.part (place_of m)) f = known.agrees.holds m f still (record { begun = it.begun; within = it.within; has = sym mine_lacks ∙ it.has }) in
              let base = base_same (place_of m) f (inr other) in
              record { has = base.0 ∙ old.has; brought = base.1 ∙ old.brought ∙ sym mine }

      lost : (m : ℕ) (f : File) → u.gone m ≡ false → u.ready m ≡ true → (given_fleet.part m).lacks f ≡ true → (given_cluster.part (place_of m)).lacks f ≡ true
      lost m f still ready is = by (cases_eq m n)
        where
          by : (m ≡ n) ⊎ (m ≢ n) → (given_cluster.part (place_of m)).lacks f ≡ true
          by (inl same) =
              let was = lacked f (ap (λ z. (given_fleet.part z).lacks f) (sym same) ∙ is) in
              (base_same (place_of m) f (inr was.1)).0 ∙ known.agrees.lost m f still ready (ap (λ z. (u.part z).lacks f) same ∙ was.0)
          by (inr ne) =
              let away : place_of n ≢ place_of m = λ place. ne (ready_alone m (sym place) still ready) in
              (base_same (place_of m) f (inl away)).0 ∙ known.agrees.lost m f still ready (ap (λ z. z.lacks f) (sym (given_on.away_part m ne)) ∙ is)

      given : (x : Fetched) → Contains u.fetched x → IsGiven w given_fleet given_cluster x
      given x inside = record { peers = old.peers; ready = old.ready; offered = offered }
        where
          old : IsGiven w u c x
          old = known.agrees.given x inside

          lacked_by : (given_fleet.part x.node).lacks x.file ≡ true → (u.part x.node).lacks x.file ≡ true
          lacked_by is = elim (cases_eq x.node n) [
            | inl same ↦ (ap (λ z. (u.part z).lacks x.file) same ∙ (lacked x.file (ap (λ z. (given_fleet.part z).lacks x.file) (sym same) ∙ is)).0)
            | inr ne ↦ (ap (λ z. z.lacks x.file) (sym (given_on.away_part x.node ne)) ∙ is)
          ]

          offered : u.gone x.node ≡ false → (given_fleet.part x.node).lacks x.file ≡ true → Contains (given_cluster.offered (place_of x.node) x.file (place_of x.peer)) x.copy
          offered still is = Contains-append_left (c.offered (place_of x.node) x.file (place_of x.peer)) _ x.copy (old.offered still (lacked_by is))

      untouched : (place : ℕ) (f : File) → ((m : ℕ) → place_of m ≡ place → HasIt w given_fleet m f → ⊥) → (given_cluster.part place).brought f ≡ []
      untouched place f none = by (which place f)
        where
          by : ((place_of n ≢ place) ⊎ (is_file file f ≡ false)) ⊎ ((place_of n ≡ place) × (is_file file f ≡ true)) → (given_cluster.part place).brought f ≡ []
          by (inl away) = (base_same place f away).1 ∙ known.agrees.untouched place f (λ m at it. none m at (it_still w n u given_fleet known.chain given_on m f it))
          by (inr this) = absurd (let P : File → Type 0 = λ z. HasIt w given_fleet n z in none n this.0 (subst P (file_is file f this.1) has_now))

      kept : (place : ℕ) (f : File) → ((m : ℕ) → u.ready m ≡ true → place_of m ≡ place → (w.plans (u.first_plan m)).volumes ≤ f.volume) → (given_cluster.part place).lacks f ≡ false
      kept place f low = by (which place f)
        where
          by : ((place_of n ≢ place) ⊎ (is_file file f ≡ false)) ⊎ ((place_of n ≡ place) × (is_file file f ≡ true)) → (given_cluster.part place).lacks f ≡ false
          by (inl away) = (base_same place f away).0 ∙ known.agrees.kept place f low
          by (inr this) = ap (λ z. z.lacks f) (base_here place this.0) ∙ has_this (c.part place) f this.1

  pub takes_moves : Moved w c given_fleet (Returns (place_of n) file (place_of peer) copy ∷ [])
  takes_moves = record {
    can = ((known.agrees.lost n file acting.1 its_given.ready lacks, its_given.peers, its_given.offered acting.1 lacks), tt);
    sound = given_sound;
    agrees = given_agrees;
  }
