-- What is known of all nodes, and that what a node does keeps it.
use Rattle.std.proofs.Common.{◌≡◌, ◌≢◌, ◌⊎◌, ℕ, ◌<◌, ◌≤◌, Bool, true, false, ◌&&◌, not, List, [], refl, sym, ap, ◌∙◌, subst, inl, inr, is_some, arith}
use Rattle.std.specs.Prelude.{Contains, nat_lt}
use Rattle.std.proofs.lemmas.Bool.{cases_eq, cases_Bool, cases_lt, and_parts, ltb-true, lt-ltb, true≢false}
use Rattle.gq_tag.specs.Tag.{File, OwnMessage, to_server}
use Rattle.gq_model.specs.Trace.{Session}
use Rattle.gq_cluster.specs.Cluster.{new_part}
use Rattle.gq_replace.specs.Plans.{place_of, generation, node_at, has_node, IsChain}
use Rattle.gq_replace.specs.Fleet.{World, Fleet, Posted, Joined, new_fleet, plan_of, has_file, posts}
use Rattle.gq_replace.proofs.Chains.{newer_later, same_node}

-- ---- what is known

-- session k, as its home has it
abbrev pub own : World → Fleet → ℕ → Session
own w u k = (u.part (w.setting.home k)).session k

-- the node has had a plan that has the new one
pub record Knows (w : World) (u : Fleet) (node new : ℕ) : Type 0 where
  pub begun : u.begun node ≡ true
  pub plan : ℕ
  pub before : plan ≤ u.last_plan node
  pub has : has_node (w.plans plan) new ≡ true

-- the letter is of an operation that goes on
pub record IsGoing (w : World) (u : Fleet) (letter : OwnMessage) : Type 0 where
  pub busy : is_some (own w u letter.session).current ≡ true
  pub op : (own w u letter.session).op ≡ letter.op

-- where the session is the same, so it is
pub going_same : (w : World) (u v : Fleet) (letter : OwnMessage) → own w v letter.session ≡ own w u letter.session → IsGoing w v letter → IsGoing w u letter
going_same w u v letter same going = record { busy = ap (λ z. is_some z.current) (sym same) ∙ going.busy; op = ap (λ z. z.op) (sym same) ∙ going.op }

-- a letter from its session's home to a server goes to the node that the home's plan has there, while its operation goes on
abbrev pub IsAsk : World → Fleet → Posted → Type 0
IsAsk w u x = w.setting.home x.letter.session ≡ x.from → IsGoing w u x.letter → x.to ≡ node_at (plan_of w u x.from) x.letter.server

-- a letter of a server is from a node at its place that has the file, and from the one that the home's plan has there, while its operation
-- goes on
pub record IsReply (w : World) (u : Fleet) (x : Posted) : Type 0 where
  pub begun : u.begun x.from ≡ true
  pub place : place_of x.from ≡ x.letter.server
  pub has : (u.part x.from).lacks x.letter.file ≡ false
  pub to : x.to ≡ w.setting.home x.letter.session
  pub asked : IsGoing w u x.letter → x.from ≡ node_at (plan_of w u x.to) x.letter.server

-- what is known of a node that was started
pub record IsBegun (w : World) (u : Fleet) (n : ℕ) : Type 0 where
  pub now : has_node (plan_of w u n) n ≡ true
  pub first : has_node (w.plans (u.first_plan n)) n ≡ true
  pub later : u.first_plan n ≤ u.last_plan n
  -- it lacks files of its first plan alone, and has one of them where it was ready for it
  pub having : (file : File) → 0 < generation n → file.volume < (w.plans (u.first_plan n)).volumes → (u.part n).lacks file ≡ false → u.ready n ≡ true
  pub unknown : (file : File) → (plan_of w u n).volumes ≤ file.volume → (u.part n).brought file ≡ []

pub record Sound (w : World) (u : Fleet) : Type 0 where
  pub begun : (n : ℕ) → u.begun n ≡ true → IsBegun w u n
  pub fresh : (n : ℕ) → u.begun n ≡ false → u.part n ≡ new_part
  pub lacking : (n : ℕ) (file : File) → (u.part n).lacks file ≡ true → (0 < generation n) × (file.volume < (w.plans (u.first_plan n)).volumes)
  pub ready : (n : ℕ) → u.ready n ≡ true → u.begun n ≡ true
  pub older : (n m : ℕ) → u.ready n ≡ true → place_of m ≡ place_of n → generation m < generation n → u.gone m ≡ true
  pub heard : (n m : ℕ) → u.heard n m ≡ true → Knows w u m n
  pub joined : (x : Joined) → Contains u.joined x → Knows w u x.from x.to
  pub asks : (x : Posted) → Contains u.posted x → to_server x.letter.body ≡ true → IsAsk w u x
  pub replies : (x : Posted) → Contains u.posted x → to_server x.letter.body ≡ false → IsReply w u x

-- ---- nodes of one place

-- a node that is not gone has no newer one that is ready
pub none_newer : (w : World) (u : Fleet) (old new : ℕ) → Sound w u → u.gone old ≡ false → place_of old ≡ place_of new → generation old < generation new → u.ready new ≡ false
none_newer w u old new sound still place less = elim (cases_Bool (u.ready new)) [
  | inl ready ↦ (absurd (true≢false (sym (sound.older new old ready place less) ∙ still)))
  | inr not_yet ↦ not_yet
]

-- and a newer one that was started does not have the files of its plans
pub newer_lacks : (w : World) (u : Fleet) (old new plan : ℕ) (file : File) → IsChain w.plans → Sound w u → u.gone old ≡ false → has_node (w.plans plan) old ≡ true → file.volume < (w.plans plan).volumes →
    u.begun new ≡ true → place_of old ≡ place_of new → generation old < generation new → (u.part new).lacks file ≡ true
newer_lacks w u old new plan file chain sound still has within begun place less = elim (cases_Bool ((u.part new).lacks file)) [
  | inl lacks ↦ lacks
  | inr has_it ↦ (absurd (
      let b : IsBegun w u new = sound.begun new begun in
      let order : plan ≤ u.first_plan new = newer_later w.plans chain plan (u.first_plan new) old new place has b.first less in
      let more = (chain plan (u.first_plan new) order).volumes in
      let ready : u.ready new ≡ true = b.having file (omega (arith, less)) (omega (arith, more, within)) has_it in
      true≢false (sym ready ∙ none_newer w u old new sound still place less)))
]

-- what a node has of a file
pub record HasIt (w : World) (u : Fleet) (n : ℕ) (file : File) : Type 0 where
  pub begun : u.begun n ≡ true
  pub within : file.volume < (plan_of w u n).volumes
  pub has : (u.part n).lacks file ≡ false

pub has_it : (w : World) (u : Fleet) (n : ℕ) (file : File) → has_file w u n file ≡ true → HasIt w u n file
has_it w u n file has =
    let outer = and_parts (u.begun n && nat_lt file.volume (plan_of w u n).volumes) (not ((u.part n).lacks file)) has in
    let inner = and_parts (u.begun n) (nat_lt file.volume (plan_of w u n).volumes) outer.0 in
    record { begun = inner.0; within = ltb-true file.volume (plan_of w u n).volumes inner.1; has = unlack ((u.part n).lacks file) outer.1 }
  where
    unlack : (b : Bool) → not b ≡ true → b ≡ false
    unlack true e = absurd (true≢false (sym e))
    unlack false e = refl

pub from_it : (w : World) (u : Fleet) (n : ℕ) (file : File) → HasIt w u n file → has_file w u n file ≡ true
from_it w u n file it = rw (it.begun, lt-ltb file.volume (plan_of w u n).volumes it.within, it.has) refl

-- of the nodes of one place that are not gone, one alone has the file
pub alone : (w : World) (u : Fleet) (n m : ℕ) (file : File) → IsChain w.plans → Sound w u → u.gone n ≡ false → u.gone m ≡ false → place_of n ≡ place_of m → HasIt w u n file → HasIt w u m file → n ≡ m
alone w u n m file chain sound still also place has_n has_m = elim (cases_lt (generation n) (generation m)) [
  | inl less ↦ (absurd (true≢false (sym (newer_lacks w u n m (u.last_plan n) file chain sound still (sound.begun n has_n.begun).now has_n.within has_m.begun place less) ∙ has_m.has)))
  | inr most ↦ (elim (cases_lt (generation m) (generation n)) [
    | inl less ↦ (absurd (true≢false (sym (newer_lacks w u m n (u.last_plan m) file chain sound also (sound.begun m has_m.begun).now has_m.within has_n.begun (sym place) less) ∙ has_n.has)))
    | inr least ↦ (same_node n m place (let equal : generation n ≡ generation m = omega (arith, most, least) in equal))
  ])
]

-- ---- a change at one node

-- the second fleet is the first one, but that node n goes on
pub record GoesOnAt (w : World) (n : ℕ) (u v : Fleet) : Type 0 where
  pub away_begun : (m : ℕ) → m ≢ n → v.begun m ≡ u.begun m
  pub away_first : (m : ℕ) → m ≢ n → v.first_plan m ≡ u.first_plan m
  pub away_plan : (m : ℕ) → m ≢ n → v.last_plan m ≡ u.last_plan m
  pub away_part : (m : ℕ) → m ≢ n → v.part m ≡ u.part m
  pub begun : v.begun n ≡ true
  pub first : u.begun n ≡ true → v.first_plan n ≡ u.first_plan n
  pub plan : u.begun n ≡ true → u.last_plan n ≤ v.last_plan n
  pub has : (file : File) → u.begun n ≡ true → (u.part n).lacks file ≡ false → (v.part n).lacks file ≡ false
  pub lacking : (file : File) → (v.part n).lacks file ≡ true → (0 < generation n) × (file.volume < (w.plans (v.first_plan n)).volumes)
  pub is_begun : IsBegun w v n
  pub ready : (m : ℕ) → v.ready m ≡ u.ready m
  pub gone : (m : ℕ) → v.gone m ≡ u.gone m
  pub heard : (m other : ℕ) → v.heard m other ≡ true → u.heard m other ≡ true
  pub joined : v.joined ≡ u.joined

-- an operation that goes on at the node did so before, with the same plan, if it is of a letter that was posted
abbrev pub GoesSame : World → ℕ → Fleet → Fleet → Type 0
GoesSame w n u v = (x : Posted) → Contains u.posted x → w.setting.home x.letter.session ≡ n → IsGoing w v x.letter → IsGoing w u x.letter × (v.last_plan n ≡ u.last_plan n)

-- what was posted before, or is sound by itself
abbrev pub PostsSound : World → Fleet → Fleet → Type 0
PostsSound w u v = (x : Posted) → Contains v.posted x → Contains u.posted x ⊎ ((to_server x.letter.body ≡ true → IsAsk w v x) × (to_server x.letter.body ≡ false → IsReply w v x))

pub begun_still : (w : World) (n : ℕ) (u v : Fleet) → GoesOnAt w n u v → (m : ℕ) → u.begun m ≡ true → v.begun m ≡ true
begun_still w n u v on m begun = elim (cases_eq m n) [
  | inl same ↦ (ap v.begun same ∙ on.begun)
  | inr ne ↦ (on.away_begun m ne ∙ begun)
]

pub first_still : (w : World) (n : ℕ) (u v : Fleet) → GoesOnAt w n u v → (m : ℕ) → u.begun m ≡ true → v.first_plan m ≡ u.first_plan m
first_still w n u v on m begun = elim (cases_eq m n) [
  | inl same ↦ (ap v.first_plan same ∙ on.first (ap u.begun (sym same) ∙ begun) ∙ ap u.first_plan (sym same))
  | inr ne ↦ (on.away_first m ne)
]

plan_grows : (w : World) (n : ℕ) (u v : Fleet) → GoesOnAt w n u v → (m : ℕ) → u.begun m ≡ true → u.last_plan m ≤ v.last_plan m
plan_grows w n u v on m begun = elim (cases_eq m n) [
  | inl same ↦ (let P : ℕ → Type 0 = λ z. u.last_plan z ≤ v.last_plan z in subst P (sym same) (on.plan (ap u.begun (sym same) ∙ begun)))
  | inr ne ↦ (let same : v.last_plan m ≡ u.last_plan m = on.away_plan m ne in omega (arith, same))
]

has_still : (w : World) (n : ℕ) (u v : Fleet) → GoesOnAt w n u v → (m : ℕ) (file : File) → u.begun m ≡ true → (u.part m).lacks file ≡ false → (v.part m).lacks file ≡ false
has_still w n u v on m file begun has = elim (cases_eq m n) [
  | inl same ↦ (ap (λ z. (v.part z).lacks file) same ∙ on.has file (ap u.begun (sym same) ∙ begun) (ap (λ z. (u.part z).lacks file) (sym same) ∙ has))
  | inr ne ↦ (ap (λ z. z.lacks file) (on.away_part m ne) ∙ has)
]

pub it_still : (w : World) (n : ℕ) (u v : Fleet) → IsChain w.plans → GoesOnAt w n u v → (m : ℕ) (file : File) → HasIt w u m file → HasIt w v m file
it_still w n u v chain on m file it = record {
  begun = begun_still w n u v on m it.begun;
  within = (let more = (chain (u.last_plan m) (v.last_plan m) (plan_grows w n u v on m it.begun)).volumes in let low = it.within in omega (arith, more, low));
  has = has_still w n u v on m file it.begun it.has;
}

knows_still : (w : World) (n : ℕ) (u v : Fleet) → GoesOnAt w n u v → (m new : ℕ) → Knows w u m new → Knows w v m new
knows_still w n u v on m new knows = record {
  begun = begun_still w n u v on m knows.begun;
  plan = knows.plan;
  before = (let more = plan_grows w n u v on m knows.begun in let low = knows.before in omega (arith, more, low));
  has = knows.has;
}

pub sound_on : (w : World) (n : ℕ) (u v : Fleet) → Sound w u → GoesOnAt w n u v → GoesSame w n u v → PostsSound w u v → Sound w v
sound_on w n u v sound on same posts = record {
  begun = begun;
  fresh = fresh;
  lacking = lacking;
  ready = λ m is. begun_still w n u v on m (sound.ready m (sym (on.ready m) ∙ is));
  older = λ m old is place less. on.gone old ∙ sound.older m old (sym (on.ready m) ∙ is) place less;
  heard = λ m other is. knows_still w n u v on other m (sound.heard m other (on.heard m other is));
  joined = λ x within. knows_still w n u v on x.from x.to (sound.joined x (let P : List Joined → Type 0 = λ z. Contains z x in subst P on.joined within));
  asks = λ x within ask. elim (posts x within) [
    | inl old ↦ (old_ask x old ask)
    | inr new ↦ (new.0 ask)
  ];
  replies = λ x within reply. elim (posts x within) [
    | inl old ↦ (old_reply x old (sound.replies x old reply))
    | inr new ↦ (new.1 reply)
  ];
}
  where
    begun : (m : ℕ) → v.begun m ≡ true → IsBegun w v m
    begun m is = elim (cases_eq m n) [
      | inl same ↦ (let P : ℕ → Type 0 = λ z. IsBegun w v z in subst P (sym same) on.is_begun)
      | inr ne ↦ (away m ne (sound.begun m (sym (on.away_begun m ne) ∙ is)))
    ]
      where
        away : (m : ℕ) → m ≢ n → IsBegun w u m → IsBegun w v m
        away m ne b = record {
          now = ap (λ z. has_node (w.plans z) m) (on.away_plan m ne) ∙ b.now;
          first = ap (λ z. has_node (w.plans z) m) (on.away_first m ne) ∙ b.first;
          later = (let first = on.away_first m ne in let plan = on.away_plan m ne in let low = b.later in omega (arith, first, plan, low));
          having = λ file new within has. on.ready m ∙ b.having file new (let P : ℕ → Type 0 = λ z. file.volume < (w.plans z).volumes in subst P (on.away_first m ne) within) (ap (λ z. z.lacks file) (sym (on.away_part m ne)) ∙ has);
          unknown = λ file beyond. ap (λ z. z.brought file) (on.away_part m ne) ∙ b.unknown file (let P : ℕ → Type 0 = λ z. (w.plans z).volumes ≤ file.volume in subst P (on.away_plan m ne) beyond);
        }

    fresh : (m : ℕ) → v.begun m ≡ false → v.part m ≡ new_part
    fresh m is = elim (cases_eq m n) [
      | inl same ↦ (absurd (true≢false (sym on.begun ∙ ap v.begun (sym same) ∙ is)))
      | inr ne ↦ (on.away_part m ne ∙ sound.fresh m (sym (on.away_begun m ne) ∙ is))
    ]

    lacking : (m : ℕ) (file : File) → (v.part m).lacks file ≡ true → (0 < generation m) × (file.volume < (w.plans (v.first_plan m)).volumes)
    lacking m file is = elim (cases_eq m n) [
      | inl same ↦ (let P : ℕ → Type 0 = λ z. (0 < generation z) × (file.volume < (w.plans (v.first_plan z)).volumes) in subst P (sym same) (on.lacking file (ap (λ z. (v.part z).lacks file) (sym same) ∙ is)))
      | inr ne ↦ (let P : ℕ → Type 0 = λ z. (0 < generation m) × (file.volume < (w.plans z).volumes) in subst P (sym (on.away_first m ne)) (sound.lacking m file (ap (λ z. z.lacks file) (sym (on.away_part m ne)) ∙ is)))
    ]

    -- of a session whose home is another node
    going_away : (letter : OwnMessage) → w.setting.home letter.session ≢ n → IsGoing w v letter → IsGoing w u letter
    going_away letter ne going = going_same w u v letter (ap (λ z. z.session letter.session) (on.away_part (w.setting.home letter.session) ne)) going

    -- the home of a letter's session, and its plan
    at_home : (x : Posted) → Contains u.posted x → IsGoing w v x.letter → IsGoing w u x.letter × (v.last_plan (w.setting.home x.letter.session) ≡ u.last_plan (w.setting.home x.letter.session))
    at_home x old going = elim (cases_eq (w.setting.home x.letter.session) n) [
      | inl here ↦ (let was = same x old here going in (was.0, ap v.last_plan here ∙ was.1 ∙ ap u.last_plan (sym here)))
      | inr ne ↦ (going_away x.letter ne going, on.away_plan (w.setting.home x.letter.session) ne)
    ]

    old_ask : (x : Posted) → Contains u.posted x → to_server x.letter.body ≡ true → IsAsk w v x
    old_ask x old ask home going =
        let was = at_home x old going in
        let plan : v.last_plan x.from ≡ u.last_plan x.from = ap v.last_plan (sym home) ∙ was.1 ∙ ap u.last_plan home in
        sound.asks x old ask home was.0 ∙ ap (λ z. node_at (w.plans z) x.letter.server) (sym plan)

    old_reply : (x : Posted) → Contains u.posted x → IsReply w u x → IsReply w v x
    old_reply x old r = record {
      begun = begun_still w n u v on x.from r.begun;
      place = r.place;
      has = has_still w n u v on x.from x.letter.file r.begun r.has;
      to = r.to;
      asked = λ going.
          let was = at_home x old going in
          let plan : v.last_plan x.to ≡ u.last_plan x.to = ap v.last_plan r.to ∙ was.1 ∙ ap u.last_plan (sym r.to) in
          r.asked was.0 ∙ ap (λ z. node_at (w.plans z) x.letter.server) (sym plan);
    }

-- ---- no node was started yet

pub new_sound : (w : World) → Sound w new_fleet
new_sound w = record {
  begun = λ n is. absurd (true≢false (sym is));
  fresh = λ n is. refl;
  lacking = λ n file is. absurd (true≢false (sym is));
  ready = λ n is. absurd (true≢false (sym is));
  older = λ n m is place less. absurd (true≢false (sym is));
  heard = λ n m is. absurd (true≢false (sym is));
  joined = λ x within. absurd (omega (arith, within.1));
  asks = λ x within ask. absurd (omega (arith, within.1));
  replies = λ x within reply. absurd (omega (arith, within.1));
}
