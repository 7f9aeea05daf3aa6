-- Nodes of the cluster start again, one or several.
use Rattle.std.proofs.Common.{◌≡◌, ◌≢◌, ◌⊎◌, ℕ, zero, suc, ◌+◌, ◌<◌, ◌≤◌, Bool, true, false, List, [], ◌∷◌, map, refl, sym, ap, ◌∙◌, subst, inl, inr, None, is_some, arith, eqb}
use Rattle.std.specs.Prelude.{Contains, filter, fold, if◌then◌else◌}
use Rattle.std.specs.List.{range_with_len, list_any}
use Rattle.std.proofs.lemmas.Bool.{cases_eq, cases_Bool, eq-eqb, ne_eqb, or_parts, or_right, true≢false}
use Rattle.gq_tag.specs.declared.StoredCopy.{StoredCopy}
use Rattle.gq_tag.specs.Tag.{File, first_copy, greatest}
use Rattle.gq_desk.specs.Plans.{is_in}
use Rattle.gq_model.specs.Trace.{Session}
use Rattle.gq_cluster.specs.Cluster.{Setting, Cluster, Act, Restarts, Reserves, going_at, gives_up, leapt_part, leapt, reserving_part, with_numbers, after_act, after_acts, after_step, CanFollow}
use Rattle.gq_cluster.specs.Restarts.{GivesUp}
use Rattle.gq_cluster.proofs.Restarting.{node_gives}
use Rattle.gq_replace.proofs.Acting.{Same, Offers, act_offers, act_offering}
use Rattle.gq_replace.proofs.Reached.{Reached, reached_more, used}

-- ---- what could be given to servers

acts_offer : (s : Setting) (c : Cluster) (acts : List Act) (server : ℕ) (file : File) (peer : ℕ) (copy : StoredCopy) → Contains (c.offered server file peer) copy → Contains ((after_acts s c acts).offered server file peer) copy
acts_offer s c [] server file peer copy within = within
acts_offer s c (act ∷ acts) server file peer copy within = acts_offer s (after_act s c act) acts server file peer copy (act_offers s c act server file peer copy within)

acts_offering : (s : Setting) (c : Cluster) (acts : List Act) → Offers c → Offers (after_acts s c acts)
acts_offering s c [] offers = offers
acts_offering s c (act ∷ acts) offers = acts_offering s (after_act s c act) acts (act_offering s c act offers)

leapt_lacks : (s : Setting) (node : ℕ) (c : Cluster) (n : ℕ) (file : File) → ((leapt s node c).part n).lacks file ≡ (c.part n).lacks file
leapt_lacks s node c n file = by (eqb n node)
  where
    by : (b : Bool) → (if b then leapt_part s node (c.part n) else c.part n).lacks file ≡ (c.part n).lacks file
    by true = refl
    by false = refl

leapt_brought : (s : Setting) (node : ℕ) (c : Cluster) (n : ℕ) (file : File) → ((leapt s node c).part n).brought file ≡ (c.part n).brought file
leapt_brought s node c n file = by (eqb n node)
  where
    by : (b : Bool) → (if b then leapt_part s node (c.part n) else c.part n).brought file ≡ (c.part n).brought file
    by true = refl
    by false = refl

pub restart_offers : (s : Setting) (c : Cluster) (node server : ℕ) (file : File) (peer : ℕ) (copy : StoredCopy) → Contains (c.offered server file peer) copy → Contains ((after_step s c (Restarts node)).offered server file peer) copy
restart_offers s c node server file peer copy within = acts_offer s c (map gives_up (going_at s c node)) server file peer copy within

pub restart_offering : (s : Setting) (c : Cluster) (node : ℕ) → Offers c → Offers (after_step s c (Restarts node))
restart_offering s c node offers server file peer lacks has = subst P (sym (leapt_brought s node mid peer file)) (old server file peer (sym (leapt_lacks s node mid server file) ∙ lacks) (sym (leapt_lacks s node mid peer file) ∙ has))
  where
    mid : Cluster
    mid = after_acts s c (map gives_up (going_at s c node))

    old : Offers mid
    old = acts_offering s c (map gives_up (going_at s c node)) offers

    P : List StoredCopy → Type 0
    P z = Contains (mid.offered server file peer) (greatest (first_copy ∷ z))

-- ---- numbers are reserved

pub numbers_lack : (s : Setting) (c : Cluster) (node number n : ℕ) (file : File) → ((after_step s c (Reserves node number)).part n).lacks file ≡ (c.part n).lacks file
numbers_lack s c node number n file = by (eqb n node)
  where
    by : (b : Bool) → (if b then reserving_part s node number (c.part n) else c.part n).lacks file ≡ (c.part n).lacks file
    by true = refl
    by false = refl

pub numbers_bring : (s : Setting) (c : Cluster) (node number n : ℕ) (file : File) → ((after_step s c (Reserves node number)).part n).brought file ≡ (c.part n).brought file
numbers_bring s c node number n file = by (eqb n node)
  where
    by : (b : Bool) → (if b then reserving_part s node number (c.part n) else c.part n).brought file ≡ (c.part n).brought file
    by true = refl
    by false = refl

pub numbers_offering : (s : Setting) (c : Cluster) (node number : ℕ) → Offers c → Offers (after_step s c (Reserves node number))
numbers_offering s c node number offers server file peer lacks has =
    let P : List StoredCopy → Type 0 = λ z. Contains (c.offered server file peer) (greatest (first_copy ∷ z)) in
    subst P (sym (numbers_bring s c node number peer file))
    (offers server file peer (sym (numbers_lack s c node number server file) ∙ lacks) (sym (numbers_lack s c node number peer file) ∙ has))

-- ---- one restart

pub gives : (s : Setting) (c : Cluster) (node : ℕ) → Reached s c → GivesUp s node c (after_step s c (Restarts node))
gives s c node reached = node_gives s c node (λ k same. used s c reached node k)

-- ---- several

-- the node is one of these
abbrev pub is_among : List ℕ → ℕ → Bool
is_among nodes node = list_any (λ n. eqb n node) nodes

-- session k, as its home in the cluster has it
abbrev pub session_of : Setting → Cluster → ℕ → Session
session_of s c k = (c.part (s.home k)).session k

pub record Ended (s : Setting) (nodes : List ℕ) (c d : Cluster) : Type 0 where
  pub can : CanFollow s c (map Restarts nodes)
  pub idle : (k : ℕ) → is_in 1 s.row.sessions k ≡ true → (is_among nodes (s.home k) ≡ true) ⊎ ((session_of s c k).current ≡ None) → (session_of s d k).current ≡ None
  pub going : (k : ℕ) → is_some (session_of s d k).current ≡ true → session_of s d k ≡ session_of s c k
  pub others : (k : ℕ) → is_among nodes (s.home k) ≡ false → Same (d.part (s.home k)) (c.part (s.home k)) k
  pub lacks : (n : ℕ) (file : File) → (d.part n).lacks file ≡ (c.part n).lacks file
  pub brought : (n : ℕ) (file : File) → (d.part n).brought file ≡ (c.part n).brought file
  pub written : d.written ≡ c.written
  pub offered : (server : ℕ) (file : File) (peer : ℕ) (copy : StoredCopy) → Contains (c.offered server file peer) copy → Contains (d.offered server file peer) copy

-- one node more, in front
ended_more : (s : Setting) (node : ℕ) (nodes : List ℕ) (c last : Cluster) → Reached s c → Ended s nodes (after_step s c (Restarts node)) last → Ended s (node ∷ nodes) c last
ended_more s node nodes c last reached rest = record {
  can = (tt, rest.can);
  idle = idle;
  going = going;
  others = others;
  lacks = λ n file. rest.lacks n file ∙ one.lacks n file;
  brought = λ n file. rest.brought n file ∙ one.copies n file;
  written = rest.written ∙ one.written;
  offered = λ server file peer copy within. rest.offered server file peer copy (restart_offers s c node server file peer copy within);
}
  where
    mid : Cluster
    mid = after_step s c (Restarts node)

    one : GivesUp s node c mid
    one = gives s c node reached

    -- a session of the node that the tenant has is idle then
    given_up : (k : ℕ) → s.home k ≡ node → is_in 1 s.row.sessions k ≡ true → (session_of s mid k).current ≡ None
    given_up k here inside = ap (λ n. ((mid.part n).session k).current) here ∙ ap (λ z. z.current) (one.own k here inside)

    idle : (k : ℕ) → is_in 1 s.row.sessions k ≡ true → (is_among (node ∷ nodes) (s.home k) ≡ true) ⊎ ((session_of s c k).current ≡ None) → (session_of s last k).current ≡ None
    idle k inside either = by (cases_eq (s.home k) node) either
      where
        by : (s.home k ≡ node) ⊎ (s.home k ≢ node) → (is_among (node ∷ nodes) (s.home k) ≡ true) ⊎ ((session_of s c k).current ≡ None) → (session_of s last k).current ≡ None
        by (inl here) either = rest.idle k inside (inr (given_up k here inside))
        by (inr ne) (inl among) = rest.idle k inside (inl (rw (ne_eqb node (s.home k) (λ same. ne (sym same))) at among))
        by (inr ne) (inr none) = rest.idle k inside (inr (ap (λ z. z.current) (one.others k ne) ∙ none))

    -- a session that goes on was not given up
    kept : (k : ℕ) → is_some (session_of s mid k).current ≡ true → session_of s mid k ≡ session_of s c k
    kept k busy = by (cases_eq (s.home k) node) (cases_Bool (is_in 1 s.row.sessions k))
      where
        by : (s.home k ≡ node) ⊎ (s.home k ≢ node) → (is_in 1 s.row.sessions k ≡ true) ⊎ (is_in 1 s.row.sessions k ≡ false) → session_of s mid k ≡ session_of s c k
        by (inr ne) either = one.others k ne
        by (inl here) (inl inside) = absurd (true≢false (sym busy ∙ ap is_some (given_up k here inside)))
        by (inl here) (inr outside) = ap (λ n. (mid.part n).session k) here ∙ one.outside k here outside ∙ ap (λ n. (c.part n).session k) (sym here)

    going : (k : ℕ) → is_some (session_of s last k).current ≡ true → session_of s last k ≡ session_of s c k
    going k busy = let same = rest.going k busy in same ∙ kept k (ap (λ z. is_some z.current) (sym same) ∙ busy)

    others : (k : ℕ) → is_among (node ∷ nodes) (s.home k) ≡ false → Same (last.part (s.home k)) (c.part (s.home k)) k
    others k none =
        let parts = or_parts (eqb node (s.home k)) (is_among nodes (s.home k)) none in
        let ne : s.home k ≢ node = λ same. true≢false (sym (eq-eqb node (s.home k) (sym same)) ∙ parts.0) in
        let later = rest.others k parts.1 in
        record { session = later.session ∙ one.others k ne; reserved = later.reserved ∙ one.reserved (s.home k) k }

pub ended : (s : Setting) (nodes : List ℕ) (c : Cluster) → Reached s c → Ended s nodes c (fold (after_step s) c (map Restarts nodes))
ended s [] c reached = record {
  can = tt;
  idle = λ k inside either. elim either [
    | inl among ↦ (absurd (true≢false (sym among)))
    | inr none ↦ none
  ];
  going = λ k busy. refl;
  others = λ k none. record { session = refl; reserved = refl };
  lacks = λ n file. refl;
  brought = λ n file. refl;
  written = refl;
  offered = λ server file peer copy within. within;
}
ended s (node ∷ nodes) c reached =
    let mid : Cluster = after_step s c (Restarts node) in
    ended_more s node nodes c (fold (after_step s) mid (map Restarts nodes)) reached (ended s nodes mid (reached_more s c (Restarts node) reached))

-- ---- which they are

pub listed : (p : ℕ → Bool) (f : ℕ → ℕ) (a n k : ℕ) → a ≤ k → k < a + n → p (f k) ≡ true → is_among (filter p (map f (range_with_len a n))) (f k) ≡ true
listed p f a zero k low high is = absurd (omega arith)
listed p f a (suc n) k low high is = by (cases_eq a k) (p (f a)) refl (λ (late : a + 1 ≤ k) (soon : k < a + 1 + n). listed p f (a + 1) n k late soon is)
  where
    by : (a ≡ k) ⊎ (a ≢ k) → (b : Bool) → p (f a) ≡ b → (a + 1 ≤ k → k < a + 1 + n → is_among (filter p (map f (range_with_len (a + 1) n))) (f k) ≡ true) → is_among (filter p (map f (range_with_len a (suc n)))) (f k) ≡ true
    by (inl same) true e later = rw (e, eq-eqb (f a) (f k) (ap f same)) refl
    by (inl same) false e later = absurd (true≢false (sym is ∙ ap (λ z. p (f z)) (sym same) ∙ e))
    by (inr ne) true e later = rw e (or_right (eqb (f a) (f k)) (is_among (filter p (map f (range_with_len (a + 1) n))) (f k)) (later (omega arith) (omega arith)))
    by (inr ne) false e later = rw e (later (omega arith) (omega arith))

pub unlisted : (p : ℕ → Bool) (ns : List ℕ) (m : ℕ) → p m ≡ false → is_among (filter p ns) m ≡ false
unlisted p [] m none = refl
unlisted p (n ∷ ns) m none = by (p n) refl (unlisted p ns m none)
  where
    by : (b : Bool) → p n ≡ b → is_among (filter p ns) m ≡ false → is_among (filter p (n ∷ ns)) m ≡ false
    by true e rest = rw (e, ne_eqb n m (λ same. true≢false (sym e ∙ ap p same ∙ none))) rest
    by false e rest = rw e rest
