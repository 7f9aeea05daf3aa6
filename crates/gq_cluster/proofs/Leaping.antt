-- By a turn for each of them the idle sessions of a node go on behind the numbers that are reserved for them; nothing else changes.
use Rattle.std.proofs.Common.{◌≡◌, ◌≢◌, ◌⊎◌, ℕ, zero, suc, ◌+◌, ◌<◌, ◌≤◌, Bool, true, false, ◌&&◌, List, [], ◌∷◌, map, refl, sym, ap, ◌∙◌, subst, inl, inr, None, arith, append-nil, eqb, leb}
use Rattle.std.specs.Prelude.{fold, filter, filter_map, if◌then◌else◌}
use Rattle.std.proofs.lemmas.List.Elements.{Contains-append_left}
use Rattle.std.specs.List.{range_with_len}
use Rattle.std.proofs.lemmas.Bool.{cases_eq, cases_lt, eq-eqb, ne_eqb, le-leb, leb-true, and_parts, true≢false}
use Rattle.gq_tag.specs.Tag.{File}
use Rattle.gq_grid.specs.Grid.{Grid}
use Rattle.gq_desk.specs.declared.plans.TenantRow.{TenantRow}
use Rattle.gq_desk.specs.Plans.{is_in}
use Rattle.gq_model.specs.Told.{ServerOk}
use Rattle.gq_model.specs.Trace.{Turn, Leaping, Leaps, Entry, State, Session, Past, new_session, questions, up, gone, volumes, sent, is_lost, lacks, brought, session, session_by, offered}
use Rattle.gq_model.specs.Lone.{after, leap_told, trace_after, quiet}
use Rattle.gq_cluster.specs.Facts.{Reserved}
use Rattle.gq_cluster.specs.Cluster.{Setting, Cluster, leapt_part, leapt}
use Rattle.gq_cluster.specs.Laws.{exchanges_from, disk_turn}
use Rattle.gq_cluster.proofs.Abandoning.{at_home}
use Rattle.gq_cluster.proofs.ServerLines.{OffersMore}
use Rattle.gq_cluster.proofs.Standing.{Stands}

-- what is reserved for session k at its home
abbrev pub reserved_at_home : Setting → Cluster → ℕ → Reserved
reserved_at_home s c k = (c.part (s.home k)).reserved k

-- the turn by which it goes on behind that
abbrev pub leap : Setting → Cluster → ℕ → Turn
leap s c k = Leaping k (reserved_at_home s c k).op (reserved_at_home s c k).floor

-- one for each of these sessions of which this node is the home
abbrev pub leaps_for : Setting → Cluster → ℕ → List ℕ → List Turn
leaps_for s c node ks = map (leap s c) (filter (λ k. eqb (s.home k) node) ks)

-- all but the sessions, and what servers could give
abbrev pub without_sessions : State → State
without_sessions state = record { up = state.up; gone = state.gone; volumes = state.volumes; sent = state.sent; is_lost = state.is_lost; lacks = state.lacks; brought = state.brought; offered = λ server file peer. []; session = λ k. new_session }

-- ---- one turn

-- the second past is the first one, but that session k went on behind these numbers
record GoesOn (s : Setting) (k op number : ℕ) (p q : Past) : Type 0 where
  lines : q.lines ≡ p.lines
  rest : without_sessions (questions q.trace) ≡ without_sessions (questions p.trace)
  own : session q.trace k ≡ session_by s.volumes k (Leaps op number) (session p.trace k)
  apart : (j : ℕ) → k ≢ j → session q.trace j ≡ session p.trace j
  offers : OffersMore p q

-- the entry of the turn
abbrev entry_for : (k op number : ℕ) → Entry
entry_for k op number = record { turn = Leaping k op number; message = None; told = ServerOk; new = [] }

abbrev with_leap : Past → (k op number : ℕ) → Past
with_leap p k op number = record { lines = p.lines; trace = entry_for k op number ∷ p.trace }

rest_stays : (p : Past) (k op number : ℕ) → without_sessions (questions (with_leap p k op number).trace) ≡ without_sessions (questions p.trace)
rest_stays p k op number = λ i. record { up = up p.trace; gone = gone p.trace; volumes = volumes p.trace; sent = append-nil (sent p.trace) i; is_lost = is_lost p.trace; lacks = lacks p.trace; brought = brought p.trace; offered = λ server file peer. []; session = λ j. new_session }

leap_goes : (s : Setting) (p : Past) (k op number : ℕ) → (session p.trace k).current ≡ None → GoesOn s k op number p (after s.grid s.row p (Leaping k op number))
leap_goes s p k op number idle = subst P (sym then_is) (record {
  lines = refl;
  rest = rest_stays p k op number;
  own = own;
  apart = λ j ne. rw (ne_eqb k j ne) refl;
  offers = λ server file peer copy within. Contains-append_left (offered p.trace server file peer) _ copy within;
})
  where
    P : Past → Type 0
    P z = GoesOn s k op number p z

    told : leap_told (questions p.trace) k ≡ ServerOk
    told = rw idle refl

    then_is : after s.grid s.row p (Leaping k op number) ≡ with_leap p k op number
    then_is = λ i. record { lines = p.lines; trace = trace_after p.trace (Leaping k op number) (quiet (told i)) }

    own : session (with_leap p k op number).trace k ≡ session_by s.volumes k (Leaps op number) (session p.trace k)
    own = rw (eq-eqb k k refl) refl

-- ---- the sessions of a node

-- the second past is the first one, but that of the n sessions from a on those of the node went on behind what is reserved for them
record AllGoOn (s : Setting) (c : Cluster) (node a n : ℕ) (p q : Past) : Type 0 where
  lines : q.lines ≡ p.lines
  rest : without_sessions (questions q.trace) ≡ without_sessions (questions p.trace)
  these : (k : ℕ) → a ≤ k → k < a + n → s.home k ≡ node → session q.trace k ≡ session_by s.volumes k (Leaps (reserved_at_home s c k).op (reserved_at_home s c k).floor) (session p.trace k)
  apart : (k : ℕ) → (s.home k ≢ node) ⊎ ((k < a) ⊎ (a + n ≤ k)) → session q.trace k ≡ session p.trace k
  offers : OffersMore p q

-- the first is of the node and goes on, or is not of the node
first_too : (s : Setting) (c : Cluster) (node a n : ℕ) (p mid q : Past) → s.home a ≡ node → GoesOn s a (reserved_at_home s c a).op (reserved_at_home s c a).floor p mid → AllGoOn s c node (a + 1) n mid q → AllGoOn s c node a (suc n) p q
first_too s c node a n p mid q home one more = record { lines = more.lines ∙ one.lines; rest = more.rest ∙ one.rest; these = these; apart = apart; offers = λ server file peer copy within. more.offers server file peer copy (one.offers server file peer copy within) }
  where
    Then : ℕ → Type 0
    Then k = session q.trace k ≡ session_by s.volumes k (Leaps (reserved_at_home s c k).op (reserved_at_home s c k).floor) (session p.trace k)

    these : (k : ℕ) → a ≤ k → k < a + suc n → s.home k ≡ node → Then k
    these k low high here = by (cases_eq a k)
      where
        by : (a ≡ k) ⊎ (a ≢ k) → Then k
        by (inl same) = subst Then same (more.apart a (inr (inl (omega arith))) ∙ one.own)
        by (inr ne) = more.these k (omega arith) (omega arith) here ∙ ap (session_by s.volumes k (Leaps (reserved_at_home s c k).op (reserved_at_home s c k).floor)) (one.apart k ne)

    apart : (k : ℕ) → (s.home k ≢ node) ⊎ ((k < a) ⊎ (a + suc n ≤ k)) → session q.trace k ≡ session p.trace k
    apart k (inl away) = more.apart k (inl away) ∙ one.apart k (λ same. away (ap s.home (sym same) ∙ home))
    apart k (inr (inl low)) = more.apart k (inr (inl (omega arith))) ∙ one.apart k (λ same. omega arith)
    apart k (inr (inr high)) = more.apart k (inr (inr (omega arith))) ∙ one.apart k (λ same. omega arith)

first_not : (s : Setting) (c : Cluster) (node a n : ℕ) (p q : Past) → s.home a ≢ node → AllGoOn s c node (a + 1) n p q → AllGoOn s c node a (suc n) p q
first_not s c node a n p q away more = record { lines = more.lines; rest = more.rest; these = these; apart = apart; offers = more.offers }
  where
    these : (k : ℕ) → a ≤ k → k < a + suc n → s.home k ≡ node → session q.trace k ≡ session_by s.volumes k (Leaps (reserved_at_home s c k).op (reserved_at_home s c k).floor) (session p.trace k)
    these k low high here =
        let ne : a ≢ k = λ same. away (ap s.home same ∙ here) in
        more.these k (omega arith) (omega arith) here

    apart : (k : ℕ) → (s.home k ≢ node) ⊎ ((k < a) ⊎ (a + suc n ≤ k)) → session q.trace k ≡ session p.trace k
    apart k (inl elsewhere) = more.apart k (inl elsewhere)
    apart k (inr (inl low)) = more.apart k (inr (inl (omega arith)))
    apart k (inr (inr high)) = more.apart k (inr (inr (omega arith)))

-- of the n sessions from a on those of the node have no operation
abbrev AreIdle : Setting → (node a n : ℕ) → Past → Type 0
AreIdle s node a n p = (k : ℕ) → a ≤ k → k < a + n → s.home k ≡ node → (session p.trace k).current ≡ None

all_go_on : (s : Setting) (c : Cluster) (node a n : ℕ) (p : Past) → AreIdle s node a n p → AllGoOn s c node a n p (fold (after s.grid s.row) p (leaps_for s c node (range_with_len a n)))
all_go_on s c node a zero p idle = record { lines = refl; rest = refl; these = λ k low high home. absurd (omega arith); apart = λ k out. refl; offers = λ server file peer copy within. within }
all_go_on s c node a (suc n) p idle = by (cases_eq (s.home a) node) (λ (mid : Past) (later : AreIdle s node (a + 1) n mid). all_go_on s c node (a + 1) n mid later)
  where
    Goal : Bool → Type 0
    Goal b = AllGoOn s c node a (suc n) p (fold (after s.grid s.row) p (map (leap s c) (if b then a ∷ filter (λ k. eqb (s.home k) node) (range_with_len (a + 1) n) else filter (λ k. eqb (s.home k) node) (range_with_len (a + 1) n))))

    by : (s.home a ≡ node) ⊎ (s.home a ≢ node) → ((mid : Past) → AreIdle s node (a + 1) n mid → AllGoOn s c node (a + 1) n mid (fold (after s.grid s.row) mid (leaps_for s c node (range_with_len (a + 1) n)))) → Goal (eqb (s.home a) node)
    by (inr away) later =
        let no : eqb (s.home a) node ≡ false = ne_eqb (s.home a) node away in
        subst Goal (sym no) (first_not s c node a n p (fold (after s.grid s.row) p (leaps_for s c node (range_with_len (a + 1) n))) away (later p (λ k low high home. idle k (omega arith) (omega arith) home)))
    by (inl here) later = subst Goal (sym yes) (first_too s c node a n p mid (fold (after s.grid s.row) mid (leaps_for s c node (range_with_len (a + 1) n))) here one (later mid still))
      where
        yes : eqb (s.home a) node ≡ true
        yes = eq-eqb (s.home a) node here

        mid : Past
        mid = after s.grid s.row p (leap s c a)

        one : GoesOn s a (reserved_at_home s c a).op (reserved_at_home s c a).floor p mid
        one = leap_goes s p a (reserved_at_home s c a).op (reserved_at_home s c a).floor (idle a (omega arith) (omega arith) here)

        still : AreIdle s node (a + 1) n mid
        still k low high home = ap (λ z. z.current) (one.apart k (λ same. omega arith)) ∙ idle k (omega arith) (omega arith) home

-- they are told to nobody
pub leaps_tell : (s : Setting) (c : Cluster) (grid : Grid) (row : TenantRow) (ks : List ℕ) (p : Past) → exchanges_from grid row p (map (leap s c) ks) ≡ []
leaps_tell s c grid row [] p = refl
leaps_tell s c grid row (k ∷ ks) p = leaps_tell s c grid row ks (after grid row p (leap s c k))

-- by them no disk is lost
leaps_of_disks : (s : Setting) (c : Cluster) (ks : List ℕ) → filter_map disk_turn (map (leap s c) ks) ≡ []
leaps_of_disks s c [] = refl
leaps_of_disks s c (k ∷ ks) = leaps_of_disks s c ks

-- ---- all sessions of a node

-- the turns by which all sessions of the node go on
abbrev pub leaps : Setting → Cluster → ℕ → List Turn
leaps s c node = leaps_for s c node (range_with_len 1 s.row.sessions)

-- each session that the tenant has at the node is idle
abbrev pub NodeIdle : Setting → Cluster → ℕ → Type 0
NodeIdle s c node = (k : ℕ) → s.home k ≡ node → is_in 1 s.row.sessions k ≡ true → (at_home s c k).current ≡ None

-- by these turns the past that stood for the cluster stands for it behind the leap
pub record IsLeapt (s : Setting) (p : Past) (c : Cluster) (node : ℕ) : Type 0 where
  pub disks : filter_map disk_turn (leaps s c node) ≡ []
  pub did : exchanges_from s.grid s.row p (leaps s c node) ≡ []
  pub stands : Stands s (fold (after s.grid s.row) p (leaps s c node)) (leapt s node c)
  pub lines : (fold (after s.grid s.row) p (leaps s c node)).lines ≡ p.lines

pub node_leaps : (s : Setting) (p : Past) (c : Cluster) (node : ℕ) → Stands s p c → NodeIdle s c node → IsLeapt s p c node
node_leaps s p c node stands idle = record {
  disks = leaps_of_disks s c (filter (λ k. eqb (s.home k) node) (range_with_len 1 s.row.sessions));
  did = leaps_tell s c s.grid s.row (filter (λ k. eqb (s.home k) node) (range_with_len 1 s.row.sessions)) p;
  stands = record {
    opened = ap (λ z. z.volumes) all.rest ∙ stands.opened;
    written = ap (λ z. z.sent) all.rest ∙ stands.written;
    kept = λ n. ap (λ z. z.is_lost n) all.rest ∙ stands.kept n;
    beyond = λ n out. ap (λ z. z.up n) all.rest ∙ stands.beyond n out;
    none_gone = λ n. ap (λ z. z.gone n) all.rest ∙ stands.none_gone n;
    lacking = λ n file. ap (λ z. z.lacks n file) all.rest ∙ stands.lacking n file ∙ same_lacks n file (eqb n node);
    copies = λ n file. ap (λ z. z.brought n file) all.rest ∙ stands.copies n file ∙ same_copies n file (eqb n node);
    sessions = sessions;
    offers = λ server file peer copy within. all.offers server file peer copy (stands.offers server file peer copy within);
  };
  lines = all.lines;
}
  where
    q : Past
    q = fold (after s.grid s.row) p (leaps s c node)

    inside : (k : ℕ) → 1 ≤ k → k < 1 + s.row.sessions → is_in 1 s.row.sessions k ≡ true
    inside k low high = rw (le-leb 1 k low, le-leb k s.row.sessions (omega arith)) refl

    all : AllGoOn s c node 1 s.row.sessions p q
    all = all_go_on s c node 1 s.row.sessions p (λ k low high home. ap (λ z. z.current) (stands.sessions k) ∙ idle k home (inside k low high))

    out : (k : ℕ) → is_in 1 s.row.sessions k ≡ false → (k < 1) ⊎ (1 + s.row.sessions ≤ k)
    out k e = elim (cases_lt k 1) [
      | inl low ↦ (inl low)
      | inr high ↦ (elim (cases_lt s.row.sessions k) [
        | inl above ↦ (inr (omega arith))
        | inr below ↦ (absurd (true≢false (sym (inside k high (omega arith)) ∙ e)))
      ])
    ]

    same_lacks : (n : ℕ) (file : File) (b : Bool) → (c.part n).lacks file ≡ (if b then leapt_part s node (c.part n) else c.part n).lacks file
    same_lacks n file true = refl
    same_lacks n file false = refl

    same_copies : (n : ℕ) (file : File) (b : Bool) → (c.part n).brought file ≡ (if b then leapt_part s node (c.part n) else c.part n).brought file
    same_copies n file true = refl
    same_copies n file false = refl

    at : Bool → ℕ → Session
    at b k = (if b then leapt_part s node (c.part (s.home k)) else c.part (s.home k)).session k

    moved : ℕ → Bool → Session
    moved k b = if b then session_by s.volumes k (Leaps (reserved_at_home s c k).op (reserved_at_home s c k).floor) (at_home s c k) else at_home s c k

    sessions : (k : ℕ) → session q.trace k ≡ at (eqb (s.home k) node) k
    sessions k = by (cases_eq (s.home k) node)
      where
        by : (s.home k ≡ node) ⊎ (s.home k ≢ node) → session q.trace k ≡ at (eqb (s.home k) node) k
        by (inr away) = all.apart k (inl away) ∙ stands.sessions k ∙ ap (λ b. at b k) (sym (ne_eqb (s.home k) node away))
        by (inl here) = own (is_in 1 s.row.sessions k) refl ∙ ap (λ b. moved k (b && is_in 1 s.row.sessions k)) (sym yes) ∙ ap (λ b. at b k) (sym yes)
          where
            yes : eqb (s.home k) node ≡ true
            yes = eq-eqb (s.home k) node here

            own : (b : Bool) → is_in 1 s.row.sessions k ≡ b → session q.trace k ≡ moved k (is_in 1 s.row.sessions k)
            own true e =
                let parts = and_parts (leb 1 k) (leb k s.row.sessions) e in
                let low : 1 ≤ k = leb-true 1 k parts.0 in
                let high : k ≤ s.row.sessions = leb-true k s.row.sessions parts.1 in
                all.these k low (omega arith) here ∙ ap (session_by s.volumes k (Leaps (reserved_at_home s c k).op (reserved_at_home s c k).floor)) (stands.sessions k) ∙ ap (moved k) (sym e)
            own false e = all.apart k (inr (out k e)) ∙ stands.sessions k ∙ ap (moved k) (sym e)
