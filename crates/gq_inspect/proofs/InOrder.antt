-- In the order of all steps, the board's steps and each session's stand as in their own lists, since the stamps of these climb.
use Rattle.std.proofs.Common.{◌≡◌, ◌⊎◌, ℕ, zero, suc, ◌+◌, ◌<◌, Bool, true, false, List, [], ◌∷◌, ◌++◌, Some, None, length, map, All, refl, sym, ap, ◌∙◌, subst, inl, inr, arith}
use Rattle.std.specs.Prelude.{nat_lt, ◌==◌, ◌&&◌, slice_get, if◌then◌else◌}
use Rattle.std.specs.List.{filter}
use Rattle.std.proofs.lemmas.Bool.{and_from, and_parts, eq-eqb, eqb-true, lt-ltb, ltb-true, ne_eqb, or_cases, or_left, or_right}
use Rattle.std.proofs.lemmas.List.Elements.{All-cons, All-head, All-nil, All-tail, All-weaker, filter-append}
use Rattle.std.proofs.lemmas.Option.{get_or_from_slice_get, slice_get_within}
use Rattle.gq_cell.specs.declared.board.BoardEntry.{BoardEntry}
use Rattle.gq_cell.specs.declared.letter.CellEntry.{CellEntry}
use Rattle.gq_cell.specs.declared.letter.CellEntry.TheVariants.{Served, Stop, Back}
use Rattle.gq_session.specs.declared.records.SessionEntry.{SessionEntry}
use Rattle.gq_session.specs.declared.records.Records.{Records}
use Rattle.gq_inspect.specs.declared.steps.Step.{Step}
use Rattle.gq_inspect.specs.declared.steps.Origin.{Origin}
use Rattle.gq_inspect.specs.declared.steps.Origin.TheVariants.{Board, Session, Server}
use Rattle.gq_inspect.specs.Steps.{board_steps, session_steps, served_steps, sessions_steps, cells_steps, steps, is_before, rise_after, IsOrderOf}
use Rattle.gq_inspect.specs.Lists.{climb_after, SessionClimbs, AllClimb}
use Rattle.gq_session.proofs.Asking.{append-none}
use Rattle.gq_inspect.proofs.Rising.{Rises, IsAsymmetric, in_order}

-- ---- before and after

abbrev IsBefore : Step → Step → Type 0
IsBefore a b = is_before a b ≡ true

before_cases : (a b : Step) → IsBefore a b → (a.stamp < b.stamp) ⊎ ((a.stamp ≡ b.stamp) × (a.place < b.place))
before_cases a b h = by (or_cases (nat_lt a.stamp b.stamp) ((a.stamp == b.stamp) && nat_lt a.place b.place) h)
  where
    by : (nat_lt a.stamp b.stamp ≡ true) ⊎ (((a.stamp == b.stamp) && nat_lt a.place b.place) ≡ true) → (a.stamp < b.stamp) ⊎ ((a.stamp ≡ b.stamp) × (a.place < b.place))
    by (inl low) = inl (ltb-true a.stamp b.stamp low)
    by (inr both) = let parts = and_parts (a.stamp == b.stamp) (nat_lt a.place b.place) both in inr (eqb-true a.stamp b.stamp parts.0, ltb-true a.place b.place parts.1)

before_from : (a b : Step) → (a.stamp < b.stamp) ⊎ ((a.stamp ≡ b.stamp) × (a.place < b.place)) → IsBefore a b
before_from a b (inl low) = or_left (nat_lt a.stamp b.stamp) ((a.stamp == b.stamp) && nat_lt a.place b.place) (lt-ltb a.stamp b.stamp low)
before_from a b (inr (same, low)) =
    or_right (nat_lt a.stamp b.stamp) ((a.stamp == b.stamp) && nat_lt a.place b.place)
    (and_from (a.stamp == b.stamp) (nat_lt a.place b.place) (eq-eqb a.stamp b.stamp same) (lt-ltb a.place b.place low))

asymmetric : IsAsymmetric IsBefore
asymmetric a b h k = by (before_cases a b h) (before_cases b a k)
  where
    by : (a.stamp < b.stamp) ⊎ ((a.stamp ≡ b.stamp) × (a.place < b.place)) → (b.stamp < a.stamp) ⊎ ((b.stamp ≡ a.stamp) × (b.place < a.place)) → ⊥
    by (inl low) (inl low') = omega arith
    by (inl low) (inr (same', low')) = omega arith
    by (inr (same, low)) (inl low') = omega arith
    by (inr (same, low)) (inr (same', low')) = omega arith

before_more : (a b c : Step) → IsBefore a b → IsBefore b c → IsBefore a c
before_more a b c h k = by (before_cases a b h) (before_cases b c k)
  where
    by : (a.stamp < b.stamp) ⊎ ((a.stamp ≡ b.stamp) × (a.place < b.place)) → (b.stamp < c.stamp) ⊎ ((b.stamp ≡ c.stamp) × (b.place < c.place)) → IsBefore a c
    by (inl low) (inl low') = before_from a c (inl (omega arith))
    by (inl low) (inr (same', low')) = before_from a c (inl (omega arith))
    by (inr (same, low)) (inl low') = before_from a c (inl (omega arith))
    by (inr (same, low)) (inr (same', low')) = before_from a c (inr (same ∙ same', omega arith))

rises_after : (s : Step) (ss : List Step) → rise_after (Some s) ss ≡ true → Rises IsBefore (s ∷ ss)
rises_after s [] h = (All-nil (IsBefore s), tt)
rises_after s (t ∷ ss) h =
    let parts = and_parts (is_before s t) (rise_after (Some t) ss) h in
    let later : Rises IsBefore (t ∷ ss) = rises_after t ss parts.1 in
    (All-cons (IsBefore s) t ss parts.0 (All-weaker (IsBefore t) (IsBefore s) (λ u. before_more s t u parts.0) ss later.0), later)

rises : (ss : List Step) → rise_after None ss ≡ true → Rises IsBefore ss
rises [] h = tt
rises (s ∷ ss) h = rises_after s ss h

-- steps whose stamps climb rise
climbs_after : (s : Step) (ss : List Step) → climb_after (Some s.stamp) (map (λ (t : Step). t.stamp) ss) ≡ true → rise_after (Some s) ss ≡ true
climbs_after s [] h = refl
climbs_after s (t ∷ ss) h =
    let parts = and_parts (nat_lt s.stamp t.stamp) (climb_after (Some t.stamp) (map (λ (u : Step). u.stamp) ss)) h in
    and_from (is_before s t) (rise_after (Some t) ss) (before_from s t (inl (ltb-true s.stamp t.stamp parts.0))) (climbs_after t ss parts.1)

climbs : (ss : List Step) → climb_after None (map (λ (t : Step). t.stamp) ss) ≡ true → Rises IsBefore ss
climbs [] h = tt
climbs (s ∷ ss) h = rises_after s ss (climbs_after s ss h)

-- ---- the steps of each list

abbrev pub same_list : Origin → Origin → Bool
same_list Board Board = true
same_list (Session j) (Session k) = j == k
same_list (Server j) (Server k) = j == k
same_list _ _ = false

-- the step is of this list
abbrev pub is_of : Origin → Step → Bool
is_of origin step = same_list origin step.origin

-- all steps are of this list
abbrev AreOf : Origin → List Step → Type 0
AreOf origin ss = All (λ (s : Step). s.origin ≡ origin) ss

all_or_none : (o from : Origin) (ss : List Step) → AreOf from ss → filter (is_of o) ss ≡ (if same_list o from then ss else [])
all_or_none o from [] are = elim (same_list o from) as (λ b. ◌≡◌ {A = List Step} [] (if b then [] else [])) [ true ↦ refl | false ↦ refl ]
all_or_none o from (s ∷ ss) are = go (same_list o from) refl (all_or_none o from ss (All-tail (λ (t : Step). t.origin ≡ from) s ss are))
  where
    here : is_of o s ≡ same_list o from
    here = ap (same_list o) (All-head (λ (t : Step). t.origin ≡ from) s ss are)

    go : (b : Bool) → same_list o from ≡ b → filter (is_of o) ss ≡ (if same_list o from then ss else []) → filter (is_of o) (s ∷ ss) ≡ (if same_list o from then s ∷ ss else [])
    go true is later = let passes : is_of o s ≡ true = here ∙ is in let rest : filter (is_of o) ss ≡ ss = rw is at later in rw (passes, is) (ap (λ l. s ∷ l) rest)
    go false is later = let fails : is_of o s ≡ false = here ∙ is in let rest : filter (is_of o) ss ≡ [] = rw is at later in rw (fails, is) rest

board_are : (at : ℕ) (es : List BoardEntry) → AreOf Board (board_steps at es)
board_are at [] = All-nil (λ (s : Step). s.origin ≡ Board)
board_are at (e ∷ es) = All-cons (λ (s : Step). s.origin ≡ Board) (record { stamp = e.stamp; place = 0; origin = Board; at = at }) (board_steps (at + 1) es) refl (board_are (at + 1) es)

session_are : (k at : ℕ) (es : List SessionEntry) → AreOf (Session k) (session_steps k at es)
session_are k at [] = All-nil (λ (s : Step). s.origin ≡ Session k)
session_are k at (e ∷ es) = All-cons (λ (s : Step). s.origin ≡ Session k) (record { stamp = e.stamp; place = 0; origin = Session k; at = at }) (session_steps k (at + 1) es) refl (session_are k (at + 1) es)

served_are : (place server at : ℕ) (es : List CellEntry) → AreOf (Server server) (served_steps place server at es)
served_are place server at [] = All-nil (λ (s : Step). s.origin ≡ Server server)
served_are place server at (Served letter reply ∷ es) = All-cons (λ (s : Step). s.origin ≡ Server server) (record { stamp = reply.stamp; place = place; origin = Server server; at = at }) (served_steps place server (at + 1) es) refl (served_are place server (at + 1) es)
served_are place server at (Stop stamp ∷ es) = served_are place server (at + 1) es
served_are place server at (Back stamp ∷ es) = served_are place server (at + 1) es

-- ---- what the steps of all lists have of one

no_sessions : (o : Origin) (from : ℕ) (ls : List (List SessionEntry)) → ((k : ℕ) → k < from + length ls → from < k + 1 → same_list o (Session k) ≡ false) → filter (is_of o) (sessions_steps from ls) ≡ []
no_sessions o from [] none = refl
no_sessions o from (l ∷ ls) none =
    filter-append (is_of o) (session_steps from 0 l) (sessions_steps (from + 1) ls)
    ∙ ap (λ x. x ++ filter (is_of o) (sessions_steps (from + 1) ls)) (all_or_none o (Session from) (session_steps from 0 l) (session_are from 0 l) ∙ ap (λ b. if b then session_steps from 0 l else []) (none from (omega arith) (omega arith)))
    ∙ no_sessions o (from + 1) ls (λ k low high. none k (omega arith) (omega arith))

no_cells : (o : Origin) → ((k : ℕ) → same_list o (Server k) ≡ false) → (from : ℕ) (ls : List (List CellEntry)) → filter (is_of o) (cells_steps from ls) ≡ []
no_cells o none from [] = refl
no_cells o none from (l ∷ ls) =
    filter-append (is_of o) (served_steps (from + 1) from 0 l) (cells_steps (from + 1) ls)
    ∙ ap (λ x. x ++ filter (is_of o) (cells_steps (from + 1) ls)) (all_or_none o (Server from) (served_steps (from + 1) from 0 l) (served_are (from + 1) from 0 l) ∙ ap (λ b. if b then served_steps (from + 1) from 0 l else []) (none from))
    ∙ no_cells o none (from + 1) ls

one_session : (k from i : ℕ) (ls : List (List SessionEntry)) (l : List SessionEntry) → from + i ≡ k → slice_get ls i ≡ Some l → filter (is_of (Session k)) (sessions_steps from ls) ≡ session_steps k 0 l
one_session k from i [] l at stands = absurd (cc)
one_session k from zero (x ∷ ls) l at stands =
    let same : x ≡ l = cc in
    let first : from ≡ k = omega arith in
    filter-append (is_of (Session k)) (session_steps from 0 x) (sessions_steps (from + 1) ls)
    ∙ ap (λ s. s ++ filter (is_of (Session k)) (sessions_steps (from + 1) ls))
    (all_or_none (Session k) (Session from) (session_steps from 0 x) (session_are from 0 x) ∙ ap (λ b. if b then session_steps from 0 x else []) (eq-eqb k from (sym first)))
    ∙ ap (λ s. session_steps from 0 x ++ s) (no_sessions (Session k) (from + 1) ls (λ n low high. ne_eqb k n (omega arith)))
    ∙ append-none (session_steps from 0 x)
    ∙ ap (λ n. session_steps n 0 x) first
    ∙ ap (session_steps k 0) same
one_session k from (suc i) (x ∷ ls) l at stands =
    filter-append (is_of (Session k)) (session_steps from 0 x) (sessions_steps (from + 1) ls)
    ∙ ap (λ s. s ++ filter (is_of (Session k)) (sessions_steps (from + 1) ls))
    (all_or_none (Session k) (Session from) (session_steps from 0 x) (session_are from 0 x) ∙ ap (λ b. if b then session_steps from 0 x else []) (ne_eqb k from (omega arith)))
    ∙ one_session k (from + 1) i ls l (omega arith) stands

all_of_board : (r : Records) → filter (is_of Board) (steps r) ≡ board_steps 0 r.board.items
all_of_board r =
    let board = board_steps 0 r.board.items in
    let sessions = sessions_steps 0 r.sessions.items in
    let cells = cells_steps 0 r.cells.items in
    filter-append (is_of Board) (board ++ sessions) cells
    ∙ ap (λ x. filter (is_of Board) (board ++ sessions) ++ x) (no_cells Board (λ k. refl) 0 r.cells.items)
    ∙ append-none (filter (is_of Board) (board ++ sessions))
    ∙ filter-append (is_of Board) board sessions
    ∙ ap (λ x. x ++ filter (is_of Board) sessions) (all_or_none Board Board board (board_are 0 r.board.items))
    ∙ ap (λ x. board ++ x) (no_sessions Board 0 r.sessions.items (λ k low high. refl))
    ∙ append-none board

all_of_session : (r : Records) (k : ℕ) (entries : List SessionEntry) → slice_get r.sessions.items k ≡ Some entries → filter (is_of (Session k)) (steps r) ≡ session_steps k 0 entries
all_of_session r k entries list =
    let board = board_steps 0 r.board.items in
    let sessions = sessions_steps 0 r.sessions.items in
    let cells = cells_steps 0 r.cells.items in
    filter-append (is_of (Session k)) (board ++ sessions) cells
    ∙ ap (λ x. filter (is_of (Session k)) (board ++ sessions) ++ x) (no_cells (Session k) (λ n. refl) 0 r.cells.items)
    ∙ append-none (filter (is_of (Session k)) (board ++ sessions))
    ∙ filter-append (is_of (Session k)) board sessions
    ∙ ap (λ x. x ++ filter (is_of (Session k)) sessions) (all_or_none (Session k) Board board (board_are 0 r.board.items))
    ∙ one_session k 0 k r.sessions.items entries (omega arith) list

-- ---- the stamps of a list are those of its steps

board_stamps : (at : ℕ) (es : List BoardEntry) → map (λ (s : Step). s.stamp) (board_steps at es) ≡ map (λ (e : BoardEntry). e.stamp) es
board_stamps at [] = refl
board_stamps at (e ∷ es) = ap (λ l. e.stamp ∷ l) (board_stamps (at + 1) es)

session_stamps : (k at : ℕ) (es : List SessionEntry) → map (λ (s : Step). s.stamp) (session_steps k at es) ≡ map (λ (e : SessionEntry). e.stamp) es
session_stamps k at [] = refl
session_stamps k at (e ∷ es) = ap (λ l. e.stamp ∷ l) (session_stamps k (at + 1) es)

-- ---- the law

-- steps of one list, whose stamps climb, stand in the order of all as they stand there
list_in_order : (r : Records) (order : List Step) (origin : Origin) (list : List Step) → IsOrderOf r order → filter (is_of origin) (steps r) ≡ list → climb_after None (map (λ (s : Step). s.stamp) list) ≡ true → filter (is_of origin) order ≡ list
list_in_order r order origin list is are climb = in_order IsBefore asymmetric (is_of origin) (steps r) order is.same (rises order is.rising) (subst (Rises IsBefore) (sym are) (climbs list climb)) ∙ are

-- the changes of the board are in the order of all steps as they are on the board
pub board_in_order : (r : Records) (order : List Step) → IsOrderOf r order → AllClimb r → filter (is_of Board) order ≡ board_steps 0 r.board.items
board_in_order r order is climb =
    list_in_order r order Board (board_steps 0 r.board.items) is (all_of_board r)
    (ap (climb_after None) (board_stamps 0 r.board.items) ∙ climb.board)

-- the steps of each session are in the order of all steps as they are in its list
pub session_in_order : (r : Records) (order : List Step) (k : ℕ) (entries : List SessionEntry) → IsOrderOf r order → AllClimb r → slice_get r.sessions.items k ≡ Some entries → filter (is_of (Session k)) order ≡ session_steps k 0 entries
session_in_order r order k entries is climb list =
    list_in_order r order (Session k) (session_steps k 0 entries) is (all_of_session r k entries list)
    (ap (climb_after None) (session_stamps k 0 entries) ∙ own)
  where
    own : SessionClimbs entries
    own = subst SessionClimbs (get_or_from_slice_get r.sessions.items k entries entries list) (climb.sessions k entries (slice_get_within r.sessions.items k entries list))
