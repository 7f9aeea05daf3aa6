-- Which of the messages sent an operation counts on.
use Rattle.std.proofs.Common.{◌≡◌, ◌∙◌, ℕ, ◌+◌, ◌<◌, Bool, true, false, ◌&&◌, ◌||◌, not, List, [], ◌∷◌, ◌++◌, refl, ap, subst, Option, Some, None, arith, inl, inr, All}
use Rattle.std.specs.Prelude.{is_some, ◌==◌}
use Rattle.std.specs.List.{list_any}
use Rattle.std.proofs.lemmas.Bool.{cases_eq, ne_eqb, cases_Bool}
use Rattle.std.proofs.lemmas.List.Folds.{list_any-append}
use Rattle.std.proofs.lemmas.List.Elements.{All-head, All-tail, All-map, All-nil, All-weaker}
use Rattle.std.proofs.lemmas.Nat.Bits.{bit_at-zero}
use Rattle.gq_grid.specs.Grid.{Grid, Servers, rising}
use Rattle.gq_grid.specs.Sets.{servers, no_set}
use Rattle.gq_grid.proofs.Same.{or-false}
use Rattle.gq_tag.specs.declared.StoredCopy.{StoredCopy}
use Rattle.gq_tag.specs.Tag.{OwnMessage, to_server}
use Rattle.gq_phase.specs.Phase.{Operation, is_collect, round_file, round_body, round_quorum, round_messages, messages_to}
use Rattle.gq_model.specs.Trace.{State, Session, counts_on, is_awaited}
use Rattle.gq_world.specs.Bounds.{IsOfSession}

-- the message is a reply that the session, which stands so, counts on the server for
abbrev pub counted : ℕ → Session → ℕ → OwnMessage → Bool
counted k s server message = not (to_server message.body) && ((message.session == k) && ((server == message.server) && is_awaited s message))

none_counted : (k : ℕ) (s : Session) (server : ℕ) (ms : List OwnMessage) → All (λ m. counted k s server m ≡ false) ms → list_any (counted k s server) ms ≡ false
none_counted k s server [] all = refl
none_counted k s server (m ∷ ms) all = rw (All-head (λ m. counted k s server m ≡ false) m ms all) (none_counted k s server ms (All-tail (λ m. counted k s server m ≡ false) m ms all))

-- messages that don't count change nothing
pub more_counted : (sent new : List OwnMessage) (k : ℕ) (s : Session) (server : ℕ) → All (λ m. counted k s server m ≡ false) new → counts_on (sent ++ new) k s server ≡ counts_on sent k s server
more_counted sent new k s server all =
    list_any-append (counted k s server) sent new
    ∙ ap (λ b. list_any (counted k s server) sent || b) (none_counted k s server new all)
    ∙ or-false (list_any (counted k s server) sent)

-- one more
pub one_counted : (sent : List OwnMessage) (m : OwnMessage) (k : ℕ) (s : Session) (server : ℕ) → counts_on (sent ++ m ∷ []) k s server ≡ (counts_on sent k s server || counted k s server m)
one_counted sent m k s server = list_any-append (counted k s server) sent (m ∷ []) ∙ ap (λ b. list_any (counted k s server) sent || b) (or-false (counted k s server m))

-- in the set of no server is none
pub none_in : (server : ℕ) → servers no_set server ≡ false
unfolding servers
none_in server = rw bit_at-zero refl

-- ---- messages to servers

IsOut : OwnMessage → Type 0
IsOut m = to_server m.body ≡ true

out_uncounted : (k : ℕ) (s : Session) (server : ℕ) (m : OwnMessage) → to_server m.body ≡ true → counted k s server m ≡ false
out_uncounted k s server m is = rw is refl

every : (P : ℕ → Type 0) (xs : List ℕ) → ((x : ℕ) → P x) → All P xs
every P [] all = All-nil P
every P (x ∷ xs) all = Rattle.std.proofs.lemmas.List.Elements.All-cons P x xs (all x) (every P xs all)

body_out : (round : ℕ) (collected : List StoredCopy) → to_server (round_body round collected) ≡ true
body_out round collected = elim (cases_Bool (is_collect round)) [
  | inl is ↦ (rw is refl)
  | inr is ↦ (rw is refl)
]

pub messages_uncounted : (grid : Grid) (o : Operation) (set : Servers) (k : ℕ) (s : Session) (server : ℕ) → All (λ m. counted k s server m ≡ false) (messages_to grid o set)
messages_uncounted grid o set k s server =
    let f : ℕ → OwnMessage = λ to. record { session = o.session; op = o.op; round = o.round; server = to; file = round_file o.task o.round; body = round_body o.round o.collected } in
    All-map (λ m. counted k s server m ≡ false) f (rising grid set) (every (λ to. counted k s server (f to) ≡ false) (rising grid set) (λ to. out_uncounted k s server (f to) (body_out o.round o.collected)))

pub round_uncounted : (grid : Grid) (up : Servers) (o : Operation) (k : ℕ) (s : Session) (server : ℕ) → All (λ m. counted k s server m ≡ false) (round_messages grid up o)
round_uncounted grid up o k s server = by (round_quorum grid up o.round) refl
  where
    by : (q : Option Servers) → round_quorum grid up o.round ≡ q → All (λ m. counted k s server m ≡ false) (round_messages grid up o)
    by None is = rw is (All-nil (λ m. counted k s server m ≡ false))
    by (Some set) is = rw is (messages_uncounted grid o set k s server)

-- ---- an operation or a round that begins

not_awaited : (a b c d : Bool) → d ≡ false → (a && (b && (c && d))) ≡ false
not_awaited false b c d is = refl
not_awaited true false c d is = refl
not_awaited true true false d is = refl
not_awaited true true true d is = is

pub not_own : (a b c : Bool) → b ≡ false → (a && (b && c)) ≡ false
not_own false b c is = refl
not_own true false c is = refl
not_own true true c is = absurd (cc)

-- none of the messages sent counts, where none of the session's own is awaited
none_awaited : (state : State) (k : ℕ) (s : Session) (server : ℕ) → All (λ m. IsOfSession (state.session m.session) m) state.sent → ((m : OwnMessage) → IsOfSession (state.session k) m → is_awaited s m ≡ false) → counts_on state.sent k s server ≡ false
none_awaited state k s server owners none = none_counted k s server state.sent (All-weaker (λ m. IsOfSession (state.session m.session) m) (λ m. counted k s server m ≡ false) (λ m is. elim (cases_eq m.session k) [
  | inl same ↦ (not_awaited (not (to_server m.body)) (m.session == k) (server == m.server) (is_awaited s m) (none m (subst (λ j. IsOfSession (state.session j) m) same is)))
  | inr other ↦ (not_own (not (to_server m.body)) (m.session == k) ((server == m.server) && is_awaited s m) (ne_eqb m.session k other))
]) state.sent owners)

-- of an operation that begins
pub begun_uncounted : (state : State) (k : ℕ) (s : Session) (server : ℕ) → All (λ m. IsOfSession (state.session m.session) m) state.sent → s.op ≡ (state.session k).op + 1 → counts_on state.sent k s server ≡ false
begun_uncounted state k s server owners next = none_awaited state k s server owners (λ m is. of_other (is_some s.current) (m.op == s.op) (m.round == s.round) (ne_eqb m.op s.op (λ e. let low = is.begun in absurd (omega (arith, e, next)))))
  where
    of_other : (a b c : Bool) → b ≡ false → (a && b && c) ≡ false
    of_other false b c is = refl
    of_other true false c is = refl
    of_other true true c is = absurd (cc)

-- of a round that begins
pub next_uncounted : (state : State) (k : ℕ) (s : Session) (server : ℕ) → All (λ m. IsOfSession (state.session m.session) m) state.sent → s.op ≡ (state.session k).op → (state.session k).round < s.round → counts_on state.sent k s server ≡ false
next_uncounted state k s server owners same later = none_awaited state k s server owners (λ m is. elim (cases_eq m.op s.op) [
  | inr other ↦ (of_other (is_some s.current) (m.op == s.op) (m.round == s.round) (ne_eqb m.op s.op other))
  | inl own ↦ (before (is_some s.current) (m.op == s.op) (m.round == s.round) (ne_eqb m.round s.round (λ e. let low = is.round (own ∙ same) in absurd (omega (arith, e, later)))))
])
  where
    of_other : (a b c : Bool) → b ≡ false → (a && b && c) ≡ false
    of_other false b c is = refl
    of_other true false c is = refl
    of_other true true c is = absurd (cc)

    before : (a b c : Bool) → c ≡ false → (a && b && c) ≡ false
    before false b c is = refl
    before true false c is = refl
    before true true c is = is

-- a session that stands as before in what is counted, after messages that don't count
pub same_counted : (sent : List OwnMessage) (k : ℕ) (s after : Session) (server : ℕ) → after.op ≡ s.op → after.current ≡ s.current → after.round ≡ s.round → counts_on sent k after server ≡ counts_on sent k s server
same_counted sent k s after server op current round =
    ap (λ test. list_any test sent) (Rattle.std.proofs.Math.Path.fun_ext (λ m. ap (λ awaited. not (to_server m.body) && ((m.session == k) && ((server == m.server) && awaited)))
    (ap (λ c. is_some c && (m.op == after.op) && (m.round == after.round)) current ∙ ap (λ n. is_some s.current && (m.op == n) && (m.round == after.round)) op ∙ ap (λ r. is_some s.current && (m.op == s.op) && (m.round == r)) round)))
