-- What is read off the turns and answers of a run is what its trace holds.
use Rattle.std.proofs.Common.{◌≡◌, ◌⊎◌, ℕ, suc, ◌+◌, true, ◌++◌, List, [], ◌∷◌, length, replicate, refl, sym, ap, ◌∙◌, subst, inl, inr, Option, arith}
use Rattle.std.specs.Prelude.{Contains}
use Rattle.std.proofs.lemmas.Bool.{true≢false}
use Rattle.std.proofs.lemmas.List.{append-nil, map-append}
use Rattle.gq_grid.specs.Grid.{Grid, Servers}
use Rattle.gq_tag.specs.declared.Tag.{Tag}
use Rattle.gq_tag.specs.Tag.{OwnMessage}
use Rattle.gq_desk.specs.declared.plans.TenantRow.{TenantRow}
use Rattle.gq_phase.specs.Phase.{Operation, with_reply, with_decided, in_round, round_messages}
use Rattle.gq_model.specs.Trace.{Turn, Entry, Trace, Past, sent, up}
use Rattle.gq_model.specs.Told.{Told, Chosen, Opened, VolumesAre, Began, Replied, IsDown, Stale, Round, Lost, Resent, Refused, ServerOk, ServerRefused}
use Rattle.gq_model.specs.Lone.{after, said, told_from, is_refusal}
use Rattle.gq_laws.proofs.Words.{op, round}
use Rattle.gq_laws.specs.Operations.{SessionAnswer, answered_from, session_answers_from, owners, session_of}
use Rattle.gq_laws.proofs.Shapes.{shape_of, shape_round}
use Rattle.gq_laws.proofs.RoundEnds.{Next, ToStore, ToCollect, Skips, next_of}
use Rattle.gq_laws.proofs.Acts.{Doing, Requests, Serves, Notes, Turns, Finishes, Resends, Abandons, GivesUp, Jumps, Silent, IsPassive, act, sessions, going, first_round}
use Rattle.gq_laws.proofs.Reaching.{Goes, goes_or_not}

-- ---- whose messages they are

all_of : (k : ℕ) (ms : List OwnMessage) → ((m : OwnMessage) → Contains ms m → m.session ≡ k) → sessions ms ≡ replicate (length ms) k
all_of k [] each = refl
all_of k (m ∷ ms) each =
    let here : m.session ≡ k = each m (0, omega arith, refl) in
    let later : sessions ms ≡ replicate (length ms) k = all_of k ms (λ x within. each x (suc within.0, omega (arith, within.1), within.2)) in
    cc

-- the messages of the round of session k's operation
of_round : (grid : Grid) (up : Servers) (o : Operation) (ms : List OwnMessage) → ms ≡ round_messages grid up o → sessions ms ≡ replicate (length ms) o.session
of_round grid up o ms is = all_of o.session ms (λ m within. (shape_round grid up o m (let P : List OwnMessage → Type 0 = λ z. Contains z m in subst P is within)).session)

of_next : (grid : Grid) (up : Servers) (o : Operation) (r : ℕ) (tag : Option Tag) (ms : List OwnMessage) → Next grid up o r tag ms → sessions ms ≡ replicate (length ms) o.session
of_next grid up o r tag ms (ToStore odd ends r_is tag_is new_is) = of_round grid up (in_round (with_decided o) r) ms new_is
of_next grid up o r tag ms (Skips v f lists odd ends skips r_is tag_is new_is) = of_round grid up (in_round (with_decided o) r) ms new_is
of_next grid up o r tag ms (ToCollect v f lists even ends r_is tag_is new_is) = of_round grid up (in_round o r) ms new_is

passive_owners : (k : ℕ) (a : Told) → IsPassive a → owners k a ≡ []
passive_owners k (Began op first count) h = absurd h
passive_owners k (Replied number) h = absurd h
passive_owners k (Round round tag first count) h = absurd h
passive_owners k (Resent first count) h = absurd h
passive_owners k _ h = refl

-- the messages that an entry sends are of the session of its answer
pub owners_are : (grid : Grid) (t : Trace) (e : Entry) (k : ℕ) → Doing grid t e k → owners k e.told ≡ sessions e.new
owners_are grid t e k (Requests line task first turn does is said new) =
    ap (owners k) said ∙ sym (of_round grid (up t) (first_round t k task) e.new new)
owners_are grid t e k (Serves l n within its to up message is said new) = ap (owners k) said ∙ ap (λ x. x ∷ []) (sym its) ∙ ap sessions (sym new)
owners_are grid t e k (Notes l task comes is said new) = ap (owners k) said ∙ ap sessions (sym new)
owners_are grid t e k (Turns l task r tag first comes message is said heard) =
    ap (owners k) said ∙ sym (of_next grid (up t) (with_reply (going t k task) l) r tag e.new (next_of grid (up t) (with_reply (going t k task) l) r tag e.new heard))
owners_are grid t e k (Finishes l task outcome comes is said new heard) = ap (owners k) said ∙ ap sessions (sym new)
owners_are grid t e k (Resends task set first busy is said new) =
    ap (owners k) said ∙ sym (all_of k e.new (λ m within. (shape_of grid (going t k task) set m (let P : List OwnMessage → Type 0 = λ z. Contains z m in subst P new within)).session))
owners_are grid t e k (Abandons is said new) = ap (owners k) said ∙ ap sessions (sym new)
owners_are grid t e k (GivesUp is passive new) = passive_owners k e.told passive ∙ ap sessions (sym new)
owners_are grid t e k (Jumps last number idle is passive new) = passive_owners k e.told passive ∙ ap sessions (sym new)
owners_are grid t e k (Silent is passive new) = passive_owners k e.told passive ∙ ap sessions (sym new)

pub refusal_passive : (a : Told) → is_refusal a ≡ true → IsPassive a
refusal_passive (Refused word) h = tt
refusal_passive (ServerRefused word) h = tt
refusal_passive (Chosen choice servers) h = tt
refusal_passive (Opened v) h = tt
refusal_passive (VolumesAre f v) h = tt
refusal_passive IsDown h = tt
refusal_passive Stale h = tt
refusal_passive Lost h = tt
refusal_passive ServerOk h = tt
refusal_passive _ h = absurd (true≢false (sym h))

pub owned_after : (grid : Grid) (row : TenantRow) (p : Past) (x : Turn) →
    sessions (sent p.trace) ++ owners (session_of (sessions (sent p.trace)) x) (said grid row p x) ≡ sessions (sent (after grid row p x).trace)
owned_after grid row p x = go (goes_or_not grid row p x)
  where
    s : ℕ
    s = session_of (sessions (sent p.trace)) x

    go : (((after grid row p x).trace ≡ p.trace) × (is_refusal (said grid row p x) ≡ true)) ⊎ Goes grid row p x → sessions (sent p.trace) ++ owners s (said grid row p x) ≡ sessions (sent (after grid row p x).trace)
    go (inl same) = ap (λ z. sessions (sent p.trace) ++ z) (passive_owners s (said grid row p x) (refusal_passive (said grid row p x) same.1)) ∙ append-nil (sessions (sent p.trace)) ∙ ap (λ z. sessions (sent z)) (sym same.0)
    go (inr g) =
        let a = act grid row p.trace g.e g.follows in
        let its : s ≡ a.k = ap (session_of (sessions (sent p.trace))) (sym g.turn) ∙ a.about in
        let own : owners s (said grid row p x) ≡ sessions g.e.new = ap (owners s) (sym g.told) ∙ ap (λ z. owners z g.e.told) its ∙ owners_are grid p.trace g.e a.k a.what in
        ap (λ z. sessions (sent p.trace) ++ z) own ∙ sym (map-append (λ m. m.session) (sent p.trace) g.e.new) ∙ ap (λ z. sessions (sent z)) (sym g.grown)

-- ---- the turns with their answers, from a past on

-- the turn at place n with its answer and its session
abbrev pub first_told : Grid → TenantRow → Past → ℕ → Turn → SessionAnswer
first_told grid row p n x = record { place = n; turn = x; told = said grid row p x; session = session_of (sessions (sent p.trace)) x }

-- the turns from there on
abbrev pub tells : Grid → TenantRow → Past → ℕ → List Turn → List SessionAnswer
tells grid row p n es = session_answers_from (sessions (sent p.trace)) (answered_from n es (told_from grid row p es))

pub tells-cons : (grid : Grid) (row : TenantRow) (p : Past) (n : ℕ) (x : Turn) (es : List Turn) → tells grid row p n (x ∷ es) ≡ first_told grid row p n x ∷ tells grid row (after grid row p x) (n + 1) es
tells-cons grid row p n x es = ap (λ owned. first_told grid row p n x ∷ session_answers_from owned (answered_from (n + 1) es (told_from grid row (after grid row p x) es))) (owned_after grid row p x)
