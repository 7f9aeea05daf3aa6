-- One turn as session k sees it: in the trace, and in what is read off the answers.
use Rattle.std.proofs.Common.{◌≡◌, ◌≢◌, ◌⊎◌, ℕ, ◌+◌, true, List, ◌∷◌, length, refl, sym, ap, ◌∙◌, subst, inl, inr, Option, Some, None}
use Rattle.std.specs.Prelude.{⊤}
use Rattle.std.proofs.lemmas.Bool.{cases_eq, eq-eqb, ne_eqb}
use Rattle.gq_grid.specs.Grid.{Grid}
use Rattle.gq_tag.specs.declared.Tag.{Tag}
use Rattle.gq_tag.specs.Tag.{OwnMessage}
use Rattle.gq_desk.specs.declared.plans.TenantRow.{TenantRow}
use Rattle.gq_phase.specs.Phase.{Task, HeardNext, HeardDone, hear_current, with_reply}
use Rattle.gq_phase.specs.declared.Outcome.{Outcome}
use Rattle.gq_model.specs.declared.events.Line.{Line}
use Rattle.gq_model.specs.Trace.{Turn, Own, Entry, Trace, Past, Elsewhere, Begins, Hears, Moves, Ends, Leaps, sent, up, task_of, volumes}
use Rattle.gq_model.specs.Told.{Told, Began, Replied, Noted, Round, Done, Resent, Abandoned}
use Rattle.gq_model.specs.Lone.{after, said, is_refusal}
use Rattle.gq_laws.proofs.Words.{deed_on, op, round, current, collected}
use Rattle.gq_laws.specs.Operations.{SessionAnswer, session_of, ending, write_tag}
use Rattle.gq_laws.proofs.Runs.{op_start, round_start}
use Rattle.gq_laws.proofs.Acts.{Act, Doing, Requests, Serves, Notes, Turns, Finishes, Resends, Abandons, GivesUp, Jumps, Silent, Comes, IsPassive, aside_stays, act, sessions, going}
use Rattle.gq_laws.proofs.Reaching.{Goes, goes_or_not}
use Rattle.gq_laws.proofs.Telling.{first_told, refusal_passive}

-- ---- what an answer leaves of an operation that goes on

-- the operation goes on
abbrev pub Keeps : Told → Type 0
Keeps (Done outcome) = ⊥
Keeps Abandoned = ⊥
Keeps (Began op first count) = ⊥
Keeps _ = ⊤

-- and in the same round
abbrev pub KeepsTag : Told → Type 0
KeepsTag (Done outcome) = ⊥
KeepsTag Abandoned = ⊥
KeepsTag (Began op first count) = ⊥
KeepsTag (Round round tag first count) = ⊥
KeepsTag _ = ⊤

keeps_both : (k n : ℕ) (x : Turn) (a : Told) (s : ℕ) (rest : List SessionAnswer) → s ≡ k → KeepsTag a →
    (ending k (record { place = n; turn = x; told = a; session = s } ∷ rest) ≡ ending k rest) × (write_tag k (record { place = n; turn = x; told = a; session = s } ∷ rest) ≡ write_tag k rest)
keeps_both k n x (Done outcome) s rest e h = absurd h
keeps_both k n x Abandoned s rest e h = absurd h
keeps_both k n x (Began op first count) s rest e h = absurd h
keeps_both k n x (Round round tag first count) s rest e h = absurd h
keeps_both k n x _ s rest e h = (rw (eq-eqb s k e), rw (eq-eqb s k e))

others_both : (k n : ℕ) (x : Turn) (a : Told) (s : ℕ) (rest : List SessionAnswer) → s ≢ k →
    (ending k (record { place = n; turn = x; told = a; session = s } ∷ rest) ≡ ending k rest) × (write_tag k (record { place = n; turn = x; told = a; session = s } ∷ rest) ≡ write_tag k rest)
others_both k n x a s rest ne = (rw (ne_eqb s k ne), rw (ne_eqb s k ne))

at_round : (k n : ℕ) (x : Turn) (a : Told) (s r first count : ℕ) (tag : Option Tag) (rest : List SessionAnswer) → s ≡ k → a ≡ Round r tag first count →
    (ending k (record { place = n; turn = x; told = a; session = s } ∷ rest) ≡ ending k rest) × (write_tag k (record { place = n; turn = x; told = a; session = s } ∷ rest) ≡ tag)
at_round k n x a s r first count tag rest e is = (rw (is, eq-eqb s k e), rw (is, eq-eqb s k e))

at_done : (k n : ℕ) (x : Turn) (a : Told) (s : ℕ) (outcome : Outcome) (rest : List SessionAnswer) → s ≡ k → a ≡ Done outcome →
    (ending k (record { place = n; turn = x; told = a; session = s } ∷ rest) ≡ Some (n, outcome)) × (write_tag k (record { place = n; turn = x; told = a; session = s } ∷ rest) ≡ None)
at_done k n x a s outcome rest e is = (rw (is, eq-eqb s k e), rw (is, eq-eqb s k e))

at_abandoned : (k n : ℕ) (x : Turn) (a : Told) (s : ℕ) (rest : List SessionAnswer) → s ≡ k → a ≡ Abandoned →
    (ending k (record { place = n; turn = x; told = a; session = s } ∷ rest) ≡ None) × (write_tag k (record { place = n; turn = x; told = a; session = s } ∷ rest) ≡ None)
at_abandoned k n x a s rest e is = (rw (is, eq-eqb s k e), rw (is, eq-eqb s k e))

at_began : (k n : ℕ) (x : Turn) (a : Told) (s o first count : ℕ) (rest : List SessionAnswer) → s ≡ k → a ≡ Began o first count →
    (ending k (record { place = n; turn = x; told = a; session = s } ∷ rest) ≡ None) × (write_tag k (record { place = n; turn = x; told = a; session = s } ∷ rest) ≡ None)
at_began k n x a s o first count rest e is = (rw (is, eq-eqb s k e), rw (is, eq-eqb s k e))

-- ---- the view

-- session k's operation is where it was
pub record Unmoved (later t : Trace) (k : ℕ) : Type 0 where
  pub op : op later k ≡ op t k
  pub current : current later k ≡ current t k
  pub round : round later k ≡ round t k
  pub collected : collected later k ≡ collected t k
  pub op_start : op_start later k ≡ op_start t k
  pub round_start : round_start later k ≡ round_start t k

-- the turn's part in how an operation of session k ends, and in the tag that its write makes
abbrev pub Ending : SessionAnswer → ℕ → (List SessionAnswer → Option (ℕ × Outcome)) → Type 0
Ending y k f = (rest : List SessionAnswer) → ending k (y ∷ rest) ≡ f rest

-- and in the tag of its store round
abbrev pub Tagging : SessionAnswer → ℕ → (List SessionAnswer → Option Tag) → Type 0
Tagging y k f = (rest : List SessionAnswer) → write_tag k (y ∷ rest) ≡ f rest

-- what the turn is to session k
pub data View (grid : Grid) (row : TenantRow) (p : Past) (n : ℕ) (x : Turn) (k : ℕ) : Type 0 where
  Quiet : Unmoved (after grid row p x).trace p.trace k →
      Ending (first_told grid row p n x) k (ending k) → Tagging (first_told grid row p n x) k (write_tag k) → View grid row p n x k
  Turned : (g : Goes grid row p x) (l : OwnMessage) (task : Task) (r : ℕ) (tag : Option Tag) → Comes p.trace k l task → g.e.message ≡ Some l → deed_on p.trace k g.e ≡ Moves l r tag → hear_current grid (up p.trace) (with_reply (going p.trace k task) l) ≡ HeardNext r tag g.e.new →
      Ending (first_told grid row p n x) k (ending k) → Tagging (first_told grid row p n x) k (λ rest. tag) → View grid row p n x k
  Finished : (g : Goes grid row p x) (l : OwnMessage) (task : Task) (outcome : Outcome) → Comes p.trace k l task → deed_on p.trace k g.e ≡ Ends → hear_current grid (up p.trace) (with_reply (going p.trace k task) l) ≡ HeardDone outcome →
      Ending (first_told grid row p n x) k (λ rest. Some (n, outcome)) → Tagging (first_told grid row p n x) k (λ rest. None) → View grid row p n x k
  Started : (g : Goes grid row p x) (line : Line) (task : Task) (first count : ℕ) → x ≡ Own line → said grid row p x ≡ Began (op p.trace k + 1) first count → deed_on p.trace k g.e ≡ Begins line → task_of (volumes p.trace) line ≡ Some task →
      Ending (first_told grid row p n x) k (λ rest. None) → Tagging (first_told grid row p n x) k (λ rest. None) → View grid row p n x k
  Stopped : (g : Goes grid row p x) → deed_on p.trace k g.e ≡ Ends →
      Ending (first_told grid row p n x) k (λ rest. None) → Tagging (first_told grid row p n x) k (λ rest. None) → View grid row p n x k
  GivenUp : (g : Goes grid row p x) → deed_on p.trace k g.e ≡ Ends →
      Ending (first_told grid row p n x) k (ending k) → Tagging (first_told grid row p n x) k (write_tag k) → View grid row p n x k
  Jumped : (g : Goes grid row p x) (last number : ℕ) → current p.trace k ≡ None → deed_on p.trace k g.e ≡ Leaps last number →
      Ending (first_told grid row p n x) k (ending k) → Tagging (first_told grid row p n x) k (write_tag k) → View grid row p n x k

unmoved_same : (later t : Trace) (k : ℕ) → later ≡ t → Unmoved later t k
unmoved_same later t k same = record { op = rw same; current = rw same; round = rw same; collected = rw same; op_start = rw same; round_start = rw same }

pub elsewhere_unmoved : (t : Trace) (e : Entry) (k : ℕ) → deed_on t k e ≡ Elsewhere → Unmoved (e ∷ t) t k
elsewhere_unmoved t e k is = record { op = rw (is, op); current = rw (is, current); round = rw (is, round); collected = rw (is, collected); op_start = rw is; round_start = rw is }

pub hears_unmoved : (t : Trace) (e : Entry) (k : ℕ) (l : OwnMessage) → deed_on t k e ≡ Hears l → Unmoved (e ∷ t) t k
hears_unmoved t e k l is = record { op = rw (is, op); current = rw (is, current); round = rw (is, round); collected = rw (is, collected); op_start = rw is; round_start = rw is }

unmoved_grown : (later t : Trace) (e : Entry) (k : ℕ) → later ≡ e ∷ t → Unmoved (e ∷ t) t k → Unmoved later t k
unmoved_grown later t e k grown u = let P : Trace → Type 0 = λ z. Unmoved z t k in subst P (sym grown) u

passive_keeps : (a : Told) → IsPassive a → KeepsTag a
passive_keeps (Began op first count) h = absurd h
passive_keeps (Replied number) h = absurd h
passive_keeps Noted h = absurd h
passive_keeps (Round round tag first count) h = absurd h
passive_keeps (Done outcome) h = absurd h
passive_keeps (Resent first count) h = absurd h
passive_keeps Abandoned h = absurd h
passive_keeps _ h = tt

quiet_by : (grid : Grid) (row : TenantRow) (p : Past) (n : ℕ) (x : Turn) (k : ℕ) → Unmoved (after grid row p x).trace p.trace k → (session_of (sessions (sent p.trace)) x ≡ k → KeepsTag (said grid row p x)) → View grid row p n x k
quiet_by grid row p n x k unmoved keeps = go (cases_eq (session_of (sessions (sent p.trace)) x) k)
  where
    s : ℕ
    s = session_of (sessions (sent p.trace)) x

    go : (s ≡ k) ⊎ (s ≢ k) → View grid row p n x k
    go (inl e) = Quiet unmoved (λ rest. (keeps_both k n x (said grid row p x) s rest e (keeps e)).0) (λ rest. (keeps_both k n x (said grid row p x) s rest e (keeps e)).1)
    go (inr ne) = Quiet unmoved (λ rest. (others_both k n x (said grid row p x) s rest ne).0) (λ rest. (others_both k n x (said grid row p x) s rest ne).1)

by_what : (grid : Grid) (row : TenantRow) (p : Past) (n : ℕ) (x : Turn) (k : ℕ) (g : Goes grid row p x) → session_of (sessions (sent p.trace)) x ≡ k → Doing grid p.trace g.e k → View grid row p n x k
by_what grid row p n x k g about what = go what
  where
    s : ℕ
    s = session_of (sessions (sent p.trace)) x

    a : Told
    a = said grid row p x

    still : Unmoved (g.e ∷ p.trace) p.trace k → Unmoved (after grid row p x).trace p.trace k
    still u = unmoved_grown (after grid row p x).trace p.trace g.e k g.grown u

    keep : (b : Told) → g.e.told ≡ b → KeepsTag b → KeepsTag a
    keep b is h = let P : Told → Type 0 = λ z. KeepsTag z in subst P (sym is ∙ g.told) h

    go : Doing grid p.trace g.e k → View grid row p n x k
    go (Requests line task first turn does is said_is new) =
        let e : a ≡ Began (op p.trace k + 1) first (length g.e.new) = sym g.told ∙ said_is in
        Started g line task first _ (sym g.turn ∙ turn) e is does (λ rest. (at_began k n x a s _ first _ rest about e).0) (λ rest. (at_began k n x a s _ first _ rest about e).1)
    go (Serves l m within its to up' message is said_is new) = quiet_by grid row p n x k (still (elsewhere_unmoved p.trace g.e k is)) (λ same. keep (Replied m) said_is tt)
    go (Notes l task comes is said_is new) = quiet_by grid row p n x k (still (hears_unmoved p.trace g.e k l is)) (λ same. keep Noted said_is tt)
    go (Turns l task r tag first comes message is said_is heard) =
        let e : a ≡ Round r tag first (length g.e.new) = sym g.told ∙ said_is in
        Turned g l task r tag comes message is heard (λ rest. (at_round k n x a s r first _ tag rest about e).0) (λ rest. (at_round k n x a s r first _ tag rest about e).1)
    go (Finishes l task outcome comes is said_is new heard) =
        let e : a ≡ Done outcome = sym g.told ∙ said_is in
        Finished g l task outcome comes is heard (λ rest. (at_done k n x a s outcome rest about e).0) (λ rest. (at_done k n x a s outcome rest about e).1)
    go (Resends task set first busy is said_is new) = quiet_by grid row p n x k (still (elsewhere_unmoved p.trace g.e k is)) (λ same. keep (Resent first (length g.e.new)) said_is tt)
    go (Abandons is said_is new) =
        let e : a ≡ Abandoned = sym g.told ∙ said_is in
        Stopped g is (λ rest. (at_abandoned k n x a s rest about e).0) (λ rest. (at_abandoned k n x a s rest about e).1)
    go (GivesUp is passive new) =
        let kept : KeepsTag a = keep g.e.told refl (passive_keeps g.e.told passive) in
        GivenUp g is (λ rest. (keeps_both k n x a s rest about kept).0) (λ rest. (keeps_both k n x a s rest about kept).1)
    go (Jumps last number idle is passive new) =
        let kept : KeepsTag a = keep g.e.told refl (passive_keeps g.e.told passive) in
        Jumped g last number idle is (λ rest. (keeps_both k n x a s rest about kept).0) (λ rest. (keeps_both k n x a s rest about kept).1)
    go (Silent is passive new) = quiet_by grid row p n x k (still (elsewhere_unmoved p.trace g.e k is)) (λ same. keep g.e.told refl (passive_keeps g.e.told passive))

-- what the turn is to session k
pub view : (grid : Grid) (row : TenantRow) (p : Past) (n : ℕ) (x : Turn) (k : ℕ) → View grid row p n x k
view grid row p n x k = go (goes_or_not grid row p x)
  where
    s : ℕ
    s = session_of (sessions (sent p.trace)) x

    go : (((after grid row p x).trace ≡ p.trace) × (is_refusal (said grid row p x) ≡ true)) ⊎ Goes grid row p x → View grid row p n x k
    go (inl same) = quiet_by grid row p n x k (unmoved_same (after grid row p x).trace p.trace k same.0) (λ e. passive_keeps (said grid row p x) (refusal_passive (said grid row p x) same.1))
    go (inr g) = by (act grid row p.trace g.e g.follows)
      where
        by : Act grid p.trace g.e → View grid row p n x k
        by a = its (cases_eq a.k k)
          where
            about : s ≡ a.k
            about = ap (session_of (sessions (sent p.trace))) (sym g.turn) ∙ a.about

            its : (a.k ≡ k) ⊎ (a.k ≢ k) → View grid row p n x k
            its (inl same) = let P : ℕ → Type 0 = λ z. Doing grid p.trace g.e z in by_what grid row p n x k g (about ∙ same) (subst P same a.what)
            its (inr ne) = aside (a.others k ne)
              where
                aside : (deed_on p.trace k g.e ≡ Elsewhere) ⊎ (deed_on p.trace k g.e ≡ Ends) → View grid row p n x k
                aside (inl is) = quiet_by grid row p n x k (unmoved_grown (after grid row p x).trace p.trace g.e k g.grown (elsewhere_unmoved p.trace g.e k is)) (λ e. absurd (ne (sym about ∙ e)))
                aside (inr is) =
                    let apart : s ≢ k = λ e. ne (sym about ∙ e) in
                    GivenUp g is (λ rest. (others_both k n x (said grid row p x) s rest apart).0) (λ rest. (others_both k n x (said grid row p x) s rest apart).1)

-- a turn that moves session k's operation to its next round, with a tag or none
pub moves_tag : (grid : Grid) (row : TenantRow) (p : Past) (n : ℕ) (x : Turn) (k : ℕ) (g : Goes grid row p x) (l : OwnMessage) (r : ℕ) (tag : Option Tag) → deed_on p.trace k g.e ≡ Moves l r tag → Tagging (first_told grid row p n x) k (λ rest. tag)
moves_tag grid row p n x k g l r tag does = go (act grid row p.trace g.e g.follows)
  where
    s : ℕ
    s = session_of (sessions (sent p.trace)) x

    by : s ≡ k → Doing grid p.trace g.e k → Tagging (first_told grid row p n x) k (λ rest. tag)
    by about (Requests line task first turn does_ask is said_is new) = absurd (let bad : Begins line ≡ Moves l r tag = sym is ∙ does in cc)
    by about (Serves m w within its to alive message is said_is new) = absurd (let bad : Elsewhere ≡ Moves l r tag = sym is ∙ does in cc)
    by about (Notes m task comes is said_is new) = absurd (let bad : Hears m ≡ Moves l r tag = sym is ∙ does in cc)
    by about (Turns m task r' tag' first comes message is said_is heard) =
        let both : Moves m r' tag' ≡ Moves l r tag = sym is ∙ does in
        let same : tag' ≡ tag = cc in
        let e : said grid row p x ≡ Round r' tag' first (length g.e.new) = sym g.told ∙ said_is in
        λ rest. (at_round k n x (said grid row p x) s r' first (length g.e.new) tag' rest about e).1 ∙ same
    by about (Finishes m task outcome comes is said_is new heard) = absurd (let bad : Ends ≡ Moves l r tag = sym is ∙ does in cc)
    by about (Resends task set first busy is said_is new) = absurd (let bad : Elsewhere ≡ Moves l r tag = sym is ∙ does in cc)
    by about (Abandons is said_is new) = absurd (let bad : Ends ≡ Moves l r tag = sym is ∙ does in cc)
    by about (GivesUp is passive new) = absurd (let bad : Ends ≡ Moves l r tag = sym is ∙ does in cc)
    by about (Jumps last number idle is passive new) = absurd (let bad : Leaps last number ≡ Moves l r tag = sym is ∙ does in cc)
    by about (Silent is passive new) = absurd (let bad : Elsewhere ≡ Moves l r tag = sym is ∙ does in cc)

    go : Act grid p.trace g.e → Tagging (first_told grid row p n x) k (λ rest. tag)
    go a = its (cases_eq a.k k)
      where
        about : s ≡ a.k
        about = ap (session_of (sessions (sent p.trace))) (sym g.turn) ∙ a.about

        its : (a.k ≡ k) ⊎ (a.k ≢ k) → Tagging (first_told grid row p n x) k (λ rest. tag)
        its (inl same) = let P : ℕ → Type 0 = λ z. Doing grid p.trace g.e z in by (about ∙ same) (subst P same a.what)
        its (inr ne) = absurd (aside_stays (a.others k ne) (λ is. let bad : Elsewhere ≡ Moves l r tag = sym is ∙ does in cc) (λ is. let bad : Ends ≡ Moves l r tag = sym is ∙ does in cc))
