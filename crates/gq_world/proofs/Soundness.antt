-- Tables that are sound stay so after every event.
use Rattle.std.proofs.Common.{◌≡◌, ℕ, ◌<◌, Bool, true, false, List, [], ◌∷◌, length, refl, sym, subst, append-nil, All}
use Rattle.std.specs.Prelude.{◌==◌, if◌then◌else◌}
use Rattle.std.proofs.lemmas.Bool.{true≢false}
use Rattle.std.proofs.lemmas.List.Elements.{All-nil, All-cons}
use Rattle.gq_grid.specs.Grid.{Grid}
use Rattle.gq_tag.specs.declared.StoredCopy.{StoredCopy}
use Rattle.gq_tag.specs.Tag.{File, OwnMessage}
use Rattle.gq_desk.specs.declared.plans.TenantRow.{TenantRow}
use Rattle.gq_desk.specs.declared.volumes.VolumeRow.{VolumeRow}
use Rattle.gq_desk.specs.CheckedPlan.{CheckedPlan, row_at}
use Rattle.gq_model.specs.declared.events.Event.{Event}
use Rattle.gq_model.specs.declared.events.Event.TheVariants.{Tenant, Server, Stray}
use Rattle.gq_model.specs.declared.events.ServerLine.{ServerLine}
use Rattle.gq_model.specs.declared.events.ServerLine.TheVariants.{Bad as BadServer, Down, Up, Lost as ServerLost, Repaired as ServerRepaired}
use Rattle.gq_model.specs.Told.{Told, ServerOk, Repaired}
use Rattle.gq_model.specs.Trace.{Serving, State, Session, Known, Elsewhere, Ends, changed, session_by, counts_on, left_by, is_given, copy_of}
use Rattle.gq_model.specs.Lone.{entry_of, quiet, server_told, is_refusal}
use Rattle.gq_model.specs.Events.{turn_of}
use Rattle.gq_model.proofs.Peers.{Repair, repair}
use Rattle.gq_world.specs.Bounds.{CopyFits, room, SessionFits, IsOfSession, IsBounded}
use Rattle.gq_world.specs.Tables.{Tables, IsKnown}
use Rattle.gq_world.specs.Whole.{AllSound}
use Rattle.gq_world.specs.Machine.{next, next_seen, Advances}
use Rattle.gq_world.proofs.Composing.{next_bounded}
use Rattle.gq_world.proofs.Steps.{same_bounded, kept_bounded, held_fits}
use Rattle.gq_world.proofs.AllLines.{keeps_bounds}

-- what is known, with no more numbers than steps taken
abbrev pub Bounded : Grid → TenantRow → Known → Type 0
Bounded grid row known = IsBounded grid row known.lines known.state

-- what a loss or a repair leaves of the copies that came to a server fits
left_fits : (n m peer : ℕ) (volumes : List VolumeRow) (lacking : ℕ → File → Bool) (before : ℕ → File → List StoredCopy) → ((s : ℕ) (f : File) → All (CopyFits n (room volumes f.volume)) (before s f)) → (s : ℕ) (f : File) →
    All (CopyFits n (room volumes f.volume)) (left_by lacking (Serving (ServerLost m)) ServerOk before s f) × All (CopyFits n (room volumes f.volume)) (left_by lacking (Serving (ServerRepaired m)) (Repaired peer) before s f)
left_fits n m peer volumes lacking before all s f = (by (m == s), given (is_given (Repaired peer) m lacking s f))
  where
    F : StoredCopy → Type 0
    F = CopyFits n (room volumes f.volume)

    by : (b : Bool) → All (CopyFits n (room volumes f.volume)) (if b then [] else before s f)
    by true = All-nil (CopyFits n (room volumes f.volume))
    by false = all s f

    given : (b : Bool) → All (CopyFits n (room volumes f.volume)) (if b then copy_of (before peer f) ∷ [] else before s f)
    given true = All-cons (CopyFits n (room volumes f.volume)) (copy_of (before peer f)) [] (held_fits n (room volumes f.volume) (before peer f) (all peer f)) (All-nil (CopyFits n (room volumes f.volume)))
    given false = all s f

-- a session that may have been given up
session_left : (n : ℕ) (volumes : List VolumeRow) (k : ℕ) (s : Session) (b : Bool) → SessionFits n volumes k s → SessionFits n volumes k (session_by volumes k (if b then Ends else Elsewhere) s)
session_left n volumes k s false h = h
session_left n volumes k s true h = record { op = h.op; floor = h.floor; works = λ task is. absurd (cc) }

messages_left : (volumes : List VolumeRow) (k : ℕ) (s : Session) (b : Bool) (l : OwnMessage) → IsOfSession s l → IsOfSession (session_by volumes k (if b then Ends else Elsewhere) s) l
messages_left volumes k s false l is = is
messages_left volumes k s true l is = record { begun = is.begun; round = is.round; volume = λ task e. absurd (cc) }

-- after a server line that is accepted
accepted_bounded : (grid : Grid) (row : TenantRow) (n : ℕ) (state : State) (line : ServerLine) → IsBounded grid row n state → is_refusal (server_told grid state.up state.gone line) ≡ false →
    IsBounded grid row n (changed (entry_of state (Serving line) (quiet (server_told grid state.up state.gone line))) state)
accepted_bounded grid row n state BadServer h fine = absurd (true≢false fine)
accepted_bounded grid row n state (Down m) h fine = same_bounded grid row n state _ h refl (append-nil state.sent) (λ server file. refl) (λ k. refl)
accepted_bounded grid row n state (Up m) h fine = same_bounded grid row n state _ h refl (append-nil state.sent) (λ server file. refl) (λ k. refl)
accepted_bounded grid row n state (ServerLost m) h fine = kept_bounded grid row n state _ h refl (append-nil state.sent)
    (λ server file. (left_fits n m 0 state.volumes state.lacks state.brought h.brought server file).0)
    (λ k. session_left n state.volumes k (state.session k) (counts_on state.sent k (state.session k) m) (h.sessions k))
    (λ k l is. messages_left state.volumes k (state.session k) (counts_on state.sent k (state.session k) m) l is)
accepted_bounded grid row n state (ServerRepaired m) h fine =
    let r : Repair grid state.up state.gone m = repair grid state.up state.gone m fine in
    let P : Told → Type 0 = λ told. IsBounded grid row n (changed (entry_of state (Serving (ServerRepaired m)) (quiet told)) state) in
    subst P (sym r.told) (kept_bounded grid row n state (changed (entry_of state (Serving (ServerRepaired m)) (quiet (Repaired r.peer))) state) h refl (append-nil state.sent)
    (λ server file. (left_fits n m r.peer state.volumes state.lacks state.brought h.brought server file).1)
    (λ k. h.sessions k)
    (λ k l is. is))

-- after a server line
served_bounded : (grid : Grid) (row : TenantRow) (known : Known) (line : ServerLine) → Bounded grid row known → Bounded grid row (next grid row known (Serving line))
served_bounded grid row known line h = by (is_refusal (server_told grid known.state.up known.state.gone line)) refl
  where
    by : (b : Bool) → is_refusal (server_told grid known.state.up known.state.gone line) ≡ b →
        IsBounded grid row known.lines (if b then known.state else changed (entry_of known.state (Serving line) (quiet (server_told grid known.state.up known.state.gone line))) known.state)
    by true refused = h
    by false fine = accepted_bounded grid row known.lines known.state line h fine

-- after any event, as the tenant at place t sees it
pub seen_bounded : (grid : Grid) (row : TenantRow) (known : Known) (t : ℕ) (e : Event) → Bounded grid row known → Bounded grid row (next_seen grid row known (turn_of t e))
seen_bounded grid row known t (Tenant tenant line) h = by (tenant == t) refl
  where
    by : (b : Bool) → (tenant == t) ≡ b → Bounded grid row (next_seen grid row known (turn_of t (Tenant tenant line)))
    by true its = rw its (next_bounded grid row known line (keeps_bounds line) h)
    by false its = rw its h
seen_bounded grid row known t (Server line) h = served_bounded grid row known line h
seen_bounded grid row known t Stray h = h

pub sound_after : (old new : Tables) (e : Event) → Advances old e new → AllSound old → AllSound new
sound_after old new e advances sound t within =
    let inside : t < length old.plan.rows = subst (λ (p : CheckedPlan). t < length p.rows) advances.plan within in
    let s : IsKnown old t = sound t inside in
    let row : TenantRow = row_at old.plan t in
    let known : Known = next_seen old.plan.grid row s.known (turn_of t e) in
    record {
      known = known;
      agrees = advances.tenants t inside s.known s.known.lines s.bounded s.agrees;
      bounded = subst (λ p. IsBounded p.grid (row_at p t) known.lines known.state) (sym advances.plan) (seen_bounded old.plan.grid row s.known t e s.bounded);
    }
