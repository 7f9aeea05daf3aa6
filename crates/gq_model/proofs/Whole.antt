-- By lines of tenants and servers exactly the servers that were lost lack files, all files, and none of them is up.
use Rattle.std.proofs.Common.{◌≡◌, ℕ, Bool, true, false, ◌||◌, ◌&&◌, not, List, [], ◌∷◌, refl, sym, ap, ◌∙◌, eqb}
use Rattle.std.specs.Prelude.{fold, if◌then◌else◌}
use Rattle.std.proofs.lemmas.Bool.{true≢false, eqb-true}
use Rattle.gq_grid.specs.Grid.{Grid}
use Rattle.gq_tag.specs.Tag.{File}
use Rattle.gq_desk.specs.CheckedPlan.{CheckedPlan, row_at}
use Rattle.gq_desk.specs.declared.plans.TenantRow.{TenantRow}
use Rattle.gq_model.specs.declared.events.Event.{Event}
use Rattle.gq_model.specs.declared.events.Event.TheVariants.{Tenant, Server, Stray}
use Rattle.gq_model.specs.declared.events.Line.{Line}
use Rattle.gq_model.specs.declared.events.ServerLine.{ServerLine}
use Rattle.gq_model.specs.declared.events.ServerLine.TheVariants.{Bad as BadServer, Down, Up, Lost as ServerLost, Repaired as ServerRepaired}
use Rattle.gq_model.specs.Told.{Told, Repaired}
use Rattle.gq_model.specs.Trace.{Own, Serving, Entry, Trace, Past, start, up, gone, lacks, is_given, questions}
use Rattle.gq_model.specs.Lone.{after, step_at, entry_of, quiet, server_told, is_refusal}
use Rattle.gq_model.specs.Events.{own, past_at}
use Rattle.gq_model.proofs.Peers.{Repair, repair, comes_kept}

-- a server lacks a file exactly where it was lost, and then it is not up
pub record IsWhole (t : Trace) : Type 0 where
  pub lacking : (server : ℕ) (file : File) → lacks t server file ≡ gone t server
  pub down : (server : ℕ) → gone t server ≡ true → up t server ≡ false

-- a server that is up has every file
pub up_has : (t : Trace) → IsWhole t → (server : ℕ) (file : File) → up t server ≡ true → lacks t server file ≡ false
up_has t whole server file alive = by (gone t server) refl
  where
    by : (b : Bool) → gone t server ≡ b → lacks t server file ≡ false
    by false is = whole.lacking server file ∙ is
    by true is = absurd (true≢false (sym alive ∙ whole.down server is))

-- ---- a server line that is accepted

abbrev served : Grid → Trace → ServerLine → Entry
served grid t line = entry_of (questions t) (Serving line) (quiet (server_told grid (up t) (gone t) line))

repaired_lacks : (b c : Bool) → (c && not (b && (c && not false))) ≡ (if b then false else c)
repaired_lacks true true = refl
repaired_lacks true false = refl
repaired_lacks false true = refl
repaired_lacks false false = refl

served_whole : (grid : Grid) (t : Trace) (line : ServerLine) → IsWhole t → is_refusal (server_told grid (up t) (gone t) line) ≡ false → IsWhole (served grid t line ∷ t)
served_whole grid t BadServer whole fine = record { lacking = whole.lacking; down = whole.down }
served_whole grid t (Down n) whole fine = record { lacking = whole.lacking; down = λ server is. by server is (eqb n server) }
  where
    by : (server : ℕ) → gone t server ≡ true → (b : Bool) → (if b then false else up t server) ≡ false
    by server is true = refl
    by server is false = whole.down server is
served_whole grid t (Up n) whole fine = record { lacking = whole.lacking; down = λ server is. by server is (eqb n server) refl }
  where
    by : (server : ℕ) → gone t server ≡ true → (b : Bool) → eqb n server ≡ b → (if b then true else up t server) ≡ false
    by server is false other = whole.down server is
    by server is true same = absurd (true≢false (sym is ∙ ap (gone t) (sym (eqb-true n server same)) ∙ comes_kept grid (up t) (gone t) n fine))
served_whole grid t (ServerLost n) whole fine = record { lacking = λ server file. lacking server file (eqb n server); down = λ server. down server (eqb n server) }
  where
    lacking : (server : ℕ) (file : File) (b : Bool) → (b || lacks t server file) ≡ (if b then true else gone t server)
    lacking server file true = refl
    lacking server file false = whole.lacking server file

    down : (server : ℕ) (b : Bool) → (if b then true else gone t server) ≡ true → (if b then false else up t server) ≡ false
    down server true is = refl
    down server false is = whole.down server is
served_whole grid t (ServerRepaired n) whole fine = record { lacking = lacking; down = λ server. down server (eqb n server) }
  where
    r : Repair grid (up t) (gone t) n
    r = repair grid (up t) (gone t) n fine

    lacking : (server : ℕ) (file : File) → lacks (served grid t (ServerRepaired n) ∷ t) server file ≡ (if eqb n server then false else gone t server)
    lacking server file =
        let has : lacks t r.peer file ≡ false = up_has t whole r.peer file r.is_peer.inside in
        let now : (told : Told) → told ≡ Repaired r.peer → (lacks t server file && not (is_given told n (lacks t) server file)) ≡ (if eqb n server then false else lacks t server file) = (λ told is. rw (is, has) (repaired_lacks (eqb n server) (lacks t server file))) in
        now (server_told grid (up t) (gone t) (ServerRepaired n)) r.told ∙ (λ i. if eqb n server then false else whole.lacking server file i)

    down : (server : ℕ) (b : Bool) → (if b then false else gone t server) ≡ true → (if b then true else up t server) ≡ false
    down server true is = absurd (true≢false (sym is))
    down server false is = whole.down server is

-- ---- along a run

-- after a line of the tenant, and after a server line, whatever it is told
pub own_whole : (grid : Grid) (row : TenantRow) (p : Past) (line : Line) → IsWhole p.trace → IsWhole (after grid row p (Own line)).trace
own_whole grid row p line whole = by (is_refusal (step_at grid row p (Own line)).told)
  where
    by : (b : Bool) → IsWhole (if b then p.trace else entry_of (questions p.trace) (Own line) (step_at grid row p (Own line)) ∷ p.trace)
    by true = whole
    by false = record { lacking = whole.lacking; down = whole.down }

pub serving_whole : (grid : Grid) (row : TenantRow) (p : Past) (line : ServerLine) → IsWhole p.trace → IsWhole (after grid row p (Serving line)).trace
serving_whole grid row p line whole = by (is_refusal (server_told grid (up p.trace) (gone p.trace) line)) refl
  where
    by : (b : Bool) → is_refusal (server_told grid (up p.trace) (gone p.trace) line) ≡ b → IsWhole (if b then p.trace else served grid p.trace line ∷ p.trace)
    by true refused = whole
    by false fine = served_whole grid p.trace line whole fine

whole_from : (grid : Grid) (row : TenantRow) (t : ℕ) (events : List Event) (p : Past) → IsWhole p.trace → IsWhole (fold (after grid row) p (own t events)).trace
whole_from grid row t [] p whole = whole
whole_from grid row t (Tenant u line ∷ events) p whole = by (eqb u t) refl (λ q. whole_from grid row t events q)
  where
    by : (b : Bool) → eqb u t ≡ b → ((q : Past) → IsWhole q.trace → IsWhole (fold (after grid row) q (own t events)).trace) → IsWhole (fold (after grid row) p (own t (Tenant u line ∷ events))).trace
    by true its later = rw its (later (after grid row p (Own line)) (own_whole grid row p line whole))
    by false other later = rw other (later p whole)
whole_from grid row t (Server line ∷ events) p whole = whole_from grid row t events (after grid row p (Serving line)) (serving_whole grid row p line whole)
whole_from grid row t (Stray ∷ events) p whole = whole_from grid row t events p whole

none_gone : IsWhole start.trace
none_gone = record { lacking = λ server file. refl; down = λ server is. absurd (true≢false (sym is)) }

-- whatever the events
pub past_whole : (plan : CheckedPlan) (t : ℕ) (events : List Event) → IsWhole (past_at plan t events).trace
past_whole plan t events = whole_from plan.grid (row_at plan t) t events start none_gone
