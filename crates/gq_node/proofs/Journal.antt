-- The fact of a step is all that the step changes of what a node must not forget; and a start that reads it knows it again.
use Rattle.std.proofs.Common.{◌≡◌, ◌∙◌, ℕ, Bool, true, false, List, [], ◌∷◌, ◌++◌, refl, sym, ap, subst, Option, Some, None, inl, inr}
use Rattle.std.specs.Prelude.{is_some, ◌&&◌, ◌==◌, not, nat_le, if◌then◌else◌}
use Rattle.std.proofs.lemmas.Bool.{cases_Bool, eq-eqb, eqb-true, and_parts}
use Rattle.gq_grid.specs.Grid.{Servers}
use Rattle.gq_tag.specs.declared.StoredCopy.{StoredCopy}
use Rattle.gq_tag.specs.declared.Body.{Body}
use Rattle.gq_tag.specs.declared.Body.TheVariants.{Ask, Copy, Store, Stored}
use Rattle.gq_tag.specs.Tag.{File, OwnMessage, is_file, is_less, to_server, first_copy, greatest, newer_of}
use Rattle.gq_phase.specs.Phase.{heard_servers, is_collect}
use Rattle.gq_model.specs.declared.events.Line.{Line}
use Rattle.gq_model.specs.declared.events.Line.TheVariants.{Write, Read, List as ListFiles, Abandon}
use Rattle.gq_model.specs.declared.events.Refusal.{Refusal}
use Rattle.gq_model.specs.Told.{Told, Began, Round}
use Rattle.gq_model.specs.Trace.{Own, State, operation, limit_at, stored_by, serves as model_serves}
use Rattle.gq_model.specs.Lone.{Step, is_refusal, entry_of, asked_step, hear_step, unless}
use Rattle.gq_cluster.specs.Cluster.{Part, everyone, copy_in, session_named}
use Rattle.gq_replace.specs.Plans.{place_of}
use Rattle.gq_replace.specs.Keeping.{KeptFiles, files_of_part, with_fleet_fact}
use Rattle.gq_laws.proofs.Holding.{greatest-push}
use Rattle.gq_laws.proofs.OperationMoments.{same_file}
use Rattle.gq_node.specs.declared.output.Admission.{Admission}
use Rattle.gq_node.specs.declared.output.Admission.TheVariants.{Tells, Passes, Goes}
use Rattle.gq_cluster.specs.Facts.{OwnFact, Begun, Numbered, Kept, Had, Reserved, greatest_op, greatest_number, last_of_run, reserving, reserved_by}
use Rattle.gq_node.specs.Lanes.{lane_of}
use Rattle.gq_node.specs.Local.{Local, Resident, Doing, part_in, state_of, state_for, state_behind, aim_at, tries_next, asker, begins, admission_in, asks, asked_by, goes_on, answer_of, with_resident, receives, serves, hears, brings, ticks, waits_on, letter_fits, file_fits, has_above, of_round, fits_local, given, recalls, recalled, rested}
use Rattle.gq_node.specs.Inputs.{Input, Asked, AskedPlan, AskedLook, Brought, Shortened, Ticked, Looked, Joined, Fetching, Fetched, does}
use Rattle.gq_node.specs.Joining.{hears_joined, all_joined, peer_for, first_lacked, asks_peer, looks, is_peer, has_file, gives, takes}
use Rattle.gq_node.specs.Resting.{IsBare}
use Rattle.gq_node.specs.Shorts.{OwnShort, letter_with, takes_short}
use Rattle.gq_node.specs.Sites.{Site, has_session, is_new, has_node}
use Rattle.gq_node.proofs.Asking.{goes_home}
use Rattle.gq_node.proofs.Recalling.{recalls_fits}
use Rattle.gq_node.proofs.Ticking.{busy_is}
use Rattle.gq_node.proofs.Bridging.{same_sessions, tried_session, tried_reserved}
use Rattle.gq_node.proofs.Receiving.{Parts, parts, session_here, its_server, to_a_session, to_the_server, has_it, lacks_it}
use Rattle.gq_node.proofs.Shortening.{IsOlder, by_arms}

-- ---- what a fact says

-- the node is the home of the session
abbrev pub IsHome : Site → ℕ → Type 0
IsHome site k = (has_session site k ≡ true) × ((site.home k == site.here) ≡ true)

-- a start of this part takes the fact
abbrev pub FactIn : Site → Local → OwnFact → Type 0
FactIn site local (Begun k op) = IsHome site k
FactIn site local (Numbered k number) = IsHome site k
FactIn site local (Kept file copy) = (fits_local (Kept file copy) site local ≡ true) × (is_less (copy_in (part_in local) file).tag copy.tag ≡ true)
FactIn site local (Had file copy) = (fits_local (Had file copy) site local ≡ true) × (copy_in (part_in local) file ≡ first_copy)

-- the part after a step of this fact, if it has one
abbrev pub KeepsBy : Site → Local → Option OwnFact → Part → Type 0
KeepsBy site local None part = files_of_part part ≡ files_of_part (part_in local)
KeepsBy site local (Some fact) part = (files_of_part part ≡ with_fleet_fact (files_of_part (part_in local)) (Some fact)) × FactIn site local fact

abbrev pub Keeps : Site → Local → Doing → Type 0
Keeps site local doing = KeepsBy site local doing.fact (part_in doing.local)

-- ---- another resident

kept_same : (local : Local) (k : ℕ) (r : Resident) → r.reserved ≡ (local.residents k).reserved → files_of_part (part_in (with_resident local k r)) ≡ files_of_part (part_in local)
kept_same local k r same = λ i. record { kept = record { copy = copy_in (part_in local); op = λ j. (reserved j (k == j) refl i).op; floor = λ j. (reserved j (k == j) refl i).floor }; lacks = local.lacks }
  where
    reserved : (j : ℕ) (b : Bool) → (k == j) ≡ b → ((with_resident local k r).residents j).reserved ≡ (local.residents j).reserved
    reserved j true is = rw is (same ∙ ap (λ x. (local.residents x).reserved) (eqb-true k j is))
    reserved j false is = rw is refl

kept_began : (local : Local) (k n : ℕ) (r : Resident) → r.reserved ≡ reserved_by (Some (Begun k n)) (local.residents k).reserved → files_of_part (part_in (with_resident local k r)) ≡ with_fleet_fact (files_of_part (part_in local)) (Some (Begun k n))
kept_began local k n r same = λ i. record { kept = record { copy = copy_in (part_in local); op = λ j. ops j (k == j) refl i; floor = λ j. floors j (k == j) refl i }; lacks = local.lacks }
  where
    ops : (j : ℕ) (b : Bool) → (k == j) ≡ b → ((with_resident local k r).residents j).reserved.op ≡ (if k == j then n else (local.residents j).reserved.op)
    ops j true is = rw is (ap (λ (z : Reserved). z.op) same)
    ops j false is = rw is refl

    floors : (j : ℕ) (b : Bool) → (k == j) ≡ b → ((with_resident local k r).residents j).reserved.floor ≡ (local.residents j).reserved.floor
    floors j true is = rw is (ap (λ (z : Reserved). z.floor) same ∙ ap (λ x. (local.residents x).reserved.floor) (eqb-true k j is))
    floors j false is = rw is refl

kept_numbered : (local : Local) (k n : ℕ) (r : Resident) → r.reserved ≡ reserved_by (Some (Numbered k n)) (local.residents k).reserved → files_of_part (part_in (with_resident local k r)) ≡ with_fleet_fact (files_of_part (part_in local)) (Some (Numbered k n))
kept_numbered local k n r same = λ i. record { kept = record { copy = copy_in (part_in local); op = λ j. ops j (k == j) refl i; floor = λ j. floors j (k == j) refl i }; lacks = local.lacks }
  where
    ops : (j : ℕ) (b : Bool) → (k == j) ≡ b → ((with_resident local k r).residents j).reserved.op ≡ (local.residents j).reserved.op
    ops j true is = rw is (ap (λ (z : Reserved). z.op) same ∙ ap (λ x. (local.residents x).reserved.op) (eqb-true k j is))
    ops j false is = rw is refl

    floors : (j : ℕ) (b : Bool) → (k == j) ≡ b → ((with_resident local k r).residents j).reserved.floor ≡ (if k == j then n else (local.residents j).reserved.floor)
    floors j true is = rw is (ap (λ (z : Reserved). z.floor) same)
    floors j false is = rw is refl

-- what is kept where session k was told this, and its own last number is then this one
told_keeps : (site : Site) (local : Local) (k : ℕ) (r : Resident) (told : Told) (floor : ℕ) → IsHome site k → r.reserved ≡ reserved_by (reserving k (local.residents k).reserved told floor) (local.residents k).reserved →
    KeepsBy site local (reserving k (local.residents k).reserved told floor) (part_in (with_resident local k r))
told_keeps site local k r (Began op first count) floor inside same = by (nat_le op (local.residents k).reserved.op) same
  where
    fact : Bool → Option OwnFact
    fact b = if b then None else Some (Begun k (last_of_run greatest_op op))

    by : (b : Bool) → r.reserved ≡ reserved_by (fact b) (local.residents k).reserved → KeepsBy site local (fact b) (part_in (with_resident local k r))
    by true same = kept_same local k r same
    by false same = (kept_began local k (last_of_run greatest_op op) r same, inside)
told_keeps site local k r (Round round tag first count) floor inside same = by (nat_le floor (local.residents k).reserved.floor) same
  where
    fact : Bool → Option OwnFact
    fact b = if b then None else Some (Numbered k (last_of_run greatest_number floor))

    by : (b : Bool) → r.reserved ≡ reserved_by (fact b) (local.residents k).reserved → KeepsBy site local (fact b) (part_in (with_resident local k r))
    by true same = kept_same local k r same
    by false same = (kept_numbered local k (last_of_run greatest_number floor) r same, inside)
told_keeps site local k r told floor inside same = kept_same local k r same

-- ---- a request

pub not_refused : (o : Option Refusal) (step : Step) → is_refusal (unless o step).told ≡ false → unless o step ≡ step
not_refused None step is = refl
not_refused (Some word) step is = absurd (cc)

request_keeps : (op : ℕ) (line : Line) (site : Site) (local : Local) → asker line ≡ Some (session_named line) → Keeps site local (asks op line site local)
request_keeps op line site local its = by (admission_in site local k op (begins line)) refl
  where
    k : ℕ
    k = session_named line

    aim : Servers
    aim = aim_at site.grid (local.residents k)

    step : Step
    step = asked_step site.grid site.row (state_of aim local) line

    said : IsHome site k → (b : Bool) → is_refusal step.told ≡ b → Keeps site local (asked_by local k op (state_of aim local) line step)
    said inside true is = let same : asked_by local k op (state_of aim local) line step ≡ record { local = local; answer = answer_of k op (local.residents k).session.op step.told; letters = []; transfer = None; fact = None } = rw is refl in subst (Keeps site local) (sym same) refl
    said inside false is =
        let same : asked_by local k op (state_of aim local) line step ≡ goes_on local k op false (state_of aim local) (entry_of (state_of aim local) (Own line) step) = rw is refl in
        subst (Keeps site local) (sym same) (told_keeps site local k _ step.told _ inside refl)

    by : (g : Admission) → admission_in site local k op (begins line) ≡ g → Keeps site local (asks op line site local)
    by (Tells answer) is = rw (its, is) refl
    by Passes is = rw (its, is) refl
    by Goes is =
        let there = goes_home site k op (local.residents k).session.op (begins line) (is_some (local.residents k).session.current) (local.residents k).outcome is in
        let same : asks op line site local ≡ asked_by local k op (state_of aim local) line step = rw (its, is) refl in
        subst (Keeps site local) (sym same) (said (there.0, there.1) (is_refusal step.told) refl)

no_line_keeps : (op : ℕ) (line : Line) (site : Site) (local : Local) → asker line ≡ None → Keeps site local (asks op line site local)
no_line_keeps op line site local none = rw none refl

pub all_requests_keep : (op : ℕ) (line : Line) (site : Site) (local : Local) → Keeps site local (asks op line site local)
all_requests_keep op (Write k v f bytes) site local = request_keeps op (Write k v f bytes) site local refl
all_requests_keep op (Read k v f) site local = request_keeps op (Read k v f) site local refl
all_requests_keep op (ListFiles k v) site local = request_keeps op (ListFiles k v) site local refl
all_requests_keep op (Abandon k) site local = request_keeps op (Abandon k) site local refl
all_requests_keep op line site local = no_line_keeps op line site local refl

-- ---- a letter

heard_keeps : (site : Site) (local : Local) (m : OwnMessage) → IsHome site m.session →
    let k : ℕ = m.session in
    let state : State = state_behind site local m in
    Keeps site local (goes_on local k (local.residents k).session.op (heard_servers (local.residents k).session.heard m.server) state (brings m (hear_step site.grid state m (operation state k))))
heard_keeps site local m inside =
    let k : ℕ = m.session in
    let state : State = state_behind site local m in
    let step : Step = hear_step site.grid state m (operation state k) in
    told_keeps site local k _ step.told _ inside refl

-- a store, at its server
stored_keeps : (site : Site) (local : Local) (session op round server : ℕ) (file : File) (body : Body) → server ≡ site.place → file_fits (limit_at (state_of everyone local) file.volume file.place) body ≡ true → local.lacks file ≡ false →
    Keeps site local (serves site local (record { session = session; op = op; round = round; server = server; file = file; body = body }))
stored_keeps site local session op round server file Ask here fits has = refl
stored_keeps site local session op round server file (Copy copy) here fits has = refl
stored_keeps site local session op round server file Stored here fits has = refl
stored_keeps site local session op round server file (Store copy) here fits has = by (is_less held.tag copy.tag) refl
  where
    held : StoredCopy
    held = copy_in (part_in local) file

    m : OwnMessage
    m = record { session = session; op = op; round = round; server = server; file = file; body = Store copy }

    after : File → List StoredCopy
    after f = stored_by (model_serves everyone (λ n. local.lacks)) (Some m) (λ n. local.brought) site.place f

    has_it : (f : File) → is_file file f ≡ true → local.lacks f ≡ false
    has_it f same = ap local.lacks (sym (same_file file f same)) ∙ has

    more : (f : File) → is_file file f ≡ true → greatest (first_copy ∷ after f) ≡ newer_of (copy_in (part_in local) f) copy
    more f same = let one : after f ≡ local.brought f ++ copy ∷ [] = rw (eq-eqb server site.place here, same, has_it f same) refl in ap (λ xs. greatest (first_copy ∷ xs)) one ∙ greatest-push first_copy copy (local.brought f)

    less : (f : File) → is_file file f ≡ false → greatest (first_copy ∷ after f) ≡ copy_in (part_in local) f
    less f other = let one : after f ≡ local.brought f = rw (eq-eqb server site.place here, other) refl in ap (λ xs. greatest (first_copy ∷ xs)) one

    in_file : (f : File) → is_file file f ≡ true → copy_in (part_in local) f ≡ held
    in_file f same = ap (copy_in (part_in local)) (sym (same_file file f same))

    by : (b : Bool) → is_less held.tag copy.tag ≡ b → Keeps site local (serves site local m)
    by true is = rw is ((λ i. record { kept = record { copy = λ f. now f (is_file file f) refl i; op = λ k. (local.residents k).reserved.op; floor = λ k. (local.residents k).reserved.floor }; lacks = local.lacks }), ((rw has fits), is))
      where
        now : (f : File) (b : Bool) → is_file file f ≡ b → greatest (first_copy ∷ after f) ≡ (if is_file file f then copy else copy_in (part_in local) f)
        now f true same = more f same ∙ ap (λ c. newer_of c copy) (in_file f same) ∙ (rw (is, same) refl)
        now f false other = less f other ∙ (rw other refl)
    by false is = rw is (λ i. record { kept = record { copy = λ f. now f (is_file file f) refl i; op = λ k. (local.residents k).reserved.op; floor = λ k. (local.residents k).reserved.floor }; lacks = local.lacks })
      where
        now : (f : File) (b : Bool) → is_file file f ≡ b → greatest (first_copy ∷ after f) ≡ copy_in (part_in local) f
        now f true same = more f same ∙ ap (λ c. newer_of c copy) (in_file f same) ∙ (rw is refl) ∙ sym (in_file f same)
        now f false other = less f other

hears_keep : (site : Site) (local : Local) (m : OwnMessage) → IsHome site m.session → Keeps site local (hears site local m)
hears_keep site local m inside = by (has_above (local.residents m.session).session.floor && of_round (operation (state_for site local m.session) m.session) m.file) refl
  where
    by : (b : Bool) → (has_above (local.residents m.session).session.floor && of_round (operation (state_for site local m.session) m.session) m.file) ≡ b → Keeps site local (hears site local m)
    by true is = let same : hears site local m ≡ goes_on local m.session (local.residents m.session).session.op (heard_servers (local.residents m.session).session.heard m.server) (state_behind site local m) (brings m (hear_step site.grid (state_behind site local m) m (operation (state_for site local m.session) m.session))) = rw is refl in
        subst (Keeps site local) (sym same) (heard_keeps site local m inside)
    by false is = rw is refl

pub all_letters_keep : (from : ℕ) (m : OwnMessage) (site : Site) (local : Local) → Keeps site local (receives from m site local)
all_letters_keep from m site local = elim (cases_Bool (letter_fits site (limit_at (state_of everyone local) m.file.volume m.file.place) from m)) [
  | inr not ↦ (rw not refl)
  | inl fits ↦ (
      let p : Parts site (limit_at (state_of everyone local) m.file.volume m.file.place) from m = parts site (limit_at (state_of everyone local) m.file.volume m.file.place) from m fits in
      elim (cases_Bool (to_server m.body)) [
        | inl goes ↦ (elim (cases_Bool (local.lacks m.file)) [
          | inl lacks ↦ (subst (Keeps site local) (sym (to_the_server from m site local fits goes ∙ lacks_it site local m lacks)) refl)
          | inr has ↦ (subst (Keeps site local) (sym (to_the_server from m site local fits goes ∙ has_it site local m has)) (stored_keeps site local m.session m.op m.round m.server m.file m.body (its_server site from m goes p.between) p.file has))
        ])
        | inr goes ↦ (subst (Keeps site local) (sym (to_a_session from m site local fits goes)) (hears_keep site local m (p.session, session_here site from m goes p.between)))
      ])
]

-- ---- a short letter

-- a store that is not newer than the server's copy leaves it
older_keeps : (site : Site) (local : Local) (session op round server : ℕ) (file : File) (body : Body) → server ≡ site.place → local.lacks file ≡ false → IsOlder local file body →
    Keeps site local (serves site local (record { session = session; op = op; round = round; server = server; file = file; body = body }))
older_keeps site local session op round server file Ask here has older = refl
older_keeps site local session op round server file (Copy copy) here has older = refl
older_keeps site local session op round server file Stored here has older = refl
older_keeps site local session op round server file (Store copy) here has older = rw older (λ i. record { kept = record { copy = λ f. now f (is_file file f) refl i; op = λ k. (local.residents k).reserved.op; floor = λ k. (local.residents k).reserved.floor }; lacks = local.lacks })
  where
    m : OwnMessage
    m = record { session = session; op = op; round = round; server = server; file = file; body = Store copy }

    after : File → List StoredCopy
    after f = stored_by (model_serves everyone (λ n. local.lacks)) (Some m) (λ n. local.brought) site.place f

    now : (f : File) (b : Bool) → is_file file f ≡ b → greatest (first_copy ∷ after f) ≡ copy_in (part_in local) f
    now f true same =
        let whole : local.lacks f ≡ false = ap local.lacks (sym (same_file file f same)) ∙ has in
        let one : after f ≡ local.brought f ++ copy ∷ [] = rw (eq-eqb server site.place here, same, whole) refl in
        let in_file : copy_in (part_in local) f ≡ copy_in (part_in local) file = ap (copy_in (part_in local)) (sym (same_file file f same)) in
        ap (λ xs. greatest (first_copy ∷ xs)) one ∙ greatest-push first_copy copy (local.brought f) ∙ ap (λ c. newer_of c copy) in_file ∙ (rw older refl) ∙ sym in_file
    now f false other = let one : after f ≡ local.brought f = rw (eq-eqb server site.place here, other) refl in ap (λ xs. greatest (first_copy ∷ xs)) one

pub shorts_keep : (from : ℕ) (s : OwnShort) (bytes : List ℕ) (site : Site) (local : Local) → Keeps site local (takes_short from s bytes site local).doing
shorts_keep from s bytes site local = by_arms (λ act doing. Keeps site local doing) from s bytes site local (record {
  passed = refl;
  served = λ h. older_keeps site local s.session s.op s.round s.server s.file (letter_with bytes s).body h.server h.has h.older;
  heard = λ h. hears_keep site local (letter_with bytes s) (h.session, eq-eqb (site.home s.session) site.here h.home);
  again = λ h. refl;
})

-- ---- a tick

pub all_ticks_keep : (k : ℕ) (site : Site) (local : Local) → Keeps site local (ticks k site local)
all_ticks_keep k site local = elim (cases_Bool (is_some (local.residents k).session.current)) [
  | inr idle ↦ (rw idle refl)
  | inl busy ↦ (subst (Keeps site local) (sym (busy_is k site local busy)) (by (local.residents k).waited))
]
  where
    by : (b : Bool) → Keeps site local (waits_on site local k b)
    by false = ap files_of_part (same_sessions local k (record (local.residents k) { waited = true }) refl refl)
    by true = ap files_of_part (same_sessions local k (tries_next site.grid (is_collect (local.residents k).session.round) (local.residents k)) (tried_session site.grid (is_collect (local.residents k).session.round) (local.residents k)) (tried_reserved site.grid (is_collect (local.residents k).session.round) (local.residents k)))

-- ---- who joined, and what is fetched

bare_by : (site : Site) (local : Local) (fact : Option OwnFact) (part : Part) → KeepsBy site local fact part → IsBare local → (f : File) → part.lacks f ≡ true → copy_in part f ≡ first_copy
bare_by site local None part keeps bare f lacks = ap (λ (z : KeptFiles). z.kept.copy f) keeps ∙ bare f (sym (ap (λ (z : KeptFiles). z.lacks f) keeps) ∙ lacks)
bare_by site local (Some (Begun k op)) part keeps bare f lacks = ap (λ (z : KeptFiles). z.kept.copy f) keeps.0 ∙ bare f (sym (ap (λ (z : KeptFiles). z.lacks f) keeps.0) ∙ lacks)
bare_by site local (Some (Numbered k number)) part keeps bare f lacks = ap (λ (z : KeptFiles). z.kept.copy f) keeps.0 ∙ bare f (sym (ap (λ (z : KeptFiles). z.lacks f) keeps.0) ∙ lacks)
bare_by site local (Some (Kept file copy)) part keeps bare f lacks = by (is_file file f) refl
  where
    before : local.lacks f ≡ true
    before = sym (ap (λ (z : KeptFiles). z.lacks f) keeps.0) ∙ lacks

    has : not (local.lacks file) ≡ true
    has = (and_parts (not (local.lacks file)) (file_fits (limit_at (state_of everyone local) file.volume file.place) (Store copy)) keeps.1.0).0

    is_not : (b : Bool) → b ≡ true → not b ≡ true → ⊥
    is_not true is not' = cc
    is_not false is not' = cc

    by : (b : Bool) → is_file file f ≡ b → copy_in part f ≡ first_copy
    by true same = absurd (is_not (local.lacks file) (ap local.lacks (same_file file f same) ∙ before) has)
    by false other = ap (λ (z : KeptFiles). z.kept.copy f) keeps.0 ∙ (rw other (bare f before))
bare_by site local (Some (Had file copy)) part keeps bare f lacks =
    let behind : (local.lacks f && not (is_file file f)) ≡ true = sym (ap (λ (z : KeptFiles). z.lacks f) keeps.0) ∙ lacks in
    let p = and_parts (local.lacks f) (not (is_file file f)) behind in
    by (is_file file f) refl p.0 p.1
  where
    by : (b : Bool) → is_file file f ≡ b → local.lacks f ≡ true → not (is_file file f) ≡ true → copy_in part f ≡ first_copy
    by true same before away = let e : not (is_file file f) ≡ false = ap not same in absurd (cc)
    by false other before away = ap (λ (z : KeptFiles). z.kept.copy f) keeps.0 ∙ (rw other (bare f before))

-- what is bare stays so
pub stays_bare : (site : Site) (local : Local) (doing : Doing) → Keeps site local doing → IsBare local → IsBare doing.local
stays_bare site local doing keeps bare = bare_by site local doing.fact (part_in doing.local) keeps bare

joined_keeps : (from losses : ℕ) (site : Site) (local : Local) → Keeps site local (hears_joined from losses site local)
joined_keeps from losses site local = by (is_new site && has_node site from && losses == site.losses) refl
  where
    by : (b : Bool) → (is_new site && has_node site from && losses == site.losses) ≡ b → Keeps site local (hears_joined from losses site local)
    by true is = rw is refl
    by false is = rw is refl

pub asked_peer : (site : Site) (local : Local) (lane place : ℕ) → (part_in (asks_peer site local lane place).local ≡ part_in local) × ((asks_peer site local lane place).fact ≡ None)
asked_peer site local lane place = by (first_lacked local lane) refl
  where
    by : (o : Option File) → first_lacked local lane ≡ o → (part_in (asks_peer site local lane place).local ≡ part_in local) × ((asks_peer site local lane place).fact ≡ None)
    by None is = rw is (refl, refl)
    by (Some file) is = rw is (refl, refl)

looks_keep : (lane : ℕ) (site : Site) (local : Local) → Keeps site local (looks lane site local)
looks_keep lane site local = by (all_joined site local.joined) refl
  where
    by : (b : Bool) → all_joined site local.joined ≡ b → Keeps site local (looks lane site local)
    by true is =
        let same : looks lane site local ≡ asks_peer site local lane (peer_for site lane local.peer) = rw is refl in
        let asked = asked_peer site local lane (peer_for site lane local.peer) in
        let P : Option OwnFact → Part → Type 0 = λ fact part. KeepsBy site local fact part in
        subst (Keeps site local) (sym same) (subst (λ x. P x (part_in (asks_peer site local lane (peer_for site lane local.peer)).local)) (sym asked.1) (subst (P None) (sym asked.0) refl))
    by false is = rw is refl

gives_keep : (from : ℕ) (file : File) (site : Site) (local : Local) → Keeps site local (gives from file site local)
gives_keep from file site local = by (is_peer site from && has_file local file) refl
  where
    by : (b : Bool) → (is_peer site from && has_file local file) ≡ b → Keeps site local (gives from file site local)
    by true is = rw is refl
    by false is = rw is refl

-- the file was given
pub given_files : (local : Local) (file : File) (copy : StoredCopy) → copy_in (part_in local) file ≡ first_copy → files_of_part (part_in (given file copy local)) ≡ with_fleet_fact (files_of_part (part_in local)) (Some (Had file copy))
given_files local file copy bare = λ i. record {
  kept = record { copy = λ f. now f (is_file file f) refl i; op = λ k. (local.residents k).reserved.op; floor = λ k. (local.residents k).reserved.floor };
  lacks = λ f. local.lacks f && not (is_file file f);
}
  where
    now : (f : File) (b : Bool) → is_file file f ≡ b → copy_in (part_in (given file copy local)) f ≡ (if is_file file f then newer_of first_copy copy else copy_in (part_in local) f)
    now f true same =
        let here : copy_in (part_in local) f ≡ first_copy = ap (copy_in (part_in local)) (sym (same_file file f same)) ∙ bare in
        let one : (given file copy local).brought f ≡ local.brought f ++ copy ∷ [] = rw same refl in
        ap (λ xs. greatest (first_copy ∷ xs)) one ∙ greatest-push first_copy copy (local.brought f) ∙ ap (λ c. newer_of c copy) here ∙ (rw same refl)
    now f false other =
        let one : (given file copy local).brought f ≡ local.brought f = rw other refl in
        ap (λ xs. greatest (first_copy ∷ xs)) one ∙ (rw other refl)

pub takes_keep : (from : ℕ) (file : File) (copy : StoredCopy) (site : Site) (local : Local) → IsBare local → Keeps site local (takes from file copy site local)
takes_keep from file copy site local bare = by fits refl
  where
    fits : Bool
    fits = is_peer site from && local.lacks file && file_fits (limit_at (state_of everyone local) file.volume file.place) (Store copy)

    by : (b : Bool) → fits ≡ b → Keeps site local (takes from file copy site local)
    by false is = rw is refl
    by true is =
        let parts = and_parts (is_peer site from && local.lacks file) (file_fits (limit_at (state_of everyone local) file.volume file.place) (Store copy)) is in
        let lacks : local.lacks file ≡ true = (and_parts (is_peer site from) (local.lacks file) parts.0).1 in
        let asked = asked_peer site (given file copy local) (lane_of local.volumes file.volume) (place_of from) in
        let same : takes from file copy site local ≡ record (asks_peer site (given file copy local) (lane_of local.volumes file.volume) (place_of from)) { fact = Some (Had file copy) } = rw is refl in
        subst (Keeps site local) (sym same)
        (ap files_of_part asked.0 ∙ given_files local file copy (bare file lacks), (parts.1, bare file lacks))

-- ---- all that comes

pub does_keep : (input : Input) (site : Site) (local : Local) → IsBare local → Keeps site local (does input site local)
does_keep (Asked op line) site local bare = all_requests_keep op line site local
does_keep AskedPlan site local bare = refl
does_keep (AskedLook mark volume) site local bare = refl
does_keep (Brought from letter) site local bare = all_letters_keep from letter site local
does_keep (Shortened from short bytes) site local bare = shorts_keep from short bytes site local
does_keep (Ticked session) site local bare = all_ticks_keep session site local
does_keep (Looked lane) site local bare = looks_keep lane site local
does_keep (Joined from losses) site local bare = joined_keeps from losses site local
does_keep (Fetching from file) site local bare = gives_keep from file site local
does_keep (Fetched from file copy) site local bare = takes_keep from file copy site local bare

-- ---- a start reads it

pub recall_keeps : (site : Site) (local : Local) (fact : OwnFact) → FactIn site local fact → files_of_part (part_in (recalls fact site local).local) ≡ with_fleet_fact (files_of_part (part_in local)) (Some fact)
recall_keeps site local (Begun k op) inside =
    ap (λ (d : Doing). files_of_part (part_in d.local)) (recalls_fits (Begun k op) site local inside.0) ∙ kept_began local k op (rested (local.residents k) (reserved_by (Some (Begun k op)) (local.residents k).reserved)) refl
recall_keeps site local (Numbered k number) inside =
    ap (λ (d : Doing). files_of_part (part_in d.local)) (recalls_fits (Numbered k number) site local inside.0) ∙ kept_numbered local k number (rested (local.residents k) (reserved_by (Some (Numbered k number)) (local.residents k).reserved)) refl
recall_keeps site local (Kept file copy) fits =
    ap (λ (d : Doing). files_of_part (part_in d.local)) (recalls_fits (Kept file copy) site local fits.0)
    ∙ (λ i. record { kept = record { copy = λ f. now f (is_file file f) refl i; op = λ k. (local.residents k).reserved.op; floor = λ k. (local.residents k).reserved.floor }; lacks = local.lacks })
  where
    now : (f : File) (b : Bool) → is_file file f ≡ b → copy_in (part_in (recalled (Kept file copy) local)) f ≡ (if is_file file f then copy else copy_in (part_in local) f)
    now f true same =
        let here : copy_in (part_in local) f ≡ copy_in (part_in local) file = ap (copy_in (part_in local)) (sym (same_file file f same)) in
        let one : (recalled (Kept file copy) local).brought f ≡ local.brought f ++ copy ∷ [] = rw same refl in
        ap (λ xs. greatest (first_copy ∷ xs)) one ∙ greatest-push first_copy copy (local.brought f) ∙ ap (λ c. newer_of c copy) here ∙ (rw (fits.1, same) refl)
    now f false other =
        let one : (recalled (Kept file copy) local).brought f ≡ local.brought f = rw other refl in
        ap (λ xs. greatest (first_copy ∷ xs)) one ∙ (rw other refl)
recall_keeps site local (Had file copy) fits =
    ap (λ (d : Doing). files_of_part (part_in d.local)) (recalls_fits (Had file copy) site local fits.0) ∙ given_files local file copy fits.1
