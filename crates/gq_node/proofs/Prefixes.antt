-- What a node that has the first volumes of a run accepts is accepted where all are open, and the same is done.
use Rattle.std.proofs.Common.{◌≡◌, ◌∙◌, ℕ, zero, suc, ◌+◌, ◌<◌, ◌≤◌, Bool, true, false, List, [], ◌∷◌, length, take, Option, Some, None, refl, sym, ap, subst, arith}
use Rattle.std.specs.Prelude.{◌==◌, ◌&&◌, not, nat_lt, is_none, slice_get, unwrap_or, if◌then◌else◌}
use Rattle.std.specs.Option.{option_and_then}
use Rattle.std.proofs.lemmas.Bool.Decides.{nat_tests}
use Rattle.std.proofs.lemmas.Option.{slice_get_within}
use Rattle.gq_grid.specs.Grid.{Grid, Servers}
use Rattle.gq_tag.specs.Tag.{OwnMessage, to_server}
use Rattle.gq_desk.specs.declared.plans.TenantRow.{TenantRow}
use Rattle.gq_desk.specs.declared.volumes.VolumeRow.{VolumeRow}
use Rattle.gq_desk.specs.Volumes.{limit_in}
use Rattle.gq_phase.specs.Phase.{Listing}
use Rattle.gq_model.specs.declared.events.Line.{Line}
use Rattle.gq_model.specs.declared.events.Line.TheVariants.{Bad, Quorum, NewVolume, Volumes, Write, Read, List as ListFiles, Deliver, Lose, Retry, Abandon}
use Rattle.gq_model.specs.declared.events.Refusal.{Refusal}
use Rattle.gq_model.specs.Told.{Told, Chosen, Opened, VolumesAre, Began, Replied, IsDown, Stale, Noted, Round, Done, Lost, Resent, Abandoned, Refused, ServerOk, Repaired, ServerRefused, StrayBad}
use Rattle.gq_model.specs.Trace.{State, Session, Deed, Elsewhere, Begins, Hears, Moves, Ends, Leaps, deed, heard_deed, delivered_deed, session_by, files_of, limit_at, task_of, changed}
use Rattle.gq_model.specs.Lone.{Cause, Step, first_cause, no_session, busy, no_volume, no_file, too_long, no_quorum, session_causes, session_step, begin_step, asked_step, unless, is_refusal}
use Rattle.gq_cluster.specs.Cluster.{Setting, Part, Act, Asks, Comes, aim_of, act_entry, step_of, state_of, state_after, fact_in, fact_of, part_of, part_after, session_named}
use Rattle.gq_cluster.specs.Facts.{reserving, with_reserved}
use Rattle.gq_cluster.proofs.Parts.{act_deed}

-- these are the first ones of those
pub record IsPrefix (volumes all : List VolumeRow) : Type 0 where
  pub rows : (v : ℕ) → v < length volumes → slice_get all v ≡ slice_get volumes v
  pub short : length volumes ≤ length all

pub take_prefix : (n : ℕ) (all : List VolumeRow) → IsPrefix (take n all) all
take_prefix n all = record { rows = rows n all; short = short n all }
  where
    rows : (n : ℕ) (all : List VolumeRow) (v : ℕ) → v < length (take n all) → slice_get all v ≡ slice_get (take n all) v
    rows zero all v within = absurd (omega arith)
    rows (suc n) [] v within = refl
    rows (suc n) (row ∷ all) zero within = refl
    rows (suc n) (row ∷ all) (suc v) within = rows n all v (omega arith)

    short : (n : ℕ) (all : List VolumeRow) → length (take n all) ≤ length all
    short zero all = omega arith
    short (suc n) [] = omega arith
    short (suc n) (row ∷ all) = let rest = short n all in omega arith

pub take_less : (n m : ℕ) (all : List VolumeRow) → n ≤ m → IsPrefix (take n all) (take m all)
take_less n m all below = record { rows = rows n m all below; short = short n m all below }
  where
    rows : (n m : ℕ) (all : List VolumeRow) → n ≤ m → (v : ℕ) → v < length (take n all) → slice_get (take m all) v ≡ slice_get (take n all) v
    rows zero m all below v within = absurd (omega arith)
    rows (suc n) zero all below v within = absurd (omega arith)
    rows (suc n) (suc m) [] below v within = refl
    rows (suc n) (suc m) (row ∷ all) below zero within = refl
    rows (suc n) (suc m) (row ∷ all) below (suc v) within = rows n m all (omega arith) v (omega arith)

    short : (n m : ℕ) (all : List VolumeRow) → n ≤ m → length (take n all) ≤ length (take m all)
    short zero m all below = omega arith
    short (suc n) zero all below = absurd (omega arith)
    short (suc n) (suc m) [] below = omega arith
    short (suc n) (suc m) (row ∷ all) below = let rest = short n m all (omega arith) in omega arith

-- the limit of a file of these is its limit of those
pub limit_kept : (volumes all : List VolumeRow) (v f bytes : ℕ) → IsPrefix volumes all → option_and_then (limit_in f) (slice_get volumes v) ≡ Some bytes → option_and_then (limit_in f) (slice_get all v) ≡ Some bytes
limit_kept volumes all v f bytes is there' = by (slice_get volumes v) refl
  where
    by : (o : Option VolumeRow) → slice_get volumes v ≡ o → option_and_then (limit_in f) (slice_get all v) ≡ Some bytes
    by None none = let e : ◌≡◌ {A = Option ℕ} None (Some bytes) = (let s : option_and_then (limit_in f) (slice_get volumes v) ≡ None = rw none refl in sym s ∙ there') in absurd (cc)
    by (Some row) some = ap (option_and_then (limit_in f)) (is.rows v (slice_get_within volumes v row some)) ∙ there'

abbrev pub with_volumes : List VolumeRow → State → State
with_volumes all state = record state { volumes = all }

files_same : (volumes all : List VolumeRow) (v : ℕ) → IsPrefix volumes all → v < length volumes → files_of all v ≡ files_of volumes v
files_same volumes all v is within = rw (is.rows v within) refl

pub limit_same : (state : State) (all : List VolumeRow) (v f : ℕ) → IsPrefix state.volumes all → v < length state.volumes → limit_at (with_volumes all state) v f ≡ limit_at state v f
limit_same state all v f is within = ap (option_and_then (limit_in f)) (is.rows v within)

-- ---- no cause refuses the line

cause_parts : (c : Cause) (cs : List Cause) → first_cause (c ∷ cs) ≡ None → (c.0 ≡ false) × (first_cause cs ≡ None)
cause_parts c cs is = by c.0 refl
  where
    by : (b : Bool) → c.0 ≡ b → (c.0 ≡ false) × (first_cause cs ≡ None)
    by true holds = let e : ◌≡◌ {A = Option Refusal} (Some c.1) None = (let s : first_cause (c ∷ cs) ≡ Some c.1 = rw holds refl in sym s ∙ is) in absurd (cc)
    by false none = let s : first_cause (c ∷ cs) ≡ first_cause cs = rw none refl in (none, sym s ∙ is)

none_more : (c : Cause) (cs : List Cause) → c.0 ≡ false → first_cause cs ≡ None → first_cause (c ∷ cs) ≡ None
none_more c cs none rest = rw none rest

there : (state : State) (v : ℕ) → (no_volume state v).0 ≡ false → v < length state.volumes
there state v is = grind (arith, nat_tests)

volume_more : (state : State) (all : List VolumeRow) (v : ℕ) → IsPrefix state.volumes all → (no_volume state v).0 ≡ false → (no_volume (with_volumes all state) v).0 ≡ false
volume_more state all v is there' = let short = is.short in grind (arith, nat_tests)

file_more : (state : State) (all : List VolumeRow) (v f : ℕ) → IsPrefix state.volumes all → v < length state.volumes → (no_file state v f).0 ≡ false → (no_file (with_volumes all state) v f).0 ≡ false
file_more state all v f is within some = ap is_none (limit_same state all v f is within) ∙ some

long_more : (state : State) (all : List VolumeRow) (v f : ℕ) (bytes : List ℕ) → IsPrefix state.volumes all → v < length state.volumes → (too_long state v f bytes).0 ≡ false → (too_long (with_volumes all state) v f bytes).0 ≡ false
long_more state all v f bytes is within fits = ap (λ o. nat_lt (unwrap_or o 0) (length bytes)) (limit_same state all v f is within) ∙ fits

-- a line that no cause refuses of these volumes none refuses of all
causes_more : (grid : Grid) (row : TenantRow) (state : State) (all : List VolumeRow) (line : Line) → IsPrefix state.volumes all → first_cause (session_causes grid row state line) ≡ None →
    first_cause (session_causes grid row (with_volumes all state) line) ≡ None
causes_more grid row state all (Write k v f bytes) is none =
    let later : State = with_volumes all state in
    let a = cause_parts (no_session row k) (busy state k ∷ no_volume state v ∷ no_file state v f ∷ too_long state v f bytes ∷ no_quorum grid state 1 ∷ []) none in
    let b = cause_parts (busy state k) (no_volume state v ∷ no_file state v f ∷ too_long state v f bytes ∷ no_quorum grid state 1 ∷ []) a.1 in
    let c = cause_parts (no_volume state v) (no_file state v f ∷ too_long state v f bytes ∷ no_quorum grid state 1 ∷ []) b.1 in
    let d = cause_parts (no_file state v f) (too_long state v f bytes ∷ no_quorum grid state 1 ∷ []) c.1 in
    let e = cause_parts (too_long state v f bytes) (no_quorum grid state 1 ∷ []) d.1 in
    let within : v < length state.volumes = there state v c.0 in
    none_more (no_session row k) (busy later k ∷ no_volume later v ∷ no_file later v f ∷ too_long later v f bytes ∷ no_quorum grid later 1 ∷ []) a.0
    (none_more (busy later k) (no_volume later v ∷ no_file later v f ∷ too_long later v f bytes ∷ no_quorum grid later 1 ∷ []) b.0
    (none_more (no_volume later v) (no_file later v f ∷ too_long later v f bytes ∷ no_quorum grid later 1 ∷ []) (volume_more state all v is c.0)
    (none_more (no_file later v f) (too_long later v f bytes ∷ no_quorum grid later 1 ∷ []) (file_more state all v f is within d.0)
    (none_more (too_long later v f bytes) (no_quorum grid later 1 ∷ []) (long_more state all v f bytes is within e.0) e.1))))
causes_more grid row state all (Read k v f) is none =
    let later : State = with_volumes all state in
    let a = cause_parts (no_session row k) (busy state k ∷ no_volume state v ∷ no_file state v f ∷ no_quorum grid state 1 ∷ []) none in
    let b = cause_parts (busy state k) (no_volume state v ∷ no_file state v f ∷ no_quorum grid state 1 ∷ []) a.1 in
    let c = cause_parts (no_volume state v) (no_file state v f ∷ no_quorum grid state 1 ∷ []) b.1 in
    let d = cause_parts (no_file state v f) (no_quorum grid state 1 ∷ []) c.1 in
    let within : v < length state.volumes = there state v c.0 in
    none_more (no_session row k) (busy later k ∷ no_volume later v ∷ no_file later v f ∷ no_quorum grid later 1 ∷ []) a.0
    (none_more (busy later k) (no_volume later v ∷ no_file later v f ∷ no_quorum grid later 1 ∷ []) b.0
    (none_more (no_volume later v) (no_file later v f ∷ no_quorum grid later 1 ∷ []) (volume_more state all v is c.0)
    (none_more (no_file later v f) (no_quorum grid later 1 ∷ []) (file_more state all v f is within d.0) d.1)))
causes_more grid row state all (ListFiles k v) is none =
    let later : State = with_volumes all state in
    let a = cause_parts (no_session row k) (busy state k ∷ no_volume state v ∷ no_quorum grid state 1 ∷ []) none in
    let b = cause_parts (busy state k) (no_volume state v ∷ no_quorum grid state 1 ∷ []) a.1 in
    let c = cause_parts (no_volume state v) (no_quorum grid state 1 ∷ []) b.1 in
    none_more (no_session row k) (busy later k ∷ no_volume later v ∷ no_quorum grid later 1 ∷ []) a.0
    (none_more (busy later k) (no_volume later v ∷ no_quorum grid later 1 ∷ []) b.0
    (none_more (no_volume later v) (no_quorum grid later 1 ∷ []) (volume_more state all v is c.0) c.1))
causes_more grid row state all (Retry k) is none = none
causes_more grid row state all (Abandon k) is none = none
causes_more grid row state all Bad is none = none
causes_more grid row state all Quorum is none = none
causes_more grid row state all (NewVolume files blocks) is none = none
causes_more grid row state all Volumes is none = none
causes_more grid row state all (Deliver number) is none = none
causes_more grid row state all (Lose number) is none = none

-- the task is the same, where the volume of a listing is there
task_same : (grid : Grid) (row : TenantRow) (state : State) (all : List VolumeRow) (line : Line) → IsPrefix state.volumes all → first_cause (session_causes grid row state line) ≡ None → task_of all line ≡ task_of state.volumes line
task_same grid row state all (ListFiles k v) is none =
    let a = cause_parts (no_session row k) (busy state k ∷ no_volume state v ∷ no_quorum grid state 1 ∷ []) none in
    let b = cause_parts (busy state k) (no_volume state v ∷ no_quorum grid state 1 ∷ []) a.1 in
    let c = cause_parts (no_volume state v) (no_quorum grid state 1 ∷ []) b.1 in
    ap (λ n. Some (Listing v n)) (files_same state.volumes all v is (there state v c.0))
task_same grid row state all (Write k v f bytes) is none = refl
task_same grid row state all (Read k v f) is none = refl
task_same grid row state all (Retry k) is none = refl
task_same grid row state all (Abandon k) is none = refl
task_same grid row state all Bad is none = refl
task_same grid row state all Quorum is none = refl
task_same grid row state all (NewVolume files blocks) is none = refl
task_same grid row state all Volumes is none = refl
task_same grid row state all (Deliver number) is none = refl
task_same grid row state all (Lose number) is none = refl

session_step_same : (grid : Grid) (row : TenantRow) (state : State) (all : List VolumeRow) (line : Line) → IsPrefix state.volumes all → first_cause (session_causes grid row state line) ≡ None →
    session_step grid (with_volumes all state) line ≡ session_step grid state line
session_step_same grid row state all (ListFiles k v) is none = ap (begin_step grid state k) (task_same grid row state all (ListFiles k v) is none)
session_step_same grid row state all (Write k v f bytes) is none = refl
session_step_same grid row state all (Read k v f) is none = refl
session_step_same grid row state all (Retry k) is none = refl
session_step_same grid row state all (Abandon k) is none = refl
session_step_same grid row state all Bad is none = refl
session_step_same grid row state all Quorum is none = refl
session_step_same grid row state all (NewVolume files blocks) is none = refl
session_step_same grid row state all Volumes is none = refl
session_step_same grid row state all (Deliver number) is none = refl
session_step_same grid row state all (Lose number) is none = refl

-- a line that is not refused is refused by no cause
no_cause : (o : Option Refusal) (step : Step) → is_refusal (unless o step).told ≡ false → o ≡ None
no_cause None step is = refl
no_cause (Some word) step is = absurd (cc)

pub asked_same : (grid : Grid) (row : TenantRow) (state : State) (all : List VolumeRow) (line : Line) → IsPrefix state.volumes all → is_refusal (asked_step grid row state line).told ≡ false →
    asked_step grid row (with_volumes all state) line ≡ asked_step grid row state line
asked_same grid row state all line is accepted =
    let none : first_cause (session_causes grid row state line) ≡ None = no_cause (first_cause (session_causes grid row state line)) (session_step grid state line) accepted in
    ap (λ o. unless o (session_step grid (with_volumes all state) line)) (causes_more grid row state all line is none)
    ∙ session_step_same grid row state all line is none
    ∙ sym (ap (λ o. unless o (session_step grid state line)) none)

-- ---- an act

-- a deed by which no operation begins leaves each session as it does, whatever volumes there are
deed_same : (volumes all : List VolumeRow) (k : ℕ) (d : Deed) (s : Session) → ((line : Line) → d ≡ Begins line → task_of all line ≡ task_of volumes line) → session_by all k d s ≡ session_by volumes k d s
deed_same volumes all k Elsewhere s tasks = refl
deed_same volumes all k (Begins line) s tasks = ap (λ t. record { op = s.op + 1; current = t; round = 1; heard = []; collected = []; floor = s.floor }) (tasks line refl)
deed_same volumes all k (Hears message) s tasks = refl
deed_same volumes all k (Moves message next tag) s tasks = refl
deed_same volumes all k Ends s tasks = refl
deed_same volumes all k (Leaps op number) s tasks = refl

heard_never : (m : OwnMessage) (told : Told) (line : Line) → heard_deed m told ≡ Begins line → ⊥
heard_never m (Chosen choice set) line is = cc
heard_never m (Opened number) line is = cc
heard_never m (VolumesAre free volumes) line is = cc
heard_never m (Began op first count) line is = cc
heard_never m (Replied number) line is = cc
heard_never m IsDown line is = cc
heard_never m Stale line is = cc
heard_never m Noted line is = cc
heard_never m (Round round tag first count) line is = cc
heard_never m (Done outcome) line is = cc
heard_never m Lost line is = cc
heard_never m (Resent first count) line is = cc
heard_never m Abandoned line is = cc
heard_never m (Refused word) line is = cc
heard_never m ServerOk line is = cc
heard_never m (Repaired peer) line is = cc
heard_never m (ServerRefused word) line is = cc
heard_never m StrayBad line is = cc

letter_never : (k : ℕ) (m : OwnMessage) (told : Told) (line : Line) → delivered_deed k (Some m) told ≡ Begins line → ⊥
letter_never k m told line is = by (not (to_server m.body) && (m.session == k)) refl
  where
    by : (b : Bool) → (not (to_server m.body) && (m.session == k)) ≡ b → ⊥
    by true here = let e : delivered_deed k (Some m) told ≡ heard_deed m told = rw here refl in heard_never m told line (sym e ∙ is)
    by false away = let e : delivered_deed k (Some m) told ≡ Elsewhere = rw away refl in let h : ◌≡◌ {A = Deed} Elsewhere (Begins line) = sym e ∙ is in cc

-- whose line it is
its_line : (k j : ℕ) (line other : Line) → ◌≡◌ {A = Deed} (if j == k then Begins line else Elsewhere) (Begins other) → other ≡ line
its_line k j line other is = by (j == k) refl
  where
    line_in : Deed → Line
    line_in (Begins l) = l
    line_in _ = line

    by : (b : Bool) → (j == k) ≡ b → other ≡ line
    by true here = let e : ◌≡◌ {A = Deed} (if j == k then Begins line else Elsewhere) (Begins line) = rw here refl in sym (ap line_in (sym e ∙ is))
    by false away = let e : ◌≡◌ {A = Deed} (if j == k then Begins line else Elsewhere) Elsewhere = rw away refl in let h : ◌≡◌ {A = Deed} Elsewhere (Begins other) = sym e ∙ is in absurd (cc)

-- an act begins no operation but that of its line
act_begins : (k : ℕ) (line other : Line) (aim : Servers) (step : Step) → deed k (act_entry (Asks line aim) step) ≡ Begins other → other ≡ line
act_begins k (Write j v f bytes) other aim step is = its_line k j (Write j v f bytes) other is
act_begins k (Read j v f) other aim step is = its_line k j (Read j v f) other is
act_begins k (ListFiles j v) other aim step is = its_line k j (ListFiles j v) other is
act_begins k (Abandon j) other aim step is = by (j == k) refl
  where
    by : (b : Bool) → (j == k) ≡ b → other ≡ Abandon j
    by true here = let e : deed k (act_entry (Asks (Abandon j) aim) step) ≡ Ends = rw here refl in let h : ◌≡◌ {A = Deed} Ends (Begins other) = sym e ∙ is in absurd (cc)
    by false away = let e : deed k (act_entry (Asks (Abandon j) aim) step) ≡ Elsewhere = rw away refl in let h : ◌≡◌ {A = Deed} Elsewhere (Begins other) = sym e ∙ is in absurd (cc)
act_begins k (Retry j) other aim step is = absurd (cc)
act_begins k Bad other aim step is = absurd (cc)
act_begins k Quorum other aim step is = absurd (cc)
act_begins k (NewVolume files blocks) other aim step is = absurd (cc)
act_begins k Volumes other aim step is = absurd (cc)
act_begins k (Deliver number) other aim step is = absurd (cc)
act_begins k (Lose number) other aim step is = absurd (cc)

-- ---- the steps and parts of an act

-- the setting in which these volumes are open
abbrev pub opened_in : List VolumeRow → Setting → Setting
opened_in volumes s = record s { volumes = volumes }

pub step_same : (volumes : List VolumeRow) (s : Setting) (part : Part) (act : Act) → IsPrefix volumes s.volumes → is_refusal (step_of (opened_in volumes s) part act).told ≡ false → step_of s part act ≡ step_of (opened_in volumes s) part act
step_same volumes s part (Asks line aim) is accepted = asked_same s.grid s.row (state_of volumes aim part) s.volumes line is accepted
step_same volumes s part (Comes letter aim) is accepted = refl

-- no operation begins with another task
tasks_same : (volumes : List VolumeRow) (s : Setting) (part : Part) (act : Act) (k : ℕ) (other : Line) → IsPrefix volumes s.volumes → is_refusal (step_of (opened_in volumes s) part act).told ≡ false →
    deed k (act_entry act (step_of (opened_in volumes s) part act)) ≡ Begins other → task_of s.volumes other ≡ task_of volumes other
tasks_same volumes s part (Asks line aim) k other is accepted begins =
    let state : State = state_of volumes aim part in
    let none : first_cause (session_causes s.grid s.row state line) ≡ None = no_cause (first_cause (session_causes s.grid s.row state line)) (session_step s.grid state line) accepted in
    subst (λ l. task_of s.volumes l ≡ task_of volumes l) (sym (act_begins k line other aim (step_of (opened_in volumes s) part (Asks line aim)) begins)) (task_same s.grid s.row state s.volumes line is none)
tasks_same volumes s part (Comes letter aim) k other is accepted begins = absurd (letter_never k letter (step_of (opened_in volumes s) part (Comes letter aim)).told other begins)

sessions_same : (volumes : List VolumeRow) (s : Setting) (part : Part) (act : Act) → IsPrefix volumes s.volumes → is_refusal (step_of (opened_in volumes s) part act).told ≡ false →
    (k : ℕ) → (state_after s part act).session k ≡ (state_after (opened_in volumes s) part act).session k
sessions_same volumes s part act is accepted k =
    ap (λ d. session_by s.volumes k d (part.session k)) (act_deed [] k (part.session k) act (step_of s part act))
    ∙ ap (λ (z : Step). session_by s.volumes k (deed k (act_entry act z)) (part.session k)) (step_same volumes s part act is accepted)
    ∙ deed_same volumes s.volumes k (deed k (act_entry act (step_of (opened_in volumes s) part act))) (part.session k) (λ other begins. tasks_same volumes s part act k other is accepted begins)
    ∙ sym (ap (λ d. session_by volumes k d (part.session k)) (act_deed [] k (part.session k) act (step_of (opened_in volumes s) part act)))

in_same : (volumes : List VolumeRow) (s : Setting) (part : Part) (act : Act) → IsPrefix volumes s.volumes → is_refusal (step_of (opened_in volumes s) part act).told ≡ false → (k : ℕ) → fact_in s part act k ≡ fact_in (opened_in volumes s) part act k
in_same volumes s part act is accepted k = λ i. reserving k (part.reserved k) (step_same volumes s part act is accepted i).told (sessions_same volumes s part act is accepted k i).floor

fact_heard : (s : Setting) (part : Part) (letter : OwnMessage) (aim : Servers) → to_server letter.body ≡ false → fact_of s part (Comes letter aim) ≡ fact_in s part (Comes letter aim) letter.session
fact_heard s part letter aim goes = rw goes refl

facts_same : (volumes : List VolumeRow) (s : Setting) (part : Part) (act : Act) → IsPrefix volumes s.volumes → is_refusal (step_of (opened_in volumes s) part act).told ≡ false → fact_of s part act ≡ fact_of (opened_in volumes s) part act
facts_same volumes s part (Asks line aim) is accepted = in_same volumes s part (Asks line aim) is accepted (session_named line)
facts_same volumes s part (Comes letter aim) is accepted = by (to_server letter.body) refl
  where
    by : (b : Bool) → to_server letter.body ≡ b → fact_of s part (Comes letter aim) ≡ fact_of (opened_in volumes s) part (Comes letter aim)
    by true goes = rw goes refl
    by false goes = fact_heard s part letter aim goes ∙ in_same volumes s part (Comes letter aim) is accepted letter.session ∙ sym (fact_heard (opened_in volumes s) part letter aim goes)

-- the part after an act that the node does not refuse is the same where all volumes are open
pub part_same : (volumes : List VolumeRow) (s : Setting) (n : ℕ) (part : Part) (act : Act) → IsPrefix volumes s.volumes → is_refusal (step_of (opened_in volumes s) part act).told ≡ false →
    part_after s n part act ≡ part_after (opened_in volumes s) n part act
part_same volumes s n part act is accepted =
    let step : step_of s part act ≡ step_of (opened_in volumes s) part act = step_same volumes s part act is accepted in
    let also : is_refusal (step_of s part act).told ≡ false = ap (λ (z : Step). is_refusal z.told) step ∙ accepted in
    let left : part_after s n part act ≡ part_then s = rw also refl in
    let right : part_after (opened_in volumes s) n part act ≡ part_then (opened_in volumes s) = rw accepted refl in
    left ∙ then_same ∙ sym right
  where
    part_then : Setting → Part
    part_then z = part_of n (with_reserved (fact_of z part act) part.reserved) (state_after z part act)

    then_same : part_then s ≡ part_then (opened_in volumes s)
    then_same = λ i. record {
      brought = (changed (act_entry act (step_same volumes s part act is accepted i)) (state_of s.volumes (aim_of act) part)).brought n;
      lacks = (changed (act_entry act (step_same volumes s part act is accepted i)) (state_of s.volumes (aim_of act) part)).lacks n;
      session = λ k. sessions_same volumes s part act is accepted k i;
      reserved = with_reserved (facts_same volumes s part act is accepted i) part.reserved;
    }
