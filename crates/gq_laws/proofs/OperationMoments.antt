-- The moments at which an operation begins, makes its tag and ends.
use Rattle.std.proofs.Common.{◌≡◌, ◌≢◌, ◌⊎◌, ℕ, zero, suc, ◌+◌, Bool, true, false, ◌++◌, List, [], ◌∷◌, length, refl, sym, ap, ◌∙◌, subst, inl, inr, Option, Some, None, eqb, option_map}
use Rattle.std.specs.Prelude.{slice_get}
use Rattle.std.proofs.lemmas.Bool.{true≢false, eq-eqb, eqb-true, and_parts}
use Rattle.gq_grid.specs.Grid.{Grid, Servers}
use Rattle.gq_tag.specs.declared.Tag.{Tag}
use Rattle.gq_tag.specs.declared.StoredCopy.{StoredCopy}
use Rattle.gq_tag.specs.Tag.{OwnMessage, File, is_file}
use Rattle.gq_desk.specs.declared.plans.TenantRow.{TenantRow}
use Rattle.gq_desk.specs.declared.volumes.VolumeRow.{VolumeRow}
use Rattle.gq_phase.specs.Phase.{Task, Writing, Reading, Listing, Operation, HeardNext, HeardDone, hear_current, with_reply, is_collect, stored_copy, decided_copy, with_decided}
use Rattle.gq_phase.specs.declared.Outcome.{Outcome}
use Rattle.gq_phase.specs.declared.Outcome.TheVariants.{Wrote}
use Rattle.gq_model.specs.Trace.{files_of, Turn, Own, Serving, Leaping, Losing, Returning, Entry, Trace, Past, Begins, Moves, Ends, Leaps, deed, up, task_of, volumes}
use Rattle.gq_model.specs.declared.events.Line.{Line}
use Rattle.gq_model.specs.declared.events.Line.TheVariants.{Write, Read, List as ListFiles}
use Rattle.gq_model.specs.Told.{Told, Began}
use Rattle.gq_model.specs.Lone.{after, said, is_refusal}
use Rattle.gq_laws.proofs.Words.{deed_on, op, round, current, collected}
use Rattle.gq_laws.specs.declared.ops.Kind.TheVariants.{Write as Writes, Read as Reads, Row as Rows}
use Rattle.gq_laws.specs.declared.ops.Op.{Op}
use Rattle.gq_laws.specs.Operations.{SessionAnswer, ending, write_tag, end_place, copy_told, row_told, begun_at}
use Rattle.gq_laws.proofs.Runs.{op_start}
use Rattle.gq_laws.proofs.Found.{stored-push}
use Rattle.gq_phase.proofs.Saying.{even_is}
use Rattle.gq_laws.proofs.RoundEnds.{Next, ToStore, ToCollect, Skips, next_of, IsDone, DoneWrite, DoneRead, DoneList, DoneBy, ByStore, BySkip, done_of, write_stores}
use Rattle.gq_laws.proofs.Acts.{Comes, going, act, Turning, turning}
use Rattle.gq_laws.proofs.Reaching.{Goes, goes_or_not, Reach, Here, Later}
use Rattle.gq_laws.proofs.Telling.{first_told, tells, tells-cons}
use Rattle.gq_laws.proofs.SessionTurns.{View, Quiet, Turned, Finished, Started, Stopped, GivenUp, Jumped, view, Ending, Tagging}

-- ---- a session that has no operation

-- a turn after which it has none, and one before which it has none, that begins none
still_idle : (grid : Grid) (row : TenantRow) (p : Past) (x : Turn) (k : ℕ) (g : Goes grid row p x) → deed_on p.trace k g.e ≡ Ends → current (after grid row p x).trace k ≡ None
still_idle grid row p x k g is = ap (λ t. current t k) g.grown ∙ rw (is, current) refl

leapt_idle : (grid : Grid) (row : TenantRow) (p : Past) (x : Turn) (k last number : ℕ) (g : Goes grid row p x) → deed_on p.trace k g.e ≡ Leaps last number → current (after grid row p x).trace k ≡ None
leapt_idle grid row p x k last number g is = ap (λ t. current t k) g.grown ∙ rw (is, current) refl

-- until its next request nothing ends in it, and no write makes a tag
idle_ends : (grid : Grid) (row : TenantRow) (es : List Turn) (p : Past) (n k : ℕ) → current p.trace k ≡ None → (ending k (tells grid row p n es) ≡ None) × (write_tag k (tells grid row p n es) ≡ None)
idle_ends grid row [] p n k idle = (refl, refl)
idle_ends grid row (x ∷ es) p n k idle = go (idle_ends grid row es (after grid row p x) (n + 1) k) (view grid row p n x k)
  where
    rest : List SessionAnswer
    rest = tells grid row (after grid row p x) (n + 1) es

    Nothing : Type 0
    Nothing = (ending k rest ≡ None) × (write_tag k rest ≡ None)

    Result : Type 0
    Result = (ending k (tells grid row p n (x ∷ es)) ≡ None) × (write_tag k (tells grid row p n (x ∷ es)) ≡ None)

    by : Ending (first_told grid row p n x) k (ending k) → Tagging (first_told grid row p n x) k (write_tag k) → Nothing → Result
    by en tg none = (ap (ending k) (tells-cons grid row p n x es) ∙ en rest ∙ none.0, ap (write_tag k) (tells-cons grid row p n x es) ∙ tg rest ∙ none.1)

    over : Ending (first_told grid row p n x) k (λ rest. None) → Tagging (first_told grid row p n x) k (λ rest. None) → Result
    over en tg = (ap (ending k) (tells-cons grid row p n x es) ∙ en rest, ap (write_tag k) (tells-cons grid row p n x es) ∙ tg rest)

    go : (current (after grid row p x).trace k ≡ None → Nothing) → View grid row p n x k → Result
    go ih (Quiet u en tg) = by en tg (ih (u.current ∙ idle))
    go ih (Turned g l task r tag comes message is heard en tg) = absurd (let bad : None ≡ Some task = sym idle ∙ comes.busy in cc)
    go ih (Finished g l task out comes is heard en tg) = absurd (let bad : None ≡ Some task = sym idle ∙ comes.busy in cc)
    go ih (Started g line task first count turn says is does en tg) = over en tg
    go ih (Stopped g is en tg) = over en tg
    go ih (GivenUp g is en tg) = by en tg (ih (still_idle grid row p x k g is))
    go ih (Jumped g last number before is en tg) = by en tg (ih (leapt_idle grid row p x k last number g is))

-- ---- how an operation ends

-- at place m the operation of session k that goes on at p ends with the outcome
pub record Ended (grid : Grid) (row : TenantRow) (p : Past) (n : ℕ) (es : List Turn) (k : ℕ) (task : Task) (m : ℕ) (outcome : Outcome) : Type 0 where
  pub q : Past
  pub x : Turn
  pub rest : List Turn
  pub reach : Reach grid row p n es q m (x ∷ rest)
  pub g : Goes grid row q x
  pub l : OwnMessage
  pub comes : Comes q.trace k l task
  pub does : deed_on q.trace k g.e ≡ Ends
  pub heard : hear_current grid (up q.trace) (with_reply (going q.trace k task) l) ≡ HeardDone outcome
  pub start : op_start q.trace k ≡ op_start p.trace k

-- the outcome of an ending
abbrev outcome_in : Option (ℕ × Outcome) → Option Outcome
outcome_in None = None
outcome_in (Some e) = Some e.1

pub ended : (grid : Grid) (row : TenantRow) (es : List Turn) (p : Past) (n k : ℕ) (task : Task) (m : ℕ) (outcome : Outcome) →
    current p.trace k ≡ Some task → ending k (tells grid row p n es) ≡ Some (m, outcome) → Ended grid row p n es k task m outcome
ended grid row [] p n k task m outcome busy h = absurd (let bad : None ≡ Some (m, outcome) = h in cc)
ended grid row (x ∷ es) p n k task m outcome busy h = go (λ b e. ended grid row es (after grid row p x) (n + 1) k task m outcome b e) (view grid row p n x k)
  where
    p' : Past
    p' = after grid row p x

    h' : ending k (first_told grid row p n x ∷ tells grid row p' (n + 1) es) ≡ Some (m, outcome)
    h' = sym (ap (ending k) (tells-cons grid row p n x es)) ∙ h

    On : Type 0
    On = current p'.trace k ≡ Some task → ending k (tells grid row p' (n + 1) es) ≡ Some (m, outcome) → Ended grid row p' (n + 1) es k task m outcome

    on : On → current p'.trace k ≡ Some task → op_start p'.trace k ≡ op_start p.trace k → ending k (tells grid row p' (n + 1) es) ≡ Some (m, outcome) → Ended grid row p n (x ∷ es) k task m outcome
    on ih busy' start same =
        let later = ih busy' same in
        record { q = later.q; x = later.x; rest = later.rest; reach = Later later.reach; g = later.g; l = later.l; comes = later.comes; does = later.does; heard = later.heard; start = later.start ∙ start }

    here : (g : Goes grid row p x) (l : OwnMessage) (out : Outcome) → Comes p.trace k l task → deed_on p.trace k g.e ≡ Ends → hear_current grid (up p.trace) (with_reply (going p.trace k task) l) ≡ HeardDone out → n ≡ m → out ≡ outcome → Ended grid row p n (x ∷ es) k task m outcome
    here g l out comes is heard place same =
        let P : ℕ → Outcome → Type 0 = λ z o. Ended grid row p n (x ∷ es) k task z o in
        subst (λ z. P z outcome) place (subst (λ o. P n o) same (record { q = p; x = x; rest = es; reach = Here; g = g; l = l; comes = comes; does = is; heard = heard; start = refl }))

    go : On → View grid row p n x k → Ended grid row p n (x ∷ es) k task m outcome
    go ih (Quiet u en tg) = on ih (u.current ∙ busy) u.op_start (sym (en (tells grid row p' (n + 1) es)) ∙ h')
    go ih (Turned g l task' r tag comes message is heard en tg) =
        on ih (ap (λ t. current t k) g.grown ∙ (rw (is, current)) ∙ busy) (ap (λ t. op_start t k) g.grown ∙ (rw is)) (sym (en (tells grid row p' (n + 1) es)) ∙ h')
    go ih (Finished g l task' out comes is heard en tg) =
        let both : ◌≡◌ {A = Option (ℕ × Outcome)} (Some (n, out)) (Some (m, outcome)) = sym (en (tells grid row p' (n + 1) es)) ∙ h' in
        let tasks : Some task' ≡ Some task = sym comes.busy ∙ busy in
        let same : task' ≡ task = cc in
        let place : Some n ≡ Some m = ap end_place both in
        let places : n ≡ m = cc in
        let outs : Some out ≡ Some outcome = ap outcome_in both in
        let out_is : out ≡ outcome = cc in
        here g l out (let P : Task → Type 0 = λ z. Comes p.trace k l z in subst P same comes) is (let P : Task → Type 0 = λ z. hear_current grid (up p.trace) (with_reply (going p.trace k z) l) ≡ HeardDone out in subst P same heard) places out_is
    go ih (Started g line task' first count turn says is does en tg) = absurd (let bad : None ≡ Some (m, outcome) = sym (en (tells grid row p' (n + 1) es)) ∙ h' in cc)
    go ih (Stopped g is en tg) = absurd (let bad : None ≡ Some (m, outcome) = sym (en (tells grid row p' (n + 1) es)) ∙ h' in cc)
    go ih (GivenUp g is en tg) =
        let none = idle_ends grid row es p' (n + 1) k (still_idle grid row p x k g is) in
        absurd (let bad : None ≡ Some (m, outcome) = sym none.0 ∙ sym (en (tells grid row p' (n + 1) es)) ∙ h' in cc)
    go ih (Jumped g last number idle is en tg) = absurd (let bad : None ≡ Some task = sym idle ∙ busy in cc)

-- ---- how a write makes its tag

-- at place m the next round of session k's operation begins, with the tag
pub record Tags (grid : Grid) (row : TenantRow) (p : Past) (n : ℕ) (es : List Turn) (k : ℕ) (task : Task) (m : ℕ) (tag : Tag) : Type 0 where
  pub q : Past
  pub x : Turn
  pub rest : List Turn
  pub reach : Reach grid row p n es q m (x ∷ rest)
  pub g : Goes grid row q x
  pub l : OwnMessage
  pub r : ℕ
  pub comes : Comes q.trace k l task
  pub message : g.e.message ≡ Some l
  pub does : deed_on q.trace k g.e ≡ Moves l r (Some tag)
  pub heard : hear_current grid (up q.trace) (with_reply (going q.trace k task) l) ≡ HeardNext r (Some tag) g.e.new
  pub start : op_start q.trace k ≡ op_start p.trace k
  pub round : round q.trace k ≡ round p.trace k

pub tags : (grid : Grid) (row : TenantRow) (es : List Turn) (p : Past) (n k : ℕ) (task : Task) (tag : Tag) →
    current p.trace k ≡ Some task → write_tag k (tells grid row p n es) ≡ Some tag → (m : ℕ) × Tags grid row p n es k task m tag
tags grid row [] p n k task tag busy h = absurd (let bad : None ≡ Some tag = h in cc)
tags grid row (x ∷ es) p n k task tag busy h = go (λ b e. tags grid row es (after grid row p x) (n + 1) k task tag b e) (view grid row p n x k)
  where
    p' : Past
    p' = after grid row p x

    h' : write_tag k (first_told grid row p n x ∷ tells grid row p' (n + 1) es) ≡ Some tag
    h' = sym (ap (write_tag k) (tells-cons grid row p n x es)) ∙ h

    Result : Type 0
    Result = (m : ℕ) × Tags grid row p n (x ∷ es) k task m tag

    here : (g : Goes grid row p x) (l : OwnMessage) (r : ℕ) (tag' : Option Tag) → Comes p.trace k l task → g.e.message ≡ Some l → deed_on p.trace k g.e ≡ Moves l r tag' → hear_current grid (up p.trace) (with_reply (going p.trace k task) l) ≡ HeardNext r tag' g.e.new → tag' ≡ Some tag → Result
    here g l r tag' comes message is heard same =
        (n, record { q = p; x = x; rest = es; reach = Here; g = g; l = l; r = r; comes = comes; message = message; does = is ∙ ap (Moves l r) same; heard = heard ∙ ap (λ z. HeardNext r z g.e.new) same; start = refl; round = refl })

    go : (current p'.trace k ≡ Some task → write_tag k (tells grid row p' (n + 1) es) ≡ Some tag → (m : ℕ) × Tags grid row p' (n + 1) es k task m tag) → View grid row p n x k → Result
    go ih (Quiet u en tg) =
        let found = ih (u.current ∙ busy) (sym (tg (tells grid row p' (n + 1) es)) ∙ h') in
        let later = found.1 in
        (found.0, record { q = later.q; x = later.x; rest = later.rest; reach = Later later.reach; g = later.g; l = later.l; r = later.r; comes = later.comes; message = later.message; does = later.does; heard = later.heard; start = later.start ∙ u.op_start; round = later.round ∙ u.round })
    go ih (Turned g l task' r tag' comes message is heard en tg) =
        let same : tag' ≡ Some tag = sym (tg (tells grid row p' (n + 1) es)) ∙ h' in
        let tasks : Some task' ≡ Some task = sym comes.busy ∙ busy in
        let task_is : task' ≡ task = cc in
        here g l r tag' (let P : Task → Type 0 = λ z. Comes p.trace k l z in subst P task_is comes) message is (let P : Task → Type 0 = λ z. hear_current grid (up p.trace) (with_reply (going p.trace k z) l) ≡ HeardNext r tag' g.e.new in subst P task_is heard) same
    go ih (Finished g l task' out comes is heard en tg) = absurd (let bad : None ≡ Some tag = sym (tg (tells grid row p' (n + 1) es)) ∙ h' in cc)
    go ih (Started g line task' first count turn says is does en tg) = absurd (let bad : None ≡ Some tag = sym (tg (tells grid row p' (n + 1) es)) ∙ h' in cc)
    go ih (Stopped g is en tg) = absurd (let bad : None ≡ Some tag = sym (tg (tells grid row p' (n + 1) es)) ∙ h' in cc)
    go ih (GivenUp g is en tg) =
        let none = idle_ends grid row es p' (n + 1) k (still_idle grid row p x k g is) in
        absurd (let bad : None ≡ Some tag = sym none.1 ∙ sym (tg (tells grid row p' (n + 1) es)) ∙ h' in cc)
    go ih (Jumped g last number idle is en tg) = absurd (let bad : None ≡ Some task = sym idle ∙ busy in cc)

-- a write's collect round does not end it
write_not_done : (grid : Grid) (up : Servers) (o : Operation) (file : File) (bytes : List ℕ) (outcome : Outcome) → o.task ≡ Writing file bytes → is_collect o.round ≡ true → hear_current grid up o ≢ HeardDone outcome
write_not_done grid up o file bytes outcome task odd h = go (done_of grid up o outcome h)
  where
    go : DoneBy grid o outcome → ⊥
    go (ByStore even ends is) = true≢false (sym odd ∙ even)
    go (BySkip same ends skips is) = write_stores grid (with_decided o) file bytes task skips

-- a write in its store round goes on to no round
write_stays : (grid : Grid) (t : Trace) (k : ℕ) (l : OwnMessage) (file : File) (bytes : List ℕ) (r : ℕ) (tag : Option Tag) (new : List OwnMessage) → is_collect (round t k) ≡ false →
    hear_current grid (up t) (with_reply (going t k (Writing file bytes)) l) ≢ HeardNext r tag new
write_stays grid t k l file bytes r tag new even heard = go (next_of grid (up t) o r tag new heard)
  where
    o : Operation
    o = with_reply (going t k (Writing file bytes)) l

    go : Next grid (up t) o r tag new → ⊥
    go (ToStore odd ends r_is tag_is new_is) = true≢false (sym odd ∙ even)
    go (ToCollect v f lists same ends r_is tag_is new_is) = let bad : Writing file bytes ≡ Listing v f = lists in cc
    go (Skips v f lists odd ends skips r_is tag_is new_is) = true≢false (sym odd ∙ even)

-- in its store round a write ends with the tag that it stores
store_ending : (grid : Grid) (row : TenantRow) (es : List Turn) (p : Past) (n k : ℕ) (file : File) (bytes : List ℕ) (m : ℕ) (outcome : Outcome) →
    current p.trace k ≡ Some (Writing file bytes) → is_collect (round p.trace k) ≡ false → ending k (tells grid row p n es) ≡ Some (m, outcome) → (o : ℕ) × (outcome ≡ Wrote k o (stored_copy (collected p.trace k)).tag)
store_ending grid row [] p n k file bytes m outcome busy even h = absurd (let bad : None ≡ Some (m, outcome) = h in cc)
store_ending grid row (x ∷ es) p n k file bytes m outcome busy even h = go (λ b o e. store_ending grid row es (after grid row p x) (n + 1) k file bytes m outcome b o e) (view grid row p n x k)
  where
    p' : Past
    p' = after grid row p x

    h' : ending k (first_told grid row p n x ∷ tells grid row p' (n + 1) es) ≡ Some (m, outcome)
    h' = sym (ap (ending k) (tells-cons grid row p n x es)) ∙ h

    Result : Type 0
    Result = (o : ℕ) × (outcome ≡ Wrote k o (stored_copy (collected p.trace k)).tag)

    writes : (task : Task) → current p.trace k ≡ Some task → task ≡ Writing file bytes
    writes task is = let both : Some task ≡ Some (Writing file bytes) = sym is ∙ busy in cc

    done : (task : Task) → task ≡ Writing file bytes → (l : OwnMessage) → (out : Outcome) → out ≡ outcome → IsDone (with_reply (going p.trace k task) l) out → Result
    done task is l out same (DoneWrite f b task_is wrote) = (op p.trace k, sym same ∙ wrote)
    done task is l out same (DoneRead f task_is wrote) = absurd (let bad : Reading f ≡ Writing file bytes = sym task_is ∙ is in cc)
    done task is l out same (DoneList v f task_is low wrote) = absurd (let bad : Listing v f ≡ Writing file bytes = sym task_is ∙ is in cc)

    stored : (task : Task) → task ≡ Writing file bytes → (l : OwnMessage) → (out : Outcome) → out ≡ outcome → DoneBy grid (with_reply (going p.trace k task) l) out → Result
    stored task is l out same (ByStore odd ends how) = done task is l out same how
    stored task is l out same (BySkip odd ends skips how) = absurd (true≢false (sym odd ∙ even))

    go : (current p'.trace k ≡ Some (Writing file bytes) → is_collect (round p'.trace k) ≡ false → ending k (tells grid row p' (n + 1) es) ≡ Some (m, outcome) → (o : ℕ) × (outcome ≡ Wrote k o (stored_copy (collected p'.trace k)).tag)) → View grid row p n x k → Result
    go ih (Quiet u en tg) =
        let later = ih (u.current ∙ busy) (ap is_collect u.round ∙ even) (sym (en (tells grid row p' (n + 1) es)) ∙ h') in
        (later.0, later.1 ∙ ap (λ z. Wrote k later.0 (stored_copy z).tag) u.collected)
    go ih (Turned g l task' r tag comes message is heard en tg) =
        let same = writes task' comes.busy in
        let P : Task → Type 0 = λ z. Comes p.trace k l z in
        let Q : Task → Type 0 = λ z. hear_current grid (up p.trace) (with_reply (going p.trace k z) l) ≡ HeardNext r tag g.e.new in
        absurd (write_stays grid p.trace k l file bytes r tag g.e.new even (subst Q same heard))
    go ih (Finished g l task' out comes is heard en tg) =
        let both : ◌≡◌ {A = Option (ℕ × Outcome)} (Some (n, out)) (Some (m, outcome)) = sym (en (tells grid row p' (n + 1) es)) ∙ h' in
        let outs : Some out ≡ Some outcome = ap outcome_in both in
        let out_is : out ≡ outcome = cc in
        stored task' (writes task' comes.busy) l out out_is (done_of grid (up p.trace) (with_reply (going p.trace k task') l) out heard)
    go ih (Started g line task' first count turn says is does en tg) = absurd (let bad : None ≡ Some (m, outcome) = sym (en (tells grid row p' (n + 1) es)) ∙ h' in cc)
    go ih (Stopped g is en tg) = absurd (let bad : None ≡ Some (m, outcome) = sym (en (tells grid row p' (n + 1) es)) ∙ h' in cc)
    go ih (GivenUp g is en tg) =
        let none = idle_ends grid row es p' (n + 1) k (still_idle grid row p x k g is) in
        absurd (let bad : None ≡ Some (m, outcome) = sym none.0 ∙ sym (en (tells grid row p' (n + 1) es)) ∙ h' in cc)
    go ih (Jumped g last number idle is en tg) = absurd (let bad : None ≡ Some (Writing file bytes) = sym idle ∙ busy in cc)

-- a write that ends has made its tag, and ends with it
pub write_done : (grid : Grid) (row : TenantRow) (es : List Turn) (p : Past) (n k : ℕ) (file : File) (bytes : List ℕ) (m : ℕ) (outcome : Outcome) →
    current p.trace k ≡ Some (Writing file bytes) → is_collect (round p.trace k) ≡ true → ending k (tells grid row p n es) ≡ Some (m, outcome) →
    (tag : Tag) × (o : ℕ) × (write_tag k (tells grid row p n es) ≡ Some tag) × (outcome ≡ Wrote k o tag)
write_done grid row [] p n k file bytes m outcome busy odd h = absurd (let bad : None ≡ Some (m, outcome) = h in cc)
write_done grid row (x ∷ es) p n k file bytes m outcome busy odd h = go (λ b o e. write_done grid row es (after grid row p x) (n + 1) k file bytes m outcome b o e) (view grid row p n x k)
  where
    p' : Past
    p' = after grid row p x

    h' : ending k (first_told grid row p n x ∷ tells grid row p' (n + 1) es) ≡ Some (m, outcome)
    h' = sym (ap (ending k) (tells-cons grid row p n x es)) ∙ h

    Result : Type 0
    Result = (tag : Tag) × (o : ℕ) × (write_tag k (tells grid row p n (x ∷ es)) ≡ Some tag) × (outcome ≡ Wrote k o tag)

    told : (tag : Tag) (o : ℕ) → write_tag k (first_told grid row p n x ∷ tells grid row p' (n + 1) es) ≡ Some tag → outcome ≡ Wrote k o tag → Result
    told tag o is wrote = (tag, o, ap (write_tag k) (tells-cons grid row p n x es) ∙ is, wrote)

    writes : (task : Task) → current p.trace k ≡ Some task → task ≡ Writing file bytes
    writes task is = let both : Some task ≡ Some (Writing file bytes) = sym is ∙ busy in cc

    turned : (g : Goes grid row p x) (l : OwnMessage) (r : ℕ) (tag : Option Tag) → deed_on p.trace k g.e ≡ Moves l r tag → Tagging (first_told grid row p n x) k (λ rest. tag) → ending k (tells grid row p' (n + 1) es) ≡ Some (m, outcome) →
        Next grid (up p.trace) (with_reply (going p.trace k (Writing file bytes)) l) r tag g.e.new → Result
    turned g l r tag does tg later (ToCollect v f lists even ends r_is tag_is new_is) = absurd (true≢false (sym odd ∙ even))
    turned g l r tag does tg later (Skips v f lists odd' ends skips r_is tag_is new_is) = absurd (let bad : Writing file bytes ≡ Listing v f = lists in cc)
    turned g l r tag does tg later (ToStore odd' ends r_is tag_is new_is) =
        let c : StoredCopy = decided_copy (with_reply (going p.trace k (Writing file bytes)) l) in
        let cs : collected p'.trace k ≡ collected p.trace k ++ c ∷ [] = ap (λ t. collected t k) g.grown ∙ (rw (does, collected, busy, odd)) in
        let rs : round p'.trace k ≡ r = ap (λ t. round t k) g.grown ∙ (rw (does, round)) in
        let wrote = store_ending grid row es p' (n + 1) k file bytes m outcome (ap (λ t. current t k) g.grown ∙ (rw (does, current) busy)) (ap is_collect (rs ∙ r_is) ∙ even_is (length (collected p.trace k ++ c ∷ []))) later in
        told c.tag wrote.0 (tg (tells grid row p' (n + 1) es) ∙ tag_is) (wrote.1 ∙ ap (λ z. Wrote k wrote.0 z.tag) (ap stored_copy cs ∙ stored-push (collected p.trace k) c))

    go : (current p'.trace k ≡ Some (Writing file bytes) → is_collect (round p'.trace k) ≡ true → ending k (tells grid row p' (n + 1) es) ≡ Some (m, outcome) → (tag : Tag) × (o : ℕ) × (write_tag k (tells grid row p' (n + 1) es) ≡ Some tag) × (outcome ≡ Wrote k o tag)) → View grid row p n x k → Result
    go ih (Quiet u en tg) =
        let later = ih (u.current ∙ busy) (ap is_collect u.round ∙ odd) (sym (en (tells grid row p' (n + 1) es)) ∙ h') in
        told later.0 later.1 (tg (tells grid row p' (n + 1) es) ∙ later.2) later.3
    go ih (Turned g l task' r tag comes message is heard en tg) =
        let same = writes task' comes.busy in
        let Q : Task → Type 0 = λ z. hear_current grid (up p.trace) (with_reply (going p.trace k z) l) ≡ HeardNext r tag g.e.new in
        turned g l r tag is tg (sym (en (tells grid row p' (n + 1) es)) ∙ h') (next_of grid (up p.trace) (with_reply (going p.trace k (Writing file bytes)) l) r tag g.e.new (subst Q same heard))
    go ih (Finished g l task' out comes is heard en tg) = absurd (write_not_done grid (up p.trace) (with_reply (going p.trace k task') l) file bytes out (writes task' comes.busy) odd heard)
    go ih (Started g line task' first count turn says is does en tg) = absurd (let bad : None ≡ Some (m, outcome) = sym (en (tells grid row p' (n + 1) es)) ∙ h' in cc)
    go ih (Stopped g is en tg) = absurd (let bad : None ≡ Some (m, outcome) = sym (en (tells grid row p' (n + 1) es)) ∙ h' in cc)
    go ih (GivenUp g is en tg) =
        let none = idle_ends grid row es p' (n + 1) k (still_idle grid row p x k g is) in
        absurd (let bad : None ≡ Some (m, outcome) = sym none.0 ∙ sym (en (tells grid row p' (n + 1) es)) ∙ h' in cc)
    go ih (Jumped g last number idle is en tg) = absurd (let bad : None ≡ Some (Writing file bytes) = sym idle ∙ busy in cc)

-- ---- how an operation begins

-- what the operation is, where its ending and its write's tag are these
pub data BegunAs (file : File) (vs : List VolumeRow) (a : Op) (task : Task) (en : Option (ℕ × Outcome)) (wt : Option Tag) : Type 0 where
  AsWrite : (bytes : List ℕ) → task ≡ Writing file bytes → a.kind ≡ Writes bytes → a.end ≡ end_place en → a.tag ≡ wt → BegunAs file vs a task en wt
  AsRead : task ≡ Reading file → a.kind ≡ Reads (option_map (λ c. c.bytes) (copy_told en)) → a.end ≡ end_place en → a.tag ≡ option_map (λ c. c.tag) (copy_told en) → BegunAs file vs a task en wt
  AsRow : task ≡ Listing file.volume (files_of vs file.volume) → a.kind ≡ Rows (option_map (λ r. r.length) (row_told file.place en)) → a.end ≡ end_place en → a.tag ≡ option_map (λ r. r.tag) (row_told file.place en) → BegunAs file vs a task en wt

-- the turn begins the operation
pub record Begun (grid : Grid) (row : TenantRow) (file : File) (p : Past) (n : ℕ) (x : Turn) (rest : List SessionAnswer) (a : Op) : Type 0 where
  pub g : Goes grid row p x
  pub line : Line
  pub task : Task
  pub turn : x ≡ Own line
  pub does : deed_on p.trace a.session g.e ≡ Begins line
  pub asks : task_of (volumes p.trace) line ≡ Some task
  pub begin : a.begin ≡ n
  pub like : BegunAs file (volumes p.trace) a task (ending a.session rest) (write_tag a.session rest)

-- a line of the tenant gives up no operation
own_deed : (t : Trace) (k : ℕ) (e : Entry) (line : Line) → e.turn ≡ Own line → deed_on t k e ≡ deed k e
own_deed t k e line is = go e.turn e.message e.told e.new is
  where
    go : (turn : Turn) (message : Option OwnMessage) (told : Told) (new : List OwnMessage) → turn ≡ Own line → deed_on t k (record { turn = turn; message = message; told = told; new = new }) ≡ deed k (record { turn = turn; message = message; told = told; new = new })
    go (Own l) message told new is = refl
    go (Serving l) message told new is = absurd (let bad : Serving l ≡ Own line = is in cc)
    go (Leaping s last number) message told new is = refl
    go (Losing s volumes) message told new is = refl
    go (Returning s f peer copy) message told new is = refl

began_goes : (grid : Grid) (row : TenantRow) (p : Past) (x : Turn) (o first count : ℕ) → said grid row p x ≡ Began o first count → Goes grid row p x
began_goes grid row p x o first count says = go (goes_or_not grid row p x)
  where
    go : (((after grid row p x).trace ≡ p.trace) × (is_refusal (said grid row p x) ≡ true)) ⊎ Goes grid row p x → Goes grid row p x
    go (inl same) = absurd (true≢false (sym same.1 ∙ ap is_refusal says))
    go (inr g) = g

one_of : (x a : Op) (i : ℕ) → slice_get (x ∷ []) i ≡ Some a → x ≡ a
one_of x a zero h = cc
one_of x a (suc i) h = absurd (let bad : None ≡ Some a = h in cc)

pub same_file : (a b : File) → is_file a b ≡ true → a ≡ b
same_file a b is =
    let parts = and_parts (eqb a.volume b.volume) (eqb a.place b.place) is in
    λ i. record { volume = eqb-true a.volume b.volume parts.0 i; place = eqb-true a.place b.place parts.1 i }

pub begun_is : (grid : Grid) (row : TenantRow) (file : File) (p : Past) (n : ℕ) (x : Turn) (rest : List SessionAnswer) (a : Op) (i : ℕ) → slice_get (begun_at file (first_told grid row p n x) rest) i ≡ Some a → Begun grid row file p n x rest a
begun_is grid row file p n (Own (Write k v f bytes)) rest a i h = go (said grid row p (Own (Write k v f bytes))) refl
  where
    go : (w : Told) → said grid row p (Own (Write k v f bytes)) ≡ w → Begun grid row file p n (Own (Write k v f bytes)) rest a
    go (Began o first count) is = by (is_file (record { volume = v; place = f }) file) refl
      where
        by : (b : Bool) → is_file (record { volume = v; place = f }) file ≡ b → Begun grid row file p n (Own (Write k v f bytes)) rest a
        by false e = absurd (let bad : None ≡ Some a = rw (is, e) at h in cc)
        by true e =
            let g = began_goes grid row p (Own (Write k v f bytes)) o first count is in
            let same = one_of (record { kind = Writes bytes; session = k; op = o; begin = n; end = end_place (ending k rest); tag = write_tag k rest }) a i (rw (is, e) at h) in
            let P : Op → Type 0 = λ z. Begun grid row file p n (Own (Write k v f bytes)) rest z in
            subst P same (record { g = g; line = Write k v f bytes; task = Writing (record { volume = v; place = f }) bytes; turn = refl; does = own_deed p.trace k g.e (Write k v f bytes) g.turn ∙ rw (g.turn, eq-eqb k k refl) refl; asks = refl; begin = refl; like = AsWrite bytes (ap (λ z. Writing z bytes) (same_file (record { volume = v; place = f }) file e)) refl refl refl })
    go _ is = absurd (let bad : None ≡ Some a = rw is at h in cc)
begun_is grid row file p n (Own (Read k v f)) rest a i h = go (said grid row p (Own (Read k v f))) refl
  where
    go : (w : Told) → said grid row p (Own (Read k v f)) ≡ w → Begun grid row file p n (Own (Read k v f)) rest a
    go (Began o first count) is = by (is_file (record { volume = v; place = f }) file) refl
      where
        by : (b : Bool) → is_file (record { volume = v; place = f }) file ≡ b → Begun grid row file p n (Own (Read k v f)) rest a
        by false e = absurd (let bad : None ≡ Some a = rw (is, e) at h in cc)
        by true e =
            let g = began_goes grid row p (Own (Read k v f)) o first count is in
            let same = one_of (record { kind = Reads (option_map (λ c. c.bytes) (copy_told (ending k rest))); session = k; op = o; begin = n; end = end_place (ending k rest); tag = option_map (λ c. c.tag) (copy_told (ending k rest)) }) a i (rw (is, e) at h) in
            let P : Op → Type 0 = λ z. Begun grid row file p n (Own (Read k v f)) rest z in
            subst P same (record { g = g; line = Read k v f; task = Reading (record { volume = v; place = f }); turn = refl; does = own_deed p.trace k g.e (Read k v f) g.turn ∙ rw (g.turn, eq-eqb k k refl) refl; asks = refl; begin = refl; like = AsRead (ap Reading (same_file (record { volume = v; place = f }) file e)) refl refl refl })
    go _ is = absurd (let bad : None ≡ Some a = rw is at h in cc)
begun_is grid row file p n (Own (ListFiles k v)) rest a i h = go (said grid row p (Own (ListFiles k v))) refl
  where
    go : (w : Told) → said grid row p (Own (ListFiles k v)) ≡ w → Begun grid row file p n (Own (ListFiles k v)) rest a
    go (Began o first count) is = by (eqb v file.volume) refl
      where
        by : (b : Bool) → eqb v file.volume ≡ b → Begun grid row file p n (Own (ListFiles k v)) rest a
        by false e = absurd (let bad : None ≡ Some a = rw (is, e) at h in cc)
        by true e =
            let g = began_goes grid row p (Own (ListFiles k v)) o first count is in
            let same = one_of (record { kind = Rows (option_map (λ r. r.length) (row_told file.place (ending k rest))); session = k; op = o; begin = n; end = end_place (ending k rest); tag = option_map (λ r. r.tag) (row_told file.place (ending k rest)) }) a i (rw (is, e) at h) in
            let P : Op → Type 0 = λ z. Begun grid row file p n (Own (ListFiles k v)) rest z in
            subst P same (record { g = g; line = ListFiles k v; task = Listing v (files_of (volumes p.trace) v); turn = refl; does = own_deed p.trace k g.e (ListFiles k v) g.turn ∙ rw (g.turn, eq-eqb k k refl) refl; asks = refl; begin = refl; like = AsRow (ap (λ z. Listing z (files_of (volumes p.trace) z)) (eqb-true v file.volume e)) refl refl refl })
    go _ is = absurd (let bad : None ≡ Some a = rw is at h in cc)
begun_is grid row file p n x rest a i h = absurd (let bad : None ≡ Some a = h in cc)

-- ---- where a write's next round begins, its round was a collect round
pub write_goes : (grid : Grid) (row : TenantRow) (p : Past) (x : Turn) (k : ℕ) (file : File) (bytes : List ℕ) (g : Goes grid row p x) (l : OwnMessage) (r : ℕ) (tag : Option Tag) → current p.trace k ≡ Some (Writing file bytes) → deed_on p.trace k g.e ≡ Moves l r tag → is_collect (round p.trace k) ≡ true
write_goes grid row p x k file bytes g l r tag busy does = go (is_collect (round p.trace k)) refl
  where
    t : Turning grid p.trace g.e k r tag
    t = turning grid p.trace g.e k l r tag (act grid row p.trace g.e g.follows) does

    same : t.task ≡ Writing file bytes
    same = let both : Some t.task ≡ Some (Writing file bytes) = sym t.comes.busy ∙ busy in cc

    go : (b : Bool) → is_collect (round p.trace k) ≡ b → is_collect (round p.trace k) ≡ true
    go true e = e
    go false e =
        let P : Task → Type 0 = λ z. Comes p.trace k t.l z in
        let Q : Task → Type 0 = λ z. hear_current grid (up p.trace) (with_reply (going p.trace k z) t.l) ≡ HeardNext r tag g.e.new in
        absurd (write_stays grid p.trace k t.l file bytes r tag g.e.new e (subst Q same t.heard))
