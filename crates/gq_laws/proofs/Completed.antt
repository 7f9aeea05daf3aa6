-- What is known of an operation that has ended, and of a write that has made its tag.
use Rattle.std.proofs.Common.{◌≡◌, ℕ, zero, suc, ◌+◌, ◌-◌, ◌*◌, ◌/◌, ◌<◌, max, true, false, List, [], ◌∷◌, ◌++◌, length, refl, sym, ap, ◌∙◌, subst, Option, Some, None, arith, option_map}
use Rattle.std.specs.Prelude.{slice_get}
use Rattle.std.proofs.lemmas.Bool.{true≢false}
use Rattle.std.proofs.lemmas.Option.{slice_get-map}
use Rattle.gq_grid.specs.Grid.{Grid}
use Rattle.gq_tag.specs.declared.Tag.{Tag}
use Rattle.gq_tag.specs.declared.StoredCopy.{StoredCopy}
use Rattle.gq_tag.specs.Tag.{File, greatest, is_less}
use Rattle.gq_tag.proofs.Order.{IsAtMost}
use Rattle.gq_desk.specs.declared.plans.TenantRow.{TenantRow}
use Rattle.gq_phase.specs.Phase.{Task, Reply, Writing, Reading, Listing, Operation, listed_row, is_collect, stored_copy, hear_reply, reply_of, with_reply, with_decided, decided_copy, heard_copies, round_file}
use Rattle.gq_phase.specs.declared.Outcome.{Outcome}
use Rattle.gq_phase.specs.declared.Outcome.TheVariants.{Wrote}
use Rattle.gq_model.specs.Trace.{files_of, Turn, Trace, Past, Begins, up, volumes, task_of}
use Rattle.gq_model.specs.declared.events.Line.{Line}
use Rattle.gq_model.specs.Lone.{after}
use Rattle.gq_laws.proofs.Words.{deed_on, current, round, heard, collected, floor}
use Rattle.gq_laws.specs.declared.ops.Kind.TheVariants.{Write as Writes, Read as Reads, Row as Rows}
use Rattle.gq_laws.specs.declared.ops.Op.{Op}
use Rattle.gq_laws.specs.Operations.{SessionAnswer, ending, write_tag, end_place, copy_told, row_told, is_write, Gives}
use Rattle.gq_laws.proofs.Runs.{IsRun, IsKnown, Settled, Starts, op_start, starts}
use Rattle.gq_phase.proofs.Saying.{even_is}
use Rattle.gq_laws.proofs.Acts.{going}
use Rattle.gq_laws.proofs.Floors.{new_tag}
use Rattle.gq_laws.proofs.Reaching.{Goes, Reach, Here, Later, reach_join, reach_up, reach_run}
use Rattle.gq_laws.proofs.Telling.{tells}
use Rattle.gq_laws.proofs.Found.{last_at}
use Rattle.gq_laws.proofs.Sessions.{Holds, file_at, all_settled, skip_settled, greatest_least, number_above, collect_number, store_number}
use Rattle.gq_laws.proofs.Invariant.{holds_with, starts_along, skip_holds}
use Rattle.gq_laws.proofs.InvariantKept.{invariant_along}
use Rattle.gq_laws.proofs.TagFacts.{store_round_settles, skip_settles}
use Rattle.gq_laws.proofs.RoundEnds.{Next, ToStore, ToCollect, Skips, next_of, IsDone, DoneWrite, DoneRead, DoneList, DoneBy, ByStore, BySkip, done_of}
use Rattle.gq_laws.proofs.OperationMoments.{Ended, ended, Tags, tags, write_done, BegunAs, AsWrite, AsRead, AsRow}
use Rattle.gq_laws.proofs.Beginnings.{OpAt}

-- ---- an operation that ended

-- it ended at place e with a copy of the file
pub record Completed (grid : Grid) (row : TenantRow) (file : File) (p : Past) (n : ℕ) (es : List Turn) (a : Op) (begin : Trace) (e : ℕ) : Type 0 where
  pub q : Past
  pub x : Turn
  pub rest : List Turn
  pub reach : Reach grid row p n es q e (x ∷ rest)
  pub later : a.begin < e
  pub c : StoredCopy
  pub tag : a.tag ≡ Some c.tag
  pub known : IsKnown q.trace file c
  pub settled : Settled grid q.trace file c.tag
  pub least : (tag : Tag) → Settled grid begin file tag → IsAtMost tag c.tag
  pub gives : is_write a ≡ false → Gives a c.bytes

-- the i-th copy that it collected
pub record Took (grid : Grid) (t : Trace) (task : Task) (i : ℕ) (begin : Trace) (c : StoredCopy) : Type 0 where
  pub known : IsKnown t (file_at task i) c
  pub settled : Settled grid t (file_at task i) c.tag
  pub least : (tag : Tag) → Settled grid begin (file_at task i) tag → IsAtMost tag c.tag

-- right after it began
begun_task : (grid : Grid) (row : TenantRow) (q : Past) (x : Turn) (k : ℕ) (g : Goes grid row q x) (line : Line) (task : Task) → deed_on q.trace k g.e ≡ Begins line → task_of (volumes q.trace) line ≡ Some task → current (after grid row q x).trace k ≡ Some task
begun_task grid row q x k g line task does asks = ap (λ t. current t k) g.grown ∙ (rw (does, current) asks)

begun_start : (grid : Grid) (row : TenantRow) (q : Past) (x : Turn) (k : ℕ) (g : Goes grid row q x) (line : Line) → deed_on q.trace k g.e ≡ Begins line → op_start (after grid row q x).trace k ≡ q.trace
begun_start grid row q x k g line does = ap (λ t. op_start t k) g.grown ∙ (rw does)

begun_round : (grid : Grid) (row : TenantRow) (q : Past) (x : Turn) (k : ℕ) (g : Goes grid row q x) (line : Line) → deed_on q.trace k g.e ≡ Begins line → round (after grid row q x).trace k ≡ 1
begun_round grid row q x k g line does = ap (λ t. round t k) g.grown ∙ (rw (does, round))

-- what an operation has collected when it ends
pub record Final (grid : Grid) (t : Trace) (task : Task) (begin : Trace) (outcome : Outcome) : Type 0 where
  pub o : Operation
  pub task_is : o.task ≡ task
  pub is : IsDone o outcome
  pub last : (j : ℕ) × (slice_get o.collected j ≡ Some (stored_copy o.collected))
  pub took : (i : ℕ) (c : StoredCopy) → slice_get o.collected i ≡ Some c → Took grid t task i begin c

-- it has, where the operation is in a store round whose copy is settled
final_from : (grid : Grid) (t : Trace) (task : Task) (r : ℕ) (hs : List Reply) (o : Operation) (start : Starts) (begin : Trace) (outcome : Outcome) → o.task ≡ task → IsDone o outcome → start.op ≡ begin → Holds grid t task r hs o.collected start → is_collect r ≡ false → Settled grid t (round_file task r) (stored_copy o.collected).tag → Final grid t task begin outcome
final_from grid t task r hs o start begin outcome task_is is begins h even s =
    let last = last_at o.collected (store_number r (length o.collected) even h.standing).1 in
    record {
      o = o;
      task_is = task_is;
      is = is;
      last = (last.0, last.2);
      took = λ i c at. record {
        known = h.known i c at;
        settled = all_settled grid t task r hs o.collected start h even s i c at;
        least = (let P : Trace → Type 0 = λ z. (tag : Tag) → Settled grid z (file_at task i) tag → IsAtMost tag c.tag in subst P begins (λ tag x. h.at_least i c tag at x));
      };
    }

pub final : (grid : Grid) (row : TenantRow) (p : Past) (n : ℕ) (es : List Turn) (k : ℕ) (task : Task) (m : ℕ) (outcome : Outcome) (begin : Trace) → IsRun grid row p.trace → op_start p.trace k ≡ begin →
    (E : Ended grid row p n es k task m outcome) → Final grid E.q.trace task begin outcome
final grid row p n es k task m outcome begin run start E = go (done_of grid (up t) o outcome E.heard)
  where
    t : Trace
    t = E.q.trace

    run' : IsRun grid row t
    run' = reach_run E.reach run

    o : Operation
    o = with_reply (going t k task) E.l

    h : Holds grid t task (round t k) o.heard (collected t k) (starts t k)
    h = holds_with grid row t k E.l task run' (invariant_along grid row t run') E.comes

    go : DoneBy grid o outcome → Final grid t task begin outcome
    go (ByStore even ends is) = final_from grid t task (round t k) o.heard o (starts t k) begin outcome refl is (E.start ∙ start) h even (store_round_settles grid row t run' k E.l task E.comes even ends)
    go (BySkip odd ends skips is) =
        let cs : List StoredCopy = collected t k ++ decided_copy o ∷ [] in
        let settled = skip_settled grid t task (round t k) (collected t k) (decided_copy o) (collect_number (round t k) (length (collected t k)) odd h.standing) (skip_settles grid row t run' k E.l task E.comes skips) in
        final_from grid t task (2 * length cs) [] (with_decided o) (record { op = op_start t k; round = t }) begin outcome refl is (E.start ∙ start) (skip_holds grid row t o (starts t k) t run' h odd ends skips (starts_along t k).0) (even_is (length cs)) settled

is_end : (en : Option (ℕ × Outcome)) (e : ℕ) → end_place en ≡ Some e → (outcome : Outcome) × (en ≡ Some (e, outcome))
is_end None e h = absurd (let bad : None ≡ Some e = h in cc)
is_end (Some x) e h = let both : Some x.0 ≡ Some e = h in let same : x.0 ≡ e = cc in (x.1, (λ i. Some (same i, x.1)))

gives_bytes : (a : Op) (bytes given : List ℕ) → a.kind ≡ Reads (Some given) → given ≡ bytes → Gives a bytes
gives_bytes a bytes given is same = rw is same

gives_length : (a : Op) (bytes : List ℕ) (given : ℕ) → a.kind ≡ Rows (Some given) → given ≡ length bytes → Gives a bytes
gives_length a bytes given is same = rw is same

write_is : (a : Op) (bytes : List ℕ) → a.kind ≡ Writes bytes → is_write a ≡ true
write_is a bytes is = rw is

read_is : (a : Op) (gave : Option (List ℕ)) → a.kind ≡ Reads gave → is_write a ≡ false
read_is a gave is = rw is

row_is : (a : Op) (gave : Option ℕ) → a.kind ≡ Rows gave → is_write a ≡ false
row_is a gave is = rw is

pub completed_op : (grid : Grid) (row : TenantRow) (file : File) (p : Past) (n : ℕ) (es : List Turn) (a : Op) (e : ℕ) → IsRun grid row p.trace → (o : OpAt grid row file p n es a) →
    ((f : ℕ) → o.begun.task ≡ Listing file.volume f → file.place < f) → a.end ≡ Some e → Completed grid row file p n es a o.q.trace e
completed_op grid row file p n es a e run o there ends = go o.begun.like
  where
    k : ℕ
    k = a.session

    p' : Past
    p' = after grid row o.q o.x

    run' : IsRun grid row p'.trace
    run' = reach_run (reach_join o.reach (Later Here)) run

    task : Task
    task = o.begun.task

    busy : current p'.trace k ≡ Some task
    busy = begun_task grid row o.q o.x k o.begun.g o.begun.line task o.begun.does o.begun.asks

    start : op_start p'.trace k ≡ o.q.trace
    start = begun_start grid row o.q o.x k o.begun.g o.begun.line o.begun.does

    odd : is_collect (round p'.trace k) ≡ true
    odd = ap is_collect (begun_round grid row o.q o.x k o.begun.g o.begun.line o.begun.does)

    ts : List SessionAnswer
    ts = tells grid row p' (o.m + 1) o.rest

    -- with the i-th copy that it collected
    made : (outcome : Outcome) (E : Ended grid row p' (o.m + 1) o.rest k task e outcome) (F : Final grid E.q.trace task o.q.trace outcome) (i : ℕ) (c : StoredCopy) → slice_get F.o.collected i ≡ Some c → file_at task i ≡ file → a.tag ≡ Some c.tag → (is_write a ≡ false → Gives a c.bytes) → Completed grid row file p n es a o.q.trace e
    made outcome E F i c at files tag gives =
        let t = F.took i c at in
        record {
          q = E.q;
          x = E.x;
          rest = E.rest;
          reach = reach_join o.reach (Later E.reach);
          later = omega (arith, reach_up E.reach, o.begun.begin);
          c = c;
          tag = tag;
          known = (let P : File → Type 0 = λ f. IsKnown E.q.trace f c in subst P files t.known);
          settled = (let P : File → Type 0 = λ f. Settled grid E.q.trace f c.tag in subst P files t.settled);
          least = (let P : File → Type 0 = λ f. (x : Tag) → Settled grid o.q.trace f x → IsAtMost x c.tag in subst P files t.least);
          gives = gives;
        }

    the_end : (outcome : Outcome) → ending k ts ≡ Some (e, outcome) → Ended grid row p' (o.m + 1) o.rest k task e outcome
    the_end outcome is = ended grid row o.rest p' (o.m + 1) k task e outcome busy is

    the_final : (outcome : Outcome) (E : Ended grid row p' (o.m + 1) o.rest k task e outcome) → Final grid E.q.trace task o.q.trace outcome
    the_final outcome E = final grid row p' (o.m + 1) o.rest k task e outcome o.q.trace run' start E

    go : BegunAs file (volumes o.q.trace) a task (ending k ts) (write_tag k ts) → Completed grid row file p n es a o.q.trace e
    go (AsWrite bytes task_is kind_is end_is tag_is) = by (is_end (ending k ts) e (sym end_is ∙ ends))
      where
        wrote : (outcome : Outcome) (E : Ended grid row p' (o.m + 1) o.rest k task e outcome) (F : Final grid E.q.trace task o.q.trace outcome) (tag : Tag) (number : ℕ) → write_tag k ts ≡ Some tag → outcome ≡ Wrote k number tag → IsDone F.o outcome → Completed grid row file p n es a o.q.trace e
        wrote outcome E F tag number tag_got outcome_got (DoneWrite f b done_task out_is) =
            let both : Wrote k number tag ≡ Wrote F.o.session F.o.op (stored_copy F.o.collected).tag = sym outcome_got ∙ out_is in
            let same : tag ≡ (stored_copy F.o.collected).tag = cc in
            made outcome E F F.last.0 (stored_copy F.o.collected) F.last.1 (ap (λ z. file_at z F.last.0) task_is) (tag_is ∙ tag_got ∙ ap Some same) (λ no_write. absurd (true≢false (sym (write_is a bytes kind_is) ∙ no_write)))
        wrote outcome E F tag number tag_got outcome_got (DoneRead f done_task out_is) = absurd (let bad : Writing file bytes ≡ Reading f = sym task_is ∙ sym F.task_is ∙ done_task in cc)
        wrote outcome E F tag number tag_got outcome_got (DoneList v f done_task low out_is) = absurd (let bad : Writing file bytes ≡ Listing v f = sym task_is ∙ sym F.task_is ∙ done_task in cc)

        by : (outcome : Outcome) × (ending k ts ≡ Some (e, outcome)) → Completed grid row file p n es a o.q.trace e
        by (outcome, is) =
            let E = the_end outcome is in
            let w = write_done grid row o.rest p' (o.m + 1) k file bytes e outcome (busy ∙ ap Some task_is) odd is in
            let F = the_final outcome E in
            wrote outcome E F w.0 w.1 w.2 w.3 F.is
    go (AsRead task_is kind_is end_is tag_is) = by (is_end (ending k ts) e (sym end_is ∙ ends))
      where
        by : (outcome : Outcome) × (ending k ts ≡ Some (e, outcome)) → Completed grid row file p n es a o.q.trace e
        by (outcome, is) =
            let E = the_end outcome is in
            let F = the_final outcome E in
            gave E F F.is
          where
            gave : (E : Ended grid row p' (o.m + 1) o.rest k task e outcome) (F : Final grid E.q.trace task o.q.trace outcome) → IsDone F.o outcome → Completed grid row file p n es a o.q.trace e
            gave E F (DoneWrite f b done_task out_is) = absurd (let bad : Reading file ≡ Writing f b = sym task_is ∙ sym F.task_is ∙ done_task in cc)
            gave E F (DoneList v f done_task low out_is) = absurd (let bad : Reading file ≡ Listing v f = sym task_is ∙ sym F.task_is ∙ done_task in cc)
            gave E F (DoneRead f done_task out_is) =
                let c : StoredCopy = stored_copy F.o.collected in
                let copy : copy_told (ending k ts) ≡ Some c = rw (is, out_is) in
                made outcome E F F.last.0 c F.last.1 (ap (λ z. file_at z F.last.0) task_is) (tag_is ∙ ap (option_map (λ z. z.tag)) copy) (λ no_write. gives_bytes a c.bytes c.bytes (kind_is ∙ ap (λ z. Reads (option_map (λ y. y.bytes) z)) copy) refl)
    go (AsRow task_is kind_is end_is tag_is) = by (is_end (ending k ts) e (sym end_is ∙ ends))
      where
        files : file_at task file.place ≡ file
        files = ap (λ z. file_at z file.place) task_is ∙ (λ i. record { volume = file.volume; place = places file.place i })
          where
            places : (f : ℕ) → (2 * f + 1 - 1) / 2 ≡ f
            places f = omega arith

        by : (outcome : Outcome) × (ending k ts ≡ Some (e, outcome)) → Completed grid row file p n es a o.q.trace e
        by (outcome, is) = let E = the_end outcome is in let F = the_final outcome E in gave E F F.is
          where
            row_at : (cs : List StoredCopy) (i : ℕ) → i < length cs → (c : StoredCopy) × (slice_get cs i ≡ Some c)
            row_at [] i low = absurd (omega arith)
            row_at (d ∷ cs) zero low = (d, refl)
            row_at (d ∷ cs) (suc i) low = row_at cs i (omega arith)

            gave : (E : Ended grid row p' (o.m + 1) o.rest k task e outcome) (F : Final grid E.q.trace task o.q.trace outcome) → IsDone F.o outcome → Completed grid row file p n es a o.q.trace e
            gave E F (DoneWrite f b done_task out_is) = absurd (let bad : Listing file.volume (files_of (volumes o.q.trace) file.volume) ≡ Writing f b = sym task_is ∙ sym F.task_is ∙ done_task in cc)
            gave E F (DoneRead f done_task out_is) = absurd (let bad : Listing file.volume (files_of (volumes o.q.trace) file.volume) ≡ Reading f = sym task_is ∙ sym F.task_is ∙ done_task in cc)
            gave E F (DoneList v f done_task low out_is) =
                let both : Listing file.volume (files_of (volumes o.q.trace) file.volume) ≡ Listing v f = sym task_is ∙ sym F.task_is ∙ done_task in
                let same : files_of (volumes o.q.trace) file.volume ≡ f = cc in
                let inside : file.place < files_of (volumes o.q.trace) file.volume = there (files_of (volumes o.q.trace) file.volume) task_is in
                at_row (row_at F.o.collected file.place (omega arith))
              where
                at_row : (c : StoredCopy) × (slice_get F.o.collected file.place ≡ Some c) → Completed grid row file p n es a o.q.trace e
                at_row (c, at) =
                    let listed : row_told file.place (ending k ts) ≡ Some (listed_row c) = rw (is, out_is) (slice_get-map listed_row F.o.collected file.place ∙ ap (option_map listed_row) at) in
                    made outcome E F file.place c at files (tag_is ∙ ap (option_map (λ z. z.tag)) listed) (λ no_write. gives_length a c.bytes (length c.bytes) (kind_is ∙ ap (λ z. Rows (option_map (λ y. y.length) z)) listed) refl)

-- ---- a write that made its tag

-- it made the tag at place m
pub record MadeTag (grid : Grid) (row : TenantRow) (file : File) (p : Past) (n : ℕ) (es : List Turn) (a : Op) (begin : Trace) (tag : Tag) : Type 0 where
  pub m : ℕ
  pub q : Past
  pub x : Turn
  pub rest : List Turn
  pub reach : Reach grid row p n es q m (x ∷ rest)
  pub start : op_start q.trace a.session ≡ begin
  pub session : tag.session ≡ a.session
  pub above_floor : floor q.trace a.session < tag.number
  pub floor_is : floor (after grid row q x).trace a.session ≡ tag.number
  pub above : (other : Tag) → Settled grid begin file other → is_less other tag ≡ true

pub made_tag : (grid : Grid) (row : TenantRow) (file : File) (p : Past) (n : ℕ) (es : List Turn) (a : Op) (tag : Tag) → IsRun grid row p.trace → (o : OpAt grid row file p n es a) → is_write a ≡ true → a.tag ≡ Some tag → MadeTag grid row file p n es a o.q.trace tag
made_tag grid row file p n es a tag run o writes tagged = go o.begun.like
  where
    k : ℕ
    k = a.session

    p' : Past
    p' = after grid row o.q o.x

    run' : IsRun grid row p'.trace
    run' = reach_run (reach_join o.reach (Later Here)) run

    task : Task
    task = o.begun.task

    busy : current p'.trace k ≡ Some task
    busy = begun_task grid row o.q o.x k o.begun.g o.begun.line task o.begun.does o.begun.asks

    start : op_start p'.trace k ≡ o.q.trace
    start = begun_start grid row o.q o.x k o.begun.g o.begun.line o.begun.does

    ts : List SessionAnswer
    ts = tells grid row p' (o.m + 1) o.rest

    turned : (bytes : List ℕ) (m : ℕ) (T : Tags grid row p' (o.m + 1) o.rest k (Writing file bytes) m tag) → Next grid (up T.q.trace) (with_reply (going T.q.trace k (Writing file bytes)) T.l) T.r (Some tag) T.g.e.new → MadeTag grid row file p n es a o.q.trace tag
    turned bytes m T (ToCollect v f lists even ends r_is tag_is new_is) = absurd (let bad : Some tag ≡ None = tag_is in cc)
    turned bytes m T (Skips v f lists odd ends skips r_is tag_is new_is) = absurd (let bad : Some tag ≡ None = tag_is in cc)
    turned bytes m T (ToStore odd ends r_is tag_is new_is) =
        let t : Trace = T.q.trace in
        let run'' = reach_run T.reach run' in
        let hs : List Reply = hear_reply (heard t k) (reply_of T.l) in
        let h = holds_with grid row t k T.l (Writing file bytes) run'' (invariant_along grid row t run'') T.comes in
        let new : Tag = record { number = max (greatest (heard_copies hs)).tag.number (floor t k) + 1; session = k } in
        let both : Some tag ≡ Some new = tag_is in
        let same : tag ≡ new = cc in
        let made = new_tag grid row t T.g.e k file bytes T.l T.r tag T.g.follows T.does T.comes.busy in
        let least : (other : Tag) → Settled grid (op_start t k) file other → is_less other new ≡ true = λ other s. number_above other (greatest (heard_copies hs)).tag k (floor t k) (greatest_least grid row t (Writing file bytes) (round t k) hs (collected t k) (starts t k) other run'' h odd ends s) in
        let P : Trace → Tag → Type 0 = λ z y. (other : Tag) → Settled grid z file other → is_less other y ≡ true in
        record {
          m = m;
          q = T.q;
          x = T.x;
          rest = T.rest;
          reach = reach_join o.reach (Later T.reach);
          start = T.start ∙ start;
          session = made.0;
          above_floor = made.1;
          floor_is = ap (λ z. floor z k) T.g.grown ∙ made.2;
          above = subst (λ y. P o.q.trace y) (sym same) (subst (λ z. P z new) (T.start ∙ start) least);
        }

    go : BegunAs file (volumes o.q.trace) a task (ending k ts) (write_tag k ts) → MadeTag grid row file p n es a o.q.trace tag
    go (AsWrite bytes task_is kind_is end_is tag_is) = by (tags grid row o.rest p' (o.m + 1) k (Writing file bytes) tag (busy ∙ ap Some task_is) (sym tag_is ∙ tagged))
      where
        by : (m : ℕ) × Tags grid row p' (o.m + 1) o.rest k (Writing file bytes) m tag → MadeTag grid row file p n es a o.q.trace tag
        by (m, T) = turned bytes m T (next_of grid (up T.q.trace) (with_reply (going T.q.trace k (Writing file bytes)) T.l) T.r (Some tag) T.g.e.new T.heard)
    go (AsRead task_is kind_is end_is tag_is) = absurd (true≢false (sym writes ∙ read_is a (option_map (λ c. c.bytes) (copy_told (ending k ts))) kind_is))
    go (AsRow task_is kind_is end_is tag_is) = absurd (true≢false (sym writes ∙ row_is a (option_map (λ r. r.length) (row_told file.place (ending k ts))) kind_is))

-- what is no write has a tag only where it ended
end_of_copy : (en : Option (ℕ × Outcome)) (tag : Tag) → option_map (λ c. c.tag) (copy_told en) ≡ Some tag → (e : ℕ) × (end_place en ≡ Some e)
end_of_copy None tag h = absurd (let bad : None ≡ Some tag = h in cc)
end_of_copy (Some x) tag h = (x.0, refl)

end_of_row : (f : ℕ) (en : Option (ℕ × Outcome)) (tag : Tag) → option_map (λ r. r.tag) (row_told f en) ≡ Some tag → (e : ℕ) × (end_place en ≡ Some e)
end_of_row f None tag h = absurd (let bad : None ≡ Some tag = h in cc)
end_of_row f (Some x) tag h = (x.0, refl)

pub tagged_ended : (grid : Grid) (row : TenantRow) (file : File) (p : Past) (n : ℕ) (es : List Turn) (a : Op) (tag : Tag) → (o : OpAt grid row file p n es a) → is_write a ≡ false → a.tag ≡ Some tag → (e : ℕ) × (a.end ≡ Some e)
tagged_ended grid row file p n es a tag o no_write tagged = go o.begun.like
  where
    ts : List SessionAnswer
    ts = tells grid row (after grid row o.q o.x) (o.m + 1) o.rest

    go : BegunAs file (volumes o.q.trace) a o.begun.task (ending a.session ts) (write_tag a.session ts) → (e : ℕ) × (a.end ≡ Some e)
    go (AsWrite bytes task_is kind_is end_is tag_is) = absurd (true≢false (sym (write_is a bytes kind_is) ∙ no_write))
    go (AsRead task_is kind_is end_is tag_is) = let found = end_of_copy (ending a.session ts) tag (sym tag_is ∙ tagged) in (found.0, end_is ∙ found.1)
    go (AsRow task_is kind_is end_is tag_is) = let found = end_of_row file.place (ending a.session ts) tag (sym tag_is ∙ tagged) in (found.0, end_is ∙ found.1)
