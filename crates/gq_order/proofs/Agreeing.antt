-- What is read off in two passes is the definition's.
use Rattle.std.proofs.Common.{◌≡◌, ℕ, zero, suc, ◌+◌, ◌-◌, Bool, true, false, List, [], ◌∷◌, ◌++◌, map, refl, sym, ap, ◌∙◌, subst, Option, Some, None, arith}
use Rattle.std.specs.Prelude.{slice_get, nat_lt, replicate, ◌==◌, if◌then◌else◌}
use Rattle.std.proofs.lemmas.Bool.{and_parts, ne_eqb}
use Rattle.std.proofs.lemmas.List.{append-nil}
use Rattle.gq_tag.specs.Tag.{File, is_file}
use Rattle.gq_desk.specs.declared.volumes.VolumeRow.{VolumeRow}
use Rattle.gq_phase.specs.declared.Outcome.{Outcome}
use Rattle.gq_phase.specs.declared.Outcome.TheVariants.{Wrote, Gave, Listed}
use Rattle.gq_model.specs.declared.events.Event.{Event}
use Rattle.gq_model.specs.declared.events.Event.TheVariants.{Tenant, Server, Stray}
use Rattle.gq_model.specs.declared.events.Line.{Line}
use Rattle.gq_model.specs.declared.events.Line.TheVariants.{NewVolume, Write, Read, List as ListFiles}
use Rattle.gq_model.specs.declared.events.Answer.{Answer}
use Rattle.gq_model.specs.declared.events.Answer.TheVariants.{Volume, Began as HasBegun, Reply, Done as IsDone, Abandoned as IsAbandoned}
use Rattle.gq_model.specs.Told.{Told, Began}
use Rattle.gq_model.specs.Shown.{shown}
use Rattle.gq_model.specs.Trace.{Turn, Own, Serving, files_of}
use Rattle.gq_model.specs.Events.{turn_of}
use Rattle.gq_laws.specs.declared.ops.Op.{Op}
use Rattle.gq_laws.specs.Operations.{SessionAnswer, owners, session_of, session_answers_from, session_answers, ending, write_tag, end_place, copy_told, row_told, begun_at, begun_in, opened_in, operations}
use Rattle.gq_laws.specs.Tenants.{seen_from, seen}
use Rattle.gq_order.specs.declared.endings.Ending.{Ending}
use Rattle.gq_order.specs.Passes.{sees, told_sent, sessions_from, opens, files_step, files_from, ended_by, ending_from, copy_given, row_given, copy_given_at, row_given_at, read_begun, row_begun, begins, begun_by, with_op, ops_from, read_off}
use Rattle.gq_order.proofs.Rests.{IsRest, rest_more, rest_first, rest_whole}
use Rattle.gq_order.specs.Runs.{line_is_of_byte, event_is_of_byte, sessions_are_bytes}

-- ---- the answers, with the sessions found

abbrev pub session_answer : ℕ → Turn → Told → ℕ → SessionAnswer
session_answer place turn told session = record { place = place; turn = turn; told = told; session = session }

abbrev pub mark : Option Turn → ℕ → Told → ℕ → List SessionAnswer → List SessionAnswer
mark None place told session later = later
mark (Some turn) place told session later = session_answer place turn told session ∷ later

-- what the tenant sees of the events, the first at this place, with these sessions
abbrev pub marked : ℕ → ℕ → List Event → List Answer → List ℕ → List SessionAnswer
marked t place (event ∷ events) (answer ∷ answers) (session ∷ sessions) =
    mark (turn_of t event) place (shown answer) session (marked t (place + 1) events answers sessions)
marked t place _ _ _ = []

owners_is : (k : ℕ) (a : Answer) → replicate (told_sent a) k ≡ owners k (shown a)
owners_is k (Reply number) = refl
owners_is k _ = refl

marked_is : (t place : ℕ) (owned : List ℕ) (events : List Event) (answers : List Answer) →
    marked t place events answers (sessions_from t owned events answers) ≡ session_answers_from owned (seen_from t place events (map shown answers))
marked_is t place owned [] answers = refl
marked_is t place owned (e ∷ events) [] = refl
marked_is t place owned (e ∷ events) (a ∷ answers) = go (turn_of t e) refl (λ more. marked_is t (place + 1) more events answers)
  where
    Later : Type 0
    Later = (more : List ℕ) → marked t (place + 1) events answers (sessions_from t more events answers) ≡ session_answers_from more (seen_from t (place + 1) events (map shown answers))

    go : (o : Option Turn) → turn_of t e ≡ o → Later →
        marked t place (e ∷ events) (a ∷ answers) (sessions_from t owned (e ∷ events) (a ∷ answers)) ≡ session_answers_from owned (seen_from t place (e ∷ events) (map shown (a ∷ answers)))
    go None is later = rw is (later (owned ++ []) ∙ ap (λ z. session_answers_from z (seen_from t (place + 1) events (map shown answers))) (append-nil owned))
    go (Some turn) is later = rw is (ap (λ z. session_answer place turn (shown a) (session_of owned turn) ∷ z)
        (later (owned ++ replicate (told_sent a) (session_of owned turn)) ∙ ap (λ z. session_answers_from (owned ++ z) (seen_from t (place + 1) events (map shown answers))) (owners_is (session_of owned turn) a)))

-- ---- how the operations end

-- how session k's operation ends that goes on here
abbrev pub end_of : ℕ → List SessionAnswer → Ending
end_of k rest = record { end = end_place (ending k rest); tag = write_tag k rest }

ended_is : (k place session : ℕ) (turn : Turn) (a : Answer) (rest : List SessionAnswer) → (session == k) ≡ true →
    ended_by place a (end_of k rest) ≡ end_of k (session_answer place turn (shown a) session ∷ rest)
ended_is k place session turn IsAbandoned rest same = rw same refl
ended_is k place session turn _ rest same = rw same refl

other_is : (k place session : ℕ) (turn : Turn) (told : Told) (rest : List SessionAnswer) → (session == k) ≡ false → end_of k rest ≡ end_of k (session_answer place turn told session ∷ rest)
other_is k place session turn told rest other = rw other refl

ending_is : (t place : ℕ) (events : List Event) (answers : List Answer) (sessions : List ℕ) (k : ℕ) →
    ending_from t place events answers sessions k ≡ end_of k (marked t place events answers sessions)
ending_is t place [] answers sessions k = refl
ending_is t place (e ∷ events) [] sessions k = refl
ending_is t place (e ∷ events) (a ∷ answers) [] k = refl
ending_is t place (e ∷ events) (a ∷ answers) (session ∷ sessions) k = go (turn_of t e) refl (session == k) refl (ending_is t (place + 1) events answers sessions k)
  where
    rest : List SessionAnswer
    rest = marked t (place + 1) events answers sessions

    all : List SessionAnswer
    all = marked t place (e ∷ events) (a ∷ answers) (session ∷ sessions)

    go : (o : Option Turn) → turn_of t e ≡ o → (b : Bool) → (session == k) ≡ b → ending_from t (place + 1) events answers sessions k ≡ end_of k rest →
        ending_from t place (e ∷ events) (a ∷ answers) (session ∷ sessions) k ≡ end_of k all
    go None is b same later = rw is later
    go (Some turn) is true same later =
        let step : ending_from t place (e ∷ events) (a ∷ answers) (session ∷ sessions) k ≡ ended_by place a (ending_from t (place + 1) events answers sessions k) = rw (is, same) refl in
        let marks : all ≡ session_answer place turn (shown a) session ∷ rest = rw is refl in
        step ∙ ap (ended_by place a) later ∙ ended_is k place session turn a rest same ∙ ap (end_of k) (sym marks)
    go (Some turn) is false same later =
        let step : ending_from t place (e ∷ events) (a ∷ answers) (session ∷ sessions) k ≡ ending_from t (place + 1) events answers sessions k = rw (is, same) refl in
        let marks : all ≡ session_answer place turn (shown a) session ∷ rest = rw is refl in
        step ∙ later ∙ other_is k place session turn (shown a) rest same ∙ ap (end_of k) (sym marks)

-- ---- what the answer at the end gives

-- the answer at the place of the end is that with which it ends
abbrev pub Reads : List Answer → Option (ℕ × Outcome) → Type 0
Reads all end = record { copy : copy_given_at all (end_place end) ≡ copy_told end; row : (f : ℕ) → row_given_at f all (end_place end) ≡ row_told f end }

reads_more : (all : List Answer) (k place session : ℕ) (turn : Turn) (a : Answer) (rest : List SessionAnswer) → slice_get all place ≡ Some a → (session == k) ≡ true →
    Reads all (ending k rest) → Reads all (ending k (session_answer place turn (shown a) session ∷ rest))
reads_more all k place session turn (IsDone (Wrote s op tag)) rest at same later = rw same (record { copy = ap copy_given at; row = λ f. ap (row_given f) at })
reads_more all k place session turn (IsDone (Gave s op copy)) rest at same later = rw same (record { copy = ap copy_given at; row = λ f. ap (row_given f) at })
reads_more all k place session turn (IsDone (Listed s op rows)) rest at same later = rw same (record { copy = ap copy_given at; row = λ f. ap (row_given f) at })
reads_more all k place session turn IsAbandoned rest at same later = rw same (record { copy = refl; row = λ f. refl })
reads_more all k place session turn (HasBegun op first count) rest at same later = rw same (record { copy = refl; row = λ f. refl })
reads_more all k place session turn _ rest at same later = rw same later

reads_are : (t : ℕ) (all : List Answer) (place : ℕ) (events : List Event) (answers : List Answer) (sessions : List ℕ) (k : ℕ) → IsRest all place answers →
    Reads all (ending k (marked t place events answers sessions))
reads_are t all place [] answers sessions k is = record { copy = refl; row = λ f. refl }
reads_are t all place (e ∷ events) [] sessions k is = record { copy = refl; row = λ f. refl }
reads_are t all place (e ∷ events) (a ∷ answers) [] k is = record { copy = refl; row = λ f. refl }
reads_are t all place (e ∷ events) (a ∷ answers) (session ∷ sessions) k is =
    go (turn_of t e) refl (session == k) refl (reads_are t all (place + 1) events answers sessions k (rest_more all answers place a is))
  where
    rest : List SessionAnswer
    rest = marked t (place + 1) events answers sessions

    go : (o : Option Turn) → turn_of t e ≡ o → (b : Bool) → (session == k) ≡ b → Reads all (ending k rest) →
        Reads all (ending k (marked t place (e ∷ events) (a ∷ answers) (session ∷ sessions)))
    go None sees b same later = rw sees later
    go (Some turn) sees true same later =
        let marks : marked t place (e ∷ events) (a ∷ answers) (session ∷ sessions) ≡ session_answer place turn (shown a) session ∷ rest = rw sees refl in
        let P : List SessionAnswer → Type 0 = λ z. Reads all (ending k z) in
        subst P (sym marks) (reads_more all k place session turn a rest (rest_first all answers place a is) same later)
    go (Some turn) sees false same later = rw (sees, same) later

-- ---- the operations

line_is : (file : File) (all : List Answer) (place op first count session : ℕ) (line : Line) (rest : List SessionAnswer) (ops : List Op) → line_is_of_byte line ≡ true → ((k : ℕ) → Reads all (ending k rest)) →
    with_op (begins file all place op line (λ k. end_of k rest)) ops ≡ begun_at file (session_answer place (Own line) (Began op first count) session) rest ++ ops
line_is file all place op first count session (Write k v f bytes) rest ops fits reads = go (is_file (record { volume = v; place = f }) file) refl
  where
    go : (b : Bool) → is_file (record { volume = v; place = f }) file ≡ b →
        with_op (begins file all place op (Write k v f bytes) (λ k. end_of k rest)) ops ≡ begun_at file (session_answer place (Own (Write k v f bytes)) (Began op first count) session) rest ++ ops
    go true is = rw (fits, is) refl
    go false is = rw (fits, is) refl
line_is file all place op first count session (Read k v f) rest ops fits reads = go (is_file (record { volume = v; place = f }) file) refl
  where
    go : (b : Bool) → is_file (record { volume = v; place = f }) file ≡ b →
        with_op (begins file all place op (Read k v f) (λ k. end_of k rest)) ops ≡ begun_at file (session_answer place (Own (Read k v f)) (Began op first count) session) rest ++ ops
    go true is = rw (fits, is) (ap (λ c. read_begun k op place (end_place (ending k rest)) c ∷ ops) (reads k).copy)
    go false is = rw (fits, is) refl
line_is file all place op first count session (ListFiles k v) rest ops fits reads = go (v == file.volume) refl
  where
    go : (b : Bool) → (v == file.volume) ≡ b →
        with_op (begins file all place op (ListFiles k v) (λ k. end_of k rest)) ops ≡ begun_at file (session_answer place (Own (ListFiles k v)) (Began op first count) session) rest ++ ops
    go true is = rw (fits, is) (ap (λ r. row_begun k op place (end_place (ending k rest)) r ∷ ops) ((reads k).row file.place))
    go false is = rw (fits, is) refl
line_is file all place op first count session _ rest ops fits reads = refl

-- where nothing is said to begin
none_is : (t : ℕ) (file : File) (all : List Answer) (place session : ℕ) (line : Line) (a : Answer) (rest : List SessionAnswer) (ends : ℕ → Ending) (ops : List Op) → (tenant : ℕ) → (tenant == t) ≡ true → event_is_of_byte (Tenant tenant line) a ≡ true →
    ((k : ℕ) → ends k ≡ end_of k rest) → ((k : ℕ) → Reads all (ending k rest)) →
    with_op (begun_by t file all place (Tenant tenant line) a ends) ops ≡ begun_at file (session_answer place (Own line) (shown a) session) rest ++ ops
none_is t file all place session line (HasBegun op first count) rest ends ops tenant same fits are reads =
    let f : ends ≡ (λ k. end_of k rest) = λ i k. are k i in
    rw (same, f) (line_is file all place op first count session line rest ops fits reads)
none_is t file all place session (Write k v f bytes) _ rest ends ops tenant same fits are reads = refl
none_is t file all place session (Read k v f) _ rest ends ops tenant same fits are reads = refl
none_is t file all place session (ListFiles k v) _ rest ends ops tenant same fits are reads = refl
none_is t file all place session _ _ rest ends ops tenant same fits are reads = refl

-- an event that the tenant does not see begins nothing of it
unseen_is : (t : ℕ) (file : File) (all : List Answer) (place : ℕ) (e : Event) (a : Answer) (ends : ℕ → Ending) → turn_of t e ≡ None → begun_by t file all place e a ends ≡ None
unseen_is t file all place (Tenant tenant line) (HasBegun op first count) ends sees = go (tenant == t) refl sees
  where
    go : (b : Bool) → (tenant == t) ≡ b → turn_of t (Tenant tenant line) ≡ None → begun_by t file all place (Tenant tenant line) (HasBegun op first count) ends ≡ None
    go false is h = rw is refl
    go true is h = absurd (let bad : Some (Own line) ≡ None = rw is at h in cc)
unseen_is t file all place (Tenant tenant line) _ ends sees = refl
unseen_is t file all place (Server line) a ends sees = refl
unseen_is t file all place Stray a ends sees = refl

-- what the event begins, where the tenant sees it
seen_is : (t : ℕ) (file : File) (all : List Answer) (place session : ℕ) (e : Event) (turn : Turn) (a : Answer) (rest : List SessionAnswer) (ends : ℕ → Ending) (ops : List Op) → turn_of t e ≡ Some turn → event_is_of_byte e a ≡ true →
    ((k : ℕ) → ends k ≡ end_of k rest) → ((k : ℕ) → Reads all (ending k rest)) →
    with_op (begun_by t file all place e a ends) ops ≡ begun_at file (session_answer place turn (shown a) session) rest ++ ops
seen_is t file all place session (Tenant tenant line) turn a rest ends ops sees fits are reads = go (tenant == t) refl sees
  where
    Goal : Turn → Type 0
    Goal z = with_op (begun_by t file all place (Tenant tenant line) a ends) ops ≡ begun_at file (session_answer place z (shown a) session) rest ++ ops

    go : (b : Bool) → (tenant == t) ≡ b → turn_of t (Tenant tenant line) ≡ Some turn → Goal turn
    go true is h =
        let same : Some (Own line) ≡ Some turn = rw is at h in
        let here : Own line ≡ turn = cc in
        subst Goal here (none_is t file all place session line a rest ends ops tenant is fits are reads)
    go false is h = absurd (let bad : None ≡ Some turn = rw is at h in cc)
seen_is t file all place session (Server line) turn a rest ends ops sees fits are reads =
    let here : Serving line ≡ turn = cc in
    let Goal : Turn → Type 0 = λ z. ops ≡ begun_at file (session_answer place z (shown a) session) rest ++ ops in
    subst Goal here refl
seen_is t file all place session Stray turn a rest ends ops sees fits are reads = absurd (let bad : None ≡ Some turn = sees in cc)

ops_are : (t : ℕ) (file : File) (all : List Answer) (place : ℕ) (events : List Event) (answers : List Answer) (sessions : List ℕ) → IsRest all place answers → sessions_are_bytes events answers ≡ true →
    ops_from t file all place events answers sessions ≡ begun_in file (marked t place events answers sessions)
ops_are t file all place [] answers sessions is fits = refl
ops_are t file all place (e ∷ events) [] sessions is fits = refl
ops_are t file all place (e ∷ events) (a ∷ answers) [] is fits = refl
ops_are t file all place (e ∷ events) (a ∷ answers) (session ∷ sessions) is fits =
    let both = and_parts (event_is_of_byte e a) (sessions_are_bytes events answers) fits in
    go (turn_of t e) refl both.0 (ops_are t file all (place + 1) events answers sessions (rest_more all answers place a is) both.1)
  where
    rest : List SessionAnswer
    rest = marked t (place + 1) events answers sessions

    later : List Op
    later = ops_from t file all (place + 1) events answers sessions

    ends : ℕ → Ending
    ends = ending_from t (place + 1) events answers sessions

    go : (o : Option Turn) → turn_of t e ≡ o → event_is_of_byte e a ≡ true → later ≡ begun_in file rest →
        ops_from t file all place (e ∷ events) (a ∷ answers) (session ∷ sessions) ≡ begun_in file (marked t place (e ∷ events) (a ∷ answers) (session ∷ sessions))
    go None sees fit same =
        let marks : marked t place (e ∷ events) (a ∷ answers) (session ∷ sessions) ≡ rest = rw sees refl in
        ap (λ o. with_op o later) (unseen_is t file all place e a ends sees) ∙ same ∙ ap (begun_in file) (sym marks)
    go (Some turn) sees fit same =
        let marks : marked t place (e ∷ events) (a ∷ answers) (session ∷ sessions) ≡ session_answer place turn (shown a) session ∷ rest = rw sees refl in
        seen_is t file all place session e turn a rest ends later sees fit
        (ending_is t (place + 1) events answers sessions)
        (λ k. reads_are t all (place + 1) events answers sessions k (rest_more all answers place a is))
        ∙ ap (λ z. begun_at file (session_answer place turn (shown a) session) rest ++ z) same
        ∙ ap (begun_in file) (sym marks)

-- ---- the files

-- the volumes that were opened, of what the tenant sees
abbrev pub opened_of : Turn → Told → List VolumeRow
opened_of turn told = opened_in (session_answer 0 turn told 0 ∷ [])

files_zero : (volumes : List VolumeRow) (row : VolumeRow) → files_of (row ∷ volumes) 0 ≡ row.files
files_zero volumes row = refl

volume_step : (files : ℕ) (row : VolumeRow) (volumes : List VolumeRow) (later : ℕ → ℕ) → files ≡ row.files → ((v : ℕ) → later v ≡ files_of volumes v) → (v : ℕ) → files_step (Some files) later v ≡ files_of (row ∷ volumes) v
volume_step files row volumes later same are zero = same
volume_step files row volumes later same are (suc v) = rw (ne_eqb (suc v) 0 (λ bad. omega (arith, bad))) (ap later (less v) ∙ are v)
  where
    less : (v : ℕ) → suc v - 1 ≡ v
    less v = omega arith

line_opens : (t tenant place session : ℕ) (line : Line) (a : Answer) (rest : List SessionAnswer) (later : ℕ → ℕ) → (tenant == t) ≡ true → ((v : ℕ) → later v ≡ files_of (opened_in rest) v) →
    (v : ℕ) → files_step (opens t (Tenant tenant line) a) later v ≡ files_of (opened_in (session_answer place (Own line) (shown a) session ∷ rest)) v
line_opens t tenant place session (NewVolume files blocks) (Volume number) rest later same are v =
    rw same (volume_step files (record { files = files; blocks = blocks }) (opened_in rest) later refl are v)
line_opens t tenant place session (NewVolume files blocks) _ rest later same are v = are v
line_opens t tenant place session _ _ rest later same are v = are v

seen_opens : (t place session : ℕ) (e : Event) (turn : Turn) (a : Answer) (rest : List SessionAnswer) (later : ℕ → ℕ) → turn_of t e ≡ Some turn → ((v : ℕ) → later v ≡ files_of (opened_in rest) v) →
    (v : ℕ) → files_step (opens t e a) later v ≡ files_of (opened_in (session_answer place turn (shown a) session ∷ rest)) v
seen_opens t place session (Tenant tenant line) turn a rest later sees are v = go (tenant == t) refl sees
  where
    Goal : Turn → Type 0
    Goal z = files_step (opens t (Tenant tenant line) a) later v ≡ files_of (opened_in (session_answer place z (shown a) session ∷ rest)) v

    go : (b : Bool) → (tenant == t) ≡ b → turn_of t (Tenant tenant line) ≡ Some turn → Goal turn
    go true is h =
        let same : Some (Own line) ≡ Some turn = rw is at h in
        let here : Own line ≡ turn = cc in
        subst Goal here (line_opens t tenant place session line a rest later is are v)
    go false is h = absurd (let bad : None ≡ Some turn = rw is at h in cc)
seen_opens t place session (Server line) turn a rest later sees are v =
    let here : Serving line ≡ turn = cc in
    let Goal : Turn → Type 0 = λ z. later v ≡ files_of (opened_in (session_answer place z (shown a) session ∷ rest)) v in
    subst Goal here (are v)
seen_opens t place session Stray turn a rest later sees are v = absurd (let bad : None ≡ Some turn = sees in cc)

unseen_opens : (t : ℕ) (e : Event) (a : Answer) → turn_of t e ≡ None → opens t e a ≡ None
unseen_opens t (Tenant tenant (NewVolume files blocks)) (Volume number) sees = go (tenant == t) refl sees
  where
    go : (b : Bool) → (tenant == t) ≡ b → turn_of t (Tenant tenant (NewVolume files blocks)) ≡ None → opens t (Tenant tenant (NewVolume files blocks)) (Volume number) ≡ None
    go false is h = rw is refl
    go true is h = absurd (let bad : Some (Own (NewVolume files blocks)) ≡ None = rw is at h in cc)
unseen_opens t (Tenant tenant (NewVolume files blocks)) _ sees = refl
unseen_opens t (Tenant tenant _) a sees = refl
unseen_opens t (Server line) a sees = refl
unseen_opens t Stray a sees = refl

files_are : (t place : ℕ) (events : List Event) (answers : List Answer) (sessions : List ℕ) (v : ℕ) →
    files_from t events answers v ≡ files_of (opened_in (session_answers_from sessions (seen_from t place events (map shown answers)))) v
files_are t place [] answers owned v = refl
files_are t place (e ∷ events) [] owned v = refl
files_are t place (e ∷ events) (a ∷ answers) owned v = go (turn_of t e) refl (λ more w. files_are t (place + 1) events answers more w)
  where
    Later : Type 0
    Later = (more : List ℕ) (w : ℕ) → files_from t events answers w ≡ files_of (opened_in (session_answers_from more (seen_from t (place + 1) events (map shown answers)))) w

    go : (o : Option Turn) → turn_of t e ≡ o → Later →
        files_from t (e ∷ events) (a ∷ answers) v ≡ files_of (opened_in (session_answers_from owned (seen_from t place (e ∷ events) (map shown (a ∷ answers))))) v
    go None sees later = rw (sees, unseen_opens t e a sees) (later owned v)
    go (Some turn) sees later =
        let more : List ℕ = owned ++ owners (session_of owned turn) (shown a) in
        let step = seen_opens t place (session_of owned turn) e turn a (session_answers_from more (seen_from t (place + 1) events (map shown answers))) (files_from t events answers) sees (later more) v in
        let marks : seen_from t place (e ∷ events) (map shown (a ∷ answers)) ≡ record { place = place; turn = turn; told = shown a } ∷ seen_from t (place + 1) events (map shown answers) = rw sees refl in
        step ∙ ap (λ z. files_of (opened_in (session_answers_from owned z)) v) (sym marks)

-- ---- the whole

pub read_off_is : (t : ℕ) (file : File) (events : List Event) (answers : List Answer) → sessions_are_bytes events answers ≡ true →
    read_off t file events answers ≡ operations (seen t events (map shown answers)) file
read_off_is t file events answers fits =
    ap (λ n. if nat_lt file.place n then ops_from t file answers 0 events answers (sessions_from t [] events answers) else []) (files_are t 0 events answers [] file.volume)
    ∙ ap (λ z. if nat_lt file.place (files_of (opened_in (session_answers (seen t events (map shown answers)))) file.volume) then z else [])
    (ops_are t file answers 0 events answers (sessions_from t [] events answers) (rest_whole answers) fits ∙ ap (begun_in file) (marked_is t 0 [] events answers))
