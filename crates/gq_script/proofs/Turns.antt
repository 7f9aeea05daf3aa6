-- What was read and written so far, against the whole input and its output.
use Rattle.std.proofs.Common.{◌≡◌, ◌≢◌, ◌∙◌, ◌-◌, ◌≤◌, ℕ, List, [], ◌∷◌, ◌++◌, Option, Some, None, Result, Ok, Err, Bool, true, false, IfSome, length, take, drop, map, append_assoc, refl, sym, ap, ap₂, subst, arith, append-nil, take-append-drop}
use Rattle.std.specs.Prelude.{IfErr, IsErr, IsErrOf, IsOk, OnErr, ◌==◌}
use Rattle.std.proofs.lemmas.Bool.{eq-eqb}
use Rattle.std.proofs.lemmas.List.{length-take, map-append, take-append-le, take_rest}
use Rattle.std.specs.Io.KnownBytes.{Appends, Consumes, IsAtEnd, Keeps, prepend_known}
use Rattle.std.proofs.KnownBytes.{Appends-trans}
use Rattle.memchr.specs.Find.{Nowhere, Passes, is_byte}
use lib.Seq.{take-append_seam}
use Rattle.gq_desk.specs.CheckedPlan.{CheckedPlan}
use Rattle.gq_model.specs.declared.events.Event.{Event}
use Rattle.gq_world.specs.Tables.{Stands, Tables}
use Rattle.gq_text.specs.declared.plan_text.TextFault.TheVariants.{Form, End, Grid, Blocks, Check}
use Rattle.gq_text.specs.declared.plan_text.PlanText.{PlanText}
use Rattle.gq_text.specs.declared.plan_text.PlanText.TheVariants.{Fault as PlanFault, Memory as PlanMemory}
use Rattle.gq_script.specs.declared.script.RunFault.{RunFault}
use Rattle.gq_script.specs.declared.script.RunFault.TheVariants.{Read, TooBig}
use Rattle.gq_script.specs.declared.script.ReadFault.{ReadFault}
use Rattle.gq_script.specs.declared.script.ReadFault.TheVariants.{Read as NotRead, TooBig as ReadTooMuch, Memory as ReadMemory}
use Rattle.gq_script.specs.declared.stepping.TellFault.{TellFault}
use Rattle.gq_script.specs.declared.stepping.TellFault.TheVariants.{Lines as NotAnswered, Write as NotWritten}
use Rattle.gq_script.specs.declared.stepping.Stage.{Stage}
use Rattle.gq_script.specs.declared.stepping.Stage.TheVariants.{Plan as StagePlan, Lines as StageLines}
use Rattle.gq_lines.specs.Lines.{lines_of, joined}
use Rattle.gq_text.specs.PlanText.{Reading, plan_of, IsFaultOf}
use Rattle.gq_text.specs.Input.{event_of}
use Rattle.gq_script.specs.Out.{answer_lines, out}
use Rattle.gq_lines.specs.Written.{Extends}
use Rattle.gq_streams.specs.Watched.{AppendsPrefix, Moves}
use Rattle.gq_script.specs.Faults.{of_reading}
use Rattle.gq_script.specs.Stepping.{AnswersEnded, HasAnswered, AllEnded, IsPlanFaultIn, IsFinal, IsLast, IsOfPlan, IsTellFaultOf, room_in, MissesGo, of_telling}
use Rattle.gq_script.proofs.Ends.{begun_from}
use Rattle.gq_script.proofs.Growing.{lines_behind_whole, out_more, out_none, plan_misses, plan_more, plan_fault_behind, outputs_grow}

-- ---- what a step adds to the lines that were answered

-- rows behind lines that miss `go`
pub rows_later : (text : List ℕ) (done missing : ℕ) → AllEnded (take done text) → 3 ≤ missing → (n : ℕ) × (missing ≤ n) × (plan_of (lines_of (take done text)) ≡ Err (n, End))
    → MissesGo (room_in (lines_of (take done text))) (lines_of (take (length text - done) (drop done text))) → (n : ℕ) × (missing ≤ n) × (plan_of (lines_of text) ≡ Err (n, End))
rows_later text done missing ends late before rows =
    let rest = drop done text in
    let P : List ℕ → Type 0 = λ xs. MissesGo (room_in (lines_of (take done text))) (lines_of xs) in
    let low : missing ≤ before.0 = before.1 in
    let third : 3 ≤ before.0 = omega arith in
    let m = plan_misses (lines_of (take done text)) (lines_of rest) before.0 before.2 third (subst P (take_rest text done) rows) in
    let high : before.0 ≤ m.0 = m.1 in
    let whole : lines_of (take done text) ++ lines_of rest ≡ lines_of text = sym (lines_behind_whole (take done text) rest ends) ∙ ap lines_of (take-append-drop done text) in
    (m.0, omega arith, ap plan_of (sym whole) ∙ m.2)

-- where `go` is missing, nothing is written
pub nothing_yet : (text front told : List ℕ) (n m : ℕ) → plan_of (lines_of front) ≡ Err (n, End) → plan_of (lines_of text) ≡ Err (m, End) → told ≡ [] → out text ≡ out front ++ told
nothing_yet text front told n m one other none = out_none text (m, End) other ∙ sym (ap₂ (λ a b. a ++ b) (out_none front (n, End) one) none)

-- lines behind a plan
pub goes_on : (text : List ℕ) (done : ℕ) (old new : Tables) (left : List (List ℕ)) → AllEnded (take done text) → plan_of (lines_of (take done text)) ≡ Ok (old.plan, left) → new.plan ≡ old.plan
    → ((before : List Event) → Stands old before → Stands new (before ++ map (event_of old.plan) (lines_of (take (length text - done) (drop done text)))))
    → Stands old (map (event_of old.plan) left)
    → (x : List (List ℕ)) × (plan_of (lines_of text) ≡ Ok (new.plan, x)) × Stands new (map (event_of new.plan) x)
goes_on text done old new left ends is same stands before =
    let rest = drop done text in
    let all = left ++ lines_of rest in
    let R : List ℕ → Type 0 = λ xs. Stands new (map (event_of old.plan) left ++ map (event_of old.plan) (lines_of xs)) in
    let later : R rest = subst R (take_rest text done) (stands (map (event_of old.plan) left) before) in
    let P : List Event → Type 0 = λ events. Stands new events in
    let now : P (map (event_of old.plan) all) = subst P (sym (map-append (event_of old.plan) left (lines_of rest))) later in
    let Q : CheckedPlan → Type 0 = λ p. (plan_of (lines_of text) ≡ Ok (p, all)) × Stands new (map (event_of p) all) in
    let first : Q old.plan = (ap (λ (xs : List ℕ). plan_of (lines_of xs)) (sym (take-append-drop done text)) ∙ plan_more (take done text) rest old.plan left ends is, now) in
    let moved : Q new.plan = subst Q (sym same) first in
    (all, moved.0, moved.1)

-- and the answers to them
pub told_more : (text told : List ℕ) (done : ℕ) (plan : CheckedPlan) (left : List (List ℕ)) → AllEnded (take done text) → plan_of (lines_of (take done text)) ≡ Ok (plan, left)
    → told ≡ joined (answer_lines plan (map (event_of plan) left) (map (event_of plan) (lines_of (take (length text - done) (drop done text))))) → out text ≡ out (take done text) ++ told
told_more text told done plan left ends is wrote =
    let rest = drop done text in
    ap out (sym (take-append-drop done text)) ∙ out_more (take done text) rest plan left ends is
    ∙ ap (λ (xs : List ℕ). out (take done text) ++ joined (answer_lines plan (map (event_of plan) left) (map (event_of plan) (lines_of xs)))) (sym (take_rest text done))
    ∙ ap (λ xs. out (take done text) ++ xs) (sym wrote)

pub is_plan : (read : Reading (CheckedPlan × List (List ℕ))) (x : CheckedPlan × List (List ℕ)) → read ≡ Ok x → IsOk read
is_plan read x is = let P : Reading (CheckedPlan × List (List ℕ)) → Type 0 = λ r. IsOk r in subst P (sym is) refl

-- where the lines make no plan, nothing is told
end_nil : (a b : List ℕ) → a ++ b ≡ [] → b ≡ []
end_nil [] b is = is
end_nil (x ∷ a) b is = cc

pub nothing_told : (text first told : List ℕ) → out text ≡ first ++ told → IsErr (plan_of (lines_of text)) → told ≡ []
nothing_told text first told is wrong = by (plan_of (lines_of text)) refl
  where
    by : (read : Reading (CheckedPlan × List (List ℕ))) → plan_of (lines_of text) ≡ read → told ≡ []
    by (Ok read) same = let P : Reading (CheckedPlan × List (List ℕ)) → Type 0 = λ r. IsErr r in absurd (let no : false ≡ true = subst P same wrong in cc)
    by (Err fault) same = end_nil first told (sym is ∙ out_none text fault same)

pub not_empty : (told : List ℕ) (n : ℕ) (r : Bool) → r ≡ (n == 0) → r ≡ false → n ≡ length told → told ≡ [] → ⊥
not_empty told n r is other same none =
    let zero_long : n ≡ 0 = same ∙ ap length none in
    let apart : true ≡ false = sym (eq-eqb n 0 zero_long) ∙ sym is ∙ other in
    cc

-- ---- the whole input

-- what is held and what is left is what there was
pub kept_consumes : (all left : Option (List ℕ)) (held : List ℕ) → Keeps all (prepend_known held left) → Consumes all left held
kept_consumes None left held kept = tt
kept_consumes (Some x) None held kept = absurd kept
kept_consumes (Some x) (Some y) held kept = sym kept

-- a beginning of a text was appended
pub begins : (old new : Option (List ℕ)) (text front more : List ℕ) → text ≡ front ++ more → Appends old new front → AppendsPrefix old new text
begins old new text front more is wrote = (length front, subst (Appends old new) (sym (ap (take (length front)) is ∙ take-append_seam front more)) wrote)

-- a beginning of a text, and of what goes on from it
pub prefix_more : (old new : Option (List ℕ)) (text whole more : List ℕ) → whole ≡ text ++ more → AppendsPrefix old new text → AppendsPrefix old new whole
prefix_more old new text whole more is wrote =
    let front = take wrote.0 text in
    begins old new whole front (drop wrote.0 text ++ more)
    (is ∙ ap (λ xs. xs ++ more) (sym (take-append-drop wrote.0 text)) ∙ append_assoc front (drop wrote.0 text) more) wrote.1

-- a text, and then a beginning of another
pub prefix_behind : (old mid new : Option (List ℕ)) (whole first told : List ℕ) → whole ≡ first ++ told → Appends old mid first → AppendsPrefix mid new told → AppendsPrefix old new whole
prefix_behind old mid new whole first told is wrote later =
    let front = take later.0 told in
    begins old new whole (first ++ front) (drop later.0 told)
    (is ∙ ap (λ xs. first ++ xs) (sym (take-append-drop later.0 told)) ∙ sym (append_assoc first front (drop later.0 told)))
    (Appends-trans old mid new first front wrote later.1)

-- the output of lines that have ended is a beginning of the whole output
pub ended_prefix : (all left old new : Option (List ℕ)) (held ended begun : List ℕ) → held ≡ ended ++ begun → AllEnded ended → Consumes all left held → AppendsPrefix old new (out ended) → IfSome all (λ input. AppendsPrefix old new (out input))
ended_prefix None left old new held ended begun parts ends read wrote = tt
ended_prefix (Some x) None old new held ended begun parts ends read wrote = absurd read
ended_prefix (Some x) (Some y) old new held ended begun parts ends read wrote =
    let is : x ≡ ended ++ (begun ++ y) = read ∙ ap (λ xs. xs ++ y) parts ∙ append_assoc ended begun y in
    let more = outputs_grow ended (begun ++ y) ends in
    prefix_more old new (out ended) (out x) more.0 (ap out is ∙ more.1) wrote

-- a fault of the plan that is known by lines that have ended is that of the whole input
fault_behind : (ended rest : List ℕ) (e : PlanText) → AllEnded ended → IsFaultOf (plan_of (lines_of ended)) e → IsFinal e → IsFaultOf (plan_of (lines_of (ended ++ rest))) e
fault_behind ended rest (PlanMemory refused) ends told known = tt
fault_behind ended rest (PlanFault line End) ends told known = absurd known
fault_behind ended rest (PlanFault line Form) ends told known = ap plan_of (lines_behind_whole ended rest ends) ∙ plan_fault_behind (lines_of ended) (lines_of rest) line Form told (λ same. cc)
fault_behind ended rest (PlanFault line (Grid fault)) ends told known = ap plan_of (lines_behind_whole ended rest ends) ∙ plan_fault_behind (lines_of ended) (lines_of rest) line (Grid fault) told (λ same. cc)
fault_behind ended rest (PlanFault line Blocks) ends told known = ap plan_of (lines_behind_whole ended rest ends) ∙ plan_fault_behind (lines_of ended) (lines_of rest) line Blocks told (λ same. cc)
fault_behind ended rest (PlanFault line (Check fault)) ends told known = ap plan_of (lines_behind_whole ended rest ends) ∙ plan_fault_behind (lines_of ended) (lines_of rest) line (Check fault) told (λ same. cc)

tell_fault_behind : (ended rest : List ℕ) (e : TellFault) → AllEnded ended → IsTellFaultOf (lines_of ended) e → IsLast e → IsTellFaultOf (lines_of (ended ++ rest)) e
tell_fault_behind ended rest (NotAnswered fault) ends told known = fault_behind ended rest fault ends told known
tell_fault_behind ended rest NotWritten ends told known = tt

-- it is told as one of the plan, if it is
pub told_of_plan : (lines : List (List ℕ)) (e : TellFault) → IsTellFaultOf lines e → IsPlanFaultIn lines (of_telling e)
told_of_plan lines (NotAnswered (PlanFault line fault)) told = told
told_of_plan lines (NotAnswered (PlanMemory refused)) told = tt
told_of_plan lines NotWritten told = tt

pub ended_fault : (all left : Option (List ℕ)) (held ended begun : List ℕ) (e : TellFault) → held ≡ ended ++ begun → AllEnded ended → Consumes all left held → IsTellFaultOf (lines_of ended) e → IsLast e → IfSome all (λ input. IsPlanFaultIn (lines_of input) (of_telling e))
ended_fault None left held ended begun e parts ends read told known = tt
ended_fault (Some x) None held ended begun e parts ends read told known = absurd read
ended_fault (Some x) (Some y) held ended begun e parts ends read told known =
    let is : x ≡ ended ++ (begun ++ y) = read ∙ ap (λ xs. xs ++ y) parts ∙ append_assoc ended begun y in
    let P : List ℕ → Type 0 = λ input. IsPlanFaultIn (lines_of input) (of_telling e) in
    subst P (sym is) (told_of_plan (lines_of (ended ++ (begun ++ y))) e (tell_fault_behind ended (begun ++ y) e ends told known))

-- lines of an input that makes no plan make none
pub err_before : (ended rest : List ℕ) → AllEnded ended → IsErr (plan_of (lines_of (ended ++ rest))) → IsErr (plan_of (lines_of ended))
err_before ended rest ends wrong = by (plan_of (lines_of ended)) refl
  where
    by : (read : Reading (CheckedPlan × List (List ℕ))) → plan_of (lines_of ended) ≡ read → IsErr read
    by (Ok read) is =
        let P : Reading (CheckedPlan × List (List ℕ)) → Type 0 = λ r. IsErr r in
        absurd (let no : false ≡ true = subst P (plan_more ended rest read.0 read.1 ends is) wrong in cc)
    by (Err fault) is = refl

pub ended_nothing : {A : Type 0} (all left : Option (List ℕ)) (held ended begun : List ℕ) (old new : A) → held ≡ ended ++ begun → AllEnded ended → Consumes all left held → (IsErr (plan_of (lines_of ended)) → new ≡ old)
    → IfSome all (λ input. IsErr (plan_of (lines_of input)) → new ≡ old)
ended_nothing None left held ended begun old new parts ends read nothing = tt
ended_nothing (Some x) None held ended begun old new parts ends read nothing = absurd read
ended_nothing (Some x) (Some y) held ended begun old new parts ends read nothing = λ wrong.
    let is : x ≡ ended ++ (begun ++ y) = read ∙ ap (λ xs. xs ++ y) parts ∙ append_assoc ended begun y in
    let P : List ℕ → Type 0 = λ input. IsErr (plan_of (lines_of input)) in
    nothing (err_before ended (begun ++ y) ends (subst P is wrong))

-- ---- from turn to turn

-- the bytes of a turn go behind those held
pub held_more : (all left left' : Option (List ℕ)) (held held' : List ℕ) → Keeps all (prepend_known held left) → Moves left left' held held' → Keeps all (prepend_known held' left')
held_more None left left' held held' kept moved = tt
held_more (Some x) None left' held held' kept moved = absurd kept
held_more (Some x) (Some y) None held held' kept moved = absurd moved.1
held_more (Some x) (Some y) (Some z) held held' kept moved =
    ap (λ (l : List ℕ). l ++ z) moved.2 ∙ append_assoc held moved.0 z ∙ ap (λ l. held ++ l) (sym moved.1) ∙ kept

-- at the end of the input all of it is held
pub all_held : (all left : Option (List ℕ)) (held : List ℕ) → Keeps all (prepend_known held left) → IsAtEnd left → IfSome all (λ input. held ≡ input)
all_held None left held kept end = tt
all_held (Some x) None held kept end = absurd kept
all_held (Some x) (Some y) held kept end = sym (append-nil held) ∙ ap (λ l. held ++ l) (sym end) ∙ kept

pub held_first : (all : Option (List ℕ)) (held : List ℕ) → held ≡ [] → Keeps all (prepend_known held all)
held_first None held none = tt
held_first (Some x) held none = ap (λ (l : List ℕ). l ++ x) none

-- bytes that come behind, or are cut off behind, change nothing before them
pub same_front : (left left' : Option (List ℕ)) (held held' : List ℕ) (done : ℕ) → Moves left left' held held' → done ≤ length held → take done held' ≡ take done held
same_front left left' held held' done moved within = ap (take done) moved.2 ∙ take-append-le done held moved.0 within

pub take_of_take : (done end : ℕ) (held : List ℕ) → done ≤ end → done ≤ length held → take done (take end held) ≡ take done held
take_of_take done end held low within =
    let short : done ≤ length (take end held) = rw (length-take end held) (omega arith) in
    sym (take-append-le done (take end held) (drop end held) short) ∙ ap (take done) (take-append-drop end held)

-- no line is nothing, and misses the plan's first line
plan_none : plan_of [] ≡ Err (1, End)
unfolding plan_of
plan_none = refl

pub first_missing : (n : ℕ) × (1 ≤ n) × (plan_of [] ≡ Err (n, End))
first_missing = (1, omega arith, plan_none)

pub first_answered : (o : Option (List ℕ)) → Appends o o (out [])
first_answered None = tt
first_answered (Some x) = sym (append-nil x) ∙ ap (λ l. x ++ l) (sym (out_none [] (1, End) plan_none))

-- the answers go on
pub more_answered : (old mid new : Option (List ℕ)) (text front : List ℕ) → Appends old mid (out front) → (told : List ℕ) × (out text ≡ out front ++ told) × Appends mid new told → Appends old new (out text)
more_answered old mid new text front wrote later = subst (Appends old new) (sym later.1) (Appends-trans old mid new (out front) later.0 wrote later.2)

pub all_of : (old new : Option (List ℕ)) (text : List ℕ) → Appends old new text → AppendsPrefix old new text
all_of old new text wrote = begins old new text text [] (sym (append-nil text)) wrote

-- the output of lines goes on from that of those before them
pub outputs_later : (text : List ℕ) (done : ℕ) → AllEnded (take done text) → Extends (out (take done text)) (out text)
outputs_later text done ends =
    let P : List ℕ → Type 0 = λ xs. Extends (out (take done text)) (out xs) in
    subst P (take-append-drop done text) (outputs_grow (take done text) (drop done text) ends)

-- what was written where the lines were told, or a fault of them
pub told_prefix : {W : Type 0} (contents : W → Option (List ℕ)) (r : Result (Unit {0}) TellFault) (old : Option (List ℕ)) (mid new : W) (first whole : List ℕ) → Extends first whole → Appends old (contents mid) first
    → IfErr r (λ e. e ≢ NotWritten → new ≡ mid)
    → (IsErrOf r NotWritten → (told : List ℕ) × (whole ≡ first ++ told) × AppendsPrefix (contents mid) (contents new) told)
    → OnErr r (AppendsPrefix old (contents new) whole)
told_prefix contents (Ok x) old mid new first whole more wrote still later = tt
told_prefix {W = W} contents (Err e) old mid new first whole more wrote still later = by e refl still later
  where
    stays : new ≡ mid → AppendsPrefix old (contents new) whole
    stays same = let P : W → Type 0 = λ w. AppendsPrefix old (contents w) whole in subst P (sym same) (begins old (contents mid) whole first more.0 more.1 wrote)

    by : (f : TellFault) → e ≡ f → (f ≢ NotWritten → new ≡ mid) → (◌≡◌ {A = Result (Unit {0}) TellFault} (Err f) (Err NotWritten) → (told : List ℕ) × (whole ≡ first ++ told) × AppendsPrefix (contents mid) (contents new) told) → AppendsPrefix old (contents new) whole
    by (NotAnswered fault) is s l = stays (s (λ same. cc))
    by NotWritten is s l = let t = l refl in prefix_behind old (contents mid) (contents new) whole first t.0 t.1 wrote t.2

-- ---- and at the end of the input

pub end_prefix : {E : Type 0} (r : Result (Unit {0}) E) (all : Option (List ℕ)) (text : List ℕ) (old new : Option (List ℕ)) → OnErr r (AppendsPrefix old new (out text)) → IfSome all (λ input. text ≡ input)
    → OnErr r (IfSome all (λ input. AppendsPrefix old new (out input)))
end_prefix (Ok x) all text old new wrote whole = tt
end_prefix (Err e) None text old new wrote whole = tt
end_prefix (Err e) (Some x) text old new wrote whole = let P : List ℕ → Type 0 = λ xs. AppendsPrefix old new (out xs) in subst P whole wrote

pub nothing_at : {A : Type 0} (text : List ℕ) (done : ℕ) (old mid new : A) → AllEnded (take done text) → (IsErr (plan_of (lines_of (take done text))) → mid ≡ old) → (IsErr (plan_of (lines_of text)) → new ≡ mid)
    → IsErr (plan_of (lines_of text)) → new ≡ old
nothing_at text done old mid new ends before now wrong =
    let P : List ℕ → Type 0 = λ xs. IsErr (plan_of (lines_of xs)) in
    now wrong ∙ before (err_before (take done text) (drop done text) ends (subst P (sym (take-append-drop done text)) wrong))

pub end_nothing : {A E : Type 0} (r : Result (Unit {0}) E) (all : Option (List ℕ)) (text : List ℕ) (old new : A) → (IsErr (plan_of (lines_of text)) → new ≡ old) → IfSome all (λ input. text ≡ input)
    → OnErr r (IfSome all (λ input. IsErr (plan_of (lines_of input)) → new ≡ old))
end_nothing (Ok x) all text old new nothing whole = tt
end_nothing (Err e) None text old new nothing whole = tt
end_nothing (Err e) (Some x) text old new nothing whole = λ wrong. let P : List ℕ → Type 0 = λ xs. IsErr (plan_of (lines_of xs)) in nothing (subst P (sym whole) wrong)

-- a fault of the plan comes before anything was written
pub plan_untouched : {A : Type 0} (e : TellFault) (lines : List (List ℕ)) (old new : A) → IsTellFaultOf lines e → (IsErr (plan_of lines) → new ≡ old) → IsOfPlan (of_telling e) → new ≡ old
plan_untouched (NotAnswered (PlanFault line fault)) lines old new told nothing = λ _. let P : Reading (CheckedPlan × List (List ℕ)) → Type 0 = λ r. IsErr r in nothing (subst P (sym told) refl)
plan_untouched (NotAnswered (PlanMemory refused)) lines old new told nothing = λ none. absurd none
plan_untouched NotWritten lines old new told nothing = λ none. absurd none

-- what was told of reading says which fault it was
pub is_too_much : (e : ReadFault) → ◌≡◌ {A = Result (Unit {0}) RunFault} (Err (of_reading e)) (Err TooBig) → e ≡ ReadTooMuch
is_too_much NotRead told = absurd cc
is_too_much ReadTooMuch told = refl
is_too_much (ReadMemory refused) told = absurd cc

pub is_not_read : (e : ReadFault) → ◌≡◌ {A = Result (Unit {0}) RunFault} (Err (of_reading e)) (Err Read) → e ≡ NotRead
is_not_read NotRead told = refl
is_not_read ReadTooMuch told = absurd cc
is_not_read (ReadMemory refused) told = absurd cc

-- ---- after a read fault

known_of : (stage : Stage) (lines : List (List ℕ)) → HasAnswered stage lines → IfErr (plan_of lines) (λ fault. fault.1 ≡ End)
known_of (StagePlan missing) lines after = let P : Reading (CheckedPlan × List (List ℕ)) → Type 0 = λ r. IfErr r (λ fault. fault.1 ≡ End) in subst P (sym after.2) refl
known_of (StageLines world) lines after = let P : Reading (CheckedPlan × List (List ℕ)) → Type 0 = λ r. IfErr r (λ fault. fault.1 ≡ End) in subst P (sym after.1) tt

pub answers_ended : (held : List ℕ) (done : ℕ) (stage : Stage) (old new : Option (List ℕ)) → AllEnded (take done held) → Nowhere (Passes (is_byte 10) held) done (length held) → HasAnswered stage (lines_of (take done held))
    → Appends old new (out (take done held)) → AnswersEnded held old new
answers_ended held done stage old new ends none after wrote = record {
  ended = take done held;
  begun = drop done held;
  parts = sym (take-append-drop done held);
  ends = ends;
  none = begun_from held done none;
  answered = wrote;
  known = known_of stage (lines_of (take done held)) after;
}
