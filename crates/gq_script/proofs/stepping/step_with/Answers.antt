use Rattle.std.proofs.Common.{◌≡◌, ◌∙◌, ◌++◌, ℕ, List, Result, Err, ◌≤◌, IfSome, ap, arith, drop, length, refl, rules, subst, sym, take, take-append-drop, vec_len}
use Rattle.std.specs.Prelude.{IsErr}
use Rattle.std.specs.Io.KnownBytes.{Appends}
use Rattle.std.proofs.KnownBytes.{Consumes-kept}
use Rattle.std.proofs.lemmas.Result.{err_from_is_err_and}
use Rattle.gq_script.specs.declared.stepping.TellFault.{TellFault}
use Rattle.gq_script.specs.declared.stepping.TellFault.TheVariants.{Write as NotWritten}
use Rattle.gq_lines.specs.Lines.{lines_of}
use Rattle.gq_text.specs.PlanText.{plan_of}
use Rattle.gq_script.specs.Out.{out}
use Rattle.gq_script.specs.Stepping.{HasAnswered, IsTellFaultOf, AllEnded}
use Rattle.gq_streams.specs.Watched.{AppendsPrefix, inner_of}
use Rattle.gq_script.proofs.KnownBytesLemmas.{IfSome-of_rest}
use Rattle.gq_script.proofs.Turns.{all_held, all_of, answers_ended, end_nothing, end_prefix, ended_fault, ended_nothing, ended_prefix, first_answered, held_first, held_more, is_not_read, is_too_much, kept_consumes, more_answered, nothing_at, outputs_later, plan_untouched, same_front, take_of_take, told_prefix}
use Rattle.gq_script.proofs.stepping.step_with.Goals as goal

pub loop-turn-init : goal.loop-turn-init
loop-turn-init g c =
    let none : length c.args.held.now.items ≡ 0 = ap length c.requires.held in
    record {
      room = c.requires.room;
      reader = c.requires.reader;
      writer = c.requires.writer;
      bound = omega (arith, none);
      turns = omega arith;
      kept = held_first (g.R.Read.remaining (inner_of c.args.reader.now)) c.args.held.now.items c.requires.held;
      within = omega arith;
      ends = refl;
      begun = λ k low below here. absurd (omega arith);
      after = c.requires.stage;
      answered = first_answered (g.W.Write.contents (inner_of c.args.writer.now));
      nothing = λ _. refl;
    }

pub returns-in_err-tell-clause-prefix : goal.returns-in_err-tell-clause-prefix
returns-in_err-tell-clause-prefix g c =
    let fault = err_from_is_err_and c.from_residual-in_err-tell.result c.from_residual-in_err-tell.ensures.1 in
    let all = g.R.Read.remaining (inner_of c.args.reader.now) in
    let left = g.R.Read.remaining (inner_of c.loop-turn.reader) in
    let left' = g.R.Read.remaining (inner_of c.read_step.new.reader) in
    let old = g.W.Write.contents (inner_of c.args.writer.now) in
    let text = c.as_slice.result.now in
    let done = c.loop-turn.done in
    let held = c.loop-turn.held.items in
    let kept = held_more all left left' held c.read_step.new.all.items c.loop-turn.invariant.kept c.in_ok-read_step.ensures.moves in
    let P : List ℕ → Type 0 = λ xs. IfSome all (λ input. xs ≡ input) in
    let whole : P text = subst P (sym c.as_slice.ensures.value) (all_held all left' c.read_step.new.all.items kept (c.in_ok-read_step.ensures.end c.if-not-branch.true)) in
    let front : take done text ≡ take done held = ap (take done) c.as_slice.ensures.value ∙ same_front left left' held c.read_step.new.all.items done c.in_ok-read_step.ensures.moves c.loop-turn.invariant.within in
    let Q : List ℕ → Type 0 = λ xs. Appends old (g.W.Write.contents (inner_of c.loop-turn.writer)) (out xs) in
    let R : List ℕ → Type 0 = λ xs. AllEnded xs in
    rw fault.1 (end_prefix {E = TellFault} (Err c.in_err-tell.field-0.0) all text old (g.W.Write.contents (inner_of c.tell.new.writer))
    (told_prefix (λ w. g.W.Write.contents (inner_of w)) (Err c.in_err-tell.field-0.0) old c.loop-turn.writer c.tell.new.writer (out (take done text)) (out text)
    (outputs_later text done (subst R (sym front) c.loop-turn.invariant.ends)) (subst Q (sym front) c.loop-turn.invariant.answered) c.in_err-tell.ensures.still c.in_err-tell.ensures.prefix) whole)

pub returns-in_err-tell-clause-nothing : goal.returns-in_err-tell-clause-nothing
returns-in_err-tell-clause-nothing g c =
    let fault = err_from_is_err_and c.from_residual-in_err-tell.result c.from_residual-in_err-tell.ensures.1 in
    let all = g.R.Read.remaining (inner_of c.args.reader.now) in
    let left = g.R.Read.remaining (inner_of c.loop-turn.reader) in
    let left' = g.R.Read.remaining (inner_of c.read_step.new.reader) in
    let text = c.as_slice.result.now in
    let done = c.loop-turn.done in
    let held = c.loop-turn.held.items in
    let kept = held_more all left left' held c.read_step.new.all.items c.loop-turn.invariant.kept c.in_ok-read_step.ensures.moves in
    let P : List ℕ → Type 0 = λ xs. IfSome all (λ input. xs ≡ input) in
    let whole : P text = subst P (sym c.as_slice.ensures.value) (all_held all left' c.read_step.new.all.items kept (c.in_ok-read_step.ensures.end c.if-not-branch.true)) in
    let front : take done text ≡ take done held = ap (take done) c.as_slice.ensures.value ∙ same_front left left' held c.read_step.new.all.items done c.in_ok-read_step.ensures.moves c.loop-turn.invariant.within in
    let Q : List ℕ → Type 0 = λ xs. IsErr (plan_of (lines_of xs)) → c.loop-turn.writer ≡ c.args.writer.now in
    let R : List ℕ → Type 0 = λ xs. AllEnded xs in
    rw fault.1 (end_nothing {E = TellFault} (Err c.in_err-tell.field-0.0) all text c.args.writer.now c.tell.new.writer
    (nothing_at text done c.args.writer.now c.loop-turn.writer c.tell.new.writer (subst R (sym front) c.loop-turn.invariant.ends) (subst Q (sym front) c.loop-turn.invariant.nothing) c.in_err-tell.ensures.nothing) whole)

pub returns-in_err-tell-clause-untouched : goal.returns-in_err-tell-clause-untouched
returns-in_err-tell-clause-untouched g c =
    let fault = err_from_is_err_and c.from_residual-in_err-tell.result c.from_residual-in_err-tell.ensures.1 in
    let left = g.R.Read.remaining (inner_of c.loop-turn.reader) in
    let left' = g.R.Read.remaining (inner_of c.read_step.new.reader) in
    let text = c.as_slice.result.now in
    let done = c.loop-turn.done in
    let held = c.loop-turn.held.items in
    let front : take done text ≡ take done held = ap (take done) c.as_slice.ensures.value ∙ same_front left left' held c.read_step.new.all.items done c.in_ok-read_step.ensures.moves c.loop-turn.invariant.within in
    let Q : List ℕ → Type 0 = λ xs. IsErr (plan_of (lines_of xs)) → c.loop-turn.writer ≡ c.args.writer.now in
    let R : List ℕ → Type 0 = λ xs. AllEnded xs in
    rw (fault.1, fault.2) (plan_untouched c.in_err-tell.field-0.0 (lines_of text) c.args.writer.now c.tell.new.writer c.in_err-tell.ensures.fault
    (nothing_at text done c.args.writer.now c.loop-turn.writer c.tell.new.writer (subst R (sym front) c.loop-turn.invariant.ends) (subst Q (sym front) c.loop-turn.invariant.nothing) c.in_err-tell.ensures.nothing))

pub returns-in_err-read_step-clause-big : goal.returns-in_err-read_step-clause-big
returns-in_err-read_step-clause-big g c =
    let told = err_from_is_err_and c.from_residual.result c.from_residual.ensures.1 in
    rw (told.1, told.2) (λ h.
    let len : vec_len c.loop-turn.held ≡ length c.loop-turn.held.items = omega arith in
    IfSome-of_rest _ _ _ _ _ len c.loop-turn.invariant.kept (c.in_err-read_step.ensures.big (ap Err (is_too_much c.in_err-read_step.field-0.0 h))))

pub returns-in_err-read_step-clause-prefix : goal.returns-in_err-read_step-clause-prefix
returns-in_err-read_step-clause-prefix g c =
    let told = err_from_is_err_and c.from_residual.result c.from_residual.ensures.1 in
    let all = g.R.Read.remaining (inner_of c.args.reader.now) in
    let left = g.R.Read.remaining (inner_of c.loop-turn.reader) in
    let old = g.W.Write.contents (inner_of c.args.writer.now) in
    let new = g.W.Write.contents (inner_of c.loop-turn.writer) in
    let held = c.loop-turn.held.items in
    let done = c.loop-turn.done in
    rw told.1 (ended_prefix all left old new held (take done held) (drop done held) (sym (take-append-drop done held)) c.loop-turn.invariant.ends (kept_consumes all left held c.loop-turn.invariant.kept)
    (all_of old new (out (take done held)) c.loop-turn.invariant.answered))

pub returns-in_err-read_step-clause-nothing : goal.returns-in_err-read_step-clause-nothing
returns-in_err-read_step-clause-nothing g c =
    let told = err_from_is_err_and c.from_residual.result c.from_residual.ensures.1 in
    let all = g.R.Read.remaining (inner_of c.args.reader.now) in
    let left = g.R.Read.remaining (inner_of c.loop-turn.reader) in
    let held = c.loop-turn.held.items in
    let done = c.loop-turn.done in
    rw told.1 (ended_nothing all left held (take done held) (drop done held) c.args.writer.now c.loop-turn.writer (sym (take-append-drop done held)) c.loop-turn.invariant.ends (kept_consumes all left held c.loop-turn.invariant.kept) c.loop-turn.invariant.nothing)

pub returns-in_err-read_step-clause-answered : goal.returns-in_err-read_step-clause-answered
returns-in_err-read_step-clause-answered g c =
    let told = err_from_is_err_and c.from_residual.result c.from_residual.ensures.1 in
    let all = g.R.Read.remaining (inner_of c.args.reader.now) in
    let left = g.R.Read.remaining (inner_of c.loop-turn.reader) in
    let held = c.loop-turn.held.items in
    rw (told.1, told.2) (λ h. (
      held,
      Consumes-kept all left (g.R.Read.remaining (inner_of c.read_step.new.reader)) held (kept_consumes all left held c.loop-turn.invariant.kept) (c.in_err-read_step.ensures.kept (ap Err (is_not_read c.in_err-read_step.field-0.0 h))),
      answers_ended held c.loop-turn.done c.loop-turn.stage (g.W.Write.contents (inner_of c.args.writer.now)) (g.W.Write.contents (inner_of c.loop-turn.writer)) c.loop-turn.invariant.ends c.loop-turn.invariant.begun
          c.loop-turn.invariant.after c.loop-turn.invariant.answered,
    ))

pub returns-in_err-tell-2-clause-plan : goal.returns-in_err-tell-2-clause-plan
returns-in_err-tell-2-clause-plan g c =
    let fault = err_from_is_err_and c.from_residual-in_err-tell-2.result c.from_residual-in_err-tell-2.ensures.1 in
    let all = g.R.Read.remaining (inner_of c.args.reader.now) in
    let left = g.R.Read.remaining (inner_of c.loop-turn.reader) in
    let left' = g.R.Read.remaining (inner_of c.read_step.new.reader) in
    let held = c.loop-turn.held.items in
    let held' = c.read_step.new.all.items in
    let end = c.end_of_lines-end.result in
    let text = take end held' in
    let kept = held_more all left left' held held' c.loop-turn.invariant.kept c.in_ok-read_step.ensures.moves in
    let ends : AllEnded text = rw c.as_slice-in-loop-turn.ensures.value at c.end_of_lines-end.ensures.ends in
    let same : take end c.deref.result.now ≡ text = ap (take end) c.deref.ensures.value in
    let P : List ℕ → Type 0 = λ xs. IsTellFaultOf (lines_of xs) c.in_err-tell-2.field-0.0 in
    rw (fault.1, fault.2) (ended_fault all left' held' text (drop end held') c.in_err-tell-2.field-0.0 (sym (take-append-drop end held')) ends (kept_consumes all left' held' kept) (subst P same c.in_err-tell-2.ensures.fault) (c.in_err-tell-2.ensures.known refl))

pub returns-in_err-tell-2-clause-prefix : goal.returns-in_err-tell-2-clause-prefix
returns-in_err-tell-2-clause-prefix g c =
    let fault = err_from_is_err_and c.from_residual-in_err-tell-2.result c.from_residual-in_err-tell-2.ensures.1 in
    let all = g.R.Read.remaining (inner_of c.args.reader.now) in
    let left = g.R.Read.remaining (inner_of c.loop-turn.reader) in
    let left' = g.R.Read.remaining (inner_of c.read_step.new.reader) in
    let held = c.loop-turn.held.items in
    let held' = c.read_step.new.all.items in
    let end = c.end_of_lines-end.result in
    let text = take end held' in
    let kept = held_more all left left' held held' c.loop-turn.invariant.kept c.in_ok-read_step.ensures.moves in
    let ends : AllEnded text = rw c.as_slice-in-loop-turn.ensures.value at c.end_of_lines-end.ensures.ends in
    let same : take end c.deref.result.now ≡ text = ap (take end) c.deref.ensures.value in
    let done = c.loop-turn.done in
    let within : end ≤ length held' = rw c.as_slice-in-loop-turn.ensures.value at c.end_of_lines-end.ensures.within in
    let front : take done text ≡ take done held =
    take_of_take done end held' c.end_of_lines-end.ensures.least (omega (arith, c.end_of_lines-end.ensures.least)) ∙ same_front left left' held held' done c.in_ok-read_step.ensures.moves c.loop-turn.invariant.within in
    let R : List ℕ → Type 0 = λ xs. AllEnded xs in
    let old = g.W.Write.contents (inner_of c.args.writer.now) in
    let mid = g.W.Write.contents (inner_of c.loop-turn.writer) in
    let new = g.W.Write.contents (inner_of c.tell-in-loop-turn.new.writer) in
    let Q : List ℕ → Type 0 = λ xs. Appends old mid (out xs) in
    let P : List ℕ → Type 0 = λ xs. ◌≡◌ {A = Result (Unit {0}) TellFault} (Err c.in_err-tell-2.field-0.0) (Err NotWritten) → (told : List ℕ) × (out xs ≡ out (take done xs) ++ told) × AppendsPrefix mid new told in
    rw fault.1 (ended_prefix all left' old new held' text (drop end held') (sym (take-append-drop end held')) ends (kept_consumes all left' held' kept)
    (told_prefix (λ w. g.W.Write.contents (inner_of w)) (Err c.in_err-tell-2.field-0.0) old c.loop-turn.writer c.tell-in-loop-turn.new.writer (out (take done text)) (out text)
    (outputs_later text done (subst R (sym front) c.loop-turn.invariant.ends)) (subst Q (sym front) c.loop-turn.invariant.answered) c.in_err-tell-2.ensures.still (subst P same c.in_err-tell-2.ensures.prefix)))

pub returns-in_err-tell-2-clause-nothing : goal.returns-in_err-tell-2-clause-nothing
returns-in_err-tell-2-clause-nothing g c =
    let fault = err_from_is_err_and c.from_residual-in_err-tell-2.result c.from_residual-in_err-tell-2.ensures.1 in
    let all = g.R.Read.remaining (inner_of c.args.reader.now) in
    let left = g.R.Read.remaining (inner_of c.loop-turn.reader) in
    let left' = g.R.Read.remaining (inner_of c.read_step.new.reader) in
    let held = c.loop-turn.held.items in
    let held' = c.read_step.new.all.items in
    let end = c.end_of_lines-end.result in
    let text = take end held' in
    let kept = held_more all left left' held held' c.loop-turn.invariant.kept c.in_ok-read_step.ensures.moves in
    let ends : AllEnded text = rw c.as_slice-in-loop-turn.ensures.value at c.end_of_lines-end.ensures.ends in
    let same : take end c.deref.result.now ≡ text = ap (take end) c.deref.ensures.value in
    let done = c.loop-turn.done in
    let within : end ≤ length held' = rw c.as_slice-in-loop-turn.ensures.value at c.end_of_lines-end.ensures.within in
    let front : take done text ≡ take done held =
    take_of_take done end held' c.end_of_lines-end.ensures.least (omega (arith, c.end_of_lines-end.ensures.least)) ∙ same_front left left' held held' done c.in_ok-read_step.ensures.moves c.loop-turn.invariant.within in
    let R : List ℕ → Type 0 = λ xs. AllEnded xs in
    let Q : List ℕ → Type 0 = λ xs. IsErr (plan_of (lines_of xs)) → c.loop-turn.writer ≡ c.args.writer.now in
    let P : List ℕ → Type 0 = λ xs. IsErr (plan_of (lines_of xs)) → c.tell-in-loop-turn.new.writer ≡ c.loop-turn.writer in
    rw fault.1 (ended_nothing all left' held' text (drop end held') c.args.writer.now c.tell-in-loop-turn.new.writer (sym (take-append-drop end held')) ends (kept_consumes all left' held' kept)
    (nothing_at text done c.args.writer.now c.loop-turn.writer c.tell-in-loop-turn.new.writer (subst R (sym front) c.loop-turn.invariant.ends) (subst Q (sym front) c.loop-turn.invariant.nothing) (subst P same c.in_err-tell-2.ensures.nothing)))

pub returns-in_err-tell-2-clause-untouched : goal.returns-in_err-tell-2-clause-untouched
returns-in_err-tell-2-clause-untouched g c =
    let fault = err_from_is_err_and c.from_residual-in_err-tell-2.result c.from_residual-in_err-tell-2.ensures.1 in
    let left = g.R.Read.remaining (inner_of c.loop-turn.reader) in
    let left' = g.R.Read.remaining (inner_of c.read_step.new.reader) in
    let held = c.loop-turn.held.items in
    let held' = c.read_step.new.all.items in
    let end = c.end_of_lines-end.result in
    let text = take end held' in
    let same : take end c.deref.result.now ≡ text = ap (take end) c.deref.ensures.value in
    let done = c.loop-turn.done in
    let within : end ≤ length held' = rw c.as_slice-in-loop-turn.ensures.value at c.end_of_lines-end.ensures.within in
    let front : take done text ≡ take done held =
    take_of_take done end held' c.end_of_lines-end.ensures.least (omega (arith, c.end_of_lines-end.ensures.least)) ∙ same_front left left' held held' done c.in_ok-read_step.ensures.moves c.loop-turn.invariant.within in
    let R : List ℕ → Type 0 = λ xs. AllEnded xs in
    let Q : List ℕ → Type 0 = λ xs. IsErr (plan_of (lines_of xs)) → c.loop-turn.writer ≡ c.args.writer.now in
    let F : List ℕ → Type 0 = λ xs. IsTellFaultOf (lines_of xs) c.in_err-tell-2.field-0.0 in
    let P : List ℕ → Type 0 = λ xs. IsErr (plan_of (lines_of xs)) → c.tell-in-loop-turn.new.writer ≡ c.loop-turn.writer in
    rw (fault.1, fault.2) (plan_untouched c.in_err-tell-2.field-0.0 (lines_of text) c.args.writer.now c.tell-in-loop-turn.new.writer (subst F same c.in_err-tell-2.ensures.fault)
    (nothing_at text done c.args.writer.now c.loop-turn.writer c.tell-in-loop-turn.new.writer (subst R (sym front) c.loop-turn.invariant.ends) (subst Q (sym front) c.loop-turn.invariant.nothing) (subst P same c.in_err-tell-2.ensures.nothing)))

pub loop-turn-preserved : goal.loop-turn-preserved
loop-turn-preserved g c =
    let all = g.R.Read.remaining (inner_of c.args.reader.now) in
    let left = g.R.Read.remaining (inner_of c.loop-turn.reader) in
    let left' = g.R.Read.remaining (inner_of c.read_step.new.reader) in
    let held = c.loop-turn.held.items in
    let held' = c.read_step.new.all.items in
    let end = c.end_of_lines-end.result in
    let text = take end held' in
    let kept = held_more all left left' held held' c.loop-turn.invariant.kept c.in_ok-read_step.ensures.moves in
    let ends : AllEnded text = rw c.as_slice-in-loop-turn.ensures.value at c.end_of_lines-end.ensures.ends in
    let same : take end c.deref.result.now ≡ text = ap (take end) c.deref.ensures.value in
    let done = c.loop-turn.done in
    let within : end ≤ length held' = rw c.as_slice-in-loop-turn.ensures.value at c.end_of_lines-end.ensures.within in
    let front : take done text ≡ take done held =
    take_of_take done end held' c.end_of_lines-end.ensures.least (omega (arith, c.end_of_lines-end.ensures.least)) ∙ same_front left left' held held' done c.in_ok-read_step.ensures.moves c.loop-turn.invariant.within in
    let R : List ℕ → Type 0 = λ xs. AllEnded xs in
    let old = g.W.Write.contents (inner_of c.args.writer.now) in
    let mid = g.W.Write.contents (inner_of c.loop-turn.writer) in
    let new = g.W.Write.contents (inner_of c.tell-in-loop-turn.new.writer) in
    let A : List ℕ → Type 0 = λ xs. HasAnswered c.tell-in-loop-turn.new.stage (lines_of xs) in
    let Q : List ℕ → Type 0 = λ xs. Appends old mid (out xs) in
    let W : List ℕ → Type 0 = λ xs. (told : List ℕ) × (out xs ≡ out (take done xs) ++ told) × Appends mid new told in
    let N : List ℕ → Type 0 = λ xs. IsErr (plan_of (lines_of xs)) → c.loop-turn.writer ≡ c.args.writer.now in
    let P : List ℕ → Type 0 = λ xs. IsErr (plan_of (lines_of xs)) → c.tell-in-loop-turn.new.writer ≡ c.loop-turn.writer in
    record {
      room = search rules;
      reader = search rules;
      writer = search rules;
      bound = search rules;
      turns = omega (arith, c.in_ok-read_step.ensures.grows c.if-not-branch.false);
      kept = kept;
      within = within;
      ends = ends;
      begun = rw c.as_slice-in-loop-turn.ensures.value at c.end_of_lines-end.ensures.none;
      after = subst A same c.in_ok-tell-2.ensures.after;
      answered = more_answered old mid new text (take done text) (subst Q (sym front) c.loop-turn.invariant.answered) (subst W same c.in_ok-tell-2.ensures.written);
      nothing = nothing_at text done c.args.writer.now c.loop-turn.writer c.tell-in-loop-turn.new.writer (subst R (sym front) c.loop-turn.invariant.ends) (subst N (sym front) c.loop-turn.invariant.nothing) (subst P same c.in_ok-tell-2.ensures.nothing);
    }
