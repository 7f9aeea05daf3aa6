use Rattle.std.proofs.Common.{◌≡◌, ℕ, List, [], ◌++◌, take, drop, refl, sym, ap, ◌∙◌, subst, arith}
use Rattle.std.specs.Prelude.{MatchOption}
use Rattle.std.specs.List.{list_all}
use Rattle.std.proofs.lemmas.Bool.{and_parts}
use Rattle.gq_journal.specs.Batches.{lines_text, whole_lines, batches_of, journal_text, has_right_batch}
use Rattle.gq_keeper.specs.Plans.{IsPlan, first_plan, last_plan, begins_with_plan, new_plan}
use Rattle.gq_keeper.specs.Starting.{facts_read, RecallsAll, EndsAt, behind}
use Rattle.gq_keeper.specs.Restarting.{Restarts, ReadsAs}
use Rattle.gq_keeper.specs.Durable.{kept_text}
use Rattle.gq_keeper.proofs.Instants.{elapses_none, elapses_only, elapses_then}
use Rattle.gq_keeper.proofs.Finding.{recalls_keep}
use Rattle.gq_keeper.proofs.Begun.{cut_left, plan_left, Begins, begun_sealed, begun_restarts, behind_is, cut_told, is_of_it}
use Rattle.gq_keeper.proofs.starting.start.Goals as goal

pub returns-in_err-found-clause-crash : goal.returns-in_err-found-clause-crash
returns-in_err-found-clause-crash g c = elapses_none _ _ _

pub has_right_behind-requires : goal.has_right_behind-requires
has_right_behind-requires g c =
    c.in_ok-found.ensures.ends.within

pub returns-in_err-has_right_behind-clause-crash : goal.returns-in_err-has_right_behind-clause-crash
returns-in_err-has_right_behind-clause-crash g c = elapses_none _ _ _

pub returns-then-branch-clause-damaged : goal.returns-then-branch-clause-damaged
returns-then-branch-clause-damaged g c =
    (record { place = ap (take c.in_ok-found.found.at) (sym c.requires.read) ∙ c.in_ok-found.ensures.ends.front ∙ ap (λ t. journal_text 1 (batches_of t)) c.requires.read; behind = ap (λ t. has_right_batch (drop c.in_ok-found.found.at t)) (sym c.requires.read) ∙ sym c.in_ok-has_right_behind.ensures ∙ c.if-branch.true }, refl)

pub returns-then-branch-clause-crash : goal.returns-then-branch-clause-crash
returns-then-branch-clause-crash g c = elapses_none _ _ _

pub returns-in_err-is_of-clause-crash : goal.returns-in_err-is_of-clause-crash
returns-in_err-is_of-clause-crash g c = elapses_none _ _ _

pub returns-then-not-branch-clause-another : goal.returns-then-not-branch-clause-another
returns-then-not-branch-clause-another g c =
    (sym (is_of_it (g.P.Plan.goes_on c.args.plan.now) (g.P.Plan.text c.args.plan.now) c.in_ok-found.found.last.now (g.D.Log.seen c.args.disk.now) c.in_ok-found.found.begins _ (c.in_ok-found.ensures.begins ∙ ap (λ t. begins_with_plan (batches_of t)) c.requires.read) (c.in_ok-found.ensures.last ∙ ap (λ t. lines_text (last_plan [] (batches_of t))) c.requires.read) refl) ∙ sym c.in_ok-is_of.ensures ∙ c.if-not-branch.true, refl)

pub returns-then-not-branch-clause-crash : goal.returns-then-not-branch-clause-crash
returns-then-not-branch-clause-crash g c = elapses_none _ _ _

pub returns-in_err-reads_facts-clause-crash : goal.returns-in_err-reads_facts-clause-crash
returns-in_err-reads_facts-clause-crash g c = elapses_none _ _ _

-- the machine doesn't read all lines of the journal that was read
pub returns-then-not-branch-2-clause-strange : goal.returns-then-not-branch-2-clause-strange
returns-then-not-branch-2-clause-strange g c =
    (ap (λ t. list_all (g.M.Machine.readable c.args.machine.now) (facts_read t)) (sym c.requires.read) ∙ c.in_ok-reads_facts.ensures.strange c.if-not-branch-2.true, refl)

pub returns-then-not-branch-2-clause-crash : goal.returns-then-not-branch-2-clause-crash
returns-then-not-branch-2-clause-crash g c = elapses_none _ _ _

pub mend-requires-clause-seen : goal.mend-requires-clause-seen
mend-requires-clause-seen g c =
    sym c.requires.read

pub mend-requires-clause-synced : goal.mend-requires-clause-synced
mend-requires-clause-synced g c =
    c.requires.synced ∙ sym c.requires.read

pub mend-requires-clause-within : goal.mend-requires-clause-within
mend-requires-clause-within g c =
    c.in_ok-found.ensures.ends.within

pub returns-in_err-cut-clause-crash : goal.returns-in_err-cut-clause-crash
returns-in_err-cut-clause-crash g c =
    elapses_only _ _ _ _ _ _ c.mend.ensures.crash (λ left l. cut_left (whole_lines (g.P.Plan.text c.args.plan.now)) (g.D.Log.seen c.args.disk.now) c.args.journal.now left c.in_ok-found.found.at c.in_ok-found.found.number c.requires.read c.in_ok-found.ensures.ends (omega arith) (sym c.in_ok-has_right_behind.ensures ∙ c.if-branch.false) l)

pub append_plan-requires : goal.append_plan-requires
append_plan-requires g c =
    c.in_ok-cut.ensures.seen ∙ sym c.in_ok-cut.ensures.synced

pub returns-in_err-number-clause-crash : goal.returns-in_err-number-clause-crash
returns-in_err-number-clause-crash g c =
    elapses_then _ _ _ _ _ _ _ _ (ReadsAs (whole_lines (g.P.Plan.text c.args.plan.now)) (g.D.Log.seen c.args.disk.now)) c.mend.ensures.crash c.append_plan.ensures.crash
    (λ left l. cut_left (whole_lines (g.P.Plan.text c.args.plan.now)) (g.D.Log.seen c.args.disk.now) c.args.journal.now left c.in_ok-found.found.at c.in_ok-found.found.number c.requires.read c.in_ok-found.ensures.ends (omega arith) (sym c.in_ok-has_right_behind.ensures ∙ c.if-branch.false) l)
    (λ left l. plan_left (whole_lines (g.P.Plan.text c.args.plan.now)) (g.D.Log.seen c.args.disk.now) c.args.journal.now _ c.text.result.now c.in_ok-found.found.last.now left c.in_ok-found.found.at c.in_ok-found.found.number c.requires.read c.in_ok-found.ensures.ends (sym c.in_ok-has_right_behind.ensures ∙ c.if-branch.false) (ap whole_lines (sym c.text.ensures)) (subst IsPlan (sym c.text.ensures) c.requires.plan) (sym c.in_ok-found.ensures.begins ∙ (and_parts _ _ (sym c.in_ok-is_of.ensures ∙ c.if-not-branch.false)).0) c.in_ok-found.ensures.last (omega arith) (omega arith) c.in_ok-cut.ensures.synced l)

pub returns-clause-sealed : goal.returns-clause-sealed
returns-clause-sealed g c =
    let begun : Begins (g.D.Log.seen c.args.disk.now) c.text.result.now c.in_ok-found.found.last.now (g.D.Log.seen c.append_plan.new.log) (g.D.Log.synced c.append_plan.new.log) c.in_ok-found.found.at c.in_ok-found.found.number c.in_ok-number.number = record {
      ends = subst (λ (t : List ℕ). EndsAt t c.in_ok-found.found.at c.in_ok-found.found.number) c.requires.read c.in_ok-found.ensures.ends;
      is_plan = (subst IsPlan (sym c.text.ensures) c.requires.plan);
      last_is = c.in_ok-found.ensures.last ∙ ap (λ t. lines_text (last_plan [] (batches_of t))) c.requires.read;
      begins = ap (λ t. begins_with_plan (batches_of t)) (sym c.requires.read) ∙ sym c.in_ok-found.ensures.begins ∙ (and_parts _ _ (sym c.in_ok-is_of.ensures ∙ c.if-not-branch.false)).0;
      fits = omega arith;
      short = omega arith;
      all = c.in_ok-number.ensures.all;
      kept = c.in_ok-number.ensures.synced ∙ ap (λ s. s ++ kept_text c.in_ok-found.found.number (new_plan c.text.result.now c.in_ok-found.found.last.now)) (c.in_ok-cut.ensures.synced ∙ ap (take c.in_ok-found.found.at) c.requires.read);
      next_is = c.in_ok-number.ensures.number;
    } in
    begun_sealed _ _ _ _ _ _ _ _ begun

pub returns-clause-restarts : goal.returns-clause-restarts
returns-clause-restarts g c =
    let begun : Begins (g.D.Log.seen c.args.disk.now) c.text.result.now c.in_ok-found.found.last.now (g.D.Log.seen c.append_plan.new.log) (g.D.Log.synced c.append_plan.new.log) c.in_ok-found.found.at c.in_ok-found.found.number c.in_ok-number.number = record {
      ends = subst (λ (t : List ℕ). EndsAt t c.in_ok-found.found.at c.in_ok-found.found.number) c.requires.read c.in_ok-found.ensures.ends;
      is_plan = (subst IsPlan (sym c.text.ensures) c.requires.plan);
      last_is = c.in_ok-found.ensures.last ∙ ap (λ t. lines_text (last_plan [] (batches_of t))) c.requires.read;
      begins = ap (λ t. begins_with_plan (batches_of t)) (sym c.requires.read) ∙ sym c.in_ok-found.ensures.begins ∙ (and_parts _ _ (sym c.in_ok-is_of.ensures ∙ c.if-not-branch.false)).0;
      fits = omega arith;
      short = omega arith;
      all = c.in_ok-number.ensures.all;
      kept = c.in_ok-number.ensures.synced ∙ ap (λ s. s ++ kept_text c.in_ok-found.found.number (new_plan c.text.result.now c.in_ok-found.found.last.now)) (c.in_ok-cut.ensures.synced ∙ ap (take c.in_ok-found.found.at) c.requires.read);
      next_is = c.in_ok-number.ensures.number;
    } in
    let recalled = subst (λ (t : List ℕ). RecallsAll g.M.Machine.recalls c.args.machine.now (facts_read t) c.reads_facts.new.machine) c.requires.read (c.in_ok-reads_facts.ensures.recalled c.if-not-branch-2.false) in
    subst (λ (p : List ℕ). Restarts g.M.Machine.recalls g.M.Machine.readable g.M.Lasting.blank g.M.Lasting.rests (whole_lines p) c.reads_facts.new.machine (g.D.Log.synced c.append_plan.new.log)) c.text.ensures
    (begun_restarts g.M.Machine.recalls g.M.Machine.readable g.M.Lasting.blank g.M.Lasting.rests c.reads_facts.new.machine _ _ _ _ _ _ _ _ begun (record { read = λ new begins. g.met.M.Lasting.reads_again (first_plan (batches_of (g.D.Log.seen c.args.disk.now))) c.args.machine.now c.reads_facts.new.machine new (facts_read (g.D.Log.seen c.args.disk.now)) c.requires.blank recalled begins; again = λ new last begins all. g.met.M.Lasting.starts_again (first_plan (batches_of (g.D.Log.seen c.args.disk.now))) c.args.machine.now c.reads_facts.new.machine new last (facts_read (g.D.Log.seen c.args.disk.now)) c.requires.blank recalled begins all }))

pub returns-clause-recalled : goal.returns-clause-recalled
returns-clause-recalled g c =
    subst (λ (t : List ℕ). RecallsAll g.M.Machine.recalls c.args.machine.now (facts_read t) c.reads_facts.new.machine) c.requires.read (c.in_ok-reads_facts.ensures.recalled c.if-not-branch-2.false)

pub returns-clause-of_plan : goal.returns-clause-of_plan
returns-clause-of_plan g c =
    let own = whole_lines (g.P.Plan.text c.args.plan.now) in
    recalls_keep g.M.Machine.recalls (g.M.Lasting.is_of own) (λ old line new read is. g.met.M.Lasting.recalls_plan own old line new read is) c.args.machine.now c.reads_facts.new.machine _ (c.in_ok-reads_facts.ensures.recalled c.if-not-branch-2.false) c.requires.of_plan

pub returns-clause-goes_on : goal.returns-clause-goes_on
returns-clause-goes_on g c =
    sym (is_of_it (g.P.Plan.goes_on c.args.plan.now) (g.P.Plan.text c.args.plan.now) c.in_ok-found.found.last.now (g.D.Log.seen c.args.disk.now) c.in_ok-found.found.begins _ (c.in_ok-found.ensures.begins ∙ ap (λ t. begins_with_plan (batches_of t)) c.requires.read) (c.in_ok-found.ensures.last ∙ ap (λ t. lines_text (last_plan [] (batches_of t))) c.requires.read) refl) ∙ sym c.in_ok-is_of.ensures ∙ c.if-not-branch.false

pub returns-clause-cut : goal.returns-clause-cut
returns-clause-cut g c =
    subst (λ (t : List ℕ). MatchOption c.in_ok-cut.cut (behind t ≡ []) (λ place. behind t ≡ drop place t)) c.requires.read (cut_told c.in_ok-cut.cut c.args.journal.now c.in_ok-found.found.at c.in_ok-found.found.number c.in_ok-found.ensures.ends c.in_ok-cut.ensures.cut)

pub returns-clause-none : goal.returns-clause-none
returns-clause-none g c =
    ap (λ t. has_right_batch (behind t)) (sym c.requires.read) ∙ ap has_right_batch (behind_is c.args.journal.now c.in_ok-found.found.at c.in_ok-found.found.number c.in_ok-found.ensures.ends) ∙ (sym c.in_ok-has_right_behind.ensures ∙ c.if-branch.false)

pub returns-clause-crash : goal.returns-clause-crash
returns-clause-crash g c =
    elapses_then _ _ _ _ _ _ _ _ (ReadsAs (whole_lines (g.P.Plan.text c.args.plan.now)) (g.D.Log.seen c.args.disk.now)) c.mend.ensures.crash c.append_plan.ensures.crash
    (λ left l. cut_left (whole_lines (g.P.Plan.text c.args.plan.now)) (g.D.Log.seen c.args.disk.now) c.args.journal.now left c.in_ok-found.found.at c.in_ok-found.found.number c.requires.read c.in_ok-found.ensures.ends (omega arith) (sym c.in_ok-has_right_behind.ensures ∙ c.if-branch.false) l)
    (λ left l. plan_left (whole_lines (g.P.Plan.text c.args.plan.now)) (g.D.Log.seen c.args.disk.now) c.args.journal.now _ c.text.result.now c.in_ok-found.found.last.now left c.in_ok-found.found.at c.in_ok-found.found.number c.requires.read c.in_ok-found.ensures.ends (sym c.in_ok-has_right_behind.ensures ∙ c.if-branch.false) (ap whole_lines (sym c.text.ensures)) (subst IsPlan (sym c.text.ensures) c.requires.plan) (sym c.in_ok-found.ensures.begins ∙ (and_parts _ _ (sym c.in_ok-is_of.ensures ∙ c.if-not-branch.false)).0) c.in_ok-found.ensures.last (omega arith) (omega arith) c.in_ok-cut.ensures.synced l)
