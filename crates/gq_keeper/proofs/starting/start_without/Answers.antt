-- A journal that is read but for some lines, and written anew.
use Rattle.std.proofs.Common.{◌≡◌, ℕ, List, [], take, drop, true, false, refl, sym, ap, ◌∙◌, subst, ⊎_elim, inl, inr}
use Rattle.std.specs.Prelude.{MatchOption}
use Rattle.std.specs.List.{list_all}
use Rattle.gq_journal.specs.Batches.{lines_text, whole_lines, batches_of, journal_text, has_right_batch}
use Rattle.gq_keeper.specs.Plans.{IsPlan, last_plan, begins_with_plan, is_of}
use Rattle.gq_keeper.specs.Starting.{facts_read, RecallsAll, behind}
use Rattle.gq_keeper.specs.LeavingOut.{RecallsBut, readable_but, facts_but}
use Rattle.gq_keeper.specs.Restarting.{Restarts}
use Rattle.gq_keeper.specs.Durable.{IsAnew}
use Rattle.gq_keeper.proofs.Instants.{elapses_none, elapses_only}
use Rattle.gq_keeper.proofs.Finding.{recalls_keep}
use Rattle.gq_keeper.proofs.LeavingOut.{others_recalled, others_strange}
use Rattle.gq_keeper.proofs.Begun.{behind_is, cut_told, is_of_it}
use Rattle.gq_keeper.proofs.starting.start_without.Goals as goal

pub returns-in_err-found-clause-crash : goal.returns-in_err-found-clause-crash
returns-in_err-found-clause-crash g c = elapses_none _ _ _

pub has_right_behind-requires : goal.has_right_behind-requires
has_right_behind-requires g c =
    c.in_ok-found.ensures.ends.within

pub returns-in_err-is_damaged-clause-crash : goal.returns-in_err-is_damaged-clause-crash
returns-in_err-is_damaged-clause-crash g c = elapses_none _ _ _

pub returns-then-is_damaged-clause-damaged : goal.returns-then-is_damaged-clause-damaged
returns-then-is_damaged-clause-damaged g c =
    (record { place = ap (take c.in_ok-found.found.at) (sym c.requires.read) ∙ c.in_ok-found.ensures.ends.front ∙ ap (λ t. journal_text 1 (batches_of t)) c.requires.read; behind = ap (λ t. has_right_batch (drop c.in_ok-found.found.at t)) (sym c.requires.read) ∙ sym c.in_ok-is_damaged.ensures ∙ c.if-is_damaged.true }, refl)

pub returns-then-is_damaged-clause-crash : goal.returns-then-is_damaged-clause-crash
returns-then-is_damaged-clause-crash g c = elapses_none _ _ _

pub returns-in_err-is_of-clause-crash : goal.returns-in_err-is_of-clause-crash
returns-in_err-is_of-clause-crash g c = elapses_none _ _ _

pub returns-then-not-branch-clause-another : goal.returns-then-not-branch-clause-another
returns-then-not-branch-clause-another g c =
    (sym (is_of_it (g.P.Plan.goes_on c.args.plan.now) (g.P.Plan.text c.args.plan.now) c.in_ok-found.found.last.now (g.D.Log.seen c.args.disk.now) c.in_ok-found.found.begins _ (c.in_ok-found.ensures.begins ∙ ap (λ t. begins_with_plan (batches_of t)) c.requires.read) (c.in_ok-found.ensures.last ∙ ap (λ t. lines_text (last_plan [] (batches_of t))) c.requires.read) refl) ∙ sym c.in_ok-is_of.ensures ∙ c.if-not-branch.true, refl)

pub returns-then-not-branch-clause-crash : goal.returns-then-not-branch-clause-crash
returns-then-not-branch-clause-crash g c = elapses_none _ _ _

pub returns-in_err-reads_facts-clause-crash : goal.returns-in_err-reads_facts-clause-crash
returns-in_err-reads_facts-clause-crash g c = elapses_none _ _ _

-- the machine doesn't read all lines of the journal that are not left out
pub returns-then-not-branch-2-clause-strange : goal.returns-then-not-branch-2-clause-strange
returns-then-not-branch-2-clause-strange g c =
    let left_out = g.F.LeavesOut.leaves_out c.args.left_out.now in (
      sym (others_strange left_out (g.M.Machine.readable c.args.machine.now) (facts_read (g.D.Log.seen c.args.disk.now)))
          ∙ ap (λ t. list_all (readable_but left_out g.M.Machine.readable c.args.machine.now) (facts_read t)) (sym c.requires.read) ∙ c.in_ok-reads_facts.ensures.strange c.if-not-branch-2.true,
      refl,
    )

pub returns-then-not-branch-2-clause-crash : goal.returns-then-not-branch-2-clause-crash
returns-then-not-branch-2-clause-crash g c = elapses_none _ _ _

pub renew-requires-clause-plan : goal.renew-requires-clause-plan
renew-requires-clause-plan g c = subst IsPlan (sym c.text.ensures) c.requires.plan

pub renew-requires-clause-of_plan : goal.renew-requires-clause-of_plan
renew-requires-clause-of_plan g c =
    let left_out = g.F.LeavesOut.leaves_out c.args.left_out.now in
    let recalled : RecallsAll g.M.Machine.recalls c.args.machine.now (facts_but left_out (g.D.Log.seen c.args.disk.now)) c.reads_facts.new.machine =
    others_recalled left_out g.M.Machine.recalls c.args.machine.now c.reads_facts.new.machine (facts_read (g.D.Log.seen c.args.disk.now))
    (subst (λ (t : List ℕ). RecallsAll (RecallsBut left_out g.M.Machine.recalls) c.args.machine.now (facts_read t) c.reads_facts.new.machine) c.requires.read (c.in_ok-reads_facts.ensures.recalled c.if-not-branch-2.false)) in
    let own = whole_lines (g.P.Plan.text c.args.plan.now) in
    subst (λ (t : List ℕ). g.M.Lasting.is_of (whole_lines t) c.reads_facts.new.machine) (sym c.text.ensures)
    (recalls_keep g.M.Machine.recalls (g.M.Lasting.is_of own) (λ old line new read is. g.met.M.Lasting.recalls_plan own old line new read is) c.args.machine.now c.reads_facts.new.machine _ recalled c.requires.of_plan)

pub returns-in_err-number-clause-crash : goal.returns-in_err-number-clause-crash
returns-in_err-number-clause-crash g c =
    let left_out = g.F.LeavesOut.leaves_out c.args.left_out.now in
    let recalled : RecallsAll g.M.Machine.recalls c.args.machine.now (facts_but left_out (g.D.Log.seen c.args.disk.now)) c.reads_facts.new.machine =
    others_recalled left_out g.M.Machine.recalls c.args.machine.now c.reads_facts.new.machine (facts_read (g.D.Log.seen c.args.disk.now))
    (subst (λ (t : List ℕ). RecallsAll (RecallsBut left_out g.M.Machine.recalls) c.args.machine.now (facts_read t) c.reads_facts.new.machine) c.requires.read (c.in_ok-reads_facts.ensures.recalled c.if-not-branch-2.false)) in
    let goes = sym (is_of_it (g.P.Plan.goes_on c.args.plan.now) (g.P.Plan.text c.args.plan.now) c.in_ok-found.found.last.now (g.D.Log.seen c.args.disk.now) c.in_ok-found.found.begins _ (c.in_ok-found.ensures.begins ∙ ap (λ t. begins_with_plan (batches_of t)) c.requires.read) (c.in_ok-found.ensures.last ∙ ap (λ t. lines_text (last_plan [] (batches_of t))) c.requires.read) refl) ∙ sym c.in_ok-is_of.ensures ∙ c.if-not-branch.false in
    elapses_only _ _ _ _ _ _ c.renew.ensures.crash
    (λ left l. ⊎_elim (λ old. inl old) (λ r. inr (recalled, goes, subst (λ (t : List ℕ). Restarts g.M.Machine.recalls g.M.Machine.readable g.M.Lasting.blank g.M.Lasting.rests (whole_lines t) c.reads_facts.new.machine left) c.text.ensures r)) l)

pub wrong_end-cut-requires : goal.wrong_end-cut-requires
wrong_end-cut-requires g c = c.in_ok-found.ensures.ends.within

pub returns-clause-restarts : goal.returns-clause-restarts
returns-clause-restarts g c =
    subst (λ (t : List ℕ). Restarts g.M.Machine.recalls g.M.Machine.readable g.M.Lasting.blank g.M.Lasting.rests (whole_lines t) c.reads_facts.new.machine (g.D.Log.synced c.renew.new.disk)) c.text.ensures c.in_ok-number.ensures.restarts

pub returns-clause-anew : goal.returns-clause-anew
returns-clause-anew g c =
    subst (λ (t : List ℕ). IsAnew g.M.Machine.recalls g.M.Machine.readable g.M.Lasting.blank g.M.Lasting.rests c.reads_facts.new.machine t (g.D.Log.synced c.renew.new.disk) c.in_ok-number.number) c.text.ensures c.in_ok-number.ensures.anew

pub returns-clause-recalled : goal.returns-clause-recalled
returns-clause-recalled g c =
    let left_out = g.F.LeavesOut.leaves_out c.args.left_out.now in
    let recalled : RecallsAll g.M.Machine.recalls c.args.machine.now (facts_but left_out (g.D.Log.seen c.args.disk.now)) c.reads_facts.new.machine =
    others_recalled left_out g.M.Machine.recalls c.args.machine.now c.reads_facts.new.machine (facts_read (g.D.Log.seen c.args.disk.now))
    (subst (λ (t : List ℕ). RecallsAll (RecallsBut left_out g.M.Machine.recalls) c.args.machine.now (facts_read t) c.reads_facts.new.machine) c.requires.read (c.in_ok-reads_facts.ensures.recalled c.if-not-branch-2.false)) in
    recalled

pub returns-clause-of_plan : goal.returns-clause-of_plan
returns-clause-of_plan g c =
    let left_out = g.F.LeavesOut.leaves_out c.args.left_out.now in
    let recalled : RecallsAll g.M.Machine.recalls c.args.machine.now (facts_but left_out (g.D.Log.seen c.args.disk.now)) c.reads_facts.new.machine =
    others_recalled left_out g.M.Machine.recalls c.args.machine.now c.reads_facts.new.machine (facts_read (g.D.Log.seen c.args.disk.now))
    (subst (λ (t : List ℕ). RecallsAll (RecallsBut left_out g.M.Machine.recalls) c.args.machine.now (facts_read t) c.reads_facts.new.machine) c.requires.read (c.in_ok-reads_facts.ensures.recalled c.if-not-branch-2.false)) in
    let own = whole_lines (g.P.Plan.text c.args.plan.now) in
    recalls_keep g.M.Machine.recalls (g.M.Lasting.is_of own) (λ old line new read is. g.met.M.Lasting.recalls_plan own old line new read is) c.args.machine.now c.reads_facts.new.machine _ recalled c.requires.of_plan

pub returns-clause-goes_on : goal.returns-clause-goes_on
returns-clause-goes_on g c = sym (is_of_it (g.P.Plan.goes_on c.args.plan.now) (g.P.Plan.text c.args.plan.now) c.in_ok-found.found.last.now (g.D.Log.seen c.args.disk.now) c.in_ok-found.found.begins _ (c.in_ok-found.ensures.begins ∙ ap (λ t. begins_with_plan (batches_of t)) c.requires.read) (c.in_ok-found.ensures.last ∙ ap (λ t. lines_text (last_plan [] (batches_of t))) c.requires.read) refl) ∙ sym c.in_ok-is_of.ensures ∙ c.if-not-branch.false

pub returns-clause-cut : goal.returns-clause-cut
returns-clause-cut g c =
    subst (λ (t : List ℕ). MatchOption c.wrong_end-cut.result (behind t ≡ []) (λ place. behind t ≡ drop place t)) c.requires.read (cut_told c.wrong_end-cut.result c.args.journal.now c.in_ok-found.found.at c.in_ok-found.found.number c.in_ok-found.ensures.ends c.wrong_end-cut.ensures)

pub returns-clause-none : goal.returns-clause-none
returns-clause-none g c =
    ap (λ t. has_right_batch (behind t)) (sym c.requires.read) ∙ ap has_right_batch (behind_is c.args.journal.now c.in_ok-found.found.at c.in_ok-found.found.number c.in_ok-found.ensures.ends) ∙ (sym c.in_ok-is_damaged.ensures ∙ c.if-is_damaged.false)

pub returns-clause-crash : goal.returns-clause-crash
returns-clause-crash g c =
    let left_out = g.F.LeavesOut.leaves_out c.args.left_out.now in
    let recalled : RecallsAll g.M.Machine.recalls c.args.machine.now (facts_but left_out (g.D.Log.seen c.args.disk.now)) c.reads_facts.new.machine =
    others_recalled left_out g.M.Machine.recalls c.args.machine.now c.reads_facts.new.machine (facts_read (g.D.Log.seen c.args.disk.now))
    (subst (λ (t : List ℕ). RecallsAll (RecallsBut left_out g.M.Machine.recalls) c.args.machine.now (facts_read t) c.reads_facts.new.machine) c.requires.read (c.in_ok-reads_facts.ensures.recalled c.if-not-branch-2.false)) in
    let goes = sym (is_of_it (g.P.Plan.goes_on c.args.plan.now) (g.P.Plan.text c.args.plan.now) c.in_ok-found.found.last.now (g.D.Log.seen c.args.disk.now) c.in_ok-found.found.begins _ (c.in_ok-found.ensures.begins ∙ ap (λ t. begins_with_plan (batches_of t)) c.requires.read) (c.in_ok-found.ensures.last ∙ ap (λ t. lines_text (last_plan [] (batches_of t))) c.requires.read) refl) ∙ sym c.in_ok-is_of.ensures ∙ c.if-not-branch.false in
    elapses_only _ _ _ _ _ _ c.renew.ensures.crash
    (λ left l. ⊎_elim (λ old. inl old) (λ r. inr (recalled, goes, subst (λ (t : List ℕ). Restarts g.M.Machine.recalls g.M.Machine.readable g.M.Lasting.blank g.M.Lasting.rests (whole_lines t) c.reads_facts.new.machine left) c.text.ensures r)) l)
