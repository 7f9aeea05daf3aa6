use Rattle.std.proofs.Common.{List, ℕ, arith, subst, sym, ◌∙◌}
use Rattle.gq_keeper.specs.Crashes.{LeavesReplacing}
use Rattle.gq_keeper.specs.Durable.{IsAnew}
use Rattle.gq_keeper.proofs.Instants.{elapses_only}
use Rattle.gq_keeper.proofs.Anew.{anew_sealed, anew_restarts, anew_left}
use Rattle.gq_keeper.proofs.renewing.renew.Goals as goal

pub returns-in_err-replace-clause-crash : goal.returns-in_err-replace-clause-crash
returns-in_err-replace-clause-crash g c =
    elapses_only _ _ _ _ _ _ c.replace.ensures.crash (λ left l. anew_left g.M.Machine.recalls g.M.Machine.readable g.M.Lasting.blank g.M.Lasting.rests c.args.machine.now c.args.plan.now c.in_ok-anew.anew.text.items (g.D.Log.synced c.args.disk.now) (g.D.Log.seen c.args.disk.now) left c.in_ok-anew.anew.next c.in_ok-anew.ensures c.requires.plan (omega arith)
    (subst (λ (t : List ℕ). LeavesReplacing (g.D.Log.synced c.args.disk.now) (g.D.Log.seen c.args.disk.now) t left) c.as_slice.ensures.value l))

pub returns-clause-sealed : goal.returns-clause-sealed
returns-clause-sealed g c =
    anew_sealed g.M.Machine.recalls g.M.Machine.readable g.M.Lasting.blank g.M.Lasting.rests c.args.machine.now c.args.plan.now c.in_ok-anew.anew.text.items _ _ c.in_ok-anew.anew.next c.in_ok-anew.ensures c.requires.plan (omega arith) (c.in_ok-replace.ensures.seen ∙ c.as_slice.ensures.value) (c.in_ok-replace.ensures.synced ∙ c.as_slice.ensures.value)

pub returns-clause-restarts : goal.returns-clause-restarts
returns-clause-restarts g c =
    anew_restarts g.M.Machine.recalls g.M.Machine.readable g.M.Lasting.blank g.M.Lasting.rests c.args.machine.now c.args.plan.now c.in_ok-anew.anew.text.items _ c.in_ok-anew.anew.next c.in_ok-anew.ensures c.requires.plan (omega arith) (c.in_ok-replace.ensures.synced ∙ c.as_slice.ensures.value)

pub returns-clause-crash : goal.returns-clause-crash
returns-clause-crash g c =
    elapses_only _ _ _ _ _ _ c.replace.ensures.crash (λ left l. anew_left g.M.Machine.recalls g.M.Machine.readable g.M.Lasting.blank g.M.Lasting.rests c.args.machine.now c.args.plan.now c.in_ok-anew.anew.text.items (g.D.Log.synced c.args.disk.now) (g.D.Log.seen c.args.disk.now) left c.in_ok-anew.anew.next c.in_ok-anew.ensures c.requires.plan (omega arith)
    (subst (λ (t : List ℕ). LeavesReplacing (g.D.Log.synced c.args.disk.now) (g.D.Log.seen c.args.disk.now) t left) c.as_slice.ensures.value l))

pub returns-clause-anew : goal.returns-clause-anew
returns-clause-anew g c =
    subst (λ (t : List ℕ). IsAnew g.M.Machine.recalls g.M.Machine.readable g.M.Lasting.blank g.M.Lasting.rests c.args.machine.now c.args.plan.now t c.in_ok-anew.anew.next) (sym (c.in_ok-replace.ensures.synced ∙ c.as_slice.ensures.value)) c.in_ok-anew.ensures
