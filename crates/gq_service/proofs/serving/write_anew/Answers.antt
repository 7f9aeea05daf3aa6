-- What is left while the journal is written anew.
use Rattle.std.proofs.Common.{List, ℕ, subst, ⊎_elim, inl, inr}
use Rattle.gq_journal.specs.Batches.{whole_lines}
use Rattle.gq_keeper.specs.Restarting.{Restarts}
use Rattle.gq_keeper.proofs.Instants.{elapses_only}
use Rattle.gq_service.specs.Kinds.{kind}
use Rattle.gq_service.proofs.Crashes.{left_anew}
use Rattle.gq_service.proofs.serving.write_anew.Goals as goal

pub returns-in_err-next-clause-crash : goal.returns-in_err-next-clause-crash
returns-in_err-next-clause-crash g c = elapses_only _ _ _ _ _ _ c.renew.ensures.crash
    (λ left l. left_anew (kind g.M.Machine.steps g.M.Machine.recalls g.M.Machine.readable g.M.Lasting.blank g.M.Lasting.rests g.M.Served.is_new) c.args.machine.now (whole_lines c.args.node.now.plan.text.items) (g.D.Log.synced c.args.disk.now) (g.D.Log.seen c.args.disk.now) left c.requires.all c.requires.restarts
    (⊎_elim (λ old. inl old) (λ r. inr (subst (λ (t : List ℕ). Restarts g.M.Machine.recalls g.M.Machine.readable g.M.Lasting.blank g.M.Lasting.rests (whole_lines t) c.args.machine.now left) c.text.ensures r)) l))

pub returns-clause-crash : goal.returns-clause-crash
returns-clause-crash g c = elapses_only _ _ _ _ _ _ c.renew.ensures.crash
    (λ left l. left_anew (kind g.M.Machine.steps g.M.Machine.recalls g.M.Machine.readable g.M.Lasting.blank g.M.Lasting.rests g.M.Served.is_new) c.args.machine.now (whole_lines c.args.node.now.plan.text.items) (g.D.Log.synced c.args.disk.now) (g.D.Log.seen c.args.disk.now) left c.requires.all c.requires.restarts
    (⊎_elim (λ old. inl old) (λ r. inr (subst (λ (t : List ℕ). Restarts g.M.Machine.recalls g.M.Machine.readable g.M.Lasting.blank g.M.Lasting.rests (whole_lines t) c.args.machine.now left) c.text.ensures r)) l))
