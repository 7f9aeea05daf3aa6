-- What is left while a journal is begun, or read, and then written anew.
use Rattle.std.proofs.Common.{◌≡◌}
use Rattle.gq_service.specs.Kinds.{kind}
use Rattle.gq_service.specs.Serving.{TellsDamage, TellsNoOther, LeavesJournal}
use Rattle.gq_service.proofs.Crashes.{elapses_anew}
use Rattle.gq_service.proofs.NewNodes.{err_only, leaves_any, tells_no_other}
use Rattle.gq_service.proofs.serving.begin_or_write_anew.Goals as goal

pub returns-then-is_anew-clause-damaged : goal.returns-then-is_anew-clause-damaged
returns-then-is_anew-clause-damaged g c = err_only c.write_anew.result _ (TellsDamage (g.D.Log.seen c.args.disk.now)) (λ fault told. told (g.D.Log.seen c.args.disk.now)) c.write_anew.ensures.damaged

pub returns-then-is_anew-clause-another : goal.returns-then-is_anew-clause-another
returns-then-is_anew-clause-another g c = λ is. err_only c.write_anew.result TellsNoOther _ (tells_no_other (kind g.M.Machine.steps g.M.Machine.recalls g.M.Machine.readable g.M.Lasting.blank g.M.Lasting.rests g.M.Served.is_new) c.args.node.now.plan.setup c.args.node.now.number (g.D.Log.seen c.args.disk.now)) c.write_anew.ensures.another

pub returns-then-is_anew-clause-same : goal.returns-then-is_anew-clause-same
returns-then-is_anew-clause-same g c = λ is. err_only c.write_anew.result (LeavesJournal ⊥) _ (leaves_any (g.D.Log.seen c.write_anew.new.disk ≡ g.D.Log.seen c.args.disk.now)) c.write_anew.ensures.same

pub returns-then-is_anew-clause-crash : goal.returns-then-is_anew-clause-crash
returns-then-is_anew-clause-crash g c =
    elapses_anew (kind g.M.Machine.steps g.M.Machine.recalls g.M.Machine.readable g.M.Lasting.blank g.M.Lasting.rests g.M.Served.is_new) c.args.node.now.plan.setup c.args.node.now.number c.args.is_new _ _ _ _ _ _ (g.D.Log.synced c.args.disk.now) (g.D.Log.seen c.args.disk.now) c.begin_or_go_on.new.machine c.args.node.now.plan.text.items c.in_ok-number.ensures.started c.args.node.now.text c.begin_or_go_on.ensures.crash c.write_anew.ensures.crash
