-- A journal that goes on is the node's own, and begins with a plan.
use Rattle.gq_service.specs.Kinds.{kind}
use Rattle.gq_keeper.proofs.Instants.{elapses_only}
use Rattle.gq_service.proofs.Crashes.{begun_is_started, found_is_started, left_beginning, left_going_on}
use Rattle.gq_service.proofs.NewNodes.{always, both_ok}
use Rattle.gq_service.proofs.serving.begin_or_go_on.Goals as goal

pub returns-else-is_new-clause-started : goal.returns-else-is_new-clause-started
returns-else-is_new-clause-started g c =
    both_ok c.go_on.result
    (λ reads its. found_is_started (kind g.M.Machine.steps g.M.Machine.recalls g.M.Machine.readable g.M.Lasting.blank g.M.Lasting.rests g.M.Served.is_new) c.args.node.now.plan.setup c.args.node.now.number c.args.is_new c.args.machine.now c.go_on.new.machine (g.D.Log.seen c.args.disk.now) c.if-is_new.false its (c.requires.found c.if-is_new.false) reads)
    c.go_on.ensures.recalled c.go_on.ensures.its

pub returns-then-is_new-clause-started : goal.returns-then-is_new-clause-started
returns-then-is_new-clause-started g c = always c.begin.result (begun_is_started (kind g.M.Machine.steps g.M.Machine.recalls g.M.Machine.readable g.M.Lasting.blank g.M.Lasting.rests g.M.Served.is_new) c.args.node.now.plan.setup c.args.node.now.number c.args.is_new c.args.machine.now (g.D.Log.seen c.args.disk.now) c.if-is_new.true (c.requires.begun c.if-is_new.true))

pub returns-then-is_new-clause-crash : goal.returns-then-is_new-clause-crash
returns-then-is_new-clause-crash g c = elapses_only _ _ _ _ _ _ c.begin.ensures.crash
    (λ left l. left_beginning (kind g.M.Machine.steps g.M.Machine.recalls g.M.Machine.readable g.M.Lasting.blank g.M.Lasting.rests g.M.Served.is_new) c.args.node.now.plan.setup c.args.node.now.number c.args.is_new c.args.machine.now c.args.node.now.plan.text.items (g.D.Log.synced c.args.disk.now) (g.D.Log.seen c.args.disk.now) left c.if-is_new.true (c.requires.begun c.if-is_new.true) c.args.node.now.text l)

pub returns-else-is_new-clause-crash : goal.returns-else-is_new-clause-crash
returns-else-is_new-clause-crash g c = elapses_only _ _ _ _ _ _ c.go_on.ensures.crash
    (λ left l. left_going_on (kind g.M.Machine.steps g.M.Machine.recalls g.M.Machine.readable g.M.Lasting.blank g.M.Lasting.rests g.M.Served.is_new) c.args.node.now.plan.setup c.args.node.now.number c.args.is_new c.args.went (g.D.Log.synced c.args.disk.now) (g.D.Log.seen c.args.disk.now) left c.if-is_new.false (c.requires.went c.if-is_new.false) l)
