use Rattle.std.proofs.Common.{◌<◌, length}
use Rattle.gq_journal.specs.Batches.{whole_lines}
use Rattle.gq_keeper.specs.Crashes.{Elapses}
use Rattle.gq_keeper.specs.Restarting.{RestartsAsOne}
use Rattle.gq_keeper.specs.Durable.{AllSealed}
use Rattle.gq_keeper.proofs.Readings.{Served}
use Rattle.gq_keeper.proofs.serving.serve.Given as goal

abbrev pub invariant-loop : goal.invariant-loop
invariant-loop g l = record {
  sealed : AllSealed (g.D.Log.seen l.disk) (g.D.Log.synced l.disk) l.number;
  served : Served l.longest g.M.Machine.steps g.M.Machine.recalls g.M.Machine.readable g.M.Lasting.blank g.M.Lasting.rests l.fn.machine l.machine (whole_lines l.plan) (g.O.Output.shown l.fn.out) (g.D.Log.synced l.disk) (g.O.Output.shown l.out) (g.R.Read.remaining l.fn.input) (g.R.Read.remaining l.input) l.held.items;
  of_plan : g.M.Lasting.is_of (whole_lines l.plan) l.machine;
  crash : Elapses (g.D.Log.instant l.fn.disk) (g.D.Log.instant l.disk) (g.D.Log.left_since l.fn.disk) (g.D.Log.left_since l.disk) (RestartsAsOne g.M.Machine.steps g.M.Machine.recalls g.M.Machine.readable g.M.Lasting.blank g.M.Lasting.rests (whole_lines l.plan) l.fn.machine);
  room : 0 < length l.block.items;
}
