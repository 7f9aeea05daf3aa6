use Rattle.std.proofs.Common.{◌≡◌, [], length}
use Rattle.gq_journal.specs.Batches.{batches_of}
use Rattle.gq_keeper.specs.Plans.{last_plan}
use Rattle.gq_keeper.specs.Crashes.{Elapses}
use Rattle.gq_keeper.specs.Restarting.{RestartsAsOne}
use Rattle.gq_keeper.specs.Durable.{AllSealed, Grows, TakenBefore}
use Rattle.gq_keeper.proofs.serving.take_text.Given as goal

abbrev pub invariant-batches : goal.invariant-batches
invariant-batches g l = record {
  sealed : AllSealed (g.L.Log.seen l.log) (g.L.Log.synced l.log) l.number;
  taken : TakenBefore l.longest g.M.Machine.steps g.M.Machine.recalls g.M.Machine.readable g.M.Lasting.blank g.M.Lasting.rests l.fn.machine l.machine (last_plan [] (batches_of (g.L.Log.synced l.fn.log))) l.text l.rest (g.O.Output.shown l.fn.out) (g.L.Log.synced l.log) (g.O.Output.shown l.out);
  grows : Grows (g.L.Log.synced l.fn.log) (g.L.Log.synced l.log) (l.log ≡ l.fn.log);
  crash : Elapses (g.L.Log.instant l.fn.log) (g.L.Log.instant l.log) (g.L.Log.left_since l.fn.log) (g.L.Log.left_since l.log) (RestartsAsOne g.M.Machine.steps g.M.Machine.recalls g.M.Machine.readable g.M.Lasting.blank g.M.Lasting.rests (last_plan [] (batches_of (g.L.Log.synced l.fn.log))) l.fn.machine);
}

abbrev pub decreases-batches : goal.decreases-batches
decreases-batches g l = length l.rest
