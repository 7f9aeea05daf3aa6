use Rattle.std.proofs.Common.{◌≡◌, List}
use Rattle.gq_model.specs.declared.events.Event.{Event}
use Rattle.gq_world.specs.Tables.{Stands}
use Rattle.gq_finish.proofs.Finishing.{Progress}
use Rattle.gq_finish.proofs.finish.complete.Given as goal

abbrev pub invariant-loop : goal.invariant-loop
invariant-loop l = record {
  plan : l.world.tables.plan ≡ l.fn.world.tables.plan;
  progress : (events : List Event) → Stands l.fn.world.tables events → Progress l.fn.world.tables.plan events l.tenant l.session l.world.tables l.fn.text.items l.text.items l.is_done;
}
