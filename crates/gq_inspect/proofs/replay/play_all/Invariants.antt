use Rattle.std.proofs.Common.{◌≡◌, List, drop}
use Rattle.gq_model.specs.declared.events.Event.{Event}
use Rattle.gq_world.specs.Tables.{Stands}
use Rattle.gq_inspect.specs.Replay.{OrderFits}
use Rattle.gq_inspect.specs.Tapes.{before_of}
use Rattle.gq_inspect.proofs.replay.play_all.Given as goal

-- the world stands, and a run that goes on by the rest is one by all
abbrev pub invariant-loop-step : goal.invariant-loop-step
invariant-loop-step l = record {
  plan : l.tape.world.tables.plan ≡ l.initial.tape.world.tables.plan;
  stands : Stands l.tape.world.tables l.tape.events.items;
  goes : (events : List Event) → OrderFits l.tape.world.tables.plan l.records (drop l.step-index l.order) (before_of l.tape) events → OrderFits l.initial.tape.world.tables.plan l.records l.order (before_of l.initial.tape) events;
}
