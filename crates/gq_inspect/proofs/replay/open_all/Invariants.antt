use Rattle.std.proofs.Common.{◌≡◌, ◌++◌, drop, map}
use Rattle.gq_world.specs.Tables.{Stands}
use Rattle.gq_inspect.specs.Replay.{Opens, opening_event}
use Rattle.gq_inspect.proofs.replay.open_all.Given as goal

-- the world stands, and where the rest is opened all is
abbrev pub invariant-loop-opening : goal.invariant-loop-opening
invariant-loop-opening l = record {
  plan : l.tape.world.tables.plan ≡ l.initial.tape.world.tables.plan;
  stands : Stands l.tape.world.tables l.tape.events.items;
  firsts : l.tape.firsts ≡ l.initial.tape.firsts;
  events : l.tape.events.items ++ map opening_event (drop l.opening-index l.openings) ≡ l.initial.tape.events.items ++ map opening_event l.openings;
  opens : Opens l.tape.world.tables.plan l.tape.events.items (drop l.opening-index l.openings) → Opens l.initial.tape.world.tables.plan l.initial.tape.events.items l.openings;
}
