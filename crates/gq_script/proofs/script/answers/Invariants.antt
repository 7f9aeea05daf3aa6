use Rattle.std.proofs.Common.{◌≡◌, List, length}
use Rattle.gq_model.specs.declared.events.Event.{Event}
use Rattle.gq_world.specs.Tables.{Stands}
use Rattle.gq_lines.specs.Lines.{lines_of}
use Rattle.gq_script.proofs.Answering.{Continues}
use Rattle.gq_script.proofs.script.answers.Given as goal

abbrev pub invariant-loop-rest : goal.invariant-loop-rest
invariant-loop-rest l = record {
  grid : l.quorum.grid ≡ l.world.tables.plan.grid;
  plan : l.world.tables.plan ≡ l.fn.world.tables.plan;
  answered : (before : List Event) → Stands l.fn.world.tables before → Continues l.fn.world.tables.plan before l.world.tables l.text.items (lines_of l.rest) (lines_of l.fn.lines);
}

abbrev pub decreases-loop-rest : goal.decreases-loop-rest
decreases-loop-rest l = length l.rest
