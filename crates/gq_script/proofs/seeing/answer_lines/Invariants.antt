use Rattle.std.proofs.Common.{◌≡◌, ◌+◌, ◌≤◌, Some, length}
use Rattle.gq_lines.specs.Lines.{lines_of}
use Rattle.gq_script.proofs.Answering.{Keeps}
use Rattle.gq_script.proofs.Places.{Counts}
use Rattle.gq_script.proofs.seeing.answer_lines.Given as goal

abbrev pub invariant-loop-rest : goal.invariant-loop-rest
invariant-loop-rest l = record {
  grid : l.quorum.grid ≡ l.world.tables.plan.grid;
  kept : Keeps l.fn.world.tables.plan (Some l.fn.tenant) l.world.tables l.answered.events.items l.answered.answers.items l.fn.tells l.answered.text.items (lines_of l.rest) (lines_of l.fn.lines);
  places : Counts l.fn.world.tables.plan (Some l.fn.tenant) l.answered.lines l.answered.places.items (lines_of l.rest) (lines_of l.fn.lines);
  few : l.answered.lines + length l.rest ≤ length l.fn.lines;
}

abbrev pub decreases-loop-rest : goal.decreases-loop-rest
decreases-loop-rest l = length l.rest
