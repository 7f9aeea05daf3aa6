use Rattle.std.proofs.Common.{◌≡◌, ◌++◌, length, map}
use Rattle.std.specs.List.{All}
use Rattle.gq_model.specs.Events.{IsIn}
use Rattle.gq_lines.specs.Lines.{lines_of}
use Rattle.gq_text.specs.Input.{event_of}
use Rattle.rewrite_script.proofs.read_lines.Given as goal

abbrev pub invariant-loop-rest : goal.invariant-loop-rest
invariant-loop-rest l = record {
  plan : l.plan ≡ l.fn.plan;
  events : l.events.items ++ map (event_of l.plan) (lines_of l.rest) ≡ map (event_of l.plan) (lines_of l.fn.lines);
  within : All (IsIn l.plan) l.events.items;
}

abbrev pub decreases-loop-rest : goal.decreases-loop-rest
decreases-loop-rest l = length l.rest
