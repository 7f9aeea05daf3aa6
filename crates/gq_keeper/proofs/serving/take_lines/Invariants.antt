use Rattle.std.proofs.Common.{◌≡◌, ◌⊎◌, ◌<◌, length}
use Rattle.gq_keeper.specs.Runs.{Took}
use Rattle.gq_keeper.proofs.serving.take_lines.Given as goal

abbrev pub invariant-loop-line : goal.invariant-loop-line
invariant-loop-line g l = record {
  took : Took l.longest l.most g.M.Machine.steps l.fn.machine l.text l.rest l.facts.items l.told.items l.machine;
  few_facts : length l.facts.items < l.most;
  few_told : length l.told.items < l.most;
  on : (l.rest ≡ l.text) ⊎ (length l.rest < length l.text);
}

abbrev pub decreases-loop-line : goal.decreases-loop-line
decreases-loop-line g l = length l.rest
