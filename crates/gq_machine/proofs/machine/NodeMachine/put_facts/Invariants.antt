use Rattle.std.proofs.Common.{◌≡◌, ◌++◌, take}
use Rattle.std.specs.Prelude.{All}
use Rattle.std.specs.List.{flat_map}
use Rattle.gq_facts.specs.Facts.{fact_text}
use Rattle.gq_facts.specs.Laws.{FitsFact}
use Rattle.gq_machine.proofs.machine.NodeMachine.put_facts.Given as goal

abbrev pub invariant-loop-fact : goal.invariant-loop-fact
invariant-loop-fact l = record {
  text : l.facts.items ≡ l.fn.facts.items ++ flat_map (fact_text l.self.node.tables.plan) (take l.fact-index l.needed);
  fit : All (FitsFact l.self.node.tables.plan) (take l.fact-index l.needed);
}
