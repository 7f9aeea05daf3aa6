-- One letter more.
use Rattle.std.proofs.Common.{false}
use Rattle.gq_tag.specs.declared.Message.{Message}
use Rattle.gq_node.specs.Tables.{Tables}
use Rattle.gq_lines.proofs.Extending.{one_more}
use Rattle.gq_parts.specs.Steps.{table_line}
use Rattle.gq_machine.proofs.machine.NodeMachine.put_lines.Goals as goal

pub loop-letter-preserved : goal.loop-letter-preserved
loop-letter-preserved c =
    let w : Tables = c.args.self.now.node.tables in
    let letter : Message = c.letter-item.result in
    one_more (table_line false w.plan w.here w) c.args.told.now.items c.loop-letter.told.items c.put_line.new.told.items c.args.letters.now c.loop-letter.letter-index letter c.loop-letter-test.true c.letter-item.is c.loop-letter.invariant
    c.in_ok-put_line.ensures
