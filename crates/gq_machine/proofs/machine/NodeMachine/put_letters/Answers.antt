-- One letter more.
use Rattle.std.proofs.Common.{Bool}
use Rattle.gq_tag.specs.declared.Message.{Message}
use Rattle.gq_node.specs.Tables.{Tables}
use Rattle.gq_parts.specs.Steps.{going_home, told_letters}
use Rattle.gq_parts.proofs.Own.{one_piece, lines_pieces, own_pieces}
use Rattle.gq_machine.proofs.machine.NodeMachine.put_letters.Goals as goal

pub loop-letter-preserved : goal.loop-letter-preserved
loop-letter-preserved c =
    let w : Tables = c.args.self.now.node.tables in
    let again : Bool = c.args.again in
    let letter : Message = c.letter-item.result in (
      one_piece (told_letters again w.plan w.here w) (lines_pieces again w.plan w.here w) c.args.told.now.items c.loop-letter.told.items c.put_letter.new.told.items c.args.letters.now c.loop-letter.letter-index letter c.loop-letter-test.true c.letter-item.is c.loop-letter.invariant.0
          c.in_ok-put_letter.ensures.told,
      one_piece (going_home again w.plan w.here) (own_pieces again w.plan w.here) c.args.own.now.items c.loop-letter.own.items c.put_letter.new.own.items c.args.letters.now c.loop-letter.letter-index letter c.loop-letter-test.true c.letter-item.is c.loop-letter.invariant.1
          c.in_ok-put_letter.ensures.own,
    )
