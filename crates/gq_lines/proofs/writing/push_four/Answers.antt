use Rattle.std.proofs.Common.{arith}
use Rattle.gq_lines.proofs.Digits.{one_more_digit}
use Rattle.gq_lines.proofs.writing.push_four.Goals as goal

pub returns-clause-items : goal.returns-clause-items
returns-clause-items c = one_more_digit c.args.out.now.items c.push_three.new.out.items c.push_last.new.out.items c.args.n c.push_last.ensures.items c.push_three.ensures.items (omega (arith, c.requires.number)) (omega (arith, c.requires.number))
