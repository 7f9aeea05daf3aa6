use Rattle.std.proofs.Common.{List, ℕ}
use Rattle.gq_lines.specs.Lines.{lines_of}
use Rattle.gq_shards.specs.Shards.{AreDealt}
use Rattle.gq_shards.proofs.Going.{dealt_both}
use Rattle.gq_shards.proofs.dealing.+halves.Goals as goal

pub returns : goal.returns
returns g t c =
    let front : List (List ℕ) = lines_of c.cut_text.result.0.now in
    let back : List (List ℕ) = lines_of c.cut_text.result.1.now in
    let one : AreDealt c.args.plan.now c.args.shards front c.in_ok-first.field-0 = rw c.in_ok-first.was at c.join-first.ensures.first in
    let other : AreDealt c.args.plan.now c.args.shards back c.in_ok-second.field-0 = rw c.in_ok-second.was at c.join-first.ensures.second in
    dealt_both c.args.plan.now c.args.shards (lines_of c.args.lines.now) front back c.in_ok-first.field-0 c.in_ok-second.field-0 c.together.result c.cut_text.ensures one other c.together.ensures.marks c.together.ensures.sections
