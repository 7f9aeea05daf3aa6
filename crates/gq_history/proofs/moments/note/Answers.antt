use Rattle.std.proofs.Common.{rules, arith}
use Rattle.gq_history.proofs.Tables.{noted, passed, beyond}
use Rattle.gq_history.proofs.moments.note.Goals as goal
use Rattle.gq_history.proofs.moments.note.Goals.{else-is_none-via-then-is_none+else-session-len, else-is_none-via-else-is_none}

pub returns-then-session-len : goal.returns-then-session-len
returns-then-session-len c = λ before is. noted before c.args.a.now c.args.given_up.now.items (search rules) (omega (arith, c.if-session-len.true)) is

pub returns-else-is_none : goal.returns-else-is_none
returns-else-is_none c = elim c.else-is_none.branch [
  | else-is_none-via-then-is_none+else-session-len w ↦ λ before is. beyond before c.args.a.now c.args.given_up.now.items (omega (arith, w.if-session-len.false)) is
  | else-is_none-via-else-is_none w ↦ λ before is. passed before c.args.a.now c.args.given_up.now.items (search rules) is
]
