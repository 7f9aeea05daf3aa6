use Rattle.std.proofs.Common.{sym}
use Rattle.gq_lines.proofs.Extending.{extends_more, on_err}
use Rattle.gq_text.proofs.Extending.{server_written, server_passed}
use Rattle.gq_grid.specs.Sets.{servers}
use Rattle.gq_text.proofs.pieces.put_servers.Goals as goal
use Rattle.gq_text.proofs.pieces.put_servers.Goals.{then-has+in_ok-put_spaced_number, else-has}

pub returns-in_err-put_spaced_number-clause-err : goal.returns-in_err-put_spaced_number-clause-err
returns-in_err-put_spaced_number-clause-err c = on_err _ (extends_more _ _ _ _ c.loop-server.invariant c.in_err-put_spaced_number.ensures.err)

pub loop-server-preserved : goal.loop-server-preserved
loop-server-preserved c = elim c.if-has.branch [
  | then-has+in_ok-put_spaced_number w ↦ rw w.out-is (server_written c.args.out.now.items c.loop-server.out.items _ c.loop-server.server (servers c.args.set) c.loop-server.invariant w.in_ok-put_spaced_number.ensures.ok (sym w.if-has.ensures))
  | else-has w ↦ rw w.out-is (server_passed c.args.out.now.items c.loop-server.out.items c.loop-server.server (servers c.args.set) c.loop-server.invariant (sym w.if-has.ensures))
]
