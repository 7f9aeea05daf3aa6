use Rattle.gq_runs.specs.Gathering.{request_in}
use Rattle.gq_runs.proofs.Programming.{one_picked}
use Rattle.gq_runs.proofs.programs.requests_in.Goals as goal

pub loop-line-preserved : goal.loop-line-preserved
loop-line-preserved c =
    one_picked (request_in c.args.number) c.args.lines.now c.loop-line.line-index _ _ c.loop-line.items.items c.keep.new.items.items c.loop-line-test.true c.line-item.is c.in_ok-request_in.ensures c.loop-line.invariant c.in_ok-keep.ensures
