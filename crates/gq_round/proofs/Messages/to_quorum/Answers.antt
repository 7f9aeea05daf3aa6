-- To all servers of the quorum, or to nobody.
use Rattle.gq_grid.specs.Sets.{servers}
use Rattle.gq_round.proofs.Sets.{sent_to_all, sent_to_nobody}
use Rattle.gq_round.proofs.Messages.to_quorum.Goals as goal
use Rattle.gq_round.proofs.Messages.to_quorum.Goals.{in-Some, in-None}

pub returns : goal.returns
returns c =
    elim c.match-quorum.branch [
      | in-Some w ↦ rw (w.in-Some.is, w.to-is) (sent_to_all c.args.grid.now c.args.message (servers w.in-Some.set) (servers c.empty.result) c.empty.ensures.none)
      | in-None w ↦ rw (w.in-None.is, w.to-is) (sent_to_nobody c.args.grid.now c.args.message (servers w.empty-to.result) (servers c.empty.result) w.empty-to.ensures.none c.empty.ensures.none)
    ]
