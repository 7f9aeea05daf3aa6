use Rattle.std.proofs.Common.{sym, ◌∙◌}
use Rattle.gq_chunks.specs.Having.{chunks_of}
use Rattle.gq_chunks.proofs.Taken.{peer_silent}
use Rattle.gq_chunks.proofs.machine.ChunkMachine.answer_peer.Goals as goal

pub returns-then-not-may_answer-clause-took : goal.returns-then-not-may_answer-clause-took
returns-then-not-may_answer-clause-took g c =
    let m = c.args.self.now in
    peer_silent (chunks_of g.S.Shelf.noted m) c.args.tenant c.args.from c.args.losses c.args.request c.args.facts.now.items c.args.told.now.items (sym c.may_answer.ensures ∙ c.if-not-may_answer.true)
