use Rattle.std.proofs.Common.{List, ap, sym, ◌∙◌}
use Rattle.gq_depot.specs.declared.answer.ListedChunk.{ListedChunk}
use Rattle.gq_lines.specs.Words.{words_after}
use Rattle.gq_chunks.specs.PeerLines.{pairs_behind}
use Rattle.gq_chunks.proofs.Sayings.{pair_read}
use Rattle.gq_chunks.proofs.hearing.pairs.Goals as goal

pub loop-rest-preserved : goal.loop-rest-preserved
loop-rest-preserved c =
    ap (λ (items : List ListedChunk). pairs_behind items (words_after c.in-Some.behind.now)) c.in_ok-grow.ensures.items
    ∙ (sym (pair_read c.loop-rest.chunks.items (words_after c.loop-rest.rest.now) (words_after c.in-Some.behind.now) c.in-Some.chunk c.in-Some.ensures).0 ∙ c.loop-rest.invariant)
