use Rattle.std.proofs.Common.{arith}
use Rattle.gq_escape.proofs.Escaping.{block_written, run_written, first_mark, goes_on, below_sixteen, clean_below, mark_at}
use Rattle.gq_escape.proofs.put_escaped.Goals as goal

pub parts-preserved-then-count-eq16 : goal.parts-preserved-then-count-eq16
parts-preserved-then-count-eq16 c = record {
  written =
      block_written _ _ _ c.args.bytes.now c.parts.rest.now c.parts-test.true c.parts.invariant.written
      (clean_below c.load.result c.parts.rest.now c.clean_lanes-count.result 16 c.load.ensures c.clean_lanes-count.ensures.clean (omega (arith, c.if-count-eq16.true)) (omega arith)) c.in_ok-grow_by.ensures.items;
  extends = goes_on _ _ _ _ c.parts.invariant.extends c.in_ok-grow_by.ensures.items;
}

pub parts-preserved : goal.parts-preserved
parts-preserved c =
    let small = below_sixteen c.clean_lanes-count.result c.clean_lanes-count.ensures.within c.if-count-eq16.false in record {
      written =
          run_written _ _ _ _ c.args.bytes.now c.parts.rest.now c.clean_lanes-count.result c.letter_of.result c.parts.invariant.written
          (first_mark c.parts.rest.now c.clean_lanes-count.result (omega (arith, small, c.parts-test.true))
          (clean_below c.load.result c.parts.rest.now c.clean_lanes-count.result c.clean_lanes-count.result c.load.ensures c.clean_lanes-count.ensures.clean (omega arith) (omega (arith, small)))
          (mark_at c.load.result c.parts.rest.now c.clean_lanes-count.result c.load.ensures small (c.clean_lanes-count.ensures.mark small)))
          c.in_ok-grow_by-2.ensures.items c.in_ok-grow_by-3.ensures.items c.letter_of.ensures;
      extends = goes_on _ _ _ _ (goes_on _ _ _ _ c.parts.invariant.extends c.in_ok-grow_by-2.ensures.items) c.in_ok-grow_by-3.ensures.items;
    }
