use Rattle.std.proofs.Common.{refl, ℕ, List, arith, get_or, drop, take}
use Rattle.std.proofs.lemmas.List.{drop_all}
use Rattle.std.proofs.lemmas.Result.{on_err_weaker}
use Rattle.gq_shards.specs.Shards.{first_place, waiting, AreTold}
use Rattle.gq_shards.proofs.Passing.{on_err}
use Rattle.gq_shards.proofs.Lefts.{IsNext, step_left, step_more, step_part, going_last}
use Rattle.gq_shards.proofs.merging.write_lines.Goals as goal

-- the line of this turn is the next of its shard
next_here : (g : _) (c : goal.After-next_line-arg-1 g) (lines : List (List ℕ)) → AreTold c.args.marks.now lines c.args.all.now
    → IsNext c.args.all.now c.loop-mark.places c.args.marks.now lines c.loop-mark.mark-index c.saturating_sub-shard.result c.index-all-shard.result (get_or c.loop-mark.places c.saturating_sub-shard.result first_place)
next_here g c lines told = record {
  told_all = told;
  below = c.loop-mark-test.true;
  shard = c.saturating_sub-shard.ensures;
  is = c.index-all-shard.is;
  at = refl;
}

pub next_line-size-requires : goal.next_line-size-requires
next_line-size-requires g c =
    let lines = c.requires.told.0 in
    let told = c.requires.told.1 in
    (_, _, step_left _ _ _ _ _ _ lines _ _ _ _ (c.loop-mark.invariant.going lines told) (next_here g c lines told))

pub returns-in_err-put_part-clause-prefix : goal.returns-in_err-put_part-clause-prefix
returns-in_err-put_part-clause-prefix g c = on_err c.from_residual.result (λ lines told.
    step_part _ _ _ (waiting c.loop-mark.chunk) (take c.next_line-size.result.1 c.next_line-size.result.0.now) _ _ _ lines _ _ c.index-all-shard.result _ c.next_line-size.result.2 (c.loop-mark.invariant.going lines told)
    (record { told_all = told; below = c.loop-mark-test.true; shard = c.saturating_sub-shard.ensures; is = c.index-all-shard.is; at = refl }) c.next_line-size.ensures.line c.in_err-put_part.ensures.prefix)

pub loop-mark-preserved : goal.loop-mark-preserved
loop-mark-preserved g c = record {
  fine = c.in_ok-put_part.ensures.fine;
  going = λ lines told.
      step_more _ _ _ (waiting c.loop-mark.chunk) (waiting c.put_part.new.self) (take c.next_line-size.result.1 c.next_line-size.result.0.now) _ _ _ lines _ _ c.index-all-shard.result _ c.next_line-size.result.2 (c.loop-mark.invariant.going lines told)
      (record { told_all = told; below = c.loop-mark-test.true; shard = c.saturating_sub-shard.ensures; is = c.index-all-shard.is; at = refl }) c.next_line-size.ensures.line c.in_ok-put_part.ensures.ok;
}

pub returns-clause-prefix : goal.returns-clause-prefix
returns-clause-prefix g c = on_err_weaker c.flush.result (λ part lines told.
    going_last _ _ _ (waiting c.loop-mark.chunk) _ _ _ (drop c.loop-mark.mark-index lines) lines (c.loop-mark.invariant.going lines told)
    (drop_all c.loop-mark.mark-index lines (omega (arith, told.size, c.loop-mark-test.false))) part) c.flush.ensures.prefix
