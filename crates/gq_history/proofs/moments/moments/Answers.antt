use Rattle.std.proofs.Common.{◌∙◌, ◌++◌, ◌∷◌, [], List, ap, sym, subst, take}
use Rattle.std.proofs.lemmas.List.{take_more}
use Rattle.gq_laws.specs.declared.ops.Op.{Op}
use Rattle.gq_history.specs.Tables.{IsTable}
use Rattle.gq_history.proofs.Walking.{moments_more}
use Rattle.gq_history.proofs.moments.moments.Goals as goal

pub loop-place-preserved : goal.loop-place-preserved
loop-place-preserved c =
    let ops = c.args.ops.now in let i = c.loop-place.place in let a = c.index-ops-place.result in let before = take i ops in
    let table : IsTable before c.as_slice.result.now = rw c.as_slice.ensures.value c.loop-place.invariant.table in
    record {
      table = subst (λ (z : List Op). IsTable z c.note.new.given_up.items) (sym (take_more ops i a c.loop-place-test.true ∙ ap (λ (z : Op). before ++ z ∷ []) (sym c.index-ops-place.is))) (c.note.ensures before c.loop-place.invariant.table);
      whole = moments_more c.args.lines ops i a c.loop-place.all.items c.put_both.new.all.items _ c.process_in-process.result c.loop-place-test.true c.index-ops-place.is (c.process_in-process.ensures before table) c.in_ok-put_both.ensures c.loop-place.invariant.whole;
    }
