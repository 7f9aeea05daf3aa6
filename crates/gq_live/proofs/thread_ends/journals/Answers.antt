use Rattle.std.proofs.Common.{length, ◌∙◌, ◌∷◌, [], sym}
use Rattle.std.specs.Result.{result_err}
use Rattle.std.proofs.lemmas.List.{length-append}
use Rattle.gq_live.proofs.Telling.{adds-more, tells-end}
use Rattle.gq_live.proofs.thread_ends.journals.Goals as goal

pub loop-end-preserved : goal.loop-end-preserved
loop-end-preserved g c = record {
  lawful = c.add_server-added.ensures.lawful;
  count = λ none. adds-more c.loop-end.fault _ _ _ _ (length c.loop-end.yielded) c.told_after-fault.ensures.ok c.told_after-fault.ensures.least c.add_server-added.ensures.len c.loop-end.invariant.count none
      ∙ sym (length-append c.loop-end.yielded (c.in-Some.end ∷ []));
  gate = λ never. c.told_after-fault.ensures.gate (c.add_server-added.ensures.gate never) (c.loop-end.invariant.gate never);
  told = tells-end (λ end. result_err end.result) c.loop-end.yielded c.in-Some.end c.loop-end.fault _ _ c.loop-end.invariant.told c.add_server-added.ensures.fault c.told_after-fault.ensures.ok c.told_after-fault.ensures.least;
}
