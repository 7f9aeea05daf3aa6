use Rattle.std.proofs.Common.{length, ◌∙◌, ◌∷◌, [], sym}
use Rattle.std.specs.Result.{result_err}
use Rattle.std.proofs.lemmas.List.{length-append}
use Rattle.gq_live.proofs.Telling.{adds-more, tells-end}
use Rattle.gq_live.proofs.thread_ends.entries.Goals as goal

pub loop-end-preserved : goal.loop-end-preserved
loop-end-preserved c = record {
  asked = c.add_session-added.ensures.asked;
  gave_up = c.add_session-added.ensures.gave_up;
  count = λ none. adds-more c.loop-end.fault _ _ _ _ (length c.loop-end.yielded) c.told_after-fault.ensures.ok c.told_after-fault.ensures.least c.add_session-added.ensures.len c.loop-end.invariant.count none
      ∙ sym (length-append c.loop-end.yielded (c.in-Some.end ∷ []));
  gate = c.told_after-fault.ensures.gate c.add_session-added.ensures.gate c.loop-end.invariant.gate;
  told = tells-end (λ end. result_err end.result) c.loop-end.yielded c.in-Some.end c.loop-end.fault _ _ c.loop-end.invariant.told c.add_session-added.ensures.fault c.told_after-fault.ensures.ok c.told_after-fault.ensures.least;
}
