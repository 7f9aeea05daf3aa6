use Rattle.rewrite_script.proofs.Rewritings.{is_rewriting}
use Rattle.rewrite_script.proofs.rewritten.Goals as goal

pub returns : goal.returns
returns c =
    is_rewriting _ _ _ c.in_ok-plan.place _ c.in_ok-plan.ensures.plan c.in_ok-events.ensures.events (rw (c.new-text.ensures.items, c.as_slice.ensures.value) at c.in_ok-write_script.ensures.ok) (rw c.as_slice.ensures.value at c.in_ok-write_script.ensures.back)
