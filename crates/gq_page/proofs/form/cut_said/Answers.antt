use Rattle.std.proofs.Common.{◌≡◌, ◌∙◌, sym, false, get_or}
use Rattle.std.specs.Prelude.{◌==◌, ◌&&◌}
use Rattle.gq_page.specs.Form.{is_end}
use Rattle.gq_page.proofs.Cuts.{passes, no_space, no_end}
use Rattle.gq_page.proofs.form.cut_said.Goals as goal
use Rattle.gq_page.proofs.form.cut_said.Goals.{else-c-eq32-via-then-c-eq32+else-is_end, else-c-eq32-via-else-c-eq32}

pub loop-i-preserved : goal.loop-i-preserved
loop-i-preserved c =
    let off : (get_or c.args.text.now c.loop-i.i 0 == 32 && is_end c.loop-i.form) ≡ false = elim c.else-c-eq32.branch [
      | else-c-eq32-via-then-c-eq32+else-is_end w ↦ no_end _ _ (sym w.is_end.ensures ∙ w.if-is_end.false)
      | else-c-eq32-via-else-c-eq32 w ↦ no_space _ _ w.if-c-eq32.false
    ] in
    passes c.loop-i.form c.in-Some.next c.args.text.now c.loop-i.i _ c.loop-i-test.true off (sym c.next.ensures ∙ c.in-Some.is) c.loop-i.invariant
