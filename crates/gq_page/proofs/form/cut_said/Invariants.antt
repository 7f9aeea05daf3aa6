use Rattle.std.proofs.Common.{◌≡◌, take, drop, Some}
use Rattle.gq_page.specs.declared.form.Form.TheVariants.{Begin}
use Rattle.gq_page.specs.Form.{cut_from}
use Rattle.gq_page.proofs.Cuts.{with_front}
use Rattle.gq_page.proofs.form.cut_said.Given as goal

abbrev pub invariant-loop-i : goal.invariant-loop-i
invariant-loop-i l = with_front (take l.i l.text) (cut_from (Some l.form) (drop l.i l.text)) ≡ cut_from (Some Begin) l.text
