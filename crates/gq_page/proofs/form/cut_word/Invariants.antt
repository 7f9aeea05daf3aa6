use Rattle.std.proofs.Common.{◌≡◌, take, drop}
use Rattle.gq_page.specs.Form.{cut_word}
use Rattle.gq_page.proofs.Cuts.{with_front}
use Rattle.gq_page.proofs.form.cut_word.Given as goal

abbrev pub invariant-loop-i : goal.invariant-loop-i
invariant-loop-i l = with_front (take l.i l.text) (cut_word (drop l.i l.text)) ≡ cut_word l.text
