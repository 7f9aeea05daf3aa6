use Rattle.std.proofs.Common.{get_or, ap, ◌∙◌, arith, ◌≡◌, ◌+◌}
use Rattle.std.proofs.lemmas.Simd.{get_or-chunk}
use Rattle.gq_escape.proofs.load.Goals as goal

pub returns : goal.returns
returns c = λ k lt. get_or-chunk 0 16 c.args.bytes.now k 0 lt ∙ ap (λ j. get_or c.args.bytes.now j 0) (let e : 0 + k ≡ k = omega arith in e)
