-- The line is cut at its first space.
use Rattle.std.proofs.Common.{◌≡◌, arith}
use Rattle.gq_lines.proofs.Cutting.{cut_near}
use Rattle.gq_lines.proofs.lines.cut_line.Goals as goal

pub returns-then-end-lt32 : goal.returns-then-end-lt32
returns-then-end-lt32 c =
    cut_near c.args.text.now c.min-first.result c.near-end.result (omega arith) (omega arith)
    (c.near-end.ensures.here c.if-end-lt32.true) (λ k lt. c.near-end.ensures.before k lt (omega arith))
    (λ k lt. c.near.ensures.before k (omega arith) (omega arith))
    (λ lt. let same : c.min-first.result ≡ c.near.result = omega arith in rw same (c.near.ensures.here (omega arith)))
