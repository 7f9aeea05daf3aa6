use Rattle.std.proofs.Common.{◌++◌, ◌≤◌, length, arith, ap, ◌∙◌}
use Rattle.std.proofs.lemmas.List.{length-take-le}
use Rattle.gq_journal.specs.Batches.{whole_lines}
use Rattle.gq_keeper.specs.Lines.{short_lines}
use Rattle.gq_keeper.proofs.Ends.{kept_none, kept_same}
use Rattle.gq_keeper.proofs.serving.kept_end.Goals as goal

pub returns-clause-none : goal.returns-clause-none
returns-clause-none c = ap whole_lines c.in_ok-kept.ensures.items ∙ kept_none c.kept_count.result c.args.end.now c.requires

pub returns-clause-same : goal.returns-clause-same
returns-clause-same c = λ more. ap (λ k. short_lines c.args.longest (k ++ more)) c.in_ok-kept.ensures.items ∙ kept_same c.args.longest c.kept_count.result c.args.end.now more c.requires c.kept_count.ensures

pub returns-clause-small : goal.returns-clause-small
returns-clause-small c =
    let within : c.kept_count.result ≤ length c.args.end.now = omega arith in
    omega (arith, ap length c.in_ok-kept.ensures.items, length-take-le c.kept_count.result c.args.end.now within)
