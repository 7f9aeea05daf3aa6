use Rattle.std.proofs.Common.{◌≡◌, ◌+◌, ◌++◌, [], length, arith, ap, ◌∙◌}
use Rattle.std.specs.Prelude.{min}
use Rattle.gq_journal.specs.Batches.{whole_lines}
use Rattle.gq_keeper.specs.Lines.{short_lines}
use Rattle.gq_keeper.proofs.Ends.{kept_none, kept_same, none_behind}
use Rattle.gq_keeper.proofs.serving.hold.Goals as goal

pub returns-clause-none : goal.returns-clause-none
returns-clause-none c =
    let none : whole_lines c.grow_by.new.self.items ≡ [] = ap whole_lines c.in_ok-grow_by.ensures.items ∙ none_behind c.args.held.now.items c.args.bytes.now c.requires.held c.requires.bytes in
    ap whole_lines c.truncate.ensures.items ∙ kept_none c.kept_count.result c.grow_by.new.self.items none

pub returns-clause-same : goal.returns-clause-same
returns-clause-same c = λ more.
    let none : whole_lines c.grow_by.new.self.items ≡ [] = ap whole_lines c.in_ok-grow_by.ensures.items ∙ none_behind c.args.held.now.items c.args.bytes.now c.requires.held c.requires.bytes in
    let count : c.kept_count.result ≡ min (length c.grow_by.new.self.items) (c.args.longest + 1) = omega (arith, c.kept_count.ensures, c.len.ensures, c.grow_by.new.self.ok.0) in
    ap (λ k. short_lines c.args.longest (k ++ more)) c.truncate.ensures.items
    ∙ kept_same c.args.longest c.kept_count.result c.grow_by.new.self.items more none count
    ∙ ap (λ t. short_lines c.args.longest (t ++ more)) c.in_ok-grow_by.ensures.items
