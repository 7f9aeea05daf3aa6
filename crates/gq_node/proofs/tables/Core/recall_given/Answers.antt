-- A start takes the copy as the node did.
use Rattle.std.proofs.Common.{◌≡◌, ◌∙◌, true, Some, sym, ap}
use Rattle.gq_tag.specs.declared.Body.TheVariants.{Store}
use Rattle.gq_desk.specs.Volumes.{limit_of}
use Rattle.gq_node.specs.Local.{file_fits}
use Rattle.gq_node.specs.Tables.{Tables}
use Rattle.gq_node.proofs.Giving.{recalls_given}
use Rattle.gq_node.proofs.tables.Core.recall_given.Goals as goal

pub returns-clause-leads : goal.returns-clause-leads
returns-clause-leads c =
    let w : Tables = c.args.self.now in
    let there : limit_of w.desk c.args.file ≡ Some c.in-Some.limit = ap (λ (x : Tables). limit_of x.desk c.args.file) (sym c.self.view_is) ∙ sym c.limit.ensures ∙ c.in-Some.is in
    let room : file_fits (limit_of w.desk c.args.file) (Store c.args.copy.now) ≡ true = ap (λ limit. file_fits limit (Store c.args.copy.now)) there ∙ sym c.if-not-copy_fits.ensures in
    recalls_given w c.has_now.new.self c.args.file c.args.copy.now room c.has_now.ensures.leads
