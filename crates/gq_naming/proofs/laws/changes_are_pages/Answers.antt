use Rattle.gq_naming.proofs.ChangedPages.{changes_are_pages}
use Rattle.gq_naming.proofs.laws.changes_are_pages.Goals as goal

pub returns : goal.returns
returns c = changes_are_pages
