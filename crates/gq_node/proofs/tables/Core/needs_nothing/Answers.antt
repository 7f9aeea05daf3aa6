-- It is no new node.
use Rattle.std.proofs.Common.{◌∙◌, sym}
use Rattle.gq_node.proofs.tables.Core.needs_nothing.Goals as goal

pub returns-then-tag-eq0-clause-old : goal.returns-then-tag-eq0-clause-old
returns-then-tag-eq0-clause-old c = λ _. sym (c.is_new.ensures 0) ∙ c.if-is_new.false
