use Rattle.std.proofs.Common.{◌≡◌, take}
use Rattle.gq_page.proofs.page.Page.share.Given as goal

abbrev pub invariant-loop-line : goal.invariant-loop-line
invariant-loop-line l = l.lines.items ≡ take l.line-index l.self.lines.items
