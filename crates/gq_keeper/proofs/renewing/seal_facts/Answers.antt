use Rattle.std.proofs.Common.{◌∙◌}
use Rattle.gq_keeper.proofs.Kept.{kept_behind, not_all, some_number}
use Rattle.gq_keeper.proofs.renewing.seal_facts.Goals as goal

pub returns-clause-text : goal.returns-clause-text
returns-clause-text c = c.in_ok-seal_behind.ensures.ok ∙ kept_behind 2 c.args.at c.args.text.now.items (not_all c.args.at c.args.text.now.items c.requires (λ is. c.if-len-at.false (c.len.ensures ∙ c.args.text.now.ok.0 ∙ is)))

pub returns-clause-number : goal.returns-clause-number
returns-clause-number c = some_number 2 _ (not_all c.args.at c.args.text.now.items c.requires (λ is. c.if-len-at.false (c.len.ensures ∙ c.args.text.now.ok.0 ∙ is)))
