-- It is an invariant.
use Rattle.std.proofs.Common.{ℕ, ◌≤◌, List, subst}
use Rattle.gq_replace.specs.Plans.{times}
use Rattle.gq_node.specs.declared.lost.TheConstants.{MOST_TIMES}
use Rattle.gq_node.specs.Sites.{plan_in}
use Rattle.gq_node.proofs.lost.Lost.few.Goals as goal

pub returns : goal.returns
returns c = subst (λ (ps : List ℕ). (place : ℕ) → times (plan_in ps) place ≤ MOST_TIMES) c.self.view_is c.self.invariant.few
