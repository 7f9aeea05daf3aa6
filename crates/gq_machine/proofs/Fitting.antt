-- One fact more fits in lines.
use Rattle.std.proofs.Common.{ℕ, ◌+◌, ◌<◌, List, length, take, get_or}
use Rattle.std.specs.Prelude.{All}
use Rattle.std.proofs.lemmas.List.Elements.{All-more}
use Rattle.gq_desk.specs.CheckedPlan.{CheckedPlan}
use Rattle.gq_node.specs.declared.output.Fact.{Fact}
use Rattle.gq_node.specs.Recalling.{tenant_of, own_fact}
use Rattle.gq_facts.specs.Laws.{FitsFact, FitsOwn}

pub fits_more : (plan : CheckedPlan) (facts : List Fact) (i : ℕ) (d : Fact) → i < length facts → All (FitsFact plan) (take i facts) → All (λ fact. tenant_of fact < length plan.rows) facts →
    FitsOwn (own_fact (get_or facts i d)) → All (FitsFact plan) (take (i + 1) facts)
fits_more plan facts i d within before of_plan own = All-more (FitsFact plan) facts i d within before (record { tenant = of_plan i d within; own = own })
