-- What is counted is few, and where no place of a grid is nobody was lost.
use Rattle.std.proofs.Common.{◌∙◌, ◌≤◌, length, sym, ap, subst}
use Rattle.std.specs.Prelude.{slice_index_or}
use Rattle.gq_node.specs.declared.lost.TheConstants.{MOST_TIMES}
use Rattle.gq_replace.specs.Plans.{times}
use Rattle.gq_node.specs.Sites.{plan_in}
use Rattle.gq_node.proofs.Lacking.{none_beyond}
use Rattle.gq_node.proofs.lost.Lost.times.Goals as goal

pub returns-then-place-times-clause-times : goal.returns-then-place-times-clause-times
returns-then-place-times-clause-times c =
    let beyond : length c.self.inside.times.items ≤ c.args.place = subst (λ n. n ≤ c.args.place) (ap length c.as_slice-times.ensures.value) c.if-place-times.true in
    sym (none_beyond c.self.inside.times.items c.args.place beyond) ∙ c.self.invariant.counted c.args.place ∙ ap (λ places. times (plan_in places) c.args.place) c.self.view_is

pub returns-clause-few : goal.returns-clause-few
returns-clause-few c =
    let is = ap (λ xs. slice_index_or xs c.args.place 0) c.as_slice-times.ensures.value ∙ c.self.invariant.counted c.args.place in
    subst (λ n. n ≤ MOST_TIMES) (sym is) (c.self.invariant.few c.args.place)
