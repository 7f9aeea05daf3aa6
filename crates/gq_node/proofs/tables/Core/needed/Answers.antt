-- One tenant more.
use Rattle.std.proofs.Common.{◌≡◌, ◌∙◌, ◌<◌, length, map, sym, subst, ap, arith, inl, inr}
use Rattle.std.specs.List.{flat_map, range_with_len}
use Rattle.std.proofs.lemmas.Bool.{cases_eq}
use Rattle.gq_node.specs.Needing.{tenant_facts, all_facts, AllReadable}
use Rattle.gq_node.specs.Resting.{Needed}
use Rattle.gq_node.specs.Shape.{IsShaped}
use Rattle.gq_node.specs.Tables.{Tables, fact_of}
use Rattle.gq_node.proofs.Needing.{put_one_more, all_needed}
use Rattle.gq_node.proofs.tables.Core.needed.Goals as goal

pub loop-place-preserved : goal.loop-place-preserved
loop-place-preserved c =
    let w = c.args.self.now in
    let n = c.loop-place.place in (
      put_one_more (λ t. map (fact_of t) (tenant_facts w t)) n c.loop-place.facts.items c.put_tenant.new.facts.items c.loop-place.invariant.0 c.in_ok-put_tenant.ensures.facts,
      (λ t below. elim (cases_eq t n) [
        | inl same ↦ (subst (AllReadable w) (sym same) c.in_ok-put_tenant.ensures.readable)
        | inr other ↦ (c.loop-place.invariant.1 t (omega arith))
      ]),
    )

pub returns-clause-needed : goal.returns-clause-needed
returns-clause-needed c =
    let w = c.args.self.now in
    let end : c.loop-place.place ≡ c.tenants-tenants.result = omega arith in
    let rows : c.loop-place.place ≡ length w.plan.rows = end ∙ c.tenants-tenants.ensures.value ∙ ap (λ (x : Tables). length x.plan.rows) c.self.view_is in
    let shaped : IsShaped w = subst IsShaped c.self.view_is c.self.invariant in
    let facts : c.loop-place.facts.items ≡ all_facts w = subst (λ m. c.loop-place.facts.items ≡ flat_map (λ t. map (fact_of t) (tenant_facts w t)) (range_with_len 0 m)) rows c.loop-place.invariant.0 in
    subst (Needed w) (sym facts) (all_needed w shaped (λ t within. c.loop-place.invariant.1 t (subst (λ m. t < m) (sym rows) within)))
