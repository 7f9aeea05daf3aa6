-- One session after another.
use Rattle.std.proofs.Common.{◌≡◌, ◌∙◌, ℕ, ◌<◌, ◌≤◌, length, refl, sym, ap, subst, arith, Option}
use Rattle.std.specs.Prelude.{unwrap_or, ◌*◌}
use Rattle.gq_desk.specs.declared.plans.TenantRow.{TenantRow}
use Rattle.gq_desk.specs.CheckedPlan.{CheckedPlan, nobody, row_at}
use Rattle.gq_replace.specs.declared.numbers.TheConstants.{NUMBERS_OF_A_LOSS}
use Rattle.gq_node.specs.Opening.{Reserves}
use Rattle.gq_node.specs.Shape.{IsShaped}
use Rattle.gq_node.specs.Tables.{Tables}
use Rattle.gq_node.proofs.Bereaving.{none_to, next_to, all_to}
use Rattle.gq_node.proofs.tables.Core.reserve_all.Goals as goal

pub loop-place-init : goal.loop-place-init
loop-place-init c = (refl, λ lost agrees. none_to c.args.self.now c.args.tenant lost c.args.losses agrees)

pub reserve_at-requires-clause-tenant : goal.reserve_at-requires-clause-tenant
reserve_at-requires-clause-tenant c = subst (λ (p : CheckedPlan). c.args.tenant < length p.rows) (sym c.loop-place.invariant.0) c.requires.tenant

pub reserve_at-requires-clause-place : goal.reserve_at-requires-clause-place
reserve_at-requires-clause-place c =
    let t : ℕ = c.args.tenant in
    let rows : (row_at c.args.self.now.plan t).sessions ≡ c.row.result.now.sessions = ap (λ (w : Tables). (row_at w.plan t).sessions) (sym c.self.view_is) ∙ ap (λ (o : Option TenantRow). (unwrap_or o nobody).sessions) c.row.ensures.row in
    subst (λ (p : CheckedPlan). c.loop-place.place < (row_at p t).sessions) (sym c.loop-place.invariant.0) (subst (λ n. c.loop-place.place < n) (sym rows) c.loop-place-test.true)

pub loop-place-preserved : goal.loop-place-preserved
loop-place-preserved c =
    let w : Tables = c.args.self.now in
    let t : ℕ = c.args.tenant in
    let shaped : IsShaped w = subst IsShaped c.self.view_is c.self.invariant in
    let rows : (row_at w.plan t).sessions ≡ c.row.result.now.sessions = ap (λ (x : Tables). (row_at x.plan t).sessions) (sym c.self.view_is) ∙ ap (λ (o : Option TenantRow). (unwrap_or o nobody).sessions) c.row.ensures.row in
    let inside : c.loop-place.place < (row_at w.plan t).sessions = subst (λ n. c.loop-place.place < n) (sym rows) c.loop-place-test.true in
    let step : Reserves c.loop-place.self t c.loop-place.place (c.args.losses * NUMBERS_OF_A_LOSS) c.reserve_at.new.self =
    subst (λ n. Reserves c.loop-place.self t c.loop-place.place (n * NUMBERS_OF_A_LOSS) c.reserve_at.new.self) c.from-number.ensures c.reserve_at.ensures in (
      c.reserve_at.ensures.plan ∙ c.loop-place.invariant.0,
      (λ lost agrees. next_to w c.loop-place.self c.reserve_at.new.self t c.loop-place.place lost c.args.losses shaped c.requires.tenant c.requires.new inside (c.loop-place.invariant.1 lost agrees) step),
    )

pub returns : goal.returns
returns c = λ lost agrees.
    let w : Tables = c.args.self.now in
    let t : ℕ = c.args.tenant in
    let shaped : IsShaped w = subst IsShaped c.self.view_is c.self.invariant in
    let rows : (row_at w.plan t).sessions ≡ c.row.result.now.sessions = ap (λ (x : Tables). (row_at x.plan t).sessions) (sym c.self.view_is) ∙ ap (λ (o : Option TenantRow). (unwrap_or o nobody).sessions) c.row.ensures.row in
    let past : (row_at w.plan t).sessions ≤ c.loop-place.place = omega (arith, rows, c.loop-place-test.false) in
    all_to w c.loop-place.self t lost c.args.losses c.loop-place.place (shaped.sessions t c.requires.tenant) past (c.loop-place.invariant.1 lost agrees)
