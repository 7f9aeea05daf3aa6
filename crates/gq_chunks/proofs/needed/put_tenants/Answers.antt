use Rattle.std.proofs.Common.{◌≡◌, ◌<◌, ◌∙◌, Some, length, sym, ap, arith}
use Rattle.std.specs.Prelude.{slice_get}
use Rattle.std.proofs.lemmas.Option.{slice_get-get_or}
use Rattle.gq_depot.specs.declared.depot.Depot.{Depot}
use Rattle.gq_chunks.specs.Machines.{chunks}
use Rattle.gq_chunks.proofs.Needing.{wrote_tenant}
use Rattle.gq_chunks.proofs.needed.put_tenants.Goals as goal

pub loop-place-preserved : goal.loop-place-preserved
loop-place-preserved c lost losses noted sound =
    let depot : Depot = c.index-depots-place.result in
    let within : c.loop-place.place < length c.args.depots.now = omega (arith, c.loop-place-test.true, c.min-tenants.ensures) in
    let at : slice_get c.args.depots.now c.loop-place.place ≡ Some depot = slice_get-get_or c.args.depots.now c.loop-place.place depot within ∙ ap (λ (d : Depot). Some d) (sym c.index-depots-place.is) in
    wrote_tenant (chunks c.args.plan.now c.args.node lost losses c.args.depots.now noted) c.loop-place.place c.args.facts.now.items c.loop-place.facts.items c.put_tenant.new.facts.items depot at (c.loop-place.invariant lost losses noted sound) (c.in_ok-put_tenant.ensures (sound c.loop-place.place depot at))
