use Rattle.std.proofs.Common.{◌≡◌, ◌<◌, length, Option, ap, arith}
use Rattle.std.specs.Prelude.{unwrap_or}
use Rattle.gq_desk.specs.declared.plans.TenantRow.{TenantRow}
use Rattle.gq_desk.specs.CheckedPlan.{row_at, nobody}
use Rattle.gq_depot.specs.Depots.{standing_of}
use Rattle.gq_chunks.proofs.Needing.{wrote_on, wrote_as, none_first, all_places, wrote_none}
use Rattle.gq_chunks.proofs.needed.put_sessions.Goals as goal

pub loop-place-init : goal.loop-place-init
loop-place-init c lacks fit gone long = wrote_none c.args.plan.now c.args.tenant (length c.args.depot.now.stock.sessions.items) c.args.facts.now.items _ _ (none_first (standing_of c.args.depot.now) lacks)

pub loop-place-preserved : goal.loop-place-preserved
loop-place-preserved c lacks fit gone long =
    let row : (row_at c.args.plan.now c.args.tenant).sessions ≡ c.row.result.now.sessions = ap (λ (o : Option TenantRow). (unwrap_or o nobody).sessions) c.row.ensures.row in
    let within : c.loop-place.place < length c.args.depot.now.stock.sessions.items = omega (arith, c.loop-place-test.true, long, row) in
    wrote_on c.args.plan.now c.args.tenant (length c.args.depot.now.stock.sessions.items) c.args.facts.now.items c.loop-place.facts.items c.put_session.new.facts.items _ _ _ (c.loop-place.invariant lacks fit gone long) (c.in_ok-put_session.ensures lacks fit gone within)

pub returns : goal.returns
returns c lacks fit gone long =
    let row : (row_at c.args.plan.now c.args.tenant).sessions ≡ c.row.result.now.sessions = ap (λ (o : Option TenantRow). (unwrap_or o nobody).sessions) c.row.ensures.row in
    let all : length c.args.depot.now.stock.sessions.items ≡ c.loop-place.place = omega (arith, c.loop-place-test.false, c.loop-place.auto.place-end, long, row) in
    wrote_as c.args.plan.now c.args.tenant (length c.args.depot.now.stock.sessions.items) c.args.facts.now.items c.loop-place.facts.items _ _ _ (c.loop-place.invariant lacks fit gone long) (all_places c.args.depot.now lacks c.loop-place.place all gone)
