-- The tables of a plan are shaped.
use Rattle.std.proofs.Common.{refl}
use Rattle.gq_world.specs.Tables.{Tables}
use Rattle.gq_world.specs.Whole.{IsFirst}
use Rattle.gq_world.proofs.Starting.{first_shaped}
use Rattle.gq_world.proofs.tables.Core.new.Goals as goal

pub invariant_of-result : goal.invariant_of-result
invariant_of-result c =
    let w : Tables = record { plan = c.args.plan; up = c.new-up.result.up; kept = c.all-kept.result; lines = c.in_ok-lines.lines.items; desk = c.in_ok-desk.desk; channels = c.in_ok-post.post; stores = c.in_ok-stores.stores.items; session_states = c.in_ok-session_states.session_states.items } in
    let first : IsFirst c.args.plan w = record {
      plan_is = refl;
      up = rw (← c.grid.ensures) c.new-up.ensures.up;
      kept = rw (← c.grid-2.ensures) c.all-kept.ensures;
      lines = rw (← c.tenants.ensures.value) (c.in_ok-lines.ensures.items);
      desk = c.in_ok-desk.ensures;
      channels = rw (← c.tenants-2.ensures.value) c.in_ok-post.ensures;
      stores = c.in_ok-stores.ensures.stores;
      session_states = c.in_ok-session_states.ensures.session_states;
    } in
    (rw (← c.grid.ensures) c.new-up.ensures.grid, first_shaped c.args.plan w refl first c.in_ok-session_states.ensures.few c.new_stores.ensures.few)
