-- The tables of a plan are shaped.
use Rattle.std.proofs.Common.{◌≡◌, ◌∙◌, refl, ap, sym, map, replicate, ◌*◌, ◌≤◌}
use Rattle.gq_grid.specs.declared.TheConstants.{MOST_SERVERS}
use Rattle.gq_replace.specs.Plans.{place_of}
use Rattle.gq_node.specs.Tables.{Tables, first_session_state}
use Rattle.gq_node.specs.Shape.{IsFirst}
use Rattle.gq_node.proofs.Starting.{no_volumes_given, map_none, map_const, first_shaped}
use Rattle.gq_node.proofs.tables.Core.new.Goals as goal

abbrev tables : goal.After-empty → Tables
tables c = record { plan = c.args.plan; here = record { node = c.args.node; lost = c.args.lost }; desk = c.in_ok-desk.desk; store = c.in_ok-store.store; given = c.in_ok-lacks.lacks.items; joined = c.empty.result; peers = c.in_ok-peers.peers.items; session_states = c.in_ok-session_states.session_states.items }

first : (c : goal.After-empty) → IsFirst c.args.plan (record { node = c.args.node; lost = c.args.lost }) (tables c)
first c =
    let server : c.place_of-server.result ≡ place_of c.args.node = c.place_of-server.ensures in
    record {
      plan_is = refl;
      here_is = refl;
      desk = c.in_ok-desk.ensures;
      store = c.in_ok-store.ensures;
      given = c.in_ok-lacks.ensures ∙ ap (λ n. replicate n no_volumes_given) c.tenants-tenants.ensures.value ∙ sym (map_none c.args.plan.rows);
      joined = c.empty.ensures.none;
      peers = c.in_ok-peers.ensures.items ∙ ap (λ n. replicate c.tenants-tenants.result n) server ∙ ap (λ n. replicate n (place_of c.args.node)) c.tenants-tenants.ensures.value ∙ sym (map_const (place_of c.args.node) c.args.plan.rows);
      session_states = c.in_ok-session_states.ensures.session_states ∙ ap (λ n. map (λ row. replicate row.sessions (first_session_state c.args.plan.grid n)) c.args.plan.rows) server;
    }

pub invariant_of-result : goal.invariant_of-result
invariant_of-result c =
    let small : c.args.plan.grid.rows * c.args.plan.grid.cols ≤ MOST_SERVERS = rw (← c.grid.ensures, ← c.servers-servers.ensures.value) c.servers-servers.ensures.bound in
    first_shaped c.args.plan (record { node = c.args.node; lost = c.args.lost }) (tables c) (first c) c.in_ok-session_states.ensures.few c.requires small c.few.ensures

pub returns : goal.returns
returns c = first c
