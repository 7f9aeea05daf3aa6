-- One node more has joined, where it is heard.
use Rattle.std.proofs.Common.{◌≡◌, ◌∙◌, sym, ap, subst}
use Rattle.gq_grid.specs.Grid.{with_server}
use Rattle.gq_grid.specs.Sets.{servers}
use Rattle.gq_replace.specs.Plans.{place_of}
use Rattle.gq_node.specs.Joining.{hears_joined}
use Rattle.gq_node.specs.Tables.{Tables, LeadsAll}
use Rattle.gq_node.proofs.Giving.{with_joined, joins_not, joins_so}
use Rattle.gq_node.proofs.tables.Core.join.Goals as goal

pub returns-then-hears : goal.returns-then-hears
returns-then-hears c =
    let w : Tables = c.args.self.now in
    let v : Tables = record { plan = c.self.inside.plan; here = record { node = c.self.inside.node; lost = c.self.inside.lost }; desk = c.self.inside.desk; store = c.self.inside.store; given = c.self.inside.lacks.items; joined = c.self.inside.joined; peers = c.self.inside.peers.items; session_states = c.self.inside.session_states.items } in
    let is : v ≡ w = c.self.view_is in
    let more : servers c.insert.new.self ≡ with_server (place_of c.args.from) (servers w.joined) =
    c.insert.ensures ∙ ap (λ n. with_server n (servers c.self.inside.joined)) (c.from.ensures ∙ c.place_of.ensures) ∙ ap (λ (x : Tables). with_server (place_of c.args.from) (servers x.joined)) is in
    record {
      leads = subst (λ (x : Tables). LeadsAll w (hears_joined c.args.from c.args.losses) (with_joined x c.insert.new.self)) (sym is)
          (joins_so w c.args.from c.args.losses c.insert.new.self (λ t. sym (c.hears.ensures.hears t) ∙ c.if-hears.true) more);
    }

pub returns-else-hears : goal.returns-else-hears
returns-else-hears c = record { leads = joins_not c.args.self.now c.args.from c.args.losses (λ t. sym (c.hears.ensures.hears t) ∙ c.if-hears.false) }
