-- A node of the plan that stands in the column.
use Rattle.std.proofs.Common.{◌≡◌, ◌∙◌, true, false, sym, ap}
use Rattle.std.specs.Prelude.{◌&&◌}
use Rattle.gq_grid.specs.Grid.{Grid}
use Rattle.gq_phase.specs.Quorums.{are_peers}
use Rattle.gq_replace.specs.Plans.{place_of}
use Rattle.gq_node.specs.Sites.{site_of, has_node}
use Rattle.gq_node.specs.Tables.{Tables}
use Rattle.gq_node.proofs.tables.Core.is_peer.Goals as goal

pub returns-then-has_node-clause-peer : goal.returns-then-has_node-clause-peer
returns-then-has_node-clause-peer c = λ t.
    let w : Tables = c.args.self.now in
    let has : has_node (site_of w.plan w.here t) c.args.node ≡ true = sym (c.has_node.ensures.has t) ∙ c.if-has_node.true in
    let peers : c.are_peers.result ≡ are_peers w.plan.grid (place_of w.here.node) (place_of c.args.node) =
    c.are_peers.ensures
    ∙ ap (λ (g : Grid). are_peers g c.from.result c.from-then-has_node.result) (c.grid.ensures ∙ ap (λ (x : Tables). x.plan.grid) c.self.view_is)
    ∙ ap (λ n. are_peers w.plan.grid n c.from-then-has_node.result) (c.from.ensures ∙ c.server.ensures)
    ∙ ap (are_peers w.plan.grid (place_of w.here.node)) (c.from-then-has_node.ensures ∙ c.place_of.ensures) in
    peers ∙ sym (ap (λ b. b && are_peers w.plan.grid (place_of w.here.node) (place_of c.args.node)) has)

pub returns-else-has_node-clause-peer : goal.returns-else-has_node-clause-peer
returns-else-has_node-clause-peer c = λ t.
    let w : Tables = c.args.self.now in
    let has : has_node (site_of w.plan w.here t) c.args.node ≡ false = sym (c.has_node.ensures.has t) ∙ c.if-has_node.false in
    c.if-has_node.false ∙ sym (ap (λ b. b && are_peers w.plan.grid (place_of w.here.node) (place_of c.args.node)) has)
