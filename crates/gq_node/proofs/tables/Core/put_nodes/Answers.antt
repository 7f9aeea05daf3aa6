-- At each place the node is of the turn or is not.
use Rattle.std.proofs.Common.{◌≡◌, ◌≢◌, ◌∙◌, ℕ, ◌*◌, ◌<◌, List, ◌∷◌, ◌++◌, [], Vec, Global, sym, ap, arith, append_assoc, append-nil}
use Rattle.gq_grid.specs.declared.TheConstants.{MOST_SERVERS}
use Rattle.gq_grid.specs.Grid.{Grid}
use Rattle.gq_replace.specs.Plans.{times, node_at}
use Rattle.gq_node.specs.Sites.{Here, plan_in}
use Rattle.gq_node.specs.Tables.{Tables}
use Rattle.gq_node.proofs.Naming.{nodes_below, nodes_more, nodes_same}
use Rattle.gq_node.proofs.tables.Core.put_nodes.Goals as goal
use Rattle.gq_node.proofs.tables.Core.put_nodes.Goals.{then-times-turn+in_ok-grow, else-times-turn}

pub loop-place-init : goal.loop-place-init
loop-place-init c = sym (append-nil c.args.nodes.now.items)

pub loop-place-preserved : goal.loop-place-preserved
loop-place-preserved c =
    let here : Here = c.args.self.now.here in
    let turn : ℕ = c.args.turn in
    let place : ℕ = c.loop-place.place in
    let before : List ℕ = c.args.nodes.now.items in
    let within : place < MOST_SERVERS = omega (arith, c.loop-place-test.true, c.servers-place-end.ensures.bound) in
    let same : here ≡ record { node = c.self.inside.node; lost = c.self.inside.lost } = ap (λ (x : Tables). x.here) (sym c.self.view_is) in
    let its : c.times.result ≡ times (plan_in here.lost) place = c.times.ensures.times ∙ ap (λ (h : Here). times (plan_in h.lost) place) (sym same) in
    elim c.if-times-turn.branch [
      | then-times-turn+in_ok-grow w ↦ (
          let node : w.node_at.result ≡ node_at (plan_in here.lost) place = w.node_at.ensures ∙ ap (λ (h : Here). node_at (plan_in h.lost) place) (sym same) in
          ap (λ (v : Vec ℕ Global). v.items) w.nodes-is
          ∙ w.in_ok-grow.ensures.items
          ∙ ap (λ ns. ns ++ w.node_at.result ∷ []) c.loop-place.invariant
          ∙ ap (λ n. (before ++ nodes_below here turn place) ++ n ∷ []) node
          ∙ append_assoc before (nodes_below here turn place) (node_at (plan_in here.lost) place ∷ [])
          ∙ ap (λ ns. before ++ ns) (sym (nodes_more here turn place within (sym its ∙ w.if-times-turn.true))))
      | else-times-turn w ↦ (
          let not' : times (plan_in here.lost) place ≢ turn = λ e. w.if-times-turn.false (its ∙ e) in
          ap (λ (v : Vec ℕ Global). v.items) w.nodes-is
          ∙ c.loop-place.invariant
          ∙ ap (λ ns. before ++ ns) (sym (nodes_same here turn place within not')))
    ]

pub returns : goal.returns
returns c =
    let here : Here = c.args.self.now.here in
    let all : c.servers-place-end.result ≡ c.args.self.now.plan.grid.rows * c.args.self.now.plan.grid.cols =
    c.servers-place-end.ensures.value ∙ ap (λ (g : Grid). g.rows * g.cols) (c.grid.ensures ∙ ap (λ (x : Tables). x.plan.grid) c.self.view_is) in
    let end : c.loop-place.place ≡ c.servers-place-end.result = omega (arith, c.loop-place-test.false, c.loop-place.auto.place-end) in
    c.loop-place.invariant ∙ ap (λ n. c.args.nodes.now.items ++ nodes_below here c.args.turn n) (end ∙ all)
