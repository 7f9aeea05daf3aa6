-- Each node of the plan has joined or is awaited.
use Rattle.std.proofs.Common.{◌≡◌, ◌∙◌, ℕ, List, [], ◌∷◌, ◌++◌, Bool, Vec, Global, length, take, sym, ap, arith}
use Rattle.std.specs.Prelude.{not, filter, slice_index_or}
use Rattle.std.proofs.lemmas.List.{take_all}
use Rattle.gq_replace.specs.Plans.{place_of}
use Rattle.gq_node.specs.Sites.{site_of, nodes_from}
use Rattle.gq_node.specs.Tables.{Tables, has_joined}
use Rattle.gq_node.proofs.Naming.{filter_kept, filter_left}
use Rattle.gq_node.proofs.tables.Core.awaited.Goals as goal
use Rattle.gq_node.proofs.tables.Core.awaited.Goals.{then-not-has_joined+in_ok-grow, else-not-has_joined}

pub loop-node-init : goal.loop-node-init
loop-node-init c = c.new-awaited.ensures.items

pub loop-node-preserved : goal.loop-node-preserved
loop-node-preserved c =
    let w : Tables = c.args.self.now in
    let nodes : List ℕ = c.as_slice-node-items.result.now in
    let at : ℕ = c.loop-node.node-index in
    let test : ℕ → Bool = λ node. not (has_joined w (place_of node)) in
    let its : c.has_joined.result ≡ has_joined w (place_of (slice_index_or nodes at 0)) = c.has_joined.ensures ∙ ap (has_joined w) (c.from.ensures ∙ c.place_of.ensures) in
    elim c.if-not-has_joined.branch [
      | then-not-has_joined+in_ok-grow x ↦ (
          ap (λ (v : Vec ℕ Global). v.items) x.awaited-is
          ∙ x.in_ok-grow.ensures.items
          ∙ ap (λ ns. ns ++ slice_index_or nodes at 0 ∷ []) c.loop-node.invariant
          ∙ filter_kept test nodes at c.loop-node-test.true (ap not (sym its ∙ x.if-not-has_joined.true)))
      | else-not-has_joined x ↦ (
          ap (λ (v : Vec ℕ Global). v.items) x.awaited-is
          ∙ c.loop-node.invariant
          ∙ filter_left test nodes at c.loop-node-test.true (ap not (sym its ∙ x.if-not-has_joined.false)))
    ]

pub returns : goal.returns
returns c = λ t.
    let w : Tables = c.args.self.now in
    let nodes : List ℕ = c.as_slice-node-items.result.now in
    let test : ℕ → Bool = λ node. not (has_joined w (place_of node)) in
    let end : c.loop-node.node-index ≡ length nodes = omega (arith, c.loop-node-test.false, c.loop-node.auto.node-index-end) in
    let all : nodes ≡ nodes_from (site_of w.plan w.here t) 0 = c.as_slice-node-items.ensures.value ∙ c.in_ok-nodes.ensures t in
    c.loop-node.invariant ∙ ap (λ n. filter test (take n nodes)) end ∙ ap (filter test) (take_all (length nodes) nodes (omega arith) ∙ all)
