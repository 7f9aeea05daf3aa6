-- Turn by turn.
use Rattle.std.proofs.Common.{◌≡◌, ◌∙◌, ◌++◌, ◌≤◌, sym, ap, arith}
use Rattle.gq_node.specs.Deciding.{nodes_of_turn}
use Rattle.gq_node.proofs.Naming.{nodes_until, turns_more, no_turns}
use Rattle.gq_node.proofs.tables.Core.nodes_from.Goals as goal

pub loop-turn-init : goal.loop-turn-init
loop-turn-init c = (c.new-nodes.ensures.items ∙ no_turns c.args.self.now c.args.first, omega arith)

pub loop-turn-preserved : goal.loop-turn-preserved
loop-turn-preserved c =
    let low : c.args.first ≤ c.loop-turn.turn = c.loop-turn.invariant.1 in
    (c.in_ok-put_nodes.ensures ∙ ap (λ ns. ns ++ nodes_of_turn c.args.self.now c.loop-turn.turn) c.loop-turn.invariant.0 ∙ sym (turns_more c.args.self.now c.args.first c.loop-turn.turn low), omega (arith, low))

pub returns : goal.returns
returns c = λ t.
    let end : c.loop-turn.turn ≡ 15 = let most = c.loop-turn.auto.turn-end in let few = c.requires in omega (arith, c.loop-turn-test.false, most (omega (arith, few))) in
    c.loop-turn.invariant.0 ∙ ap (nodes_until c.args.self.now c.args.first) end
