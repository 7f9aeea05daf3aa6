use Rattle.std.proofs.Common.{ℕ, ◌<◌, ◌≡◌, length, ap, ◌∙◌, arith}
use Rattle.std.proofs.lemmas.List.{length-map}
use Rattle.gq_pool.proofs.Copied.{copy_step}
use Rattle.gq_pool.specs.Linked.{bytes_at}
use Rattle.gq_pool.proofs.stack.Stack.copy.Goals as goal

pub loop-i-preserved : goal.loop-i-preserved
loop-i-preserved c =
    let ns = c.self.inside.nodes.nodes in let i = c.loop-i.i in
    let inside : i < length ns = omega (arith, c.loop-i-test.true, c.requires.count, ap length c.self.view_is, length-map {A = denote.RawPtr.Ptr × mathlib.Core.List.List ℕ} {B = mathlib.Core.List.List ℕ}) in
    let same : c.set.new.self ≡ bytes_at i ns = c.set.ensures ∙ c.read-node.ensures.bytes in
    let more = ap length c.push.ensures in
    let fewer = ap length c.pop-block.ensures in
    (c.read-node.ensures.next, omega (arith, more, c.loop-i.invariant.1), omega (arith, fewer, c.loop-i.invariant.2), rw c.push.ensures (copy_step ns c.loop-i.turned c.set.new.self i _ inside same c.loop-i.invariant.3))
