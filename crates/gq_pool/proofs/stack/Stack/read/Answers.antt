use Rattle.std.proofs.Common.{◌≡◌, ℕ, ◌<◌, ◌-◌, length, take, ap, ◌∙◌, arith, length-take, length-drop}
use Rattle.std.proofs.lemmas.List.{length-map}
use Rattle.gq_pool.specs.Blocks.{content_of}
use Rattle.gq_pool.proofs.Contents.{read_step, read_end}
use Rattle.gq_pool.proofs.stack.Stack.read.Goals as goal

pub loop-start-preserved : goal.loop-start-preserved
loop-start-preserved c =
    let ns = c.self.inside.nodes.nodes in let i = c.loop-start.i in let s = c.loop-start.start in let len = length c.args.out.now in let e = c.min-end.result in
    let inside : i < length ns = omega (arith, c.requires, ap length c.self.view_is, length-map {A = denote.RawPtr.Ptr × mathlib.Core.List.List ℕ} {B = mathlib.Core.List.List ℕ}) in
    let long : length c.copy_from_slice.new.self ≡ e - s = omega (arith, c.copy_from_slice.ensures.len, length-take {A = ℕ}, length-drop {A = ℕ}) in
    (omega arith, c.read-node.ensures.next, read_step ns c.loop-start.out c.copy_from_slice.new.self i len s e _ inside c.min-end.ensures c.loop-start-test.true c.loop-start.auto.out long (c.copy_from_slice.ensures.after ∙ ap (λ x. take (e - s) x) c.read-node.ensures.bytes) c.loop-start.invariant.2)

pub returns : goal.returns
returns c = read_end c.loop-start.out _ (length c.args.out.now) c.loop-start.start _ c.loop-start.auto.out (omega arith) (c.loop-start.invariant.2 ∙ ap (λ x. content_of (length c.args.out.now) x) c.self.view_is)
