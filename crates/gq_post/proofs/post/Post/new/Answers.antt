-- No message was sent.
use Rattle.std.proofs.Common.{◌≡◌, arith}
use Rattle.gq_post.proofs.Sending.{empty_counted, empty_view}
use Rattle.gq_post.proofs.post.Post.new.Goals as goal

pub invariant_of-result : goal.invariant_of-result
invariant_of-result c = rw c.loop-tenant.invariant (empty_counted c.new-copies.result.slots c.loop-tenant._tenant c.new-copies.ensures.empty)

pub returns : goal.returns
returns c =
    let all : c.loop-tenant._tenant ≡ c.args.tenants = omega arith in
    rw (c.loop-tenant.invariant, all) (empty_view c.new-copies.result.slots c.args.tenants)
