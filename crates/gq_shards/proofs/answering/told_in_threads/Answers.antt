use Rattle.std.proofs.Common.{arith}
use Rattle.std.proofs.lemmas.Result.{IfOk-weaker}
use Rattle.gq_shards.proofs.Seeing.{are_told}
use Rattle.gq_shards.proofs.answering.told_in_threads.Goals as goal

pub returns : goal.returns
returns g c =
    IfOk-weaker c.all_of.result _ _
    (λ all every lines dealt. are_told c.args.shards c.args.plan.now lines c.args.dealt.now.marks.items all.items c.in_ok-tried.tried.items c.requires.some dealt.marks (omega (arith, c.in_ok-tried.ensures.size)) every (c.in_ok-tried.ensures.told lines dealt))
    c.all_of.ensures
