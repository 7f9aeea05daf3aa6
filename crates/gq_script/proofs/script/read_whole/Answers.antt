use Rattle.std.proofs.Common.{◌≡◌, Err, length, vec_len, arith, ap}
use Rattle.gq_script.specs.declared.script.ReadFault.TheVariants.{TooBig}
use Rattle.gq_script.proofs.KnownBytesLemmas.{IfSome-of_rest}
use Rattle.gq_script.proofs.script.read_whole.Goals as goal

pub returns-in-Err-clause-big : goal.returns-in-Err-clause-big
returns-in-Err-clause-big g c = λ h.
    let big : c.in-Err.fault ≡ TooBig = cc h in
    let len : vec_len c.loop-turn.all ≡ length c.loop-turn.all.items = omega arith in
    IfSome-of_rest _ _ _ _ _ len c.loop-turn.invariant.kept (c.in-Err.ensures.big (ap Err big))
