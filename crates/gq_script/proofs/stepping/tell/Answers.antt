use Rattle.std.proofs.Common.{◌≡◌, [], arith, take, vec_len}
use Rattle.gq_script.specs.Out.{out}
use Rattle.gq_script.proofs.Turns.{not_empty, nothing_told}
use Rattle.gq_script.proofs.stepping.tell.Goals as goal

pub returns-clause-nothing : goal.returns-clause-nothing
returns-clause-nothing g c = λ wrong.
    let none : c.in_ok-told.told.items ≡ [] = nothing_told c.args.text.now (out (take c.args.done c.args.text.now)) c.in_ok-told.told.items c.in_ok-told.ensures.text wrong in
    absurd (not_empty c.in_ok-told.told.items (vec_len c.in_ok-told.told) c.is_empty.result c.is_empty.ensures c.if-is_empty.false (omega arith) none)

pub returns-in_err-write_whole-clause-nothing : goal.returns-in_err-write_whole-clause-nothing
returns-in_err-write_whole-clause-nothing g c = λ wrong.
    let none : c.in_ok-told.told.items ≡ [] = nothing_told c.args.text.now (out (take c.args.done c.args.text.now)) c.in_ok-told.told.items c.in_ok-told.ensures.text wrong in
    absurd (not_empty c.in_ok-told.told.items (vec_len c.in_ok-told.told) c.is_empty.result c.is_empty.ensures c.if-is_empty.false (omega arith) none)
