-- One volume more, or its fault.
use Rattle.std.proofs.lemmas.Result.{err_from_is_err_and}
use Rattle.gq_setup.proofs.LineByLine.{one_open, open_fault_first}
use Rattle.gq_setup.proofs.setup.Setup.open_many.Goals as goal

pub loop-time-preserved : goal.loop-time-preserved
loop-time-preserved c = one_open _ _ _ _ _ _ _ c.loop-time.invariant c.loop-time-test.true c.in_ok-open.ensures.ok

pub returns-in_err-open-clause-fault : goal.returns-in_err-open-clause-fault
returns-in_err-open-clause-fault c =
    let told = err_from_is_err_and c.from_residual.result c.from_residual.ensures.1 in
    rw (told.1, told.2) (open_fault_first _ _ _ _ _ _ _ c.loop-time.invariant c.loop-time-test.true c.in_err-open.ensures.fault)
