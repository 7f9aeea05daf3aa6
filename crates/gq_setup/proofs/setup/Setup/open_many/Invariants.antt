-- The volumes so far are open.
use Rattle.gq_setup.proofs.LineByLine.{OpensSome}
use Rattle.gq_setup.proofs.setup.Setup.open_many.Given as goal

abbrev pub invariant-loop-time : goal.invariant-loop-time
invariant-loop-time l = OpensSome l.number l.fn.self l.opening l.times l._time l.self
