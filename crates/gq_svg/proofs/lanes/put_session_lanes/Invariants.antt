use Rattle.std.proofs.Common.{◌≡◌, ◌++◌}
use Rattle.gq_svg.specs.Lanes.{session_lanes}
use Rattle.gq_svg.proofs.lanes.put_session_lanes.Given as goal

-- the lanes of the sessions so far are appended
abbrev pub invariant-loop-before : goal.invariant-loop-before
invariant-loop-before l = l.out.items ≡ l.fn.out.items ++ session_lanes l.edge l.before
