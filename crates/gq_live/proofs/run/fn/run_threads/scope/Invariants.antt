use Rattle.std.proofs.Common.{◌≢◌}
use Rattle.std.specs.Option.{ForSome}
use Rattle.gq_session.specs.declared.records.LiveFault.TheVariants as FaultIs
use Rattle.gq_live.proofs.run.fn.run_threads.scope.Given as goal

abbrev pub invariant-loop-site : goal.invariant-loop-site
invariant-loop-site g l = ForSome l.fault (λ fault. fault ≢ FaultIs.Gate)

abbrev pub invariant-loop-session_state : goal.invariant-loop-session_state
invariant-loop-session_state g l = ForSome l.fault (λ fault. fault ≢ FaultIs.Gate)
