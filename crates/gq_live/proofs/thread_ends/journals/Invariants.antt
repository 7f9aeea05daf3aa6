use Rattle.std.proofs.Common.{◌≡◌, ◌≢◌, true, None, length, vec_len}
use Rattle.std.specs.Option.{ForSome}
use Rattle.gq_live.specs.Runs.{AllLawful}
use Rattle.std.specs.List.{filter_map}
use Rattle.std.specs.Result.{result_err}
use Rattle.gq_live.specs.Faults.{TellsOf}
use Rattle.gq_session.specs.declared.records.LiveFault.TheVariants as FaultIs
use Rattle.gq_live.proofs.thread_ends.journals.Given as goal

abbrev pub invariant-loop-end : goal.invariant-loop-end
invariant-loop-end g l = record {
  lawful : AllLawful l.all.items;
  count : l.fault ≡ None → vec_len l.all ≡ length l.yielded;
  gate : g.G.Gate.never ≡ true → ForSome l.fault (λ fault. fault ≢ FaultIs.Gate);
  told : TellsOf (filter_map (λ end. result_err end.result) l.yielded) l.fault;
}
