use Rattle.std.proofs.Common.{ℕ, List, ◌++◌, ap, ◌∙◌, subst}
use Rattle.gq_keeper.specs.Crashes.{LeavesSyncing}
use Rattle.gq_keeper.specs.Durable.{kept_text, number_after}
use Rattle.gq_keeper.proofs.Instants.{elapses_none, elapses_only}
use Rattle.gq_keeper.proofs.starting.append_plan.Goals as goal

pub returns-in_err-batch-clause-crash : goal.returns-in_err-batch-clause-crash
returns-in_err-batch-clause-crash g c = elapses_none _ _ _

pub returns-in_err-keep-clause-crash : goal.returns-in_err-keep-clause-crash
returns-in_err-keep-clause-crash g c =
    elapses_only _ _ _ _ _ _ c.keep.ensures.crash (λ left l. subst (λ (b : List ℕ). LeavesSyncing (g.L.Log.synced c.args.log.now) (g.L.Log.synced c.args.log.now ++ kept_text c.args.number b) left) c.in_ok-batch.ensures l)

pub returns-clause-synced : goal.returns-clause-synced
returns-clause-synced g c = c.in_ok-keep.ensures.synced ∙ ap (λ b. g.L.Log.synced c.args.log.now ++ kept_text c.args.number b) c.in_ok-batch.ensures

pub returns-clause-number : goal.returns-clause-number
returns-clause-number g c = c.in_ok-keep.ensures.number ∙ ap (number_after c.args.number) c.in_ok-batch.ensures

pub returns-clause-crash : goal.returns-clause-crash
returns-clause-crash g c =
    elapses_only _ _ _ _ _ _ c.keep.ensures.crash (λ left l. subst (λ (b : List ℕ). LeavesSyncing (g.L.Log.synced c.args.log.now) (g.L.Log.synced c.args.log.now ++ kept_text c.args.number b) left) c.in_ok-batch.ensures l)
