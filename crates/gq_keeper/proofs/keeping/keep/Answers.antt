use Rattle.std.proofs.Common.{◌++◌, sym, ◌∙◌, ap}
use Rattle.std.specs.Prelude.{◌==◌}
use Rattle.gq_keeper.proofs.Instants.{elapses_none, elapses_only, elapses_then}
use Rattle.gq_keeper.proofs.Kept.{some_kept, some_number, some_idle, appending, syncing}
use Rattle.gq_keeper.proofs.keeping.keep.Goals as goal

pub returns-then-is_empty-clause-crash : goal.returns-then-is_empty-clause-crash
returns-then-is_empty-clause-crash g c = elapses_none _ _ _

pub returns-then-number-eq18446744073709551615-clause-crash : goal.returns-then-number-eq18446744073709551615-clause-crash
returns-then-number-eq18446744073709551615-clause-crash g c = elapses_none _ _ _

pub returns-in_err-seal_batch-clause-crash : goal.returns-in_err-seal_batch-clause-crash
returns-in_err-seal_batch-clause-crash g c = elapses_none _ _ _

pub returns-in_err-append-clause-idle : goal.returns-in_err-append-clause-idle
returns-in_err-append-clause-idle g c = some_idle _ _ _ (ap (λ n. n == 0) (sym c.args.lines.now.ok.0) ∙ sym c.is_empty.ensures ∙ c.if-is_empty.false)

pub returns-in_err-append-clause-crash : goal.returns-in_err-append-clause-crash
returns-in_err-append-clause-crash g c =
    elapses_only _ _ _ _ _ _ c.append.ensures.crash (λ left l. appending (g.L.Log.synced c.args.log.now) (g.L.Log.seen c.args.log.now) _ _ left c.requires (c.as_slice.ensures.value ∙ c.in_ok-seal_batch.ensures.ok ∙ some_kept _ _ (ap (λ n. n == 0) (sym c.args.lines.now.ok.0) ∙ sym c.is_empty.ensures ∙ c.if-is_empty.false)) l)

pub returns-in_err-sync-clause-idle : goal.returns-in_err-sync-clause-idle
returns-in_err-sync-clause-idle g c = some_idle _ _ _ (ap (λ n. n == 0) (sym c.args.lines.now.ok.0) ∙ sym c.is_empty.ensures ∙ c.if-is_empty.false)

pub returns-in_err-sync-clause-crash : goal.returns-in_err-sync-clause-crash
returns-in_err-sync-clause-crash g c =
    elapses_then _ _ _ _ _ _ _ _ _ c.append.ensures.crash c.sync.ensures.crash
    (λ left l. appending (g.L.Log.synced c.args.log.now) (g.L.Log.seen c.args.log.now) _ _ left c.requires (c.as_slice.ensures.value ∙ c.in_ok-seal_batch.ensures.ok ∙ some_kept _ _ (ap (λ n. n == 0) (sym c.args.lines.now.ok.0) ∙ sym c.is_empty.ensures ∙ c.if-is_empty.false)) l)
    (λ left l. syncing (g.L.Log.synced c.args.log.now) _ _ (g.L.Log.seen c.args.log.now) _ _ left c.append.ensures.synced c.in_ok-append.ensures.seen c.requires (c.as_slice.ensures.value ∙ c.in_ok-seal_batch.ensures.ok ∙ some_kept _ _ (ap (λ n. n == 0) (sym c.args.lines.now.ok.0) ∙ sym c.is_empty.ensures ∙ c.if-is_empty.false)) l)

pub returns-clause-synced : goal.returns-clause-synced
returns-clause-synced g c =
    c.in_ok-sync.ensures.synced ∙ c.in_ok-append.ensures.seen ∙ ap (λ s. s ++ c.as_slice.result.now) c.requires ∙ ap (λ b. g.L.Log.synced c.args.log.now ++ b) (c.as_slice.ensures.value ∙ c.in_ok-seal_batch.ensures.ok ∙ some_kept _ _ (ap (λ n. n == 0) (sym c.args.lines.now.ok.0) ∙ sym c.is_empty.ensures ∙ c.if-is_empty.false))

pub returns-clause-number : goal.returns-clause-number
returns-clause-number g c = some_number c.args.number.now c.args.lines.now.items (ap (λ n. n == 0) (sym c.args.lines.now.ok.0) ∙ sym c.is_empty.ensures ∙ c.if-is_empty.false)

pub returns-clause-idle : goal.returns-clause-idle
returns-clause-idle g c = some_idle _ _ _ (ap (λ n. n == 0) (sym c.args.lines.now.ok.0) ∙ sym c.is_empty.ensures ∙ c.if-is_empty.false)

pub returns-clause-crash : goal.returns-clause-crash
returns-clause-crash g c =
    elapses_then _ _ _ _ _ _ _ _ _ c.append.ensures.crash c.sync.ensures.crash
    (λ left l. appending (g.L.Log.synced c.args.log.now) (g.L.Log.seen c.args.log.now) _ _ left c.requires (c.as_slice.ensures.value ∙ c.in_ok-seal_batch.ensures.ok ∙ some_kept _ _ (ap (λ n. n == 0) (sym c.args.lines.now.ok.0) ∙ sym c.is_empty.ensures ∙ c.if-is_empty.false)) l)
    (λ left l. syncing (g.L.Log.synced c.args.log.now) _ _ (g.L.Log.seen c.args.log.now) _ _ left c.append.ensures.synced c.in_ok-append.ensures.seen c.requires (c.as_slice.ensures.value ∙ c.in_ok-seal_batch.ensures.ok ∙ some_kept _ _ (ap (λ n. n == 0) (sym c.args.lines.now.ok.0) ∙ sym c.is_empty.ensures ∙ c.if-is_empty.false)) l)
