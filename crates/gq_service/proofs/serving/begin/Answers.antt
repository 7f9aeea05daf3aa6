-- What is left while the first journal is written.
use Rattle.std.proofs.Common.{List, ℕ, subst, inl, inr, ⊎_elim}
use Rattle.gq_journal.specs.Batches.{whole_lines}
use Rattle.gq_keeper.specs.Restarting.{Restarts}
use Rattle.gq_keeper.proofs.Instants.{elapses_only}
use Rattle.gq_service.proofs.serving.begin.Goals as goal

pub returns-in_err-renew-clause-crash : goal.returns-in_err-renew-clause-crash
returns-in_err-renew-clause-crash g c = elapses_only _ _ _ _ _ _ c.renew.ensures.crash
    (λ left l. ⊎_elim (λ old. inl old) (λ r. inr (subst (λ (t : List ℕ). Restarts g.M.Machine.recalls g.M.Machine.readable g.M.Lasting.blank g.M.Lasting.rests (whole_lines t) c.args.machine.now left) c.text.ensures r)) l)

pub returns-clause-crash : goal.returns-clause-crash
returns-clause-crash g c = elapses_only _ _ _ _ _ _ c.renew.ensures.crash
    (λ left l. ⊎_elim (λ old. inl old) (λ r. inr (subst (λ (t : List ℕ). Restarts g.M.Machine.recalls g.M.Machine.readable g.M.Lasting.blank g.M.Lasting.rests (whole_lines t) c.args.machine.now left) c.text.ensures r)) l)
