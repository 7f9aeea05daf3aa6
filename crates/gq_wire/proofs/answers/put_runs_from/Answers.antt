-- One volume more.
use Rattle.std.proofs.Common.{◌∙◌, ℕ, Vec, Global, sym, ap}
use Rattle.std.proofs.lemmas.Result.{on_err_weaker}
use Rattle.gq_lines.proofs.Extending.{extends_more}
use Rattle.gq_wire.proofs.Runs.{goes_on, ends}
use Rattle.gq_wire.proofs.answers.put_runs_from.Goals as goal
use Rattle.gq_wire.proofs.answers.put_runs_from.Goals.{then-are_alike, else-are_alike+in_ok-put_run}

pub loop-volume-preserved : goal.loop-volume-preserved
loop-volume-preserved c = elim c.if-are_alike.branch [
  | then-are_alike w ↦ (
      goes_on c.args.out.now.items c.loop-volume.out.items c.if-are_alike.out.items c.args.first.now c.loop-volume.run c.if-are_alike.run c.args.volumes.now c.loop-volume.volume-index c.loop-volume.times c.if-are_alike.times
      c.loop-volume-test.true c.loop-volume.invariant (sym c.are_alike.ensures ∙ w.if-are_alike.true) (ap (λ (v : Vec ℕ Global). v.items) w.out-is) w.run-is w.times-is)
  | else-are_alike+in_ok-put_run w ↦ (
      ends c.args.out.now.items c.loop-volume.out.items c.if-are_alike.out.items c.args.first.now c.loop-volume.run c.if-are_alike.run c.args.volumes.now c.loop-volume.volume-index c.loop-volume.times c.if-are_alike.times
      c.loop-volume-test.true c.loop-volume.invariant (sym c.are_alike.ensures ∙ w.if-are_alike.false) (ap (λ (v : Vec ℕ Global). v.items) w.out-is ∙ w.in_ok-put_run.ensures.ok) w.run-is w.times-is)
]

pub returns-clause-err : goal.returns-clause-err
returns-clause-err c = on_err_weaker c.put_run-2.result (extends_more _ _ _ _ c.loop-volume.invariant.0.text) c.put_run-2.ensures.err
