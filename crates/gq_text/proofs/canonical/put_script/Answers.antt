use Rattle.std.proofs.lemmas.Result.{on_ok_weaker, on_err_weaker}
use Rattle.gq_lines.proofs.Extending.{extends_more}
use Rattle.gq_text.proofs.ScriptBack.{scripts_read_back}
use Rattle.gq_text.proofs.canonical.put_script.Goals as goal

pub returns-clause-err : goal.returns-clause-err
returns-clause-err c = on_err_weaker c.put_events.result (extends_more _ _ _ _ c.in_ok-put_plan.ensures.ok) c.put_events.ensures.err

pub returns-clause-back : goal.returns-clause-back
returns-clause-back c = on_ok_weaker c.put_events.result (scripts_read_back c.args.plan.now c.args.events.now c.in_ok-put_plan.ensures.is) c.put_events.ensures.fits
