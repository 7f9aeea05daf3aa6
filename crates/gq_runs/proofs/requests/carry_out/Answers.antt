use Rattle.std.proofs.Common.{IfSome, subst, sym}
use Rattle.gq_script_words.specs.declared.words.Request.{Request}
use Rattle.gq_streams.specs.Watched.{inner_of}
use Rattle.gq_runs.specs.Requests.{Writes}
use Rattle.gq_runs.proofs.requests.carry_out.Goals as goal

-- the words of a file's order go to the run that writes it
pub returns-in-Ok-order_run-clause-ok : goal.returns-in-Ok-order_run-clause-ok
returns-in-Ok-order_run-clause-ok g c =
    subst (λ (r : Request). IfSome (g.R.Read.remaining (inner_of c.args.reader.now)) (λ input. Writes r input (g.W.Write.contents (inner_of c.args.writer.now)) (g.W.Write.contents (inner_of c.order_run.new.writer)))) (sym c.in-Order.is) c.in-Ok-order_run.ensures.ok
