use Rattle.std.proofs.Common.{ℕ, ◌≤◌, List, Ok, arith, length, subst}
use Rattle.std.specs.Prelude.{IsOk}
use Rattle.gq_lines.specs.Lines.{lines_of}
use Rattle.gq_text.specs.PlanText.{plan_of}
use Rattle.gq_script.specs.declared.script.RunFault.{RunFault}
use Rattle.gq_streams.specs.Watched.{inner_of}
use Rattle.gq_script.specs.declared.script.TheConstants.{MOST_INPUT}
use Rattle.gq_script.proofs.Alone.{whole_answered}
use Rattle.gq_script.proofs.script.run.Goals as goal

pub returns-clause-lines : goal.returns-clause-lines
returns-clause-lines g c =
    let read = c.in_ok-input.input.items in
    let small : length c.in_ok-input.input.items ≤ MOST_INPUT = omega (arith, c.in_ok-input.ensures.bound) in
    let plan = subst (λ (xs : List ℕ). IsOk (plan_of (lines_of xs))) c.as_slice.ensures.value c.in_ok-text.ensures.plan in
    whole_answered {E = RunFault} (Ok tt) (g.R.Read.remaining (inner_of c.args.reader.now)) read c.in_ok-input.ensures.all small plan
