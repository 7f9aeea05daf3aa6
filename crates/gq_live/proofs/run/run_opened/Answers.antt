use Rattle.std.proofs.Common.{List, subst}
use Rattle.gq_model.specs.declared.events.Line.{Line}
use Rattle.gq_live.specs.Runs.{AllAsked}
use Rattle.gq_live.proofs.run.run_opened.Goals as goal

pub returns-in-Some-clause-asked : goal.returns-in-Some-clause-asked
returns-in-Some-clause-asked g c =
    let all : AllAsked c.as_slice-programs_asked.result.now c.in_ok-cells.sessions.items = rw c.in_ok-cells.ensures.sessions at c.entries-kept.ensures.asked in
    subst (λ (programs : List (List Line)). AllAsked programs c.in_ok-cells.sessions.items) c.as_slice-programs_asked.ensures.value all
