use Rattle.std.proofs.Common.{◌∙◌}
use Rattle.std.proofs.lemmas.Result.{IfOk-weaker}
use Rattle.gq_tag.specs.Tag.{file_place}
use Rattle.gq_lines.specs.Lines.{lines_of}
use Rattle.gq_files.proofs.Histories.{history_written}
use Rattle.gq_files.proofs.history.history_of_lines.Goals as goal

pub returns : goal.returns
returns c =
    let run = c.in_ok-world.ensures in let a = c.in_ok-world.answered in
    IfOk-weaker c.history_text.result _ _
    (λ text is_told. history_written c.args.plan c.plan.result.now c.args.file.tenant (file_place c.args.file) (lines_of c.args.lines.now) a.events.items a.places.items a.lines text.items
    (c.plan.ensures ∙ run.plan) run.events run.places run.lines is_told)
    c.history_text.ensures
