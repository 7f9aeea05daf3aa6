use Rattle.std.proofs.Common.{◌∙◌, ap, length, map, sym}
use Rattle.std.proofs.lemmas.Result.{IfOk-weaker}
use Rattle.gq_tag.specs.Tag.{file_place}
use Rattle.gq_text.specs.Input.{event_of}
use Rattle.gq_lines.specs.Lines.{lines_of}
use Rattle.gq_files.proofs.Picturing.{as_many, picture_written}
use Rattle.gq_files.proofs.picture.picture_of_lines.Goals as goal

pub picture_text-requires-clause-places : goal.picture_text-requires-clause-places
picture_text-requires-clause-places c =
    let run = c.in_ok-world.ensures in
    ap length run.places ∙ (as_many c.args.file.tenant 0 (map (event_of c.args.plan) (lines_of c.args.lines.now)) ∙ sym (ap length run.events))

pub returns : goal.returns
returns c =
    let run = c.in_ok-world.ensures in let a = c.in_ok-world.answered in
    IfOk-weaker c.picture_text.result _ _
    (λ text is_told. picture_written c.args.plan c.plan.result.now c.args.file.tenant (file_place c.args.file) (lines_of c.args.lines.now) c.args.name.now a.events.items a.places.items text.items
    (c.plan.ensures ∙ run.plan) run.events run.places is_told)
    c.picture_text.ensures
