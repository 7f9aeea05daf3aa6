use Rattle.std.proofs.Common.{◌-◌, subst, take, drop, length}
use Rattle.gq_script.specs.declared.stepping.Stage.{Stage}
use Rattle.gq_lines.specs.Lines.{lines_of}
use Rattle.gq_text.specs.PlanText.{plan_of}
use Rattle.gq_script.specs.Stepping.{HasAnswered, MissesGo}
use Rattle.gq_script.proofs.Turns.{goes_on, is_plan, nothing_yet, rows_later, told_more}
use Rattle.gq_script.proofs.stepping.answers_from.Goals as goal

pub returns-then-are_rows-clause-after : goal.returns-then-are_rows-clause-after
returns-then-are_rows-clause-after g c =
    let P : Stage → Type 0 = λ stage. HasAnswered stage (lines_of (take c.args.done c.args.text.now)) in
    rows_later c.args.text.now c.args.done c.in-Plan.missing c.requires.ends c.if-missing-ge-FIRST_ROW.true (subst P c.in-Plan.is c.requires.after) (subst (λ room. MissesGo room (lines_of (take (length c.args.text.now - c.args.done) (drop c.args.done c.args.text.now)))) c.has_room.ensures (c.are_rows.ensures c.if-are_rows.true))

pub returns-then-are_rows-clause-text : goal.returns-then-are_rows-clause-text
returns-then-are_rows-clause-text g c =
    let P : Stage → Type 0 = λ stage. HasAnswered stage (lines_of (take c.args.done c.args.text.now)) in
    let before = subst P c.in-Plan.is c.requires.after in
    let after = rows_later c.args.text.now c.args.done c.in-Plan.missing c.requires.ends c.if-missing-ge-FIRST_ROW.true before (subst (λ room. MissesGo room (lines_of (take (length c.args.text.now - c.args.done) (drop c.args.done c.args.text.now)))) c.has_room.ensures (c.are_rows.ensures c.if-are_rows.true)) in
    nothing_yet c.args.text.now (take c.args.done c.args.text.now) c.new.result.items before.0 after.0 before.2 after.2 c.new.ensures.items

pub returns-in-Ok-clause-after : goal.returns-in-Ok-clause-after
returns-in-Ok-clause-after g c =
    let P : Stage → Type 0 = λ stage. HasAnswered stage (lines_of (take c.args.done c.args.text.now)) in
    let before = subst P c.in-Lines.is c.requires.after in
    goes_on c.args.text.now c.args.done c.in-Lines.world.tables c.answers.new.world.tables before.0 c.requires.ends before.1 c.in-Ok.ensures.plan c.in-Ok.ensures.stands before.2

pub returns-in-Ok-clause-text : goal.returns-in-Ok-clause-text
returns-in-Ok-clause-text g c =
    let P : Stage → Type 0 = λ stage. HasAnswered stage (lines_of (take c.args.done c.args.text.now)) in
    let before = subst P c.in-Lines.is c.requires.after in
    told_more c.args.text.now c.in-Ok.told.items c.args.done c.in-Lines.world.tables.plan before.0 c.requires.ends before.1 (c.in-Ok.ensures.text _ before.2)

pub returns-in-Ok-clause-plan : goal.returns-in-Ok-clause-plan
returns-in-Ok-clause-plan g c = λ _.
    let P : Stage → Type 0 = λ stage. HasAnswered stage (lines_of (take c.args.done c.args.text.now)) in
    let before = subst P c.in-Lines.is c.requires.after in
    let after = goes_on c.args.text.now c.args.done c.in-Lines.world.tables c.answers.new.world.tables before.0 c.requires.ends before.1 c.in-Ok.ensures.plan c.in-Ok.ensures.stands before.2 in
    is_plan (plan_of (lines_of c.args.text.now)) (c.answers.new.world.tables.plan, after.0) after.1
