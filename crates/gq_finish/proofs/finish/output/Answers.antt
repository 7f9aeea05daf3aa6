use Rattle.std.proofs.Common.{◌∙◌, ◌++◌, ℕ, List, ap, subst, sym}
use Rattle.std.specs.Prelude.{drop}
use Rattle.std.specs.List.{position_from}
use Rattle.gq_desk.specs.Plans.{is_of}
use Rattle.gq_script.specs.Completing.{missing_newline}
use Rattle.gq_lines.specs.Lines.{lines_of}
use Rattle.gq_finish.specs.declared.finish.FinishFault.TheVariants.{Session}
use Rattle.gq_finish.specs.Finishing.{events_of, CauseOf, Finished}
use Rattle.gq_finish.proofs.Finishing.{above_all, below_one, cause_has, finish_of, rest_of}
use Rattle.gq_finish.proofs.finish.output.Goals as goal
use Rattle.gq_finish.proofs.finish.output.Goals.{then-session-lt1-via-then-session-lt1, then-session-lt1-via-else-session-lt1+then-session-row}

pub returns-then-session-lt1-clause-fault : goal.returns-then-session-lt1-clause-fault
returns-then-session-lt1-clause-fault c =
    let plan = c.in-Ok.plan in let t = c.in-Some.tenant in
    cause_has c.args.name.now c.args.input.now plan (lines_of (drop c.in-Ok.place c.args.input.now)) t c.args.session Session c.requires c.in-Ok.ensures.plan
    (ap (λ w. position_from (is_of w) 0 plan.rows) (sym c.as_bytes.ensures.value) ∙ sym c.in-Some.ensures.place)
    (elim c.then-session-lt1.branch [
      | then-session-lt1-via-then-session-lt1 w ↦ below_one _ c.args.session w.if-session-lt1.true
      | then-session-lt1-via-else-session-lt1+then-session-row w ↦ above_all plan t c.args.session w.row.result.now w.row.ensures.row w.if-session-row.true
    ])

pub returns-in-Ok-put_finish-clause-text : goal.returns-in-Ok-put_finish-clause-text
returns-in-Ok-put_finish-clause-text c =
    let plan = c.in-Ok.plan in let t = c.in-Some.tenant in
    finish_of c.args.name.now c.args.input.now plan (lines_of (drop c.in-Ok.place c.args.input.now)) t c.args.session c.put_missing_newline.new.out.items c.put_finish.new.text.items c.requires c.in-Ok.ensures.plan
    (ap (λ w. position_from (is_of w) 0 plan.rows) (sym c.as_bytes.ensures.value) ∙ sym c.in-Some.ensures.place) c.in-Some.ensures.within
    (c.in-Ok-put_missing_newline.ensures ∙ ap (λ z. z ++ missing_newline c.args.input.now) c.new-text.ensures.items)
    (subst (λ (rest : List ℕ). Finished plan (events_of plan (lines_of rest)) t c.args.session c.put_missing_newline.new.out.items c.put_finish.new.text.items) (rest_of c.in-Ok.place c.args.input.now) c.in-Ok-put_finish.ensures.ok)

pub returns-in-Err-put_finish-clause-fault : goal.returns-in-Err-put_finish-clause-fault
returns-in-Err-put_finish-clause-fault c =
    let plan = c.in-Ok.plan in let t = c.in-Some.tenant in
    cause_has c.args.name.now c.args.input.now plan (lines_of (drop c.in-Ok.place c.args.input.now)) t c.args.session c.in-Err-put_finish.fault c.requires c.in-Ok.ensures.plan
    (ap (λ w. position_from (is_of w) 0 plan.rows) (sym c.as_bytes.ensures.value) ∙ sym c.in-Some.ensures.place)
    (subst (λ (rest : List ℕ). CauseOf c.in-Err-put_finish.fault plan (events_of plan (lines_of rest)) t c.args.session) (rest_of c.in-Ok.place c.args.input.now) c.in-Err-put_finish.ensures.fault)
