use Rattle.std.proofs.Common.{◌∙◌, List, sym, subst}
use Rattle.std.proofs.lemmas.Result.{IfOk-weaker}
use Rattle.gq_tag.specs.Tag.{file_place}
use Rattle.gq_laws.specs.declared.ops.Op.{Op}
use Rattle.gq_laws.specs.Operations.{Tagged}
use Rattle.gq_order.proofs.Agreeing.{read_off_is}
use Rattle.gq_order.proofs.Running.{run_is, run_tagged}
use Rattle.gq_order.proofs.history.operations.Goals as goal

pub returns-clause-fitting : goal.returns-clause-fitting
returns-clause-fitting c =
    IfOk-weaker c.read_off.result _ _ (λ ops is fits. is ∙ read_off_is c.args.file.tenant (file_place c.args.file) c.args.events.now c.args.answers.now fits) c.read_off.ensures

pub returns-clause-run : goal.returns-clause-run
returns-clause-run c =
    IfOk-weaker c.read_off.result _ _ (λ ops is run. is ∙ run_is c.args.plan.now c.args.file.tenant (file_place c.args.file) c.args.events.now c.args.answers.now c.few_sessions.ensures run) c.read_off.ensures

pub returns-clause-tagged : goal.returns-clause-tagged
returns-clause-tagged c =
    let P : List Op → Type 0 = λ z. Tagged z in
    IfOk-weaker c.read_off.result _ _ (λ ops is run. subst P (sym is) (run_tagged c.args.plan.now c.args.file.tenant (file_place c.args.file) c.args.events.now c.args.answers.now c.few_sessions.ensures run)) c.read_off.ensures
