-- The machine with which a start begins.
use Rattle.std.proofs.Common.{rules, ◌≡◌, ◌∙◌, ℕ, List, Ok, sym, ap}
use Rattle.gq_journal.specs.Batches.{lines_text, batches_of}
use Rattle.gq_keeper.specs.Plans.{first_plan}
use Rattle.gq_setup.specs.Setups.{Setup}
use Rattle.gq_service.specs.Gone.{first_taken, somebody_went}
use Rattle.gq_service.specs.Kinds.{kind}
use Rattle.gq_service.proofs.Crashes.{elapses_reading, elapses_beginning, at_any}
use Rattle.gq_service.proofs.WhoWent.{own_as_read, taken_as_read, whole_as_read}
use Rattle.gq_service.proofs.NewNodes.{tells_no_other}
use Rattle.gq_service.proofs.serving.serve_node.Goals as goal

pub returns-in-Err-clause-damaged : goal.returns-in-Err-clause-damaged
returns-in-Err-clause-damaged g c = c.in-Err.ensures.damaged (g.D.Log.seen c.args.disk.now)

pub returns-in-Err-clause-another : goal.returns-in-Err-clause-another
returns-in-Err-clause-another g c = λ is. tells_no_other (kind g.M.Machine.steps g.M.Machine.recalls g.M.Machine.readable g.M.Lasting.blank g.M.Lasting.rests g.M.Served.is_new) c.args.node.now.plan.setup c.args.node.now.number (g.D.Log.seen c.args.disk.now) c.in-Err.fault c.in-Err.ensures.another

pub returns-in_err-machine-clause-form : goal.returns-in_err-machine-clause-form
returns-in_err-machine-clause-form g c = let told = c.in_err-machine.ensures.form (g.D.Log.seen c.args.disk.now) in search rules

pub returns-in_err-machine-clause-damaged : goal.returns-in_err-machine-clause-damaged
returns-in_err-machine-clause-damaged g c = let told = c.in_err-machine.ensures.damaged (g.D.Log.seen c.args.disk.now) in search rules

-- what is read is the journal that is found
pub serve_machine-requires-clause-went : goal.serve_machine-requires-clause-went
serve_machine-requires-clause-went g c = λ is.
    let same : c.as_slice-read.result.now ≡ g.D.Log.seen c.journal_text.new.disk = c.as_slice-read.ensures.value ∙ c.in-Ok.ensures.found is ∙ sym c.in-Ok.ensures.seen in
    c.in_ok-went.ensures.found is ∙ ap (somebody_went c.args.node.now.plan.setup) same

pub serve_machine-requires-clause-begun : goal.serve_machine-requires-clause-begun
serve_machine-requires-clause-begun g c = λ is.
    c.in_ok-machine.ensures.new (Ok c.args.node.now.plan.setup)
    (own_as_read c.args.node.now.plan.setup c.setup.result.now c.args.node.now.plan.text.items c.in_ok-first.first.now c.in_ok-went.went c.in_ok-before.before (c.in_ok-went.ensures.new is) (c.in_ok-first.ensures.new is) c.args.node.now.back c.in_ok-before.ensures)

pub serve_machine-requires-clause-found : goal.serve_machine-requires-clause-found
serve_machine-requires-clause-found g c = λ is.
    let setup : Setup = c.args.node.now.plan.setup in
    let same : c.as_slice-read.result.now ≡ g.D.Log.seen c.journal_text.new.disk = c.as_slice-read.ensures.value ∙ c.in-Ok.ensures.found is ∙ sym c.in-Ok.ensures.seen in
    let text : c.in_ok-first.first.now ≡ lines_text (first_plan (batches_of (g.D.Log.seen c.journal_text.new.disk))) =
    c.in_ok-first.ensures.found is ∙ ap (λ (t : List ℕ). lines_text (first_plan (batches_of t))) same in
    c.in_ok-machine.ensures.new (first_taken setup (g.D.Log.seen c.journal_text.new.disk))
    (taken_as_read setup c.setup.result.now (g.D.Log.seen c.journal_text.new.disk) c.in_ok-first.first.now c.in_ok-went.went c.in_ok-before.before c.setup.ensures (c.in_ok-went.ensures.found is ∙ ap (somebody_went setup) same) text c.in_ok-before.ensures)

pub serve_machine-requires-clause-blank : goal.serve_machine-requires-clause-blank
serve_machine-requires-clause-blank g c = λ is none.
    let same : c.as_slice-read.result.now ≡ g.D.Log.seen c.journal_text.new.disk = c.as_slice-read.ensures.value ∙ c.in-Ok.ensures.found is ∙ sym c.in-Ok.ensures.seen in
    let text : c.in_ok-first.first.now ≡ lines_text (first_plan (batches_of (g.D.Log.seen c.journal_text.new.disk))) =
    c.in_ok-first.ensures.found is ∙ ap (λ (t : List ℕ). lines_text (first_plan (batches_of t))) same in
    c.in_ok-machine.ensures.blank (first_plan (batches_of (g.D.Log.seen c.journal_text.new.disk)))
    (whole_as_read c.setup.result.now (g.D.Log.seen c.journal_text.new.disk) c.in_ok-first.first.now c.in_ok-went.went c.in_ok-before.before none text c.in_ok-before.ensures)

pub returns-in_err-went-clause-any_time : goal.returns-in_err-went-clause-any_time
returns-in_err-went-clause-any_time g c = at_any (kind g.M.Machine.steps g.M.Machine.recalls g.M.Machine.readable g.M.Lasting.blank g.M.Lasting.rests g.M.Served.is_new) c.args.node.now.plan.setup c.args.node.now.number c.args.is_new _ _ _ _ (g.D.Log.synced c.args.disk.now) (g.D.Log.seen c.args.disk.now) (elapses_reading (kind g.M.Machine.steps g.M.Machine.recalls g.M.Machine.readable g.M.Lasting.blank g.M.Lasting.rests g.M.Served.is_new) c.args.node.now.plan.setup c.args.node.now.number c.args.is_new _ _ _ _ (g.D.Log.synced c.args.disk.now) (g.D.Log.seen c.args.disk.now) c.journal_text.ensures.crash) (λ left may. g.met.D.Log.only_now c.args.disk.now left may)

pub returns-in_err-before-clause-any_time : goal.returns-in_err-before-clause-any_time
returns-in_err-before-clause-any_time g c = at_any (kind g.M.Machine.steps g.M.Machine.recalls g.M.Machine.readable g.M.Lasting.blank g.M.Lasting.rests g.M.Served.is_new) c.args.node.now.plan.setup c.args.node.now.number c.args.is_new _ _ _ _ (g.D.Log.synced c.args.disk.now) (g.D.Log.seen c.args.disk.now) (elapses_reading (kind g.M.Machine.steps g.M.Machine.recalls g.M.Machine.readable g.M.Lasting.blank g.M.Lasting.rests g.M.Served.is_new) c.args.node.now.plan.setup c.args.node.now.number c.args.is_new _ _ _ _ (g.D.Log.synced c.args.disk.now) (g.D.Log.seen c.args.disk.now) c.journal_text.ensures.crash) (λ left may. g.met.D.Log.only_now c.args.disk.now left may)

pub returns-in-Err-clause-any_time : goal.returns-in-Err-clause-any_time
returns-in-Err-clause-any_time g c = at_any (kind g.M.Machine.steps g.M.Machine.recalls g.M.Machine.readable g.M.Lasting.blank g.M.Lasting.rests g.M.Served.is_new) c.args.node.now.plan.setup c.args.node.now.number c.args.is_new _ _ _ _ (g.D.Log.synced c.args.disk.now) (g.D.Log.seen c.args.disk.now) (elapses_reading (kind g.M.Machine.steps g.M.Machine.recalls g.M.Machine.readable g.M.Lasting.blank g.M.Lasting.rests g.M.Served.is_new) c.args.node.now.plan.setup c.args.node.now.number c.args.is_new _ _ _ _ (g.D.Log.synced c.args.disk.now) (g.D.Log.seen c.args.disk.now) c.journal_text.ensures.crash) (λ left may. g.met.D.Log.only_now c.args.disk.now left may)

pub returns-in_err-first-clause-any_time : goal.returns-in_err-first-clause-any_time
returns-in_err-first-clause-any_time g c = at_any (kind g.M.Machine.steps g.M.Machine.recalls g.M.Machine.readable g.M.Lasting.blank g.M.Lasting.rests g.M.Served.is_new) c.args.node.now.plan.setup c.args.node.now.number c.args.is_new _ _ _ _ (g.D.Log.synced c.args.disk.now) (g.D.Log.seen c.args.disk.now) (elapses_reading (kind g.M.Machine.steps g.M.Machine.recalls g.M.Machine.readable g.M.Lasting.blank g.M.Lasting.rests g.M.Served.is_new) c.args.node.now.plan.setup c.args.node.now.number c.args.is_new _ _ _ _ (g.D.Log.synced c.args.disk.now) (g.D.Log.seen c.args.disk.now) c.journal_text.ensures.crash) (λ left may. g.met.D.Log.only_now c.args.disk.now left may)

pub returns-in_err-machine-clause-any_time : goal.returns-in_err-machine-clause-any_time
returns-in_err-machine-clause-any_time g c = at_any (kind g.M.Machine.steps g.M.Machine.recalls g.M.Machine.readable g.M.Lasting.blank g.M.Lasting.rests g.M.Served.is_new) c.args.node.now.plan.setup c.args.node.now.number c.args.is_new _ _ _ _ (g.D.Log.synced c.args.disk.now) (g.D.Log.seen c.args.disk.now) (elapses_reading (kind g.M.Machine.steps g.M.Machine.recalls g.M.Machine.readable g.M.Lasting.blank g.M.Lasting.rests g.M.Served.is_new) c.args.node.now.plan.setup c.args.node.now.number c.args.is_new _ _ _ _ (g.D.Log.synced c.args.disk.now) (g.D.Log.seen c.args.disk.now) c.journal_text.ensures.crash) (λ left may. g.met.D.Log.only_now c.args.disk.now left may)

pub returns-clause-any_time : goal.returns-clause-any_time
returns-clause-any_time g c = at_any (kind g.M.Machine.steps g.M.Machine.recalls g.M.Machine.readable g.M.Lasting.blank g.M.Lasting.rests g.M.Served.is_new) c.args.node.now.plan.setup c.args.node.now.number c.args.is_new _ _ _ _ (g.D.Log.synced c.args.disk.now) (g.D.Log.seen c.args.disk.now)
    (elapses_beginning (kind g.M.Machine.steps g.M.Machine.recalls g.M.Machine.readable g.M.Lasting.blank g.M.Lasting.rests g.M.Served.is_new) c.args.node.now.plan.setup c.args.node.now.number c.args.is_new _ _ _ _ _ _ (g.D.Log.synced c.args.disk.now) (g.D.Log.seen c.args.disk.now) (g.D.Log.synced c.journal_text.new.disk) (g.D.Log.seen c.journal_text.new.disk) c.in-Ok.ensures.seen c.in-Ok.ensures.alone c.in-Ok.ensures.synced c.journal_text.ensures.crash c.serve_machine.ensures.crash) (λ left may. g.met.D.Log.only_now c.args.disk.now left may)
