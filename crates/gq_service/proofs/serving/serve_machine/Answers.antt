-- The loop's promise, carried up.
use Rattle.std.proofs.Common.{◌≡◌, ◌∙◌, ◌++◌, ℕ, List, ap, subst}
use Rattle.gq_journal.specs.Batches.{whole_lines}
use Rattle.gq_keeper.specs.Durable.{Durable}
use Rattle.gq_keeper.specs.Lines.{short_lines}
use Rattle.gq_setup.specs.Texts.{node_text}
use Rattle.gq_lines.specs.Written.{first_text}
use Rattle.gq_chunks.specs.Longest.{longest_of}
use Rattle.gq_service.specs.Kinds.{kind}
use Rattle.gq_service.specs.Serving.{journal_found}
use Rattle.gq_service.proofs.Crashes.{elapses_serving}
use Rattle.gq_service.proofs.serving.serve_machine.Goals as goal

pub serve-requires-clause-may : goal.serve-requires-clause-may
serve-requires-clause-may g c = λ last taken synced shown begins d.
    let first = c.begin_or_write_anew.new.machine in
    let text : c.text.result.now ≡ node_text c.args.node.now.number c.args.node.now.plan.setup = c.text.ensures ∙ c.args.node.now.text in
    let longest : c.longest_of-longest.result ≡ longest_of c.args.node.now.plan.setup = c.longest_of-longest.ensures ∙ ap longest_of c.setup.ensures in
    c.requires.durable synced shown (record {
      journal = journal_found c.args.is_new (g.D.Log.seen c.args.disk.now);
      taken = taken;
      begins = begins;
      serves = record {
        first = first;
        last = last;
        started = c.in_ok-number.ensures.started;
        durable = subst (λ n. Durable g.M.Machine.steps g.M.Machine.recalls g.M.Machine.readable g.M.Lasting.blank g.M.Lasting.rests first last (whole_lines (node_text c.args.node.now.number c.args.node.now.plan.setup)) (short_lines n taken) (g.O.Output.shown c.args.out.now ++ first_text) synced shown) longest
            (subst (λ (t : List ℕ). Durable g.M.Machine.steps g.M.Machine.recalls g.M.Machine.readable g.M.Lasting.blank g.M.Lasting.rests first last (whole_lines t) (short_lines c.longest_of-longest.result taken) (g.O.Output.shown c.args.out.now ++ first_text) synced shown) text d);
      };
    })

pub returns-clause-served : goal.returns-clause-served
returns-clause-served g c =
    let first = c.begin_or_write_anew.new.machine in
    let text : c.text.result.now ≡ node_text c.args.node.now.number c.args.node.now.plan.setup = c.text.ensures ∙ c.args.node.now.text in
    let longest : c.longest_of-longest.result ≡ longest_of c.args.node.now.plan.setup = c.longest_of-longest.ensures ∙ ap longest_of c.setup.ensures in
    let d = c.in_ok-serve.ensures.durable in
    record {
      bytes = d.0;
      all = d.1;
      serves = record {
        first = first;
        last = c.serve.new.machine;
        started = c.in_ok-number.ensures.started;
        durable = subst (λ n. Durable g.M.Machine.steps g.M.Machine.recalls g.M.Machine.readable g.M.Lasting.blank g.M.Lasting.rests first c.serve.new.machine (whole_lines (node_text c.args.node.now.number c.args.node.now.plan.setup)) (short_lines n d.0) (g.O.Output.shown c.args.out.now ++ first_text) (g.D.Log.synced c.serve.new.disk) (g.O.Output.shown c.serve.new.out)) longest
            (subst (λ (t : List ℕ). Durable g.M.Machine.steps g.M.Machine.recalls g.M.Machine.readable g.M.Lasting.blank g.M.Lasting.rests first c.serve.new.machine (whole_lines t) (short_lines c.longest_of-longest.result d.0) (g.O.Output.shown c.args.out.now ++ first_text) (g.D.Log.synced c.serve.new.disk) (g.O.Output.shown c.serve.new.out)) text d.2);
      };
    }

pub returns-in_err-serve-clause-crash : goal.returns-in_err-serve-clause-crash
returns-in_err-serve-clause-crash g c =
    let text : c.text.result.now ≡ node_text c.args.node.now.number c.args.node.now.plan.setup = c.text.ensures ∙ c.args.node.now.text in
    elapses_serving (kind g.M.Machine.steps g.M.Machine.recalls g.M.Machine.readable g.M.Lasting.blank g.M.Lasting.rests g.M.Served.is_new) c.args.node.now.plan.setup c.args.node.now.number c.args.is_new _ _ _ _ _ _ (g.D.Log.synced c.args.disk.now) (g.D.Log.seen c.args.disk.now) c.begin_or_write_anew.new.machine c.text.result.now c.in_ok-number.ensures.started text c.begin_or_write_anew.ensures.crash c.serve.ensures.crash

pub returns-clause-crash : goal.returns-clause-crash
returns-clause-crash g c =
    let text : c.text.result.now ≡ node_text c.args.node.now.number c.args.node.now.plan.setup = c.text.ensures ∙ c.args.node.now.text in
    elapses_serving (kind g.M.Machine.steps g.M.Machine.recalls g.M.Machine.readable g.M.Lasting.blank g.M.Lasting.rests g.M.Served.is_new) c.args.node.now.plan.setup c.args.node.now.number c.args.is_new _ _ _ _ _ _ (g.D.Log.synced c.args.disk.now) (g.D.Log.seen c.args.disk.now) c.begin_or_write_anew.new.machine c.text.result.now c.in_ok-number.ensures.started text c.begin_or_write_anew.ensures.crash c.serve.ensures.crash
