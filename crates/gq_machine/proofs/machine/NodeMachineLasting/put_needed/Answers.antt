-- What was appended are the facts that a start needs.
use Rattle.std.proofs.Common.{◌∙◌, ◌++◌, ◌<◌, List, ℕ, length, sym, subst, ap}
use Rattle.std.specs.Prelude.{All}
use Rattle.std.specs.List.{flat_map}
use Rattle.gq_node.specs.declared.output.Fact.{Fact}
use Rattle.gq_node.specs.Recalling.{tenant_of}
use Rattle.gq_node.specs.Resting.{FirstPlan, Needed}
use Rattle.gq_node.specs.Tables.{Tables}
use Rattle.gq_text.specs.Canonical.{IsPlan}
use Rattle.gq_facts.specs.Facts.{fact_text}
use Rattle.gq_facts.specs.Laws.{FitsFact}
use Rattle.gq_parts.specs.Steps.{fact_lines}
use Rattle.gq_parts.proofs.Taking.{texts_are, all_of_plan}
use Rattle.gq_parts.proofs.Reading.{lines_are_facts}
use Rattle.gq_parts.proofs.Readable.{lines_read}
use Rattle.gq_parts.proofs.Resting.{needed_rests}
use Rattle.gq_setup.specs.Texts.{first_of_lines}
use Rattle.gq_machine.specs.Machines.{reads}
use Rattle.gq_machine.proofs.machine.NodeMachineLasting.put_needed.Goals as goal

pub put_facts-requires : goal.put_facts-requires
put_facts-requires c =
    let w = c.args.self.now.node.tables in
    let P : List Fact → Type 0 = λ facts. All (λ fact. tenant_of fact < length w.plan.rows) facts in
    subst P (sym c.as_slice.ensures.value) (all_of_plan w c.in-Ok.needed.items c.in-Ok.ensures.needed.within)

pub returns-in_ok-put_facts-in-Ok : goal.returns-in_ok-put_facts-in-Ok
returns-in_ok-put_facts-in-Ok c = λ plan of.
    let w : Tables = c.args.self.now.node.tables in
    let facts : List Fact = c.in-Ok.needed.items in
    let old : List ℕ = c.args.facts.now.items in
    let count : ℕ → FirstPlan = first_of_lines plan in
    let needed : Needed w facts = c.in-Ok.ensures.needed in
    let is : IsPlan w.plan = subst IsPlan c.plan.ensures c.plan_is_sound.ensures in
    let fit : All (FitsFact w.plan) facts = subst (All (FitsFact w.plan)) c.as_slice.ensures.value c.in_ok-put_facts-in-Ok.ensures.fit in
    record {
      lines = fact_lines w.plan facts;
      text = c.in_ok-put_facts-in-Ok.ensures.facts ∙ ap (λ xs. old ++ flat_map (fact_text w.plan) xs) c.as_slice.ensures.value ∙ ap (λ z. old ++ z) (texts_are w.plan facts);
      facts = lines_are_facts w.plan is facts fit;
      stands = record {
        read = λ new blank. lines_read count w new.node.tables blank is facts fit needed.fit;
        again = λ new last blank read. needed_rests count w facts is c.in_ok-has_memory.ensures of needed fit new.node.tables last.node.tables blank (reads (fact_lines w.plan facts) new last read);
      };
    }
