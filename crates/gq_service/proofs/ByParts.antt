-- What a node's process writes, by its tenants' parts.
use Rattle.std.proofs.Common.{◌≡◌, ◌<◌, ◌∙◌, ℕ, List, [], ◌∷◌, ◌++◌, length, Bool, true, false, refl, sym, ap, subst}
use Rattle.gq_desk.specs.CheckedPlan.{CheckedPlan}
use Rattle.gq_keeper.specs.Runs.{Did, Runs}
use Rattle.gq_keeper.specs.Starting.{RecallsAll}
use Rattle.gq_service.specs.Gone.{facts_taken}
use Rattle.gq_node.specs.Sites.{Here, site_of}
use Rattle.gq_node.specs.Tables.{Tables, Agrees}
use Rattle.gq_setup.specs.Laws.{here_of}
use Rattle.gq_parts.specs.Laws.{AllRunsByParts, AllStartsByParts, GoesByParts}
use Rattle.gq_parts.specs.Recalls.{RecallsTo}
use Rattle.gq_parts.specs.Resting.{IsNodeOf}
use Rattle.gq_parts.specs.Steps.{AllAgree, StepsTo}
use Rattle.gq_parts.proofs.Reading.{same_node}
use Rattle.gq_machine.specs.declared.machine.NodeMachine.{NodeMachine}
use Rattle.gq_machine.specs.Machines.{tables_of, MachineSteps, reads}
use Rattle.std.specs.Prelude.{Option, Some, None}
use Rattle.std.specs.Option.{option_to_list}
use Rattle.std.proofs.lemmas.Bool.{true≢false}
use Rattle.gq_chunks.specs.Takers.{line_taker, tells_chunk}
use Rattle.gq_chunks.specs.Machines.{Chunks, ChunkSteps, ChunkRecalls}
use Rattle.gq_facts.specs.Facts.{fact_of_line}
use Rattle.gq_machine.specs.Machines.{MachineRecalls}
use Rattle.gq_node.specs.declared.output.Fact.{Fact}
use Rattle.gq_node.specs.Resting.{those_of, recall_all, begun_local}
use Rattle.gq_pair.specs.declared.pair.Taker.{Taker}
use Rattle.gq_pair.specs.declared.pair.Taker.TheVariants.{First, Second, Both as OfBoth}
use Rattle.gq_pair.specs.Pairs.{StepsBy}
use Rattle.gq_pair.specs.Parting.{firsts, before_by, split}
use Rattle.gq_parts.specs.Recalls.{facts_said}
use Rattle.gq_service.specs.Both.{Both, BothStep}
use Rattle.gq_service.specs.Serving.{IsNewFor, first_of_journal, volumes_in}
use Rattle.gq_service.specs.Writing.{started_part, Parted, StepParts, AreRegisterSteps, AllServedByParts, RegistersServedByParts, AllRegistersRun}
use Rattle.gq_service.specs.Verbs.{register_said}

-- a run of the machine is one of its tables
on_tables : (first last : NodeMachine) (dids : List Did) → Runs MachineSteps first dids last → Runs StepsTo (tables_of first) dids (tables_of last)
on_tables first last [] runs = ap tables_of runs
on_tables first last (did ∷ dids) runs = (tables_of runs.0, runs.1, on_tables runs.0 last dids runs.2)

pub served_by_parts : AllStartsByParts → AllRunsByParts → AllServedByParts
served_by_parts starts run setup number journal lines base synced shown s =
    let new : Tables = tables_of s.started.new in
    let first : Tables = tables_of s.first in
    let here : Here = here_of number setup in
    let is : IsNewFor setup number (first_of_journal setup journal) new = s.started.is_new in
    let read : RecallsAll RecallsTo new (facts_taken setup journal) first = reads (facts_taken setup journal) s.started.new s.first s.started.reads in
    let stays : IsNodeOf new.plan new.here first = same_node (facts_taken setup journal) new first read in
    let node : IsNodeOf setup.plan here first = record { plan_is = stays.plan_is ∙ is.node.plan_is; here_is = stays.here_is ∙ is.node.here_is } in
    let agree : AllAgree first (started_part setup number journal) = λ t within.
    starts setup.plan here t _ (facts_taken setup journal) new first is.node (is.parts t (subst (λ (p : CheckedPlan). t < length p.rows) node.plan_is within)) read in
    let goes : GoesByParts setup.plan here (started_part setup number journal) s.durable.dids (tables_of s.last) =
    run setup.plan here first (tables_of s.last) (started_part setup number journal) s.durable.dids node agree (on_tables s.first s.last s.durable.dids s.durable.runs) in
    record { dids = s.durable.dids; took = s.durable.took; told = s.durable.told; tells = goes.told }

-- ---- beside chunks

-- the registers' steps of a run of both
record Apart (first last : NodeMachine) (dids : List Did) : Type 0 where
  own : List Did
  parts : AreRegisterSteps dids own
  runs : Runs MachineSteps first own last

run_apart : {C : Type 0} (has : C → Chunks) (first last : Both C) (dids : List Did) → Runs (BothStep has) first dids last → Apart first.first last.first dids
run_apart {C} has first last [] runs = record { own = []; parts = refl; runs = ap (λ (p : Both C). p.first) runs }
run_apart {C} has first last (did ∷ dids) runs = by (line_taker did.line) refl runs.1 (run_apart has runs.0 last dids runs.2)
  where
    by : (t : Taker) → line_taker did.line ≡ t → StepsBy MachineSteps (λ (m : C) (line : List ℕ) (facts : List (List ℕ)) (told : List ℕ) (n : C). ChunkSteps (has m) line facts told (has n)) t first.first first.second did.line did.facts did.told runs.0.first runs.0.second → Apart runs.0.first last.first dids →
        Apart first.first last.first (did ∷ dids)
    by First is step rest = record {
      own = did ∷ rest.own;
      parts = subst (λ (z : Taker). StepParts z did (λ (more : List Did). AreRegisterSteps dids more) (did ∷ rest.own)) (sym is) (rest.own, refl, rest.parts);
      runs = (runs.0.first, step.0, rest.runs);
    }
    by Second is step rest = record {
      own = rest.own;
      parts = subst (λ (z : Taker). StepParts z did (λ (more : List Did). AreRegisterSteps dids more) rest.own) (sym is) rest.parts;
      runs = subst (λ (m : NodeMachine). Runs MachineSteps m rest.own last.first) step.1 rest.runs;
    }
    by OfBoth is step rest =
        let part : Did = record { line = did.line; facts = step.first_facts; told = step.first_told } in
        let parted : Parted did part = record { line = refl; facts_behind = step.second_facts; told_behind = step.second_told; facts = step.all_facts; told = step.all_told; before = has first.second; after = has runs.0.second; chunks = step.second_step } in
        record {
          own = part ∷ rest.own;
          parts = subst (λ (z : Taker). StepParts z did (λ (more : List Did). AreRegisterSteps dids more) (part ∷ rest.own)) (sym is) (part, rest.own, refl, parted, rest.parts);
          runs = (runs.0.first, step.first_step, rest.runs);
        }

said_none : (plan : CheckedPlan) (line : List ℕ) (says : Option Fact) → fact_of_line plan line ≡ says → tells_chunk line ≡ true → option_to_list says ≡ []
said_none plan line None says tells = refl
said_none plan line (Some fact) says tells = absurd (true≢false (sym tells ∙ register_said plan line fact says))

-- facts of chunks say nothing of registers
said_apart : (plan : CheckedPlan) (lines : List (List ℕ)) → facts_said plan (firsts tells_chunk lines) ≡ facts_said plan lines
said_apart plan [] = refl
said_apart plan (line ∷ lines) = by (tells_chunk line) refl (said_apart plan lines)
  where
    by : (b : Bool) → tells_chunk line ≡ b → facts_said plan (firsts tells_chunk lines) ≡ facts_said plan lines →
        facts_said plan (before_by b line (firsts tells_chunk lines)) ≡ option_to_list (fact_of_line plan line) ++ facts_said plan lines
    by true is rest = rest ∙ ap (λ z. z ++ facts_said plan lines) (sym (said_none plan line (fact_of_line plan line) refl is))
    by false is rest = ap (λ z. option_to_list (fact_of_line plan line) ++ z) rest

pub registers_by_parts : {C : Type 0} (has : C → Chunks) → AllStartsByParts → AllRunsByParts → RegistersServedByParts has
registers_by_parts {C} has starts run setup number journal lines base synced shown s =
    let new : Tables = tables_of s.started.new.first in
    let first : Tables = tables_of s.first.first in
    let here : Here = here_of number setup in
    let is : IsNewFor setup number (first_of_journal setup journal) new = s.started.is_new.0 in
    let facts : List (List ℕ) = firsts tells_chunk (facts_taken setup journal) in
    let apart : RecallsAll MachineRecalls s.started.new.first facts s.first.first = (split (λ (p : Both C). p.first) (λ (p : Both C). p.second) MachineRecalls (λ (m : C) (line : List ℕ) (n : C). ChunkRecalls (has m) line (has n)) tells_chunk (facts_taken setup journal) s.started.new s.first s.started.reads).0 in
    let read : RecallsAll RecallsTo new facts first = reads facts s.started.new.first s.first.first apart in
    let stays : IsNodeOf new.plan new.here first = same_node facts new first read in
    let node : IsNodeOf setup.plan here first = record { plan_is = stays.plan_is ∙ is.node.plan_is; here_is = stays.here_is ∙ is.node.here_is } in
    let agree : AllAgree first (started_part setup number journal) = λ t within.
    subst (λ (fs : List Fact). Agrees first t (recall_all (site_of setup.plan here t) (begun_local (site_of setup.plan here t) (volumes_in t setup.openings) (first_of_journal setup journal t)) (those_of t fs))) (said_apart setup.plan (facts_taken setup journal))
    (starts setup.plan here t _ facts new first is.node (is.parts t (subst (λ (p : CheckedPlan). t < length p.rows) node.plan_is within)) read) in
    let own : Apart s.first.first s.last.first s.durable.dids = run_apart has s.first s.last s.durable.dids s.durable.runs in
    let goes : GoesByParts setup.plan here (started_part setup number journal) own.own (tables_of s.last.first) =
    run setup.plan here first (tables_of s.last.first) (started_part setup number journal) own.own node agree (on_tables s.first.first s.last.first own.own own.runs) in
    record { dids = s.durable.dids; took = s.durable.took; told = s.durable.told; own = own.own; parts = own.parts; tells = goes.told }

pub registers_run : {C : Type 0} (has : C → Chunks) → AllRegistersRun has
registers_run {C} has setup number journal lines base synced shown s =
    let facts : List (List ℕ) = firsts tells_chunk (facts_taken setup journal) in
    let apart : RecallsAll MachineRecalls s.started.new.first facts s.first.first = (split (λ (p : Both C). p.first) (λ (p : Both C). p.second) MachineRecalls (λ (m : C) (line : List ℕ) (n : C). ChunkRecalls (has m) line (has n)) tells_chunk (facts_taken setup journal) s.started.new s.first s.started.reads).0 in
    let own : Apart s.first.first s.last.first s.durable.dids = run_apart has s.first s.last s.durable.dids s.durable.runs in
    record {
      dids = s.durable.dids;
      took = s.durable.took;
      told = s.durable.told;
      own = own.own;
      parts = own.parts;
      blank = tables_of s.started.new.first;
      first = tables_of s.first.first;
      last = tables_of s.last.first;
      is_new = s.started.is_new.0;
      reads = reads facts s.started.new.first s.first.first apart;
      runs = on_tables s.first.first s.last.first own.own own.runs;
    }
