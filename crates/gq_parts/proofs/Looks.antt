-- What a node tells of a look is what its server has in the fleet of the run.
use Rattle.std.proofs.Common.{◌≡◌, ◌≢◌, ◌∙◌, ℕ, zero, suc, ◌+◌, ◌<◌, ◌≤◌, Bool, true, false, List, [], ◌∷◌, ◌++◌, length, map, refl, sym, ap, subst, arith, append-nil, Option, Some, None, inl, inr}
use Rattle.std.specs.Prelude.{◌==◌, nat_lt, if◌then◌else◌}
use Rattle.std.specs.List.{flat_map, range_with_len}
use Rattle.std.proofs.lemmas.Bool.{cases_eq, eq-eqb, ne_eqb, lt-ltb}
use Rattle.gq_tag.specs.Tag.{File}
use Rattle.gq_desk.specs.declared.volumes.VolumeRow.{VolumeRow}
use Rattle.gq_phase.specs.Phase.{listed_row}
use Rattle.gq_model.specs.Trace.{files_of}
use Rattle.gq_model.specs.declared.events.Line.TheVariants.{Bad as NoLine}
use Rattle.gq_cluster.specs.Cluster.{Part, copy_in}
use Rattle.gq_keeper.specs.Runs.{Did}
use Rattle.gq_replace.specs.Fleet.{Fleet, new_fleet}
use Rattle.gq_node.specs.declared.output.Answer.{Answer}
use Rattle.gq_node.specs.declared.output.Answer.TheVariants.{Looked}
use Rattle.gq_node.specs.Inputs.{Input, AskedLook}
use Rattle.gq_node.specs.Joining.{files_in_volume}
use Rattle.gq_node.specs.Local.{Local, part_in, tells}
use Rattle.gq_node.specs.Looked.{held_row, look_answer}
use Rattle.gq_node.specs.Nodes.{NodeWorld, Nodes, Event, new_nodes, nodes_after, PartAlike, IsAlike, Follows}
use Rattle.gq_node.specs.Sites.{Here, Site, site_of}
use Rattle.gq_wire.specs.declared.incoming.Incoming.{Incoming}
use Rattle.gq_wire.specs.declared.incoming.Incoming.TheVariants.{Look as AsksLook}
use Rattle.gq_wire.specs.Incoming.{incoming_of}
use Rattle.gq_wire.specs.Texts.{told_line}
use Rattle.gq_parts.specs.AllNodes.{GridPlans, here_in, volumes_in, world_at, AreSound, AllNodes, AllNew, Happening, Took, TakesStep, Happens, AllHappen, events_of, events_from, all_events, nodes_at, InputsCanCome, IncomingCanCome, HappeningCanCome, LinesCanCome, TellsAt}
use Rattle.gq_parts.specs.Inputs.{inputs_with, line_inputs_with}
use Rattle.gq_parts.specs.Looks.{fleet_at, row_in, look_in, TellsOfFleet, AllLooksOfFleet}
use Rattle.gq_parts.specs.Texts.{written_for, written_by, parts_after, node_text}
use Rattle.gq_parts.proofs.AllNodes.{AllHold, Holds, IsKnown, at_node, fold_more, its_volumes, none_hold, all_hold, one_holds, follows_law}
use Rattle.gq_parts.proofs.Chains.{Move, Comes, comes_alone}

-- ---- the last happening

record Split (g : GridPlans) (first last : AllNodes) (before : List Happening) (h : Happening) : Type 0 where
  middle : AllNodes
  happen : AllHappen g first before middle
  goes : Happens g middle h last

split : (g : GridPlans) (before : List Happening) (h : Happening) (first last : AllNodes) → AllHappen g first (before ++ h ∷ []) last → Split g first last before h
split g [] h first last happen = record { middle = first; happen = refl; goes = subst (Happens g first h) happen.2 happen.1 }
split g (b ∷ before) h first last happen =
    let rest : Split g happen.0 last before h = split g before h happen.0 last happen.2 in
    record { middle = rest.middle; happen = (happen.0, happen.1, rest.happen); goes = rest.goes }

record Comes_last (g : GridPlans) (t : ℕ) (nodes : Nodes) (before : List Happening) (h : Happening) : Type 0 where
  firsts : LinesCanCome g t nodes before
  last : HappeningCanCome g t (nodes_after (world_at g t) nodes (events_from g t nodes before)) h

come_last : (g : GridPlans) (t : ℕ) (before : List Happening) (h : Happening) (nodes : Nodes) → LinesCanCome g t nodes (before ++ h ∷ []) → Comes_last g t nodes before h
come_last g t [] h nodes can = record { firsts = tt; last = can.0 }
come_last g t (b ∷ before) h nodes can =
    let w : NodeWorld = world_at g t in
    let one : List Event = events_of g t nodes b in
    let next : Nodes = nodes_after w nodes one in
    let rest : Comes_last g t next before h = come_last g t before h next can.1 in
    record { firsts = (can.0, rest.firsts); last = subst (λ after. HappeningCanCome g t after h) (sym (fold_more w nodes one (events_from g t next before))) rest.last }

-- ---- one of the tenants

no_place : (f : ℕ → List ℕ) (a many : ℕ) → ((u : ℕ) → a ≤ u → f u ≡ []) → flat_map f (range_with_len a many) ≡ []
no_place f a zero none = refl
no_place f a (suc many) none = ap (λ z. z ++ flat_map f (range_with_len (a + 1) many)) (none a (omega arith)) ∙ no_place f (a + 1) many (λ u above. none u (omega arith))

one_place : (f : ℕ → List ℕ) (t a many : ℕ) → a ≤ t → t < a + many → ((u : ℕ) → u ≢ t → f u ≡ []) → flat_map f (range_with_len a many) ≡ f t
one_place f t a zero low high none = absurd (omega arith)
one_place f t a (suc many) low high none = elim (cases_eq a t) [
  | inl same ↦ (ap (λ z. f a ++ z) (no_place f (a + 1) many (λ u above. none u (λ e. omega arith))) ∙ append-nil (f a) ∙ ap f same)
  | inr other ↦ (ap (λ z. z ++ flat_map f (range_with_len (a + 1) many)) (none a other) ∙ one_place f t (a + 1) many (let far = other in omega arith) (omega arith) none)
]

-- ---- what is told

row_same : (local : Local) (u : Fleet) (n : ℕ) (home : ℕ → ℕ) → PartAlike home n (part_in local) (u.part n) → (file : File) → held_row local file ≡ row_in u n file
row_same local u n home alike file =
    ap (λ b. if b then None else Some (listed_row (copy_in (part_in local) file))) (alike.lacks file)
    ∙ ap (λ c. if (u.part n).lacks file then None else Some (listed_row c)) (alike.copies file)

pub looks_of_fleet : AllLooksOfFleet
looks_of_fleet g first last before t n p bytes did mark volume sound within fresh happen can read there = record { acts = (sym (alike.begun n) ∙ law_begun, sym (alike.gone n) ∙ stays); told = told }
  where
    w : NodeWorld
    w = world_at g t

    parts : Split g first last before (Took n p bytes did)
    parts = split g before (Took n p bytes did) first last happen

    goes : TakesStep n p did parts.middle last
    goes = parts.goes.goes

    holds : Holds g before parts.middle
    holds = (all_hold g before [] first parts.middle sound (none_hold g first fresh) parts.happen).holds

    comes : Comes_last g t (new_nodes w) before (Took n p bytes did)
    comes = come_last g t before (Took n p bytes did) (new_nodes w) can

    nodes : Nodes
    nodes = nodes_at g before t

    local : Local
    local = nodes.local n

    u : Fleet
    u = fleet_at g t before

    known : IsKnown g t n (at_node parts.middle nodes n)
    known = (holds.are t within).known n goes.begun

    alike : IsAlike w nodes u
    alike = (follows_law g before t sound comes.firsts).follows.alike

    law_begun : nodes.begun n ≡ true
    law_begun = sym ((holds.are t within).begun n) ∙ goes.begun

    plan_is : u.last_plan n ≡ p
    plan_is = sym (alike.last_plan n law_begun) ∙ sym ((holds.are t within).last_plan n goes.begun) ∙ goes.plan

    volumes : local.volumes ≡ volumes_in g p t
    volumes = its_volumes g t n (at_node parts.middle nodes n) known ∙ ap (λ q. volumes_in g q t) goes.plan

    same : (t == t) ≡ true
    same = eq-eqb t t refl

    stays : nodes.gone n ≡ false
    stays =
        let one : IncomingCanCome g p n bytes t nodes (AsksLook t mark volume) = subst (IncomingCanCome g p n bytes t nodes) read comes.last in
        let two : InputsCanCome w n nodes (AskedLook mark volume ∷ []) = subst (λ b. InputsCanCome w n nodes (if b then AskedLook mark volume ∷ [] else [])) same one in
        two.0.1

    here : Here
    here = here_in g p n

    its : ℕ → Local
    its s = (nodes_at g before s).local n

    is_there : nat_lt volume (length local.volumes) ≡ true
    is_there = ap (λ (vs : List VolumeRow). nat_lt volume (length vs)) volumes ∙ lt-ltb volume (length (volumes_in g p t)) there

    answer : Answer
    answer = Looked (look_in g u t n mark volume)

    answer_is : look_answer mark volume (site_of g.plan here t) local ≡ answer
    answer_is =
        rw is_there (λ i. Looked (record {
          mark = mark;
          volume = volume;
          losses = length (g.lost (sym plan_is i));
          rows = map (λ file. row_same local u n w.world.setting.home (alike.parts n law_begun) file i) (files_in_volume volume (files_of ((volumes ∙ ap (λ q. volumes_in g q t) (sym plan_is)) i) volume));
        }))

    moves : List Move
    moves = record { input = AskedLook mark volume; plain = λ site local. (refl, refl); doing = tells local answer } ∷ []

    one : Comes g.plan here t local (AskedLook mark volume ∷ []) moves
    one = comes_alone g.plan here t local moves (ap (tells local) answer_is, tt) (refl, tt)

    inputs : Incoming → ℕ → List Input
    inputs x s = inputs_with bytes g.plan here x s

    wrote : Incoming → List ℕ
    wrote x = written_by g.plan here its (inputs x) ++ node_text g.plan here x (parts_after g.plan here its (inputs x))

    at : TellsAt g before (Took n p bytes did)
    at = (one_holds g before (Took n p bytes did) parts.middle last sound holds parts.goes).told

    others : (s : ℕ) → s ≢ t → written_for g.plan here s (its s) (inputs (AsksLook t mark volume) s) ≡ []
    others s other = rw (ne_eqb s t other) refl

    own : written_for g.plan here t local (inputs (AsksLook t mark volume) t) ≡ written_for g.plan here t local (AskedLook mark volume ∷ [])
    own = rw same refl

    told : did.told ≡ told_line g.plan n t NoLine answer
    told =
        at
        ∙ ap wrote read
        ∙ append-nil (written_by g.plan here its (inputs (AsksLook t mark volume)))
        ∙ one_place (λ s. written_for g.plan here s (its s) (inputs (AsksLook t mark volume) s)) t 0 (length g.plan.rows) (omega arith) (omega arith) others
        ∙ own
        ∙ one.text
        ∙ append-nil _
        ∙ append-nil _
