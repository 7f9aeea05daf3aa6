-- The worked case: what a node does by a look.
use Rattle.std.proofs.Common.{◌≡◌, ◌∙◌, ℕ, Bool, List, [], ◌∷◌, ◌++◌, false, refl, sym, ap, append-nil, Some, None}
use Rattle.std.specs.Prelude.{if◌then◌else◌}
use Rattle.std.proofs.lemmas.List.Elements.{All-nil}
use Rattle.gq_tag.specs.declared.StoredCopy.{StoredCopy}
use Rattle.gq_desk.specs.declared.volumes.VolumeRow.{VolumeRow}
use Rattle.gq_phase.specs.Phase.{listed_row}
use Rattle.gq_model.specs.declared.events.Line.TheVariants.{Bad as NoLine}
use Rattle.gq_cluster.specs.Cluster.{copy_in}
use Rattle.gq_facts.specs.Laws.{FitsFact}
use Rattle.gq_node.specs.declared.output.Answer.{Answer}
use Rattle.gq_node.specs.declared.output.Answer.TheVariants.{Looked}
use Rattle.gq_node.specs.Inputs.{Input, AskedLook}
use Rattle.gq_node.specs.Lacks.{lacks_in}
use Rattle.gq_node.specs.Local.{Local, part_in, tells}
use Rattle.gq_node.specs.Looked.{look_answer}
use Rattle.gq_node.specs.Sites.{Here}
use Rattle.gq_wire.specs.declared.incoming.Incoming.{Incoming}
use Rattle.gq_wire.specs.declared.incoming.Incoming.TheVariants.{Look as AsksLook}
use Rattle.gq_wire.specs.Incoming.{incoming_of}
use Rattle.gq_wire.specs.Laws.{look_text}
use Rattle.gq_wire.specs.Texts.{told_line}
use Rattle.gq_parts.specs.AllNodes.{here_in, Happening, Took, nodes_at}
use Rattle.gq_parts.specs.Inputs.{inputs_of}
use Rattle.gq_parts.specs.Steps.{fact_lines}
use Rattle.gq_parts.specs.Texts.{facts_by, written_by, parts_after, node_text}
use Rattle.gq_parts.specs.Worked.{grid_worked, Sends, happened, written, tells_look}
use Rattle.gq_parts.proofs.Chains.{Move, Comes, comes_alone}
use Rattle.gq_parts.proofs.WorkedSteps.{Leads, Steps, leads_by}
use Rattle.gq_parts.proofs.WorkedTables.{file, volume, site, View, Sees}

-- what a part tells of the volume, whether it lacks the file, and whichever copy it has
abbrev pub told_of : (n mark : ℕ) → (lacks : Bool) → StoredCopy → Answer
told_of n mark lacks copy = Looked (record { mark = mark; volume = 0; losses = 3; rows = (if lacks then None else Some (listed_row copy)) ∷ [] })

pub told_is : (n mark : ℕ) (local : Local) (lacks : Bool) (copy : StoredCopy) → local.volumes ≡ volume ∷ [] → local.lacks file ≡ lacks → copy_in (part_in local) file ≡ copy → look_answer mark 0 (site n 3) local ≡ told_of n mark lacks copy
told_is n mark local lacks copy volumes lacked held =
    ap (λ (vs : List VolumeRow). look_answer mark 0 (site n 3) (record local { volumes = vs })) volumes
    ∙ ap (λ b. told_of n mark b (copy_in (part_in local) file)) lacked
    ∙ ap (told_of n mark lacks) held

abbrev move_of : (n mark : ℕ) → Local → (lacks : Bool) → StoredCopy → Move
move_of n mark local lacks copy = record { input = AskedLook mark 0; plain = λ site local. (refl, refl); doing = tells local (told_of n mark lacks copy) }

abbrev text_of : (n mark : ℕ) → (lacks : Bool) → StoredCopy → List ℕ
text_of n mark lacks copy = (told_line grid_worked.plan n 0 NoLine (told_of n mark lacks copy) ++ []) ++ []

comes_so : (n mark : ℕ) (local : Local) (lacks : Bool) (copy : StoredCopy) → look_answer mark 0 (site n 3) local ≡ told_of n mark lacks copy →
    Comes grid_worked.plan (here_in grid_worked 3 n) 0 local (AskedLook mark 0 ∷ []) (move_of n mark local lacks copy ∷ [])
comes_so n mark local lacks copy is = comes_alone grid_worked.plan (here_in grid_worked 3 n) 0 local (move_of n mark local lacks copy ∷ []) (ap (tells local) is, tt) (refl, tt)

-- ---- in tables

pub look_steps : (n mark : ℕ) (v : View) → Steps n 3 v v (AsksLook 0 mark 0) []
look_steps n mark v = record {
  told = text_of n mark (lacks_in v.given file) v.copy;
  own = [];
  leads = λ bytes. leads;
  own_is = λ parts sees. refl;
  fit = All-nil (FitsFact grid_worked.plan);
}
  where
    leads : (local : Local) → Sees n 3 v local → Leads n 3 v v (AskedLook mark 0 ∷ []) [] (text_of n mark (lacks_in v.given file) v.copy) local
    leads local sees =
        let is : look_answer mark 0 (site n 3) local ≡ told_of n mark (lacks_in v.given file) v.copy = told_is n mark local (lacks_in v.given file) v.copy (sym sees.volumes) (sym (sees.lacks file)) (sym sees.copy) in
        leads_by n 3 v v local (move_of n mark local (lacks_in v.given file) v.copy ∷ []) [] (text_of n mark (lacks_in v.given file) v.copy) (comes_so n mark local (lacks_in v.given file) v.copy is) refl refl sees

-- ---- what is told, where the last write is done

pub look_told : (before : List Happening) (n op : ℕ) → incoming_of grid_worked.plan n (look_text grid_worked.plan n 0 op 0) ≡ AsksLook 0 op 0 →
    let local : Local = (nodes_at grid_worked before 0).local n in
    local.volumes ≡ volume ∷ [] → local.lacks file ≡ false → copy_in (part_in local) file ≡ written op → happened grid_worked before (Sends n 3 (look_text grid_worked.plan n 0 op 0)) ≡ tells_look n op
look_told before n op read volumes has held = λ i. Took n 3 [] (record { line = look_text grid_worked.plan n 0 op 0; facts = gave i; told = told i })
  where
    here : Here
    here = here_in grid_worked 3 n

    parts : ℕ → Local
    parts t = (nodes_at grid_worked before t).local n

    one : Comes grid_worked.plan here 0 (parts 0) (AskedLook op 0 ∷ []) (move_of n op (parts 0) false (written op) ∷ [])
    one = comes_so n op (parts 0) false (written op) (told_is n op (parts 0) false (written op) volumes has held)

    gave : fact_lines grid_worked.plan (facts_by grid_worked.plan here parts (λ t. inputs_of grid_worked.plan here (incoming_of grid_worked.plan n (look_text grid_worked.plan n 0 op 0)) t)) ≡ []
    gave = ap (λ (x : Incoming). fact_lines grid_worked.plan (facts_by grid_worked.plan here parts (inputs_of grid_worked.plan here x))) read ∙ ap (λ facts. fact_lines grid_worked.plan (facts ++ [])) one.facts

    wrote : Incoming → List ℕ
    wrote x = written_by grid_worked.plan here parts (inputs_of grid_worked.plan here x) ++ node_text grid_worked.plan here x (parts_after grid_worked.plan here parts (inputs_of grid_worked.plan here x))

    short : (line : List ℕ) → ((((line ++ []) ++ []) ++ []) ++ []) ≡ line
    short line = append-nil _ ∙ append-nil _ ∙ append-nil _ ∙ append-nil line

    told : wrote (incoming_of grid_worked.plan n (look_text grid_worked.plan n 0 op 0)) ≡ told_line grid_worked.plan n 0 NoLine (told_of n op false (written op))
    told = ap wrote read ∙ ap (λ text. (text ++ []) ++ []) one.text ∙ short (told_line grid_worked.plan n 0 NoLine (told_of n op false (written op)))
