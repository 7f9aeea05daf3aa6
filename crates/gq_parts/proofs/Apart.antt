-- A run of a node, by its tenants' parts.
use Rattle.std.proofs.Common.{◌≡◌, ◌∙◌, ℕ, ◌<◌, Bool, true, false, List, [], ◌∷◌, ◌++◌, length, refl, sym, ap, subst}
use Rattle.std.specs.Prelude.{All, filter}
use Rattle.gq_wire.specs.declared.incoming.Incoming.{Incoming}
use Rattle.gq_wire.specs.declared.incoming.Incoming.TheVariants.{Request, Plan, Look, Bad, Letter, ShortLetter, Joins, Joined, Speaks, Fetch, Fetched, Tick, Greet, Nothing}
use Rattle.gq_wire.specs.Incoming.{incoming_of}
use Rattle.gq_desk.specs.CheckedPlan.{CheckedPlan}
use Rattle.gq_keeper.specs.Runs.{lines_of}
use Rattle.gq_node.specs.Inputs.{Input}
use Rattle.gq_parts.specs.Within.{after_taken}
use Rattle.gq_node.specs.Local.{Local}
use Rattle.gq_node.specs.Sites.{Here, site_of}
use Rattle.gq_node.specs.Tables.{Tables, Agrees}
use Rattle.gq_facts.specs.Laws.{FitsFact}
use Rattle.gq_parts.specs.Inputs.{is_for, inputs_of, line_inputs, line_inputs_with, lines_inputs}
use Rattle.gq_parts.specs.Texts.{written_for, written_by, facts_by, parts_after, line_text_of}
use Rattle.gq_parts.specs.Steps.{AllAgree, fact_lines, TakesAll, StepsTo}
use Rattle.gq_parts.specs.Resting.{IsNodeOf}
use Rattle.gq_parts.specs.Laws.{GoesByParts, AllRunsByParts, AllTextsByParts, AllTenantsApart, AllOthersLeftOut, is_line_for}
use Rattle.gq_parts.proofs.Taking.{after_taken_more, written_more}

-- one step, of a node of this plan and number, where a short letter has this content
pub record StepByParts (plan : CheckedPlan) (here : Here) (bytes : List ℕ) (parts : ℕ → Local) (line : List ℕ) (lines : List (List ℕ)) (told : List ℕ) (new : Tables) : Type 0 where
  pub node : IsNodeOf plan here new
  pub told_is : told ≡ written_by plan here parts (line_inputs_with bytes plan here line) ++ line_text_of plan here line (parts_after plan here parts (line_inputs_with bytes plan here line))
  pub lines_are : lines ≡ fact_lines plan (facts_by plan here parts (line_inputs_with bytes plan here line))
  pub fit : All (FitsFact plan) (facts_by plan here parts (line_inputs_with bytes plan here line))
  pub agree : AllAgree new (parts_after plan here parts (line_inputs_with bytes plan here line))

pub step_by_parts : (plan : CheckedPlan) (here : Here) (old new : Tables) (bytes : List ℕ) (parts : ℕ → Local) (line : List ℕ) (lines : List (List ℕ)) (told : List ℕ) →
    IsNodeOf plan here old → AllAgree old parts → StepsTo old line lines told new → StepByParts plan here bytes parts line lines told new
step_by_parts plan here old new bytes parts line lines told node agree step =
    let P : CheckedPlan → Here → Type 0 = λ p h. StepByParts p h bytes parts line lines told new in
    let takes : TakesAll old (line_inputs_with bytes old.plan old.here line) step.facts step.tenants new = step.takes bytes in
    let after : ℕ → Local = parts_after old.plan old.here parts (line_inputs_with bytes old.plan old.here line) in
    let behind : AllAgree new after =
    λ t within. (let inside : t < length old.plan.rows = subst (λ (p : CheckedPlan). t < length p.rows) takes.plan within in takes.parts t inside (parts t) (agree t inside)) in
    let facts : step.facts ≡ facts_by old.plan old.here parts (line_inputs_with bytes old.plan old.here line) = takes.gives parts agree in
    let own : P old.plan old.here = record {
      node = record { plan_is = takes.plan; here_is = takes.here };
      told_is = step.told_is after behind ∙ ap (λ z. z ++ line_text_of old.plan old.here line after) (takes.tells parts agree);
      lines_are = step.lines_are ∙ ap (fact_lines old.plan) facts;
      fit = subst (All (FitsFact old.plan)) facts takes.fit;
      agree = behind;
    } in
    subst (λ p. P p here) node.plan_is (subst (λ h. P old.plan h) node.here_is own)

pub runs_by_parts : AllRunsByParts
runs_by_parts plan here first last parts [] node agree runs = record {
  node = subst (IsNodeOf plan here) runs node;
  told = tt;
  ends = λ t within. subst (λ (w : Tables). Agrees w t (parts t)) runs (agree t (subst (λ (p : CheckedPlan). t < length p.rows) (sym node.plan_is) within));
}
runs_by_parts plan here first last parts (did ∷ dids) node agree runs =
    let inputs : ℕ → List Input = line_inputs plan here did.line in
    let one : StepByParts plan here [] parts did.line did.facts did.told runs.0 = step_by_parts plan here first runs.0 [] parts did.line did.facts did.told node agree runs.1 in
    let rest : GoesByParts plan here (parts_after plan here parts inputs) dids last = runs_by_parts plan here runs.0 last (parts_after plan here parts inputs) dids one.node one.agree runs.2 in
    record {
      node = rest.node;
      told = (one.told_is, one.lines_are, one.fit, rest.told);
      ends = λ t within. subst (Agrees last t) (sym (after_taken_more (site_of plan here t) (parts t) (inputs t) (lines_inputs plan here (lines_of dids) t))) (rest.ends t within);
    }

pub texts_by_parts : AllTextsByParts
texts_by_parts plan here t local [] = refl
texts_by_parts plan here t local (line ∷ lines) =
    ap (λ z. written_for plan here t local (line_inputs plan here line t) ++ z) (texts_by_parts plan here t (after_taken (site_of plan here t) local (line_inputs plan here line t)) lines)
    ∙ sym (written_more plan here t local (line_inputs plan here line t) (lines_inputs plan here lines t))

pub tenants_apart : AllTenantsApart
tenants_apart plan here t local ones twos same =
    texts_by_parts plan here t local ones ∙ ap (written_for plan here t local) same ∙ sym (texts_by_parts plan here t local twos)

-- ---- the lines of others

others_none : (plan : CheckedPlan) (here : Here) (t : ℕ) (incoming : Incoming) → is_for t incoming ≡ false → inputs_of plan here incoming t ≡ []
others_none plan here t (Request tenant op line) is = rw is refl
others_none plan here t (Plan tenant) is = rw is refl
others_none plan here t (Look tenant mark volume) is = rw is refl
others_none plan here t (Bad tenant) is = rw is refl
others_none plan here t (Letter from m) is = rw is refl
others_none plan here t (ShortLetter from s) is = rw is refl
others_none plan here t (Joins from losses) is = absurd (cc)
others_none plan here t (Joined from losses) is = absurd (cc)
others_none plan here t (Speaks from form) is = absurd (cc)
others_none plan here t (Fetch from file) is = rw is refl
others_none plan here t (Fetched from file copy) is = rw is refl
others_none plan here t Tick is = absurd (cc)
others_none plan here t Greet is = absurd (cc)
others_none plan here t Nothing is = absurd (cc)

more_inputs : (plan : CheckedPlan) (here : Here) (t : ℕ) (line : List ℕ) (lines : List (List ℕ)) (b : Bool) → is_line_for plan here t line ≡ b →
    lines_inputs plan here (filter (is_line_for plan here t) lines) t ≡ lines_inputs plan here lines t → lines_inputs plan here (filter (is_line_for plan here t) (line ∷ lines)) t ≡ lines_inputs plan here (line ∷ lines) t
more_inputs plan here t line lines true is rest = rw is (ap (λ inputs. line_inputs plan here line t ++ inputs) rest)
more_inputs plan here t line lines false is rest = rw is (rest ∙ sym (ap (λ inputs. inputs ++ lines_inputs plan here lines t) (others_none plan here t (incoming_of plan here.node line) is)))

same_inputs : (plan : CheckedPlan) (here : Here) (t : ℕ) (lines : List (List ℕ)) → lines_inputs plan here (filter (is_line_for plan here t) lines) t ≡ lines_inputs plan here lines t
same_inputs plan here t [] = refl
same_inputs plan here t (line ∷ lines) = more_inputs plan here t line lines (is_line_for plan here t line) refl (same_inputs plan here t lines)

pub others_left_out : AllOthersLeftOut
others_left_out plan here t local lines = tenants_apart plan here t local (filter (is_line_for plan here t) lines) lines (same_inputs plan here t lines)
