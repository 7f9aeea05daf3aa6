-- The facts of one tenant among those of all, and the lines that say them.
use Rattle.std.proofs.Common.{◌≡◌, ◌≢◌, ◌∙◌, ℕ, zero, suc, ◌+◌, ◌<◌, ◌≤◌, false, true, List, [], ◌∷◌, ◌++◌, length, map, Option, Some, None, refl, sym, ap, subst, arith, inl, inr, append-nil}
use Rattle.std.specs.Prelude.{◌==◌, All}
use Rattle.std.specs.List.{flat_map, range_with_len}
use Rattle.std.specs.Option.{option_to_list}
use Rattle.std.proofs.lemmas.Bool.{cases_eq, cases_Bool, eq-eqb, ne_eqb}
use Rattle.std.proofs.lemmas.Grind.{flat_map-append}
use Rattle.gq_desk.specs.CheckedPlan.{CheckedPlan}
use Rattle.gq_lines.specs.Written.{spaced}
use Rattle.gq_text.specs.Canonical.{IsPlan}
use Rattle.gq_cluster.specs.Facts.{OwnFact, Begun, Numbered, Kept, Had}
use Rattle.gq_keeper.specs.Plans.{is_head, are_facts}
use Rattle.gq_keeper.specs.Runs.{lines_of, facts_of}
use Rattle.gq_keeper.specs.Starting.{RecallsAll}
use Rattle.gq_node.specs.declared.output.Fact.{Fact}
use Rattle.gq_node.specs.Inputs.{Input, after_all}
use Rattle.gq_parts.specs.Within.{taken, after_taken}
use Rattle.gq_node.specs.Local.{Local, recalls}
use Rattle.gq_node.specs.Recalling.{tenant_of, own_fact}
use Rattle.gq_node.specs.Resting.{recall_one, recall_all, those_of}
use Rattle.gq_node.specs.Sites.{Here, Site, site_of}
use Rattle.gq_node.specs.Tables.{Tables, Agrees, fact_of}
use Rattle.gq_facts.specs.Facts.{verb_of, fact_words, fact_of_line}
use Rattle.gq_facts.specs.Laws.{FitsFact}
use Rattle.gq_facts.proofs.FactsBack.{facts_read_back, facts_stand_in_batches}
use Rattle.gq_parts.specs.Inputs.{line_inputs, lines_inputs}
use Rattle.gq_parts.specs.Texts.{own_facts, facts_for, facts_by, parts_after}
use Rattle.gq_parts.specs.Steps.{fact_lines, StepsTo}
use Rattle.gq_parts.specs.Recalls.{RecallsFact, RecallsTo, facts_said}
use Rattle.gq_parts.specs.Resting.{IsNodeOf}
use Rattle.gq_parts.specs.Laws.{AllStartsByParts, AllFactsByParts}
use Rattle.gq_parts.proofs.Knowing.{recall_more}
use Rattle.gq_parts.proofs.Taking.{its_tenant, own_more, taken_more}

-- ---- the facts of one tenant

pub those-append : (t : ℕ) (a b : List Fact) → those_of t (a ++ b) ≡ those_of t a ++ those_of t b
those-append t [] b = refl
those-append t (fact ∷ a) b = elim (cases_Bool (tenant_of fact == t)) [
  | inl same ↦ (rw same (ap (λ z. own_fact fact ∷ z) (those-append t a b)))
  | inr other ↦ (rw other (those-append t a b))
]

pub its_fact : (t : ℕ) (fact : OwnFact) → own_fact (fact_of t fact) ≡ fact
its_fact t (Begun k op) = refl
its_fact t (Numbered k number) = refl
its_fact t (Kept file copy) = refl
its_fact t (Had file copy) = refl

those-own : (t : ℕ) (facts : List OwnFact) → those_of t (map (fact_of t) facts) ≡ facts
those-own t [] = refl
those-own t (fact ∷ facts) = rw (eq-eqb (tenant_of (fact_of t fact)) t (its_tenant t fact), its_fact t fact) (ap (λ z. fact ∷ z) (those-own t facts))

those-other : (t u : ℕ) (facts : List OwnFact) → u ≢ t → those_of t (map (fact_of u) facts) ≡ []
those-other t u [] other = refl
those-other t u (fact ∷ facts) other = rw (ne_eqb (tenant_of (fact_of u fact)) t (λ e. other (sym (its_tenant u fact) ∙ e))) (those-other t u facts other)

-- where the facts from a place on are of others
none_there : (g : ℕ → List Fact) (t a n : ℕ) → t < a → ((u : ℕ) → u ≢ t → those_of t (g u) ≡ []) → those_of t (flat_map g (range_with_len a n)) ≡ []
none_there g t a zero low none = refl
none_there g t a (suc n) low none =
    those-append t (g a) (flat_map g (range_with_len (a + 1) n))
    ∙ ap (λ z. z ++ those_of t (flat_map g (range_with_len (a + 1) n))) (none a (λ e. omega arith))
    ∙ none_there g t (a + 1) n (omega arith) none

its_own : (g : ℕ → List Fact) (t a n : ℕ) → a ≤ t → t < a + n → ((u : ℕ) → u ≢ t → those_of t (g u) ≡ []) → those_of t (flat_map g (range_with_len a n)) ≡ those_of t (g t)
its_own g t a zero low high none = absurd (omega arith)
its_own g t a (suc n) low high none = elim (cases_eq a t) [
  | inl here ↦ (
      those-append t (g a) (flat_map g (range_with_len (a + 1) n))
      ∙ ap (λ z. those_of t (g a) ++ z) (none_there g t (a + 1) n (omega arith) none)
      ∙ append-nil (those_of t (g a))
      ∙ ap (λ z. those_of t (g z)) here)
  | inr other ↦ (
      those-append t (g a) (flat_map g (range_with_len (a + 1) n))
      ∙ ap (λ z. z ++ those_of t (flat_map g (range_with_len (a + 1) n))) (none a other)
      ∙ its_own g t (a + 1) n (omega arith) (omega arith) none)
]

pub those-by : (plan : CheckedPlan) (here : Here) (t : ℕ) (parts : ℕ → Local) (inputs : ℕ → List Input) → t < length plan.rows → those_of t (facts_by plan here parts inputs) ≡ own_facts (site_of plan here t) (parts t) (taken (site_of plan here t) (parts t) (inputs t))
those-by plan here t parts inputs within =
    its_own (λ u. facts_for plan here u (parts u) (inputs u)) t 0 (length plan.rows) (omega arith) (omega arith) (λ u other. those-other t u (own_facts (site_of plan here u) (parts u) (taken (site_of plan here u) (parts u) (inputs u))) other)
    ∙ those-own t (own_facts (site_of plan here t) (parts t) (taken (site_of plan here t) (parts t) (inputs t)))

-- ---- the lines of facts

pub said-append : (plan : CheckedPlan) (a b : List (List ℕ)) → facts_said plan (a ++ b) ≡ facts_said plan a ++ facts_said plan b
said-append plan a b = flat_map-append (λ line. option_to_list (fact_of_line plan line)) a b

pub said_back : (plan : CheckedPlan) → IsPlan plan → (facts : List Fact) → All (FitsFact plan) facts → facts_said plan (fact_lines plan facts) ≡ facts
said_back plan is [] fit = refl
said_back plan is (fact ∷ facts) fit =
    ap (λ z. option_to_list z ++ facts_said plan (fact_lines plan facts)) (facts_read_back plan fact is (fit 0 fact (omega arith)))
    ∙ ap (λ z. fact ∷ z) (said_back plan is facts (λ i d below. fit (suc i) d (omega arith)))

pub facts_by_parts : AllFactsByParts
facts_by_parts plan here t parts [] is within tells = refl
facts_by_parts plan here t parts (did ∷ dids) is within tells =
    let inputs : ℕ → List Input = line_inputs plan here did.line in
    let first : facts_said plan did.facts ≡ facts_by plan here parts inputs = ap (facts_said plan) tells.1 ∙ said_back plan is (facts_by plan here parts inputs) tells.2 in
    let site : Site = site_of plan here t in
    let one : List Input = taken site (parts t) (inputs t) in
    let more : List Input = taken site (after_taken site (parts t) (inputs t)) (lines_inputs plan here (lines_of dids) t) in
    let rest : those_of t (facts_said plan (facts_of dids)) ≡ own_facts site (after_all site (parts t) one) more =
    facts_by_parts plan here t (parts_after plan here parts inputs) dids is within tells.3 in
    ap (those_of t) (said-append plan did.facts (facts_of dids))
    ∙ those-append t (facts_said plan did.facts) (facts_said plan (facts_of dids))
    ∙ ap (λ z. z ++ those_of t (facts_said plan (facts_of dids))) (ap (those_of t) first ∙ those-by plan here t parts inputs within)
    ∙ ap (λ z. own_facts site (parts t) one ++ z) rest
    ∙ sym (own_more site (parts t) one more)
    ∙ ap (own_facts site (parts t)) (sym (taken_more site (parts t) (inputs t) (lines_inputs plan here (lines_of dids) t)))

-- they are such as may stand in a journal, and begin no plan

no_head : (own : OwnFact) (rest : List ℕ) → is_head (verb_of own ++ rest) ≡ false
no_head (Begun s o) rest = refl
no_head (Numbered s n) rest = refl
no_head (Kept file copy) rest = refl
no_head (Had file copy) rest = refl

pub lines_are_facts : (plan : CheckedPlan) → IsPlan plan → (facts : List Fact) → All (FitsFact plan) facts → are_facts (fact_lines plan facts) ≡ true
lines_are_facts plan is [] fit = refl
lines_are_facts plan is (fact ∷ facts) fit =
    rw (facts_stand_in_batches plan fact is (fit 0 fact (omega arith)), no_head (own_fact fact) (spaced (fact_words plan fact)), lines_are_facts plan is facts (λ i d below. fit (suc i) d (omega arith))) refl

pub gives_facts : (old : Tables) (line : List ℕ) (facts : List (List ℕ)) (told : List ℕ) (new : Tables) → StepsTo old line facts told new → are_facts facts ≡ true
gives_facts old line facts told new step = ap are_facts step.lines_are ∙ lines_are_facts old.plan step.sound step.facts (step.takes []).fit

-- ---- a start reads lines

-- the node, and its part of the tenant at place t, after these facts
pub record Recalled (plan : CheckedPlan) (here : Here) (t : ℕ) (start : Local) (facts : List Fact) (new : Tables) : Type 0 where
  pub node : IsNodeOf plan here new
  pub agrees : Agrees new t (recall_all (site_of plan here t) start (those_of t facts))

one_recalled : (plan : CheckedPlan) (here : Here) (t : ℕ) (start : Local) (fact : Option Fact) (old new : Tables) → IsNodeOf plan here old → Agrees old t start →
    RecallsFact old fact new → Recalled plan here t start (option_to_list fact) new
one_recalled plan here t start None old new node agrees never = absurd never
one_recalled plan here t start (Some fact) old new node agrees read = record {
  node = record { plan_is = read.leads.plan ∙ node.plan_is; here_is = read.leads.here ∙ node.here_is };
  agrees = elim (cases_eq (tenant_of fact) t) [
    | inl same ↦ (
        let at : Agrees old (tenant_of fact) start = subst (λ n. Agrees old n start) (sym same) agrees in
        let P : CheckedPlan → Here → Type 0 = λ p h. Agrees new (tenant_of fact) (recalls (own_fact fact) (site_of p h (tenant_of fact)) start).local in
        let one : P plan here = subst (λ p. P p here) node.plan_is (subst (λ h. P old.plan h) node.here_is (read.leads.own start at)) in
        let two : Agrees new t (recall_one (site_of plan here t) start (own_fact fact)) = subst (λ n. Agrees new n (recalls (own_fact fact) (site_of plan here n) start).local) same one in
        let is : those_of t (fact ∷ []) ≡ own_fact fact ∷ [] = rw (eq-eqb (tenant_of fact) t same) refl in
        subst (λ z. Agrees new t (recall_all (site_of plan here t) start z)) (sym is) two)
    | inr other ↦ (
        let is : those_of t (fact ∷ []) ≡ [] = rw (ne_eqb (tenant_of fact) t other) refl in
        subst (λ z. Agrees new t (recall_all (site_of plan here t) start z)) (sym is) (read.leads.others t (λ e. other (sym e)) start agrees))
  ];
}

pub all_recalled : (plan : CheckedPlan) (here : Here) (t : ℕ) (start : Local) (lines : List (List ℕ)) (old new : Tables) → IsNodeOf plan here old → Agrees old t start →
    RecallsAll RecallsTo old lines new → Recalled plan here t start (facts_said plan lines) new
all_recalled plan here t start [] old new node agrees same = record {
  node = subst (IsNodeOf plan here) same node;
  agrees = subst (λ (w : Tables). Agrees w t start) same agrees;
}
all_recalled plan here t start (line ∷ lines) old new node agrees reads =
    let next : Tables = reads.0 in
    let step : RecallsTo old line next = reads.1 in
    let facts : List Fact = option_to_list (fact_of_line plan line) in
    let one : Recalled plan here t start facts next =
    one_recalled plan here t start (fact_of_line plan line) old next node agrees (subst (λ p. RecallsFact old (fact_of_line p line) next) node.plan_is step) in
    let mid : Local = recall_all (site_of plan here t) start (those_of t facts) in
    let rest : Recalled plan here t mid (facts_said plan lines) new = all_recalled plan here t mid lines next new one.node one.agrees reads.2 in
    record {
      node = rest.node;
      agrees = subst (λ z. Agrees new t z) (sym (
          ap (recall_all (site_of plan here t) start) (those-append t facts (facts_said plan lines))
          ∙ recall_more (site_of plan here t) start (those_of t facts) (those_of t (facts_said plan lines)))) rest.agrees;
    }

pub starts_by_parts : AllStartsByParts
starts_by_parts plan here t start lines old new node agrees reads = (all_recalled plan here t start lines old new node agrees reads).agrees

-- the plan and the number stay
pub same_node : (lines : List (List ℕ)) (old new : Tables) → RecallsAll RecallsTo old lines new → IsNodeOf old.plan old.here new
same_node [] old new same = record { plan_is = ap (λ (w : Tables). w.plan) (sym same); here_is = ap (λ (w : Tables). w.here) (sym same) }
same_node (line ∷ lines) old new reads =
    let one : IsNodeOf old.plan old.here reads.0 = by (fact_of_line old.plan line) old reads.0 reads.1 in
    let more : IsNodeOf reads.0.plan reads.0.here new = same_node lines reads.0 new reads.2 in
    record { plan_is = more.plan_is ∙ one.plan_is; here_is = more.here_is ∙ one.here_is }
  where
    by : (fact : Option Fact) (a b : Tables) → RecallsFact a fact b → IsNodeOf a.plan a.here b
    by None a b never = absurd never
    by (Some fact) a b read = record { plan_is = read.leads.plan; here_is = read.leads.here }

-- a machine that has tables reads lines as they do
pub on_tables : {M : Type 0} (tables : M → Tables) (recalls_line : M → List ℕ → M → Type 0) → ((a b : M) (line : List ℕ) → recalls_line a line b → RecallsTo (tables a) line (tables b)) →
    (lines : List (List ℕ)) (a b : M) → RecallsAll recalls_line a lines b → RecallsAll RecallsTo (tables a) lines (tables b)
on_tables tables recalls_line to [] a b same = ap tables same
on_tables tables recalls_line to (line ∷ lines) a b r = (tables r.0, to a r.0 line r.1, on_tables tables recalls_line to lines r.0 b r.2)
