-- Lines by which the tables of nodes go on: what happens then is the run that the law's parts make of these lines.
use Rattle.std.proofs.Common.{◌≡◌, ◌∙◌, ℕ, ◌<◌, List, [], ◌∷◌, ◌++◌, length, refl, sym, ap, subst, arith}
use Rattle.std.specs.Prelude.{nat_lt}
use Rattle.std.proofs.lemmas.Bool.{cases_Bool}
use Rattle.gq_desk.specs.CheckedPlan.{CheckedPlan}
use Rattle.gq_keeper.specs.Runs.{Did}
use Rattle.gq_node.specs.Inputs.{Input}
use Rattle.gq_node.specs.Local.{Local}
use Rattle.gq_node.specs.Sites.{Here, site_of}
use Rattle.gq_node.specs.Tables.{Agrees}
use Rattle.gq_wire.specs.Incoming.{incoming_of}
use Rattle.gq_parts.specs.Alike.{AreAlike}
use Rattle.gq_parts.specs.AllNodes.{GridPlans, here_in, AreSound, AllNodes, AllNew, Happening, Took, Starts, TakesStep, Happens, AllHappen, nodes_at, HasAlike, IsByLaw}
use Rattle.gq_parts.specs.Inputs.{line_inputs}
use Rattle.gq_parts.specs.Resting.{IsNodeOf}
use Rattle.gq_parts.specs.Steps.{AllAgree, fact_lines}
use Rattle.gq_parts.specs.Texts.{facts_for, facts_by, written_by, parts_after, line_text_of}
use Rattle.gq_parts.specs.Worked.{Sent, Starting, Sends, did_by, happened, all_happened}
use Rattle.gq_parts.proofs.AllNodes.{all_by_law}
use Rattle.gq_parts.proofs.AlikeTexts.{AllAlike, all_write_same, all_written_same, behind_taken, node_text_same}
use Rattle.gq_parts.proofs.Apart.{StepByParts, step_by_parts}
use Rattle.gq_parts.proofs.Resting.{of_case, of_case_has}
use Rattle.gq_parts.proofs.Taking.{same_places}

-- the node takes the line, whatever it gives and tells
pub record TakesSent (g : GridPlans) (n p : ℕ) (line : List ℕ) (old new : AllNodes) : Type 0 where
  pub did : Did
  pub line_is : did.line ≡ line
  pub node : IsNodeOf g.plan (here_in g p n) (old.tables n)
  pub happens : Happens g old (Took n p [] did) new

abbrev pub Goes : GridPlans → Sent → (old new : AllNodes) → Type 0
Goes g (Starting n p) old new = Happens g old (Starts n p) new
Goes g (Sends n p line) old new = TakesSent g n p line old new

abbrev pub AllGo : GridPlans → AllNodes → List Sent → AllNodes → Type 0
AllGo g first [] last = first ≡ last
AllGo g first (s ∷ sent) last = (next : AllNodes) × Goes g s first next × AllGo g next sent last

pub go_append : (g : GridPlans) (xs ys : List Sent) (first next last : AllNodes) → AllGo g first xs next → AllGo g next ys last → AllGo g first (xs ++ ys) last
go_append g [] ys first next last same more = subst (λ m. AllGo g m ys last) (sym same) more
go_append g (x ∷ xs) ys first next last go more = (go.0, go.1, go_append g xs ys go.0 next last go.2 more)

happen_more : (g : GridPlans) (before : List Happening) (h : Happening) (first old new : AllNodes) → AllHappen g first before old → Happens g old h new → AllHappen g first (before ++ h ∷ []) new
happen_more g [] h first old new same one = (new, subst (λ m. Happens g m h new) (sym same) one, refl)
happen_more g (b ∷ before) h first old new happen one = (happen.0, happen.1, happen_more g before h happen.0 old new happen.2 one)

-- what it gives and tells is what the law's parts do
did_is : (g : GridPlans) (before : List Happening) (first old new : AllNodes) (n p : ℕ) (line : List ℕ) → AreSound g → AllNew first → AllHappen g first before old → (t : TakesSent g n p line old new) → t.did ≡ did_by g before n p line
did_is g before first old new n p line sound fresh happen takes = λ i. record { line = takes.line_is i; facts = gave i; told = told i }
  where
    did : Did
    did = takes.did

    goes : TakesStep n p did old new
    goes = takes.happens.goes

    here : Here
    here = here_in g p n

    inputs : ℕ → List Input
    inputs = line_inputs g.plan here did.line

    parts : ℕ → Local
    parts t = (nodes_at g before t).local n

    law : IsByLaw g before old
    law = all_by_law g first old before sound fresh happen

    part : (t : ℕ) → t < length g.plan.rows → HasAlike (site_of g.plan here t) (old.tables n) t (parts t)
    part t within = subst (λ q. HasAlike (site_of g.plan (here_in g q n) t) (old.tables n) t (parts t)) goes.plan ((law.nodes t within).parts n goes.begun)

    -- the parts that the tables have
    ones : ℕ → Local
    ones t = of_case t (length g.plan.rows) (λ within. (part t within).local) (parts t) (cases_Bool (nat_lt t (length g.plan.rows)))

    has : (t : ℕ) → t < length g.plan.rows → Agrees (old.tables n) t (ones t) × AreAlike (site_of g.plan here t) (ones t) (parts t)
    has t within = of_case_has (λ x. Agrees (old.tables n) t x × AreAlike (site_of g.plan here t) x (parts t)) t (length g.plan.rows) (λ h. (part t h).local) (parts t)
        (λ h. ((part t h).agrees, (part t h).alike)) within (cases_Bool (nat_lt t (length g.plan.rows)))

    alike : AllAlike g.plan here ones parts
    alike t within = (has t within).1

    agree : AllAgree (old.tables n) ones
    agree t within = (has t (subst (λ (plan : CheckedPlan). t < length plan.rows) takes.node.plan_is within)).0

    one : StepByParts g.plan here [] ones did.line did.facts did.told (new.tables n)
    one = step_by_parts g.plan here (old.tables n) (new.tables n) [] ones did.line did.facts did.told takes.node agree goes.step

    gave : did.facts ≡ fact_lines g.plan (facts_by g.plan here parts (line_inputs g.plan here line))
    gave =
        one.lines_are
        ∙ ap (fact_lines g.plan) (same_places (λ t. facts_for g.plan here t (ones t) (inputs t)) (λ t. facts_for g.plan here t (parts t) (inputs t)) 0 (length g.plan.rows)
        (λ t below. (all_write_same g.plan here t (ones t) (parts t) (inputs t) (alike t (omega arith))).facts))
        ∙ ap (λ l. fact_lines g.plan (facts_by g.plan here parts (line_inputs g.plan here l))) takes.line_is

    told : did.told ≡ written_by g.plan here parts (line_inputs g.plan here line) ++ line_text_of g.plan here line (parts_after g.plan here parts (line_inputs g.plan here line))
    told =
        one.told_is
        ∙ ap (λ z. z ++ line_text_of g.plan here did.line (parts_after g.plan here ones inputs)) (all_written_same g.plan here ones parts inputs alike)
        ∙ ap (λ z. written_by g.plan here parts inputs ++ z) (node_text_same g.plan here (incoming_of g.plan n did.line) (parts_after g.plan here ones inputs) (parts_after g.plan here parts inputs)
        (λ t within. behind_taken (site_of g.plan here t) (ones t) (parts t) (inputs t) (alike t within)))
        ∙ ap (λ l. written_by g.plan here parts (line_inputs g.plan here l) ++ line_text_of g.plan here l (parts_after g.plan here parts (line_inputs g.plan here l))) takes.line_is

one_goes : (g : GridPlans) (before : List Happening) (s : Sent) (first old new : AllNodes) → AreSound g → AllNew first → AllHappen g first before old → Goes g s old new → Happens g old (happened g before s) new
one_goes g before (Starting n p) first old new sound fresh happen goes = goes
one_goes g before (Sends n p line) first old new sound fresh happen goes = subst (λ did. Happens g old (Took n p [] did) new) (did_is g before first old new n p line sound fresh happen goes) goes.happens

-- so all that happens is the run
pub all_go : (g : GridPlans) (sent : List Sent) (before : List Happening) (first old last : AllNodes) → AreSound g → AllNew first → AllHappen g first before old → AllGo g old sent last → AllHappen g old (all_happened g before sent) last
all_go g [] before first old last sound fresh happen same = same
all_go g (s ∷ sent) before first old last sound fresh happen go =
    let h : Happening = happened g before s in
    let one : Happens g old h go.0 = one_goes g before s first old go.0 sound fresh happen go.1 in
    (go.0, one, all_go g sent (before ++ h ∷ []) first go.0 last sound fresh (happen_more g before h first old go.0 happen one) go.2)
