-- What is written for parts that are alike, and what they must not forget, is the same.
use Rattle.std.proofs.Common.{◌≡◌, ◌∙◌, ℕ, zero, suc, ◌<◌, Bool, true, false, List, [], ◌∷◌, ◌++◌, length, map, refl, ap, subst, arith, inl, inr}
use Rattle.std.specs.Prelude.{nat_lt, option_map}
use Rattle.std.specs.Option.{option_to_list}
use Rattle.std.proofs.lemmas.Bool.{cases_Bool}
use Rattle.gq_tag.specs.Tag.{OwnMessage, message_of}
use Rattle.gq_desk.specs.CheckedPlan.{CheckedPlan}
use Rattle.gq_node.specs.Inputs.{Input, does, after_one, after_all, doings}
use Rattle.gq_node.specs.Joining.{awaited}
use Rattle.gq_node.specs.Local.{Local}
use Rattle.gq_node.specs.Shorts.{short_with}
use Rattle.gq_node.specs.Sites.{Here, Site, site_of}
use Rattle.gq_node.specs.Tables.{fact_of, transfer_of}
use Rattle.gq_wire.specs.declared.incoming.Incoming.{Incoming}
use Rattle.gq_wire.specs.declared.incoming.Incoming.TheVariants.{Request, Plan as AsksPlan, Look as AsksLook, Bad, Letter, ShortLetter, Joins, Joined, Speaks, Fetch, Fetched, Tick, Greet, Nothing}
use Rattle.gq_parts.specs.declared.laws.TheConstants.{MOST_HOPS}
use Rattle.gq_parts.specs.Alike.{AreAlike, DoSame, AllWriteSame}
use Rattle.gq_parts.specs.Inputs.{asked_in}
use Rattle.gq_parts.specs.Texts.{formed_line, letter_text, letters_text, reply_text, step_text, others_text, doing_text, steps_text, outside_text, written_for, own_facts, written_by, lacks_some, joins_text, node_text}
use Rattle.gq_parts.specs.Within.{gives_again, letters_by, own_by, others_by, first_own, own_of, own_letters, brought, hops, left_behind, within, left, taken, after_taken}
use Rattle.gq_parts.proofs.Alike.{lacked_same}
use Rattle.gq_parts.proofs.AlikeShorts.{does_same, GoesSame, goes_same_out, forms_same}
use Rattle.gq_parts.proofs.Lacking.{any_same, some_tenant}
use Rattle.gq_parts.proofs.Taking.{same_places}

-- ---- several inputs

pub all_same : (site : Site) (a b : Local) (inputs : List Input) → AreAlike site a b → AreAlike site (after_all site a inputs) (after_all site b inputs)
all_same site a b [] alike = alike
all_same site a b (input ∷ inputs) alike = all_same site (after_one site a input) (after_one site b input) inputs (does_same input site a b alike).local

own_same : (site : Site) (a b : Local) (inputs : List Input) → AreAlike site a b → own_letters site (doings site a inputs) ≡ own_letters site (doings site b inputs)
own_same site a b [] alike = refl
own_same site a b (input ∷ inputs) alike =
    let one : DoSame site (does input site a) (does input site b) = does_same input site a b alike in
    ap (λ ls. own_of site ls ++ own_letters site (doings site (after_one site a input) inputs)) one.letters
    ∙ ap (λ z. own_of site (does input site b).letters ++ z) (own_same site (after_one site a input) (after_one site b input) inputs one.local)

pub facts_same : (site : Site) (a b : Local) (inputs : List Input) → AreAlike site a b → own_facts site a inputs ≡ own_facts site b inputs
facts_same site a b [] alike = refl
facts_same site a b (input ∷ inputs) alike =
    let one : DoSame site (does input site a) (does input site b) = does_same input site a b alike in
    ap (λ f. option_to_list f ++ own_facts site (after_one site a input) inputs) one.fact
    ∙ ap (λ z. option_to_list (does input site b).fact ++ z) (facts_same site (after_one site a input) (after_one site b input) inputs one.local)

-- what goes out by an input
form_same : (plan : CheckedPlan) (here : Here) (t : ℕ) (again : Bool) (a b : Local) (letters : List OwnMessage) → AreAlike (site_of plan here t) a b → letters_text plan here t again a letters ≡ letters_text plan here t again b letters
form_same plan here t again a b [] alike = refl
form_same plan here t true a b (m ∷ ms) alike = ap (λ z. letter_text plan here t true a m ++ z) (form_same plan here t true a b ms alike)
form_same plan here t false a b (m ∷ ms) alike =
    ap (λ form. formed_line plan here (message_of t m) (option_map (short_with t) form) ++ letters_text plan here t false a ms) (forms_same (site_of plan here t) a b m alike)
    ∙ ap (λ z. letter_text plan here t false b m ++ z) (form_same plan here t false a b ms alike)

doing_same : (plan : CheckedPlan) (here : Here) (t : ℕ) (a b : Local) (input : Input) → AreAlike (site_of plan here t) a b → doing_text plan here t a input ≡ doing_text plan here t b input
doing_same plan here t a b input alike =
    let site : Site = site_of plan here t in
    let one : DoSame site (does input site a) (does input site b) = does_same input site a b alike in
    let out : GoesSame site a b input = goes_same_out site a b input alike in
    let again : Bool = gives_again input in
    let others : others_text plan here t a input ≡ others_text plan here t b input =
    ap (λ ms. letters_text plan here t again (does input site a).local (others_by again site ms)) out.letters
    ∙ form_same plan here t again (does input site a).local (does input site b).local (others_by again site (letters_by site b input)) one.local in
    λ i. reply_text plan here (option_map (short_with t) (out.reply i)) ++ step_text plan here t (asked_in input) (one.answer i) (others i) (option_map (transfer_of t) (one.transfer i))

steps_same : (plan : CheckedPlan) (here : Here) (t : ℕ) (a b : Local) (inputs : List Input) → AreAlike (site_of plan here t) a b → steps_text plan here t a inputs ≡ steps_text plan here t b inputs
steps_same plan here t a b [] alike = refl
steps_same plan here t a b (input ∷ inputs) alike =
    let site : Site = site_of plan here t in
    ap (λ z. z ++ steps_text plan here t (after_one site a input) inputs) (doing_same plan here t a b input alike)
    ∙ ap (λ z. doing_text plan here t b input ++ z) (steps_same plan here t (after_one site a input) (after_one site b input) inputs (does_same input site a b alike).local)

-- ---- what is taken within

hops_same : (n : ℕ) (site : Site) (a b : Local) (letters : List OwnMessage) → AreAlike site a b → hops n site a letters ≡ hops n site b letters
unfolding hops
hops_same zero site a b letters alike = refl
hops_same (suc n) site a b letters alike =
    let hop : List Input = brought site letters in
    ap (λ z. hop ++ z) (
    hops_same n site (after_all site a hop) (after_all site b hop) (own_letters site (doings site a hop)) (all_same site a b hop alike)
    ∙ ap (hops n site (after_all site b hop)) (own_same site a b hop alike))

behind_same : (n : ℕ) (site : Site) (a b : Local) (letters : List OwnMessage) → AreAlike site a b → left_behind n site a letters ≡ left_behind n site b letters
unfolding left_behind
behind_same zero site a b letters alike = refl
behind_same (suc n) site a b letters alike =
    let hop : List Input = brought site letters in
    behind_same n site (after_all site a hop) (after_all site b hop) (own_letters site (doings site a hop)) (all_same site a b hop alike)
    ∙ ap (left_behind n site (after_all site b hop)) (own_same site a b hop alike)

first_same : (site : Site) (a b : Local) (input : Input) → AreAlike site a b → first_own site a input ≡ first_own site b input
first_same site a b input alike = ap (own_by (gives_again input) site) (goes_same_out site a b input alike).letters

within_same : (site : Site) (a b : Local) (input : Input) → AreAlike site a b → within site a input ≡ within site b input
unfolding within
within_same site a b input alike =
    ap (λ z. input ∷ z) (
    hops_same MOST_HOPS site (after_one site a input) (after_one site b input) (first_own site a input) (does_same input site a b alike).local
    ∙ ap (hops MOST_HOPS site (after_one site b input)) (first_same site a b input alike))

left_same : (site : Site) (a b : Local) (input : Input) → AreAlike site a b → left site a input ≡ left site b input
unfolding left
left_same site a b input alike =
    behind_same MOST_HOPS site (after_one site a input) (after_one site b input) (first_own site a input) (does_same input site a b alike).local
    ∙ ap (left_behind MOST_HOPS site (after_one site b input)) (first_same site a b input alike)

-- behind what the one takes by an input, both are alike
behind_within : (site : Site) (a b : Local) (input : Input) → AreAlike site a b → AreAlike site (after_all site a (within site a input)) (after_all site b (within site b input))
behind_within site a b input alike =
    subst (λ xs. AreAlike site (after_all site a (within site a input)) (after_all site b xs)) (within_same site a b input alike) (all_same site a b (within site a input) alike)

pub taken_same : (site : Site) (a b : Local) (inputs : List Input) → AreAlike site a b → taken site a inputs ≡ taken site b inputs
taken_same site a b [] alike = refl
taken_same site a b (input ∷ inputs) alike =
    ap (λ z. z ++ taken site (after_all site a (within site a input)) inputs) (within_same site a b input alike)
    ∙ ap (λ z. within site b input ++ z) (taken_same site (after_all site a (within site a input)) (after_all site b (within site b input)) inputs (behind_within site a b input alike))

pub behind_taken : (site : Site) (a b : Local) (inputs : List Input) → AreAlike site a b → AreAlike site (after_taken site a inputs) (after_taken site b inputs)
behind_taken site a b inputs alike =
    subst (λ xs. AreAlike site (after_taken site a inputs) (after_all site b xs)) (taken_same site a b inputs alike) (all_same site a b (taken site a inputs) alike)

-- ---- what is written

outside_same : (plan : CheckedPlan) (here : Here) (t : ℕ) (a b : Local) (input : Input) → AreAlike (site_of plan here t) a b → outside_text plan here t a input ≡ outside_text plan here t b input
outside_same plan here t a b input alike =
    let site : Site = site_of plan here t in
    let one : Local = after_all site a (within site a input) in
    let two : Local = after_all site b (within site b input) in
    ap (λ z. z ++ letters_text plan here t false one (left site a input)) (steps_same plan here t a b (within site a input) alike ∙ ap (steps_text plan here t b) (within_same site a b input alike))
    ∙ ap (λ ms. steps_text plan here t b (within site b input) ++ letters_text plan here t false one ms) (left_same site a b input alike)
    ∙ ap (λ z. steps_text plan here t b (within site b input) ++ z) (form_same plan here t false one two (left site b input) (behind_within site a b input alike))

pub written_same : (plan : CheckedPlan) (here : Here) (t : ℕ) (a b : Local) (inputs : List Input) → AreAlike (site_of plan here t) a b → written_for plan here t a inputs ≡ written_for plan here t b inputs
written_same plan here t a b [] alike = refl
written_same plan here t a b (input ∷ inputs) alike =
    let site : Site = site_of plan here t in
    ap (λ z. z ++ written_for plan here t (after_all site a (within site a input)) inputs) (outside_same plan here t a b input alike)
    ∙ ap (λ z. outside_text plan here t b input ++ z) (written_same plan here t (after_all site a (within site a input)) (after_all site b (within site b input)) inputs (behind_within site a b input alike))

-- each tenant's parts are alike
abbrev pub AllAlike : CheckedPlan → Here → (one two : ℕ → Local) → Type 0
AllAlike plan here one two = (t : ℕ) → t < length plan.rows → AreAlike (site_of plan here t) (one t) (two t)

pub all_written_same : (plan : CheckedPlan) (here : Here) (one two : ℕ → Local) (inputs : ℕ → List Input) → AllAlike plan here one two → written_by plan here one inputs ≡ written_by plan here two inputs
all_written_same plan here one two inputs alike =
    same_places (λ t. written_for plan here t (one t) (inputs t)) (λ t. written_for plan here t (two t) (inputs t)) 0 (length plan.rows) (λ t below. written_same plan here t (one t) (two t) (inputs t) (alike t (omega arith)))

-- and what the node writes to other nodes
lacks_same : (plan : CheckedPlan) (here : Here) (one two : ℕ → Local) → AllAlike plan here one two → lacks_some plan one ≡ lacks_some plan two
lacks_same plan here one two alike = any_same _ _ 0 (length plan.rows) (λ t below. ap (nat_lt 0) (lacked_same (site_of plan here t) (one t) (two t) (alike t (omega arith))))

pub node_text_same : (plan : CheckedPlan) (here : Here) (incoming : Incoming) (one two : ℕ → Local) → AllAlike plan here one two → node_text plan here incoming one ≡ node_text plan here incoming two
node_text_same plan here (Request tenant op line) one two alike = refl
node_text_same plan here (AsksPlan tenant) one two alike = refl
node_text_same plan here (AsksLook tenant mark volume) one two alike = refl
node_text_same plan here (Bad tenant) one two alike = refl
node_text_same plan here (Letter from m) one two alike = refl
node_text_same plan here (ShortLetter from s) one two alike = refl
node_text_same plan here (Joins from losses) one two alike = refl
node_text_same plan here (Joined from losses) one two alike = refl
node_text_same plan here (Speaks from form) one two alike = refl
node_text_same plan here (Fetch from file) one two alike = refl
node_text_same plan here (Fetched from file copy) one two alike = refl
node_text_same plan here Greet one two alike = refl
node_text_same plan here Nothing one two alike = refl
node_text_same plan here Tick one two alike = elim (cases_Bool (lacks_some plan two)) [
  | inr none ↦ (let also : lacks_some plan one ≡ false = lacks_same plan here one two alike ∙ none in rw (also, none) refl)
  | inl some ↦ (
      let also : lacks_some plan one ≡ true = lacks_same plan here one two alike ∙ some in
      let there : 0 < length plan.rows = some_tenant _ (length plan.rows) some in
      rw (also, some) (ap (λ joined. joins_text plan here (awaited (site_of plan here 0) joined)) (alike 0 there).joined))
]

pub all_write_same : AllWriteSame
all_write_same plan here t a b inputs alike =
    let site : Site = site_of plan here t in
    record {
      written = written_same plan here t a b inputs alike;
      facts = ap (map (fact_of t)) (facts_same site a b (taken site a inputs) alike ∙ ap (own_facts site b) (taken_same site a b inputs alike));
      behind = behind_taken site a b inputs alike;
    }
