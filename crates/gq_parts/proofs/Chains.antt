-- What a tenant's part takes by a line, step by step: where one knows what it does by each, one knows what it gives by all.
use Rattle.std.proofs.Common.{◌≡◌, ◌∙◌, ℕ, suc, Bool, false, List, [], ◌∷◌, ◌++◌, map, refl, sym, ap, append-nil}
use Rattle.std.specs.Prelude.{⊤, option_map}
use Rattle.std.proofs.lemmas.List.{map-append}
use Rattle.std.specs.List.{flat_map}
use Rattle.std.specs.Option.{option_to_list}
use Rattle.gq_tag.specs.Tag.{OwnMessage}
use Rattle.gq_desk.specs.CheckedPlan.{CheckedPlan}
use Rattle.gq_cluster.specs.Facts.{OwnFact}
use Rattle.gq_node.specs.Inputs.{Input, Brought, does, after_all}
use Rattle.gq_node.specs.Local.{Local, Doing}
use Rattle.gq_node.specs.Sites.{Here, Site, site_of}
use Rattle.gq_node.specs.Shorts.{short_with}
use Rattle.gq_node.specs.Tables.{fact_of, transfer_of}
use Rattle.gq_parts.specs.Inputs.{asked_in}
use Rattle.gq_parts.specs.Texts.{letters_text, reply_text, step_text, doing_text, steps_text, outside_text, written_for, own_facts, facts_for}
use Rattle.gq_parts.specs.Within.{gives_again, letters_by, own_by, others_by, first_own, own_of, within, left, left_behind, taken, after_taken}
use Rattle.gq_parts.proofs.Taking.{IsPlain, left_none, after_taken_more, written_more}
use Rattle.gq_parts.proofs.Writing.{within_one}

-- what comes, which is no short letter, and what is done by it
pub record Move : Type 0 where
  pub input : Input
  pub plain : IsPlain input
  pub doing : Doing

abbrev pub inputs_in : List Move → List Input
inputs_in moves = map (λ move. move.input) moves

-- the part does this by them, one behind the other
abbrev pub DoesAll : Site → Local → List Move → Type 0
DoesAll site local [] = ⊤
DoesAll site local (move ∷ moves) = (does move.input site local ≡ move.doing) × DoesAll site move.doing.local moves

abbrev pub last_local : Local → List Move → Local
last_local local [] = local
last_local local (move ∷ moves) = last_local move.doing.local moves

abbrev pub facts_in : List Move → List OwnFact
facts_in moves = flat_map (λ move. option_to_list move.doing.fact) moves

abbrev pub move_text : CheckedPlan → Here → (t : ℕ) → Move → List ℕ
move_text plan here t move =
    step_text plan here t (asked_in move.input) move.doing.answer
    (letters_text plan here t (gives_again move.input) move.doing.local (others_by (gives_again move.input) (site_of plan here t) move.doing.letters)) (option_map (transfer_of t) move.doing.transfer)

abbrev pub text_in : CheckedPlan → Here → (t : ℕ) → List Move → List ℕ
text_in plan here t moves = flat_map (move_text plan here t) moves

-- the text of a step, where one knows what is done by it
doing_is : (plan : CheckedPlan) (here : Here) (t : ℕ) (local : Local) (move : Move) → does move.input (site_of plan here t) local ≡ move.doing → doing_text plan here t local move.input ≡ move_text plan here t move
doing_is plan here t local move is =
    let site : Site = site_of plan here t in
    let again : Bool = gives_again move.input in
    let letters : letters_by site local move.input ≡ move.doing.letters = (move.plain site local).0 ∙ ap (λ (d : Doing). d.letters) is in
    λ i. reply_text plan here (option_map (short_with t) ((move.plain site local).1 i))
    ++ step_text plan here t (asked_in move.input) (is i).answer (letters_text plan here t again (is i).local (others_by again site (letters i))) (option_map (transfer_of t) (is i).transfer)

after_is : (site : Site) (local : Local) (moves : List Move) → DoesAll site local moves → after_all site local (inputs_in moves) ≡ last_local local moves
after_is site local [] are = refl
after_is site local (move ∷ moves) are = ap (λ (d : Doing). after_all site d.local (inputs_in moves)) are.0 ∙ after_is site move.doing.local moves are.1

facts_are : (site : Site) (local : Local) (moves : List Move) → DoesAll site local moves → own_facts site local (inputs_in moves) ≡ facts_in moves
facts_are site local [] are = refl
facts_are site local (move ∷ moves) are =
    ap (λ (d : Doing). option_to_list d.fact ++ own_facts site d.local (inputs_in moves)) are.0 ∙ ap (λ z. option_to_list move.doing.fact ++ z) (facts_are site move.doing.local moves are.1)

text_is : (plan : CheckedPlan) (here : Here) (t : ℕ) (local : Local) (moves : List Move) → DoesAll (site_of plan here t) local moves → steps_text plan here t local (inputs_in moves) ≡ text_in plan here t moves
text_is plan here t local [] are = refl
text_is plan here t local (move ∷ moves) are =
    ap (λ z. z ++ steps_text plan here t (does move.input (site_of plan here t) local).local (inputs_in moves)) (doing_is plan here t local move are.0)
    ∙ ap (λ (d : Doing). move_text plan here t move ++ steps_text plan here t d.local (inputs_in moves)) are.0
    ∙ ap (λ z. move_text plan here t move ++ z) (text_is plan here t move.doing.local moves are.1)

-- what the part is by these inputs from outside, what it gives, and what is written for it
pub record Comes (plan : CheckedPlan) (here : Here) (t : ℕ) (local : Local) (inputs : List Input) (moves : List Move) : Type 0 where
  pub after : after_taken (site_of plan here t) local inputs ≡ last_local local moves
  pub facts : facts_for plan here t local inputs ≡ map (fact_of t) (facts_in moves)
  pub text : written_for plan here t local inputs ≡ text_in plan here t moves

-- one input, and what is taken within behind it
pub comes_one : (plan : CheckedPlan) (here : Here) (t : ℕ) (local : Local) (x : Input) (moves : List Move) →
    within (site_of plan here t) local x ≡ inputs_in moves → left (site_of plan here t) local x ≡ [] → DoesAll (site_of plan here t) local moves → Comes plan here t local (x ∷ []) moves
comes_one plan here t local x moves is none are =
    let site : Site = site_of plan here t in
    let all : taken site local (x ∷ []) ≡ inputs_in moves = append-nil (within site local x) ∙ is in
    record {
      after = ap (after_all site local) all ∙ after_is site local moves are;
      facts = ap (map (fact_of t)) (ap (own_facts site local) all ∙ facts_are site local moves are);
      text = append-nil (outside_text plan here t local x)
          ∙ ap (λ ms. steps_text plan here t local (within site local x) ++ letters_text plan here t false (after_all site local (within site local x)) ms) none
          ∙ append-nil (steps_text plan here t local (within site local x))
          ∙ ap (steps_text plan here t local) is
          ∙ text_is plan here t local moves are;
    }

-- ---- where nothing is left

first_left : (site : Site) (local : Local) (x : Input) (doing : Doing) (ms : List OwnMessage) → IsPlain x → does x site local ≡ doing → own_by (gives_again x) site doing.letters ≡ ms → left site local x ≡ left_behind 8 site doing.local ms
unfolding left
first_left site local x doing ms plain is own = λ i. left_behind 8 site (is i).local (e i)
  where
    e : first_own site local x ≡ ms
    e = ap (own_by (gives_again x) site) ((plain site local).0 ∙ ap (λ (d : Doing). d.letters) is) ∙ own

one_left : (n : ℕ) (site : Site) (local : Local) (m : OwnMessage) (doing : Doing) (ms : List OwnMessage) → does (Brought site.here m) site local ≡ doing → own_of site doing.letters ≡ ms →
    left_behind (suc n) site local (m ∷ []) ≡ left_behind n site doing.local ms
unfolding left_behind
one_left n site local m doing ms is own = λ i. left_behind n site (is i).local (e i)
  where
    e : own_of site (does (Brought site.here m) site local).letters ++ [] ≡ ms
    e = ap (λ (d : Doing). own_of site d.letters ++ []) is ∙ ap (λ z. z ++ []) own ∙ append-nil ms

pub left_one : (site : Site) (local : Local) (x : Input) (doing : Doing) → IsPlain x → does x site local ≡ doing → own_by (gives_again x) site doing.letters ≡ [] → left site local x ≡ []
left_one site local x doing plain is own = first_left site local x doing [] plain is own ∙ left_none 8 site doing.local

pub left_two : (site : Site) (local : Local) (x : Input) (m : OwnMessage) (one two : Doing) → IsPlain x → does x site local ≡ one → own_by (gives_again x) site one.letters ≡ m ∷ [] → does (Brought site.here m) site one.local ≡ two → own_of site two.letters ≡ [] →
    left site local x ≡ []
left_two site local x m one two plain is own also none = first_left site local x one (m ∷ []) plain is own ∙ one_left 7 site one.local m two [] also none ∙ left_none 7 site two.local

pub left_three : (site : Site) (local : Local) (x : Input) (m k : OwnMessage) (one two three : Doing) → IsPlain x → does x site local ≡ one → own_by (gives_again x) site one.letters ≡ m ∷ [] → does (Brought site.here m) site one.local ≡ two →
    own_of site two.letters ≡ k ∷ [] → does (Brought site.here k) site two.local ≡ three → own_of site three.letters ≡ [] → left site local x ≡ []
left_three site local x m k one two three plain is own also more last none =
    first_left site local x one (m ∷ []) plain is own ∙ one_left 7 site one.local m two (k ∷ []) also more ∙ one_left 6 site two.local k three [] last none ∙ left_none 6 site three.local

-- ---- inputs behind which nothing is taken within

-- none of these letters is taken within
abbrev pub AllAlone : Site → List Move → Type 0
AllAlone site [] = ⊤
AllAlone site (move ∷ moves) = (own_by (gives_again move.input) site move.doing.letters ≡ []) × AllAlone site moves

pub comes_alone : (plan : CheckedPlan) (here : Here) (t : ℕ) (local : Local) (moves : List Move) → DoesAll (site_of plan here t) local moves → AllAlone (site_of plan here t) moves → Comes plan here t local (inputs_in moves) moves
comes_alone plan here t local [] are alone = record { after = refl; facts = refl; text = refl }
comes_alone plan here t local (move ∷ moves) are alone =
    let site : Site = site_of plan here t in
    let d : Doing = move.doing in
    let rest : Comes plan here t d.local (inputs_in moves) moves = comes_alone plan here t d.local moves are.1 alone.1 in
    let one : within site local move.input ≡ move.input ∷ [] = within_one site local move.input d move.plain are.0 alone.0 in
    let first : Comes plan here t local (move.input ∷ []) (move ∷ []) = comes_one plan here t local move.input (move ∷ []) one (left_one site local move.input d move.plain are.0 alone.0) (are.0, tt) in
    let behind : after_all site local (within site local move.input) ≡ d.local = ap (after_all site local) (sym (append-nil (within site local move.input))) ∙ first.after in
    record {
      after = after_taken_more site local (move.input ∷ []) (inputs_in moves) ∙ ap (λ l. after_taken site l (inputs_in moves)) first.after ∙ rest.after;
      facts = ap (map (fact_of t)) (
          ap (λ xs. own_facts site local (xs ++ taken site (after_all site local (within site local move.input)) (inputs_in moves))) one
          ∙ ap (λ l. own_facts site local (move.input ∷ taken site l (inputs_in moves))) behind
          ∙ ap (λ (x : Doing). option_to_list x.fact ++ own_facts site x.local (taken site d.local (inputs_in moves))) are.0)
          ∙ map-append (fact_of t) (option_to_list d.fact) (own_facts site d.local (taken site d.local (inputs_in moves)))
          ∙ ap (λ z. map (fact_of t) (option_to_list d.fact) ++ z) rest.facts
          ∙ sym (map-append (fact_of t) (option_to_list d.fact) (facts_in moves));
      text = written_more plan here t local (move.input ∷ []) (inputs_in moves)
          ∙ ap (λ l. written_for plan here t local (move.input ∷ []) ++ written_for plan here t l (inputs_in moves)) first.after
          ∙ ap (λ z. z ++ written_for plan here t d.local (inputs_in moves)) (first.text ∙ append-nil (move_text plan here t move))
          ∙ ap (λ z. move_text plan here t move ++ z) rest.text;
    }
