-- From its first plan and its facts alone a node knows again what must not be forgotten.
use Rattle.std.proofs.Common.{◌≡◌, ◌≢◌, ◌⊎◌, ℕ, Bool, true, false, ◌&&◌, not, List, [], ◌∷◌, refl, sym, ap, ◌∙◌, subst, inl, inr, Option, Some, None, eqb}
use Rattle.std.specs.Prelude.{fold, if◌then◌else◌}
use Rattle.std.proofs.lemmas.Bool.{cases_eq, eq-eqb, ne_eqb, true≢false}
use Rattle.gq_tag.specs.declared.StoredCopy.{StoredCopy}
use Rattle.gq_tag.specs.Tag.{File, is_file, is_less, first_copy, greatest, newer_of, to_server}
use Rattle.gq_laws.proofs.Holding.{greatest-push}
use Rattle.gq_tag.specs.declared.Body.{Body}
use Rattle.gq_tag.specs.declared.Body.TheVariants.{Store}
use Rattle.gq_cluster.specs.Facts.{OwnFact, Begun, Numbered, Kept, Had, replaced_in}
use Rattle.gq_cluster.specs.Cluster.{Setting, Part, Act, Asks, Comes, given_part, node_of, copy_in, fact_in, fact_of, part_after, session_named}
use Rattle.gq_cluster.specs.Keeping.{kept_of, with_fact}
use Rattle.gq_cluster.proofs.Keeping.{all_acts_keep}
use Rattle.gq_cluster.proofs.Reserving.{IsOfNumbers, reserves_numbers}
use Rattle.gq_replace.specs.Plans.{place_of}
use Rattle.gq_replace.specs.Fleet.{World, Fleet, FleetStep, Begins, StartsAgain, Does, Answers, Hears, Gives, Takes, new_fleet, first_part, is_ready_by, after_fleet_step, MayDo, MayHappen, AllMayHappen}
use Rattle.gq_replace.specs.Keeping.{files_of_part, lacks_behind, with_fleet_fact, fleet_fact, fleet_facts, AllFleetFactsSuffice}
use Rattle.gq_replace.proofs.Acting.{reserved_after, lacks_after, asked_brings, heard_brings}
use Rattle.gq_replace.proofs.Moving.{does_here}

-- ---- an act

-- an act of a session leaves the same of copies and reserved numbers, whatever the number of its node
same_kept : (w : World) (n m : ℕ) (p : Part) (act : Act) → ((k : ℕ) (file : File) → (part_after w.setting k p act).brought file ≡ p.brought file) → kept_of (part_after w.setting n p act) ≡ kept_of (part_after w.setting m p act)
same_kept w n m p act brings = λ i. record {
  copy = λ file. greatest (first_copy ∷ (brings n file ∙ sym (brings m file)) i);
  op = λ k. ((reserved_after w.setting n p act k ∙ sym (reserved_after w.setting m p act k)) i).op;
  floor = λ k. ((reserved_after w.setting n p act k ∙ sym (reserved_after w.setting m p act k)) i).floor;
}

act_keeps : (w : World) (u : Fleet) (n : ℕ) (act : Act) → MayDo w u n act → kept_of (part_after w.setting (place_of n) (u.part n) act) ≡ with_fact (kept_of (u.part n)) (fact_of w.setting (u.part n) act)
act_keeps w u n (Asks line aim) may =
    same_kept w (place_of n) n (u.part n) (Asks line aim) (λ k file. asked_brings w.setting k (u.part n) line aim file)
    ∙ all_acts_keep w.setting n (u.part n) (Asks line aim) may.1
act_keeps w u n (Comes letter aim) (from, within, may) = by (to_server letter.body) refl
  where
    by : (b : Bool) → to_server letter.body ≡ b → kept_of (part_after w.setting (place_of n) (u.part n) (Comes letter aim)) ≡ with_fact (kept_of (u.part n)) (fact_of w.setting (u.part n) (Comes letter aim))
    by true ask =
        let its = rw ask at may in
        let at : node_of w.setting.home (Comes letter aim) ≡ place_of n = rw ask (sym its.place) in
        all_acts_keep w.setting (place_of n) (u.part n) (Comes letter aim) at
    by false reply =
        let its : w.setting.home letter.session ≡ n = rw reply at may in
        let at : node_of w.setting.home (Comes letter aim) ≡ n = rw reply its in
        same_kept w (place_of n) n (u.part n) (Comes letter aim) (λ k file. heard_brings w.setting k (u.part n) letter aim file reply)
        ∙ all_acts_keep w.setting n (u.part n) (Comes letter aim) at

-- an act gives no file back
numbers_lack : (k : ℕ) (fact : Option OwnFact) (lacks : File → Bool) (f : File) → IsOfNumbers k fact → lacks_behind fact lacks f ≡ lacks f
numbers_lack k None lacks f its = refl
numbers_lack k (Some (Begun j op)) lacks f its = refl
numbers_lack k (Some (Numbered j number)) lacks f its = refl
numbers_lack k (Some (Kept file copy)) lacks f its = refl
numbers_lack k (Some (Had file copy)) lacks f its = absurd its

replaced_lack : (held : StoredCopy) (file : File) (body : Body) (lacks : File → Bool) (f : File) → lacks_behind (replaced_in held file body) lacks f ≡ lacks f
replaced_lack held file (Store copy) lacks f = by (is_less held.tag copy.tag)
  where
    by : (b : Bool) → lacks_behind (if b then Some (Kept file copy) else None) lacks f ≡ lacks f
    by true = refl
    by false = refl
replaced_lack held file body lacks f = refl

act_lacks : (s : Setting) (part : Part) (act : Act) (lacks : File → Bool) (f : File) → lacks_behind (fact_of s part act) lacks f ≡ lacks f
act_lacks s part (Asks line aim) lacks f = numbers_lack (session_named line) (fact_of s part (Asks line aim)) lacks f (reserves_numbers (session_named line) (part.reserved (session_named line)) _ _)
act_lacks s part (Comes m aim) lacks f = by (to_server m.body) refl
  where
    served : Bool → Option OwnFact
    served b = if b then None else replaced_in (copy_in part m.file) m.file m.body

    heard : Option OwnFact
    heard = fact_in s part (Comes m aim) m.session

    at_server : (b : Bool) → lacks_behind (served b) lacks f ≡ lacks f
    at_server true = refl
    at_server false = replaced_lack (copy_in part m.file) m.file m.body lacks f

    by : (b : Bool) → to_server m.body ≡ b → lacks_behind (fact_of s part (Comes m aim)) lacks f ≡ lacks f
    by true goes = let its : fact_of s part (Comes m aim) ≡ served (part.lacks m.file) = rw goes refl in ap (λ z. lacks_behind z lacks f) its ∙ at_server (part.lacks m.file)
    by false goes =
        let its : fact_of s part (Comes m aim) ≡ heard = rw goes refl in
        ap (λ z. lacks_behind z lacks f) its ∙ numbers_lack m.session heard lacks f (reserves_numbers m.session (part.reserved m.session) _ _)

-- ---- a step

-- where the node was started, a step changes what it must not forget by its fact, and by nothing else
step_keeps : (w : World) (u : Fleet) (n : ℕ) (step : FleetStep) → u.begun n ≡ true → MayHappen w u step → files_of_part ((after_fleet_step w u step).part n) ≡ with_fleet_fact (files_of_part (u.part n)) (fleet_fact w u n step)
step_keeps w u n (Begins node plan) begun may = by (cases_eq n node)
  where
    by : (n ≡ node) ⊎ (n ≢ node) → files_of_part ((after_fleet_step w u (Begins node plan)).part n) ≡ files_of_part (u.part n)
    by (inl same) = absurd (true≢false (sym begun ∙ ap u.begun same ∙ may.0))
    by (inr ne) = rw (ne_eqb n node ne) refl
step_keeps w u n (StartsAgain node plan) begun may = by (cases_eq n node)
  where
    by : (n ≡ node) ⊎ (n ≢ node) → files_of_part ((after_fleet_step w u (StartsAgain node plan)).part n) ≡ files_of_part (u.part n)
    by (inl same) = let P : ℕ → Type 0 = λ z. files_of_part ((after_fleet_step w u (StartsAgain node plan)).part z) ≡ files_of_part (u.part z) in subst P (sym same) (rw (eq-eqb node node refl) refl)
    by (inr ne) = rw (ne_eqb n node ne) refl
step_keeps w u n (Does node act) begun may = by (cases_eq n node)
  where
    here : files_of_part ((after_fleet_step w u (Does node act)).part node) ≡ with_fleet_fact (files_of_part (u.part node)) (fact_of w.setting (u.part node) act)
    here =
        ap files_of_part (does_here w node act u)
        ∙ (λ i. record {
          kept = act_keeps w u node act may.1 i;
          lacks = λ file. (lacks_after w.setting (place_of node) (u.part node) act file ∙ sym (act_lacks w.setting (u.part node) act (u.part node).lacks file)) i;
        })

    by : (n ≡ node) ⊎ (n ≢ node) → files_of_part ((after_fleet_step w u (Does node act)).part n) ≡ with_fleet_fact (files_of_part (u.part n)) (fleet_fact w u n (Does node act))
    by (inl same) =
        let P : ℕ → Type 0 = λ z. files_of_part ((after_fleet_step w u (Does node act)).part z) ≡ with_fleet_fact (files_of_part (u.part z)) (fleet_fact w u z (Does node act)) in
        let its : fleet_fact w u node (Does node act) ≡ fact_of w.setting (u.part node) act = rw (eq-eqb node node refl) refl in
        subst P (sym same) (here ∙ ap (with_fleet_fact (files_of_part (u.part node))) (sym its))
    by (inr ne) = rw (ne_eqb n node ne) refl
step_keeps w u n (Answers node new) begun may = refl
step_keeps w u n (Hears node other) begun may = by (is_ready_by w node other u) refl
  where
    by : (b : Bool) → is_ready_by w node other u ≡ b → files_of_part ((after_fleet_step w u (Hears node other)).part n) ≡ files_of_part (u.part n)
    by true e = rw e refl
    by false e = rw e refl
step_keeps w u n (Gives peer node file) begun may = refl
step_keeps w u n (Takes node peer file copy) begun may = by (cases_eq n node)
  where
    held : (b : Bool) (before : List StoredCopy) → greatest (first_copy ∷ (if b then copy ∷ [] else before)) ≡ (if b then newer_of first_copy copy else greatest (first_copy ∷ before))
    held true before = greatest-push first_copy copy []
    held false before = refl

    here : files_of_part (given_part file copy (u.part node)) ≡ with_fleet_fact (files_of_part (u.part node)) (Some (Had file copy))
    here = λ i. record {
      kept = record { copy = λ f. held (is_file file f) ((u.part node).brought f) i; op = λ k. ((u.part node).reserved k).op; floor = λ k. ((u.part node).reserved k).floor };
      lacks = λ f. (u.part node).lacks f && not (is_file file f);
    }

    there : (after_fleet_step w u (Takes node peer file copy)).part node ≡ given_part file copy (u.part node)
    there = rw (eq-eqb node node refl) refl

    by : (n ≡ node) ⊎ (n ≢ node) → files_of_part ((after_fleet_step w u (Takes node peer file copy)).part n) ≡ with_fleet_fact (files_of_part (u.part n)) (fleet_fact w u n (Takes node peer file copy))
    by (inl same) =
        let P : ℕ → Type 0 = λ z. files_of_part ((after_fleet_step w u (Takes node peer file copy)).part z) ≡ with_fleet_fact (files_of_part (u.part z)) (fleet_fact w u z (Takes node peer file copy)) in
        let its : fleet_fact w u node (Takes node peer file copy) ≡ Some (Had file copy) = rw (eq-eqb node node refl) refl in
        subst P (sym same) (ap files_of_part there ∙ here ∙ ap (with_fleet_fact (files_of_part (u.part node))) (sym its))
    by (inr ne) = rw (ne_eqb n node ne) refl

-- ---- starts

-- a node that was started stays so, with its first plan
record StaysBegun (w : World) (u v : Fleet) (n : ℕ) : Type 0 where
  begun : v.begun n ≡ true
  first : v.first_plan n ≡ u.first_plan n

stays_begun : (w : World) (u : Fleet) (n : ℕ) (step : FleetStep) → u.begun n ≡ true → MayHappen w u step → StaysBegun w u (after_fleet_step w u step) n
stays_begun w u n (Begins node plan) begun may = by (cases_eq n node)
  where
    by : (n ≡ node) ⊎ (n ≢ node) → StaysBegun w u (after_fleet_step w u (Begins node plan)) n
    by (inl same) = absurd (true≢false (sym begun ∙ ap u.begun same ∙ may.0))
    by (inr ne) = record { begun = rw (ne_eqb n node ne) begun; first = rw (ne_eqb n node ne) refl }
stays_begun w u n (StartsAgain node plan) begun may = record { begun = by (eqb n node); first = refl }
  where
    by : (b : Bool) → (if b then true else u.begun n) ≡ true
    by true = refl
    by false = begun
stays_begun w u n (Does node act) begun may = record { begun = begun; first = refl }
stays_begun w u n (Answers node new) begun may = record { begun = begun; first = refl }
stays_begun w u n (Hears node other) begun may = by (is_ready_by w node other u) refl
  where
    by : (b : Bool) → is_ready_by w node other u ≡ b → StaysBegun w u (after_fleet_step w u (Hears node other)) n
    by true e = record { begun = rw e begun; first = rw e refl }
    by false e = record { begun = rw e begun; first = rw e refl }
stays_begun w u n (Gives peer node file) begun may = record { begun = begun; first = refl }
stays_begun w u n (Takes node peer file copy) begun may = record { begun = begun; first = refl }

-- from a fleet on in which the node was started
since : (w : World) (steps : List FleetStep) (u : Fleet) (n : ℕ) → u.begun n ≡ true → AllMayHappen w u steps →
    (files_of_part ((fold (after_fleet_step w) u steps).part n) ≡ fold with_fleet_fact (files_of_part (u.part n)) (fleet_facts w u n steps)) × ((fold (after_fleet_step w) u steps).first_plan n ≡ u.first_plan n)
since w [] u n begun may = (refl, refl)
since w (step ∷ steps) u n begun may =
    let v : Fleet = after_fleet_step w u step in
    let stays = stays_begun w u n step begun may.0 in
    let later = since w steps v n stays.begun may.1 in
    (later.0 ∙ ap (λ z. fold with_fleet_fact z (fleet_facts w v n steps)) (step_keeps w u n step begun may.0), later.1 ∙ stays.first)

-- a node that was not started yet is started by the step, and has what its first plan says; or it is not, and the step is no fact of it
data Before (w : World) (u v : Fleet) (n : ℕ) (step : FleetStep) : Type 0 where
  IsStarted : v.begun n ≡ true → v.part n ≡ first_part w n (v.first_plan n) → fleet_fact w u n step ≡ None → Before w u v n step
  IsNot : v.begun n ≡ false → fleet_fact w u n step ≡ None → Before w u v n step

before : (w : World) (u : Fleet) (n : ℕ) (step : FleetStep) → u.begun n ≡ false → MayHappen w u step → Before w u (after_fleet_step w u step) n step
before w u n (Begins node plan) not_yet may = by (cases_eq n node)
  where
    by : (n ≡ node) ⊎ (n ≢ node) → Before w u (after_fleet_step w u (Begins node plan)) n (Begins node plan)
    by (inl same) =
        let P : ℕ → Type 0 = λ z. Before w u (after_fleet_step w u (Begins node plan)) z (Begins node plan) in
        subst P (sym same) (IsStarted (rw (eq-eqb node node refl) refl) (rw (eq-eqb node node refl) refl) refl)
    by (inr ne) = IsNot (rw (ne_eqb n node ne) not_yet) refl
before w u n (StartsAgain node plan) not_yet may = by (cases_eq n node)
  where
    by : (n ≡ node) ⊎ (n ≢ node) → Before w u (after_fleet_step w u (StartsAgain node plan)) n (StartsAgain node plan)
    by (inl same) = absurd (true≢false (sym may.0.0 ∙ ap u.begun (sym same) ∙ not_yet))
    by (inr ne) = IsNot (rw (ne_eqb n node ne) not_yet) refl
before w u n (Does node act) not_yet may = by (cases_eq n node)
  where
    by : (n ≡ node) ⊎ (n ≢ node) → Before w u (after_fleet_step w u (Does node act)) n (Does node act)
    by (inl same) = absurd (true≢false (sym may.0.0 ∙ ap u.begun (sym same) ∙ not_yet))
    by (inr ne) = IsNot not_yet (rw (ne_eqb n node ne) refl)
before w u n (Answers node new) not_yet may = IsNot not_yet refl
before w u n (Hears node other) not_yet may = by (is_ready_by w node other u) refl
  where
    by : (b : Bool) → is_ready_by w node other u ≡ b → Before w u (after_fleet_step w u (Hears node other)) n (Hears node other)
    by true e = IsNot (rw e not_yet) refl
    by false e = IsNot (rw e not_yet) refl
before w u n (Gives peer node file) not_yet may = IsNot not_yet refl
before w u n (Takes node peer file copy) not_yet may = by (cases_eq n node)
  where
    by : (n ≡ node) ⊎ (n ≢ node) → Before w u (after_fleet_step w u (Takes node peer file copy)) n (Takes node peer file copy)
    by (inl same) = absurd (true≢false (sym may.0.0 ∙ ap u.begun (sym same) ∙ not_yet))
    by (inr ne) = IsNot not_yet (rw (ne_eqb n node ne) refl)

-- from one on in which it was not
from_start : (w : World) (steps : List FleetStep) (u : Fleet) (n : ℕ) → u.begun n ≡ false → AllMayHappen w u steps →
    let last : Fleet = fold (after_fleet_step w) u steps in
    last.begun n ≡ true → files_of_part (last.part n) ≡ fold with_fleet_fact (files_of_part (first_part w n (last.first_plan n))) (fleet_facts w u n steps)
from_start w [] u n not_yet may begun = absurd (true≢false (sym begun ∙ not_yet))
from_start w (step ∷ steps) u n not_yet may begun = by (before w u n step not_yet may.0) (λ still. from_start w steps v n still may.1 begun)
  where
    v : Fleet
    v = after_fleet_step w u step

    last : Fleet
    last = fold (after_fleet_step w) v steps

    Then : Type 0
    Then = files_of_part (last.part n) ≡ fold with_fleet_fact (files_of_part (first_part w n (last.first_plan n))) (fleet_facts w u n (step ∷ steps))

    facts : fleet_fact w u n step ≡ None → fold with_fleet_fact (files_of_part (first_part w n (last.first_plan n))) (fleet_facts w v n steps) ≡ fold with_fleet_fact (files_of_part (first_part w n (last.first_plan n))) (fleet_facts w u n (step ∷ steps))
    facts none = ap (λ z. fold with_fleet_fact (with_fleet_fact (files_of_part (first_part w n (last.first_plan n))) z) (fleet_facts w v n steps)) (sym none)

    by : Before w u v n step → (v.begun n ≡ false → files_of_part (last.part n) ≡ fold with_fleet_fact (files_of_part (first_part w n (last.first_plan n))) (fleet_facts w v n steps)) → Then
    by (IsNot still none) later = later still ∙ facts none
    by (IsStarted is part none) later =
        let then_is = since w steps v n is may.1 in
        then_is.0
        ∙ ap (λ z. fold with_fleet_fact (files_of_part z) (fleet_facts w v n steps)) (part ∙ ap (first_part w n) (sym then_is.1))
        ∙ facts none

pub all_fleet_facts_suffice : AllFleetFactsSuffice
all_fleet_facts_suffice w steps n may begun = from_start w steps new_fleet n refl may begun
