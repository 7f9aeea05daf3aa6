-- A start that reads the facts of a node's steps makes the node again, at rest.
use Rattle.std.proofs.Common.{◌≡◌, ◌∙◌, ◌⊎◌, ℕ, ◌<◌, true, false, List, [], length, Option, Some, None, refl, sym, ap, subst, inl, inr}
use Rattle.std.specs.Prelude.{nat_lt, All}
use Rattle.std.proofs.lemmas.Bool.{cases_Bool, lt-ltb, ltb-true}
use Rattle.gq_desk.specs.CheckedPlan.{CheckedPlan}
use Rattle.gq_desk.specs.Volumes.{Account}
use Rattle.gq_desk.specs.declared.volumes.VolumeRow.{VolumeRow}
use Rattle.gq_text.specs.Canonical.{IsPlan}
use Rattle.gq_cluster.specs.Facts.{OwnFact}
use Rattle.gq_keeper.specs.Starting.{RecallsAll}
use Rattle.gq_node.specs.declared.output.Fact.{Fact}
use Rattle.gq_node.specs.Inputs.{Input, after_all}
use Rattle.gq_parts.specs.Within.{taken, after_taken}
use Rattle.gq_node.specs.Local.{Local}
use Rattle.gq_node.specs.Resting.{FirstPlan, first_in, recall_all, those_of, IsAtRest, IsBare, Needed, begun_local}
use Rattle.gq_node.specs.Sites.{Here, Site, site_of}
use Rattle.gq_node.specs.Tables.{Tables, Agrees, Stands, AllStand}
use Rattle.gq_facts.specs.Laws.{FitsFact}
use Rattle.gq_parts.specs.Inputs.{line_inputs}
use Rattle.gq_parts.specs.Texts.{own_facts, facts_by}
use Rattle.gq_parts.specs.Steps.{AllAgree, fact_lines, StepsTo}
use Rattle.gq_facts.specs.Facts.{fact_of_line}
use Rattle.gq_parts.specs.Recalls.{RecallsFact, RecallsTo, facts_said}
use Rattle.gq_parts.specs.Resting.{IsNodeOf, IsNewNode, volumes_at, IsBlank, HasFirst, RestsIn, Rests}
use Rattle.gq_node.proofs.Recalling.{all_behind}
use Rattle.gq_parts.proofs.Knowing.{all_idle, all_volumes, all_bare, all_recalled_volumes, all_recalled_bare, rests_itself, all_rest}
use Rattle.gq_parts.proofs.Reading.{those-by, said_back, Recalled, all_recalled, same_node}

-- ---- blank nodes

abbrev no_first : FirstPlan
no_first = record { volumes = 0; losses = 0 }

pub its_volumes : (w : Tables) (t : ℕ) (local : Local) → Agrees w t local → volumes_at w t ≡ local.volumes
its_volumes w t local agrees = ap (λ (a : Account). a.volumes) agrees.account

-- a node that was never started is blank itself
pub new_is_blank : (plan : CheckedPlan) (here : Here) (volumes : ℕ → List VolumeRow) (lost : ℕ → FirstPlan) (w : Tables) → IsNewNode plan here volumes lost w → IsBlank lost w w
new_is_blank plan here volumes lost w new = record {
  node = record { plan_is = refl; here_is = refl };
  parts = λ t within. (
      let inside : t < length plan.rows = subst (λ (p : CheckedPlan). t < length p.rows) new.node.plan_is within in
      let P : CheckedPlan → Here → List VolumeRow → Type 0 = λ p s v. Agrees w t (begun_local (site_of p s t) v (lost t)) in
      subst (λ v. P w.plan w.here v) (sym (its_volumes w t (begun_local (site_of plan here t) (volumes t) (lost t)) (new.parts t inside)))
      (subst (λ p. P p w.here (volumes t)) (sym new.node.plan_is) (subst (λ s. P plan s (volumes t)) (sym new.node.here_is) (new.parts t inside))));
}

-- a blank node of one of these is one of the other, where plan, node and volumes are the same
same_blank : (lost : ℕ → FirstPlan) (a b other : Tables) → IsNodeOf a.plan a.here b → ((t : ℕ) → t < length a.plan.rows → volumes_at b t ≡ volumes_at a t) → IsBlank lost b other → IsBlank lost a other
same_blank lost a b other node volumes blank = record {
  node = record { plan_is = blank.node.plan_is ∙ node.plan_is; here_is = blank.node.here_is ∙ node.here_is };
  parts = λ t within. (
      let P : CheckedPlan → Here → List VolumeRow → Type 0 = λ p s v. Agrees other t (begun_local (site_of p s t) v (lost t)) in
      let has : P b.plan b.here (volumes_at b t) = blank.parts t (subst (λ (p : CheckedPlan). t < length p.rows) (sym node.plan_is) within) in
      subst (λ p. P p a.here (volumes_at a t)) node.plan_is (subst (λ s. P b.plan s (volumes_at a t)) node.here_is (subst (λ v. P b.plan b.here v) (volumes t within) has)));
}

-- a step leaves each tenant its volumes
step_volumes : (old : Tables) (line : List ℕ) (facts : List (List ℕ)) (told : List ℕ) (new : Tables) → StepsTo old line facts told new → (t : ℕ) → t < length old.plan.rows → volumes_at new t ≡ volumes_at old t
step_volumes old line facts told new step t within =
    let inputs : List Input = line_inputs old.plan old.here line t in
    let site : Site = site_of old.plan old.here t in
    let s : Stands old t = step.stand t within in
    its_volumes new t (after_taken site s.local inputs) ((step.takes []).parts t within s.local s.agrees)
    ∙ all_volumes site s.local (taken site s.local inputs)
    ∙ sym (its_volumes old t s.local s.agrees)

pub keeps_blank : (lost : ℕ → FirstPlan) (old : Tables) (line : List ℕ) (facts : List (List ℕ)) (told : List ℕ) (new other : Tables) → StepsTo old line facts told new → IsBlank lost new other → IsBlank lost old other
keeps_blank lost old line facts told new other step blank =
    same_blank lost old new other (record { plan_is = (step.takes []).plan; here_is = (step.takes []).here }) (step_volumes old line facts told new step) blank

pub keeps_volumes : (count : ℕ → FirstPlan) (old : Tables) (line : List ℕ) (facts : List (List ℕ)) (told : List ℕ) (new : Tables) → StepsTo old line facts told new → HasFirst count old → HasFirst count new
keeps_volumes count old line facts told new step has t within =
    let inside : t < length old.plan.rows = subst (λ (p : CheckedPlan). t < length p.rows) (step.takes []).plan within in
    (λ i. record { volumes = length (step_volumes old line facts told new step t inside i); losses = length ((step.takes []).here i).lost }) ∙ has t inside

pub recalls_volumes : (count : ℕ → FirstPlan) (old : Tables) (line : List ℕ) (new : Tables) → RecallsTo old line new → HasFirst count old → HasFirst count new
recalls_volumes count old line new read has = by (fact_of_line old.plan line) read
  where
    by : (fact : Option Fact) → RecallsFact old fact new → HasFirst count new
    by None never = absurd never
    by (Some fact) read = λ t within. (
        let inside : t < length old.plan.rows = subst (λ (p : CheckedPlan). t < length p.rows) read.leads.plan within in
        (λ i. record { volumes = length (volumes_at (record old { desk = read.desk i }) t); losses = length (read.leads.here i).lost }) ∙ has t inside)

-- ---- a choice for each place

pub of_case : {A : Type 0} (t n : ℕ) → (t < n → A) → A → (nat_lt t n ≡ true) ⊎ (nat_lt t n ≡ false) → A
of_case t n get other (inl below) = get (ltb-true t n below)
of_case t n get other (inr above) = other

pub of_case_has : {A : Type 0} (P : A → Type 0) (t n : ℕ) (get : t < n → A) (other : A) → ((h : t < n) → P (get h)) → t < n → (c : (nat_lt t n ≡ true) ⊎ (nat_lt t n ≡ false)) → P (of_case t n get other c)
unfolding of_case
of_case_has P t n get other has within (inl below) = has (ltb-true t n below)
of_case_has P t n get other has within (inr above) = absurd (let e : true ≡ false = sym (lt-ltb t n within) ∙ above in cc)

-- ---- a node at rest

-- a part with what it is at rest
record AtRest (w rest : Tables) (t : ℕ) (local : Local) : Type 0 where
  again : Local
  was : Agrees w t local
  is : Agrees rest t again
  bare : IsBare local
  rests : IsAtRest (site_of w.plan w.here t) again local

pub keeps_rest : (old : Tables) (line : List ℕ) (facts : List (List ℕ)) (told : List ℕ) (new before after : Tables) → StepsTo old line facts told new → Rests old before →
    RecallsAll RecallsTo before facts after → Rests new after
keeps_rest old line facts told new before after step r reads = record {
  node = record { plan_is = node.plan_is ∙ r.node.plan_is ∙ sym (step.takes []).plan; here_is = node.here_is ∙ r.node.here_is ∙ sym (step.takes []).here };
  parts = λ t inside. at t (subst (λ (p : CheckedPlan). t < length p.rows) (step.takes []).plan inside);
}
  where
    n : ℕ
    n = length old.plan.rows

    inputs : ℕ → List Input
    inputs = line_inputs old.plan old.here line

    parts : ℕ → Local
    parts t = of_case t n (λ within. (r.parts t within).local) (begun_local (site_of old.plan old.here t) [] no_first) (cases_Bool (nat_lt t n))

    -- all that the part takes
    own : ℕ → List Input
    own t = taken (site_of old.plan old.here t) (parts t) (inputs t)

    has : (t : ℕ) → t < n → AtRest old before t (parts t)
    has t within = of_case_has (AtRest old before t) t n (λ h. (r.parts t h).local) (begun_local (site_of old.plan old.here t) [] no_first)
        (λ h. record { again = (r.parts t h).again; was = (r.parts t h).was; is = (r.parts t h).is; bare = (r.parts t h).bare; rests = (r.parts t h).rests }) within (cases_Bool (nat_lt t n))

    agree : AllAgree old parts
    agree t within = (has t within).was

    node : IsNodeOf before.plan before.here after
    node = same_node facts before after reads

    said : facts_said old.plan facts ≡ facts_by old.plan old.here parts inputs
    said = ap (facts_said old.plan) step.lines_are ∙ said_back old.plan step.sound step.facts (step.takes []).fit ∙ (step.takes []).gives parts agree

    at : (t : ℕ) → t < n → RestsIn new after t
    at t within =
        let p : AtRest old before t (parts t) = has t within in
        let site : Site = site_of old.plan old.here t in
        let read : Recalled old.plan old.here t p.again (facts_said old.plan facts) after = all_recalled old.plan old.here t p.again facts before after r.node p.is reads in
        let its : those_of t (facts_said old.plan facts) ≡ own_facts site (parts t) (own t) = ap (those_of t) said ∙ those-by old.plan old.here t parts inputs within in
        record {
          local = after_all site (parts t) (own t);
          again = recall_all site p.again (own_facts site (parts t) (own t));
          was = (step.takes []).parts t within (parts t) p.was;
          is = subst (λ z. Agrees after t (recall_all site p.again z)) its read.agrees;
          bare = all_bare site (parts t) (own t) p.bare;
          rests =
              let R : CheckedPlan → Here → Type 0 = λ plan here. IsAtRest (site_of plan here t) (recall_all site p.again (own_facts site (parts t) (own t))) (after_all site (parts t) (own t)) in
              subst (λ plan. R plan new.here) (sym (step.takes []).plan) (subst (λ here. R old.plan here) (sym (step.takes []).here) (all_rest site p.again (parts t) (own t) p.bare p.rests));
        }

pub starts_again : (lost : ℕ → FirstPlan) (first last new again : Tables) (lines : List (List ℕ)) → IsBlank lost first first → RecallsAll RecallsTo first lines last → IsBlank lost last new →
    RecallsAll RecallsTo new lines again → Rests last again
starts_again lost first last new again lines blank to_last other to_again = record {
  node = record { plan_is = second.plan_is ∙ other.node.plan_is; here_is = second.here_is ∙ other.node.here_is };
  parts = λ t inside. at t (subst (λ (p : CheckedPlan). t < length p.rows) start.plan_is inside);
}
  where
    start : IsNodeOf first.plan first.here last
    start = same_node lines first last to_last

    second : IsNodeOf new.plan new.here again
    second = same_node lines new again to_again

    fresh : ℕ → Local
    fresh t = begun_local (site_of first.plan first.here t) (volumes_at first t) (lost t)

    facts : ℕ → List OwnFact
    facts t = those_of t (facts_said first.plan lines)

    made : (t : ℕ) → t < length first.plan.rows → Recalled first.plan first.here t (fresh t) (facts_said first.plan lines) last
    made t within = all_recalled first.plan first.here t (fresh t) lines first last blank.node (blank.parts t within) to_last

    volumes : (t : ℕ) → t < length first.plan.rows → volumes_at last t ≡ volumes_at first t
    volumes t within = its_volumes last t (recall_all (site_of first.plan first.here t) (fresh t) (facts t)) (made t within).agrees ∙ all_recalled_volumes (site_of first.plan first.here t) (fresh t) (facts t)

    same : IsBlank lost first new
    same = same_blank lost first last new start volumes other

    at : (t : ℕ) → t < length first.plan.rows → RestsIn last again t
    at t within =
        let site : Site = site_of first.plan first.here t in
        let read : Recalled first.plan first.here t (fresh t) (facts_said first.plan lines) again = all_recalled first.plan first.here t (fresh t) lines new again same.node (same.parts t within) to_again in
        let local : Local = recall_all site (fresh t) (facts t) in
        record {
          local = local;
          again = local;
          was = (made t within).agrees;
          is = read.agrees;
          bare = all_recalled_bare site (fresh t) (facts t) (λ f lacks. refl);
          rests = rests_itself (site_of last.plan last.here t) local (all_behind site (fresh t) (facts t) (λ k. record { op = refl; floor = refl })) (all_idle site (fresh t) (facts t) (λ k. refl));
        }

-- a blank node that reads the facts which a start needs is the node at rest
pub needed_rests : (count : ℕ → FirstPlan) (w : Tables) (facts : List Fact) → IsPlan w.plan → AllStand w → HasFirst count w → Needed w facts → All (FitsFact w.plan) facts → (new last : Tables) → IsBlank count w new →
    RecallsAll RecallsTo new (fact_lines w.plan facts) last → Rests w last
needed_rests count w facts sound stand has needed fit new last blank reads = record {
  node = record { plan_is = node.plan_is ∙ blank.node.plan_is; here_is = node.here_is ∙ blank.node.here_is };
  parts = at;
}
  where
    node : IsNodeOf new.plan new.here last
    node = same_node (fact_lines w.plan facts) new last reads

    at : (t : ℕ) → t < length w.plan.rows → RestsIn w last t
    at t within =
        let site : Site = site_of w.plan w.here t in
        let s : Stands w t = stand t within in
        let own : volumes_at w t ≡ s.local.volumes = its_volumes w t s.local s.agrees in
        let fresh : Local = begun_local site s.local.volumes (first_in w s.local) in
        let many : count t ≡ first_in w s.local = sym (has t within) ∙ ap (λ (v : List VolumeRow). record { volumes = length v; losses = length w.here.lost }) own in
        let blank_at : Agrees new t fresh = subst (λ n. Agrees new t (begun_local site s.local.volumes n)) many (subst (λ v. Agrees new t (begun_local site v (count t))) own (blank.parts t within)) in
        let read : Recalled w.plan w.here t fresh (facts_said w.plan (fact_lines w.plan facts)) last = all_recalled w.plan w.here t fresh (fact_lines w.plan facts) new last blank.node blank_at reads in
        record {
          local = s.local;
          again = recall_all site fresh (those_of t facts);
          was = s.agrees;
          is = subst (λ z. Agrees last t (recall_all site fresh (those_of t z))) (said_back w.plan sound facts fit) read.agrees;
          bare = needed.bare t s.local s.agrees;
          rests = needed.makes t within s.local s.agrees;
        }
