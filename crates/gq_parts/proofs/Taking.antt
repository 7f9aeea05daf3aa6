-- What a node's calls give is what its tenants' parts give, one input after another.
use Rattle.std.proofs.Common.{◌≡◌, ◌≢◌, ◌∙◌, ℕ, zero, suc, ◌+◌, ◌<◌, ◌≤◌, Bool, true, false, List, [], ◌∷◌, ◌++◌, length, map, Option, Some, None, refl, sym, ap, subst, arith, inl, inr, append_assoc, append-nil}
use Rattle.std.specs.Prelude.{Result, Ok, Err, OnOk, option_map, nat_lt, ◌==◌, ◌&&◌, All, IfSome, ⊤, if◌then◌else◌}
use Rattle.std.specs.List.{flat_map, range_with_len}
use Rattle.std.specs.Option.{option_to_list}
use Rattle.std.proofs.lemmas.Bool.{cases_eq, cases_Bool, eq-eqb, ne_eqb, lt-ltb, ltb-true}
use Rattle.std.proofs.lemmas.Grind.{flat_map-append}
use Rattle.std.proofs.lemmas.List.{map-append}
use Rattle.std.proofs.lemmas.List.Elements.{All-append, All-nil}
use Rattle.gq_tag.specs.declared.Message.{Message}
use Rattle.gq_tag.specs.Tag.{OwnMessage, message_of, own_message}
use Rattle.gq_desk.specs.CheckedPlan.{CheckedPlan}
use Rattle.gq_text.specs.Canonical.{IsPlan}
use Rattle.gq_lines.specs.Written.{spaced}
use Rattle.gq_cluster.specs.Facts.{OwnFact, Begun, Numbered, Kept, Had}
use Rattle.gq_journal.specs.Batches.{ended_line, lines_text, are_batch_lines}
use Rattle.gq_keeper.specs.Runs.{Takes}
use Rattle.gq_model.specs.declared.events.Line.{Line}
use Rattle.gq_model.specs.declared.events.Line.TheVariants.{Bad as NoLine}
use Rattle.gq_node.specs.declared.output.Output.{Output}
use Rattle.gq_node.specs.declared.shorts.Short.{Short}
use Rattle.gq_node.specs.declared.shorts.ShortOutput.{ShortOutput}
use Rattle.gq_node.specs.declared.output.Fact.{Fact}
use Rattle.gq_node.specs.Inputs.{Input, Shortened, Joined as HeardJoined, does, after_one, after_all, doings}
use Rattle.gq_node.specs.Local.{Local, Doing, Transfer, Wants, Brings}
use Rattle.gq_node.specs.Recalling.{tenant_of, own_fact}
use Rattle.gq_node.specs.Resting.{AllOfPlan}
use Rattle.gq_node.specs.Shorts.{OwnShort, ShortDoing, own_short, short_with, takes_short, short_form}
use Rattle.gq_node.specs.ShortSteps.{GivesShortly, ActsShortly, form_at}
use Rattle.gq_node.specs.Sites.{Here, Site, site_of, is_new, has_node}
use Rattle.gq_node.specs.Tables.{Tables, Agrees, Acts, Gives, LeadsAll, Stands, AllStand, fact_of, transfer_of}
use Rattle.gq_node.proofs.Shortly.{form_stands}
use Rattle.gq_facts.specs.Facts.{verb_of, fact_words, fact_line, fact_text}
use Rattle.gq_facts.specs.Laws.{FitsFact}
use Rattle.gq_facts.proofs.FactsBack.{facts_stand_in_batches}
use Rattle.gq_wire.specs.declared.incoming.Incoming.{Incoming}
use Rattle.gq_wire.specs.declared.incoming.Incoming.TheVariants.{Request, Plan, Look, Bad, Letter, ShortLetter, Joins, Joined, Speaks, Fetch, Fetched, Tick, Greet, Nothing}
use Rattle.gq_wire.specs.Incoming.{incoming_of}
use Rattle.gq_parts.specs.Inputs.{asked_in, inputs_with, ticks_of}
use Rattle.gq_parts.specs.declared.laws.TheConstants.{MOST_HOPS}
use Rattle.gq_parts.specs.Within.{address_in, is_own, is_once_more, gives_again, letters_by, reply_by, own_by, others_by, first_own, hops, left_behind, within, left, taken, after_taken}
use Rattle.gq_parts.specs.Texts.{formed_line, letter_text, letters_text, reply_text, step_text, others_text, doing_text, steps_text, outside_text, written_for, own_facts, facts_for, written_by, facts_by, node_text}
use Rattle.gq_parts.specs.Steps.{fact_lines, TakesAll, StepsTo, IsAddressed, IsOfPlan, IsOfTenant, Appended, going_home, going_by_lines, table_lines, told_letters, GivesBy, TakesOwn, PutAll, TakesOf, TookOf, TookAll, TookShort, TookIncoming}

-- what holds where a call gave Ok leads on
pub on_ok : {T E : Type 0} (r : Result T E) {P Q : Type 0} → (P → Q) → OnOk r P → OnOk r Q
on_ok (Ok x) f h = f h
on_ok (Err e) f h = tt

-- ---- what was appended

-- the line of a fact with its newline
pub fact_text_is : (plan : CheckedPlan) (fact : Fact) → fact_text plan fact ≡ lines_text (fact_lines plan (fact ∷ []))
fact_text_is plan fact =
    sym (append_assoc (verb_of (own_fact fact)) (spaced (fact_words plan fact)) (10 ∷ []))
    ∙ sym (append-nil (ended_line (fact_line plan fact)))

-- the lines of facts, one by one
pub texts_are : (plan : CheckedPlan) (facts : List Fact) → flat_map (fact_text plan) facts ≡ lines_text (fact_lines plan facts)
texts_are plan [] = refl
texts_are plan (fact ∷ facts) =
    ap (λ z. fact_text plan fact ++ z) (texts_are plan facts)
    ∙ ap (λ z. z ++ lines_text (fact_lines plan facts)) (fact_text_is plan fact ∙ append-nil (ended_line (fact_line plan fact)))

pub appended_more : (plan : CheckedPlan) (a b : List Fact) (x y f0 f1 f2 t0 t1 t2 : List ℕ) → Appended plan a x f0 f1 t0 t1 → Appended plan b y f1 f2 t1 t2 → Appended plan (a ++ b) (x ++ y) f0 f2 t0 t2
appended_more plan a b x y f0 f1 f2 t0 t1 t2 p q = record {
  facts_are = q.facts_are ∙ ap (λ z. z ++ lines_text (fact_lines plan b)) p.facts_are ∙ append_assoc f0 (lines_text (fact_lines plan a)) (lines_text (fact_lines plan b))
      ∙ ap (λ z. f0 ++ z) (sym (flat_map-append ended_line (fact_lines plan a) (fact_lines plan b)) ∙ ap lines_text (sym (map-append (fact_line plan) a b)));
  told_is = q.told_is ∙ ap (λ z. z ++ y) p.told_is ∙ append_assoc t0 x y;
}

pub appended_none : (plan : CheckedPlan) (f t : List ℕ) → Appended plan [] [] f f t t
appended_none plan f t = record { facts_are = sym (append-nil f); told_is = sym (append-nil t) }

-- ---- more inputs of one part

pub after_more : (site : Site) (local : Local) (xs ys : List Input) → after_all site local (xs ++ ys) ≡ after_all site (after_all site local xs) ys
after_more site local [] ys = refl
after_more site local (x ∷ xs) ys = after_more site (after_one site local x) xs ys

-- what is taken where more comes from outside
pub taken_more : (site : Site) (local : Local) (xs ys : List Input) → taken site local (xs ++ ys) ≡ taken site local xs ++ taken site (after_taken site local xs) ys
taken_more site local [] ys = refl
taken_more site local (x ∷ xs) ys =
    let one : List Input = within site local x in
    let next : Local = after_all site local one in
    ap (λ z. one ++ z) (taken_more site next xs ys)
    ∙ sym (append_assoc one (taken site next xs) (taken site (after_taken site next xs) ys))
    ∙ ap (λ l. (one ++ taken site next xs) ++ taken site l ys) (sym (after_more site local one (taken site next xs)))

pub after_taken_more : (site : Site) (local : Local) (xs ys : List Input) → after_taken site local (xs ++ ys) ≡ after_taken site (after_taken site local xs) ys
after_taken_more site local xs ys =
    ap (after_all site local) (taken_more site local xs ys) ∙ after_more site local (taken site local xs) (taken site (after_taken site local xs) ys)

pub written_more : (plan : CheckedPlan) (here : Here) (t : ℕ) (local : Local) (xs ys : List Input) →
    written_for plan here t local (xs ++ ys) ≡ written_for plan here t local xs ++ written_for plan here t (after_taken (site_of plan here t) local xs) ys
written_more plan here t local [] ys = refl
written_more plan here t local (x ∷ xs) ys =
    let site : Site = site_of plan here t in
    let one : List Input = within site local x in
    let next : Local = after_all site local one in
    ap (λ z. outside_text plan here t local x ++ z) (written_more plan here t next xs ys)
    ∙ sym (append_assoc (outside_text plan here t local x) (written_for plan here t next xs) (written_for plan here t (after_taken site next xs) ys))
    ∙ ap (λ l. (outside_text plan here t local x ++ written_for plan here t next xs) ++ written_for plan here t l ys) (sym (after_more site local one (taken site next xs)))

-- and of steps with nothing taken within
pub steps_more : (plan : CheckedPlan) (here : Here) (t : ℕ) (local : Local) (xs ys : List Input) →
    steps_text plan here t local (xs ++ ys) ≡ steps_text plan here t local xs ++ steps_text plan here t (after_all (site_of plan here t) local xs) ys
steps_more plan here t local [] ys = refl
steps_more plan here t local (x ∷ xs) ys =
    ap (λ z. doing_text plan here t local x ++ z) (steps_more plan here t (after_one (site_of plan here t) local x) xs ys)
    ∙ sym (append_assoc (doing_text plan here t local x) (steps_text plan here t (after_one (site_of plan here t) local x) xs) (steps_text plan here t (after_all (site_of plan here t) local (x ∷ xs)) ys))

pub doings_more : (site : Site) (local : Local) (xs ys : List Input) → doings site local (xs ++ ys) ≡ doings site local xs ++ doings site (after_all site local xs) ys
doings_more site local [] ys = refl
doings_more site local (x ∷ xs) ys = ap (λ z. does x site local ∷ z) (doings_more site (after_one site local x) xs ys)

pub own_more : (site : Site) (local : Local) (xs ys : List Input) → own_facts site local (xs ++ ys) ≡ own_facts site local xs ++ own_facts site (after_all site local xs) ys
own_more site local [] ys = refl
own_more site local (x ∷ xs) ys =
    ap (λ z. option_to_list (does x site local).fact ++ z) (own_more site (does x site local).local xs ys)
    ∙ sym (append_assoc (option_to_list (does x site local).fact) (own_facts site (does x site local).local xs) (own_facts site (after_all site local (x ∷ xs)) ys))

facts_more : (plan : CheckedPlan) (here : Here) (t : ℕ) (local : Local) (xs ys : List Input) →
    facts_for plan here t local (xs ++ ys) ≡ facts_for plan here t local xs ++ facts_for plan here t (after_taken (site_of plan here t) local xs) ys
facts_more plan here t local xs ys =
    let site : Site = site_of plan here t in
    let a : List Input = taken site local xs in
    let b : List Input = taken site (after_taken site local xs) ys in
    ap (λ z. map (fact_of t) (own_facts site local z)) (taken_more site local xs ys)
    ∙ ap (map (fact_of t)) (own_more site local a b)
    ∙ map-append (fact_of t) (own_facts site local a) (own_facts site (after_all site local a) b)

-- ---- one input

pub its_tenant : (t : ℕ) (fact : OwnFact) → tenant_of (fact_of t fact) ≡ t
its_tenant t (Begun k op) = refl
its_tenant t (Numbered k number) = refl
its_tenant t (Kept file copy) = refl
its_tenant t (Had file copy) = refl

-- what a step gives is the tenant's: the fact, each letter, which so goes to a node, and the file of the transfer
its_fact : (plan : CheckedPlan) (t : ℕ) (doing : Doing) (out : Output) → t < length plan.rows → Gives t doing out → IfSome out.fact (λ fact. tenant_of fact < length plan.rows)
its_fact plan t doing out within g =
    let P : Option Fact → Type 0 = λ o. IfSome o (λ fact. tenant_of fact < length plan.rows) in
    subst P (sym g.fact) (own doing.fact)
  where
    own : (o : Option OwnFact) → IfSome (option_map (fact_of t) o) (λ fact. tenant_of fact < length plan.rows)
    own None = tt
    own (Some fact) = subst (λ n. n < length plan.rows) (sym (its_tenant t fact)) within

its_letters : (t : ℕ) (doing : Doing) (out : Output) → Gives t doing out → All (IsOfTenant t) out.letters.items
its_letters t doing out g =
    let P : List Message → Type 0 = λ ms. All (IsOfTenant t) ms in
    subst P (sym g.letters) (own doing.letters)
  where
    own : (ms : List OwnMessage) → All (IsOfTenant t) (map (message_of t) ms)
    own [] k d inside = absurd (omega arith)
    own (m ∷ ms) zero d inside = (refl, refl)
    own (m ∷ ms) (suc k) d inside = own ms k d (omega arith)

its_transfer : (plan : CheckedPlan) (t : ℕ) (doing : Doing) (out : Output) → t < length plan.rows → Gives t doing out → IsOfPlan plan out.transfer
its_transfer plan t doing out within g = subst (IsOfPlan plan) (sym g.transfer) (own doing.transfer)
  where
    own : (o : Option Transfer) → IsOfPlan plan (option_map (transfer_of t) o)
    own None = tt
    own (Some (Wants to file)) = within
    own (Some (Brings to file copy)) = within

pub fact_own : (old : Tables) (t : ℕ) (x : Input) (out : Output) (new : Tables) → AllStand old → t < length old.plan.rows → Acts old t (does x) out new → IfSome out.fact (λ fact. tenant_of fact < length old.plan.rows)
fact_own old t x out new stand within acts =
    let s : Stands old t = stand t within in its_fact old.plan t (does x (site_of old.plan old.here t) s.local) out within (acts.gives s.local s.agrees)

pub letters_have : (old : Tables) (t : ℕ) (x : Input) (out : Output) (new : Tables) → AllStand old → t < length old.plan.rows → Acts old t (does x) out new → All (IsOfTenant t) out.letters.items
letters_have old t x out new stand within acts = let s : Stands old t = stand t within in its_letters t (does x (site_of old.plan old.here t) s.local) out (acts.gives s.local s.agrees)

pub transfer_has : (old : Tables) (t : ℕ) (x : Input) (out : Output) (new : Tables) → AllStand old → t < length old.plan.rows → Acts old t (does x) out new → IsOfPlan old.plan out.transfer
transfer_has old t x out new stand within acts =
    let s : Stands old t = stand t within in its_transfer old.plan t (does x (site_of old.plan old.here t) s.local) out within (acts.gives s.local s.agrees)

pub with_address : (plan : CheckedPlan) (t : ℕ) (ms : List Message) → t < length plan.rows → All (IsOfTenant t) ms → All (IsAddressed plan) ms
with_address plan t ms within theirs i d inside = (subst (λ n. n < length plan.rows) (sym (theirs i d inside).0) within, (theirs i d inside).1 ∙ sym (theirs i d inside).0)

-- so it is of what a short letter gives; and a short reply is of a tenant of the plan
pub record GivenIsOf (plan : CheckedPlan) (t : ℕ) (given : ShortOutput) : Type 0 where
  pub fact : IfSome given.out.fact (λ fact. tenant_of fact < length plan.rows)
  pub letters : All (IsOfTenant t) given.out.letters.items
  pub transfer : IsOfPlan plan given.out.transfer
  pub short : IfSome given.short (λ s. s.tenant < length plan.rows)

pub given_is_of : (old : Tables) (t from : ℕ) (s : OwnShort) (given : ShortOutput) (new : Tables) → AllStand old → t < length old.plan.rows → ActsShortly old t (takes_short from s []) given new → GivenIsOf old.plan t given
given_is_of old t from s given new stand within acts =
    let its : Stands old t = stand t within in
    let x : ShortDoing = takes_short from s [] (site_of old.plan old.here t) its.local in
    let g : GivesShortly t x given = acts.gives its.local its.agrees in
    let whole : Doing = record (x.doing) { letters = x.whole } in
    record {
      fact = its_fact old.plan t whole given.out within g.gives;
      letters = its_letters t whole given.out g.gives;
      transfer = its_transfer old.plan t whole given.out within g.gives;
      short = subst (λ (o : Option Short). IfSome o (λ s. s.tenant < length old.plan.rows)) (sym g.short) (own x.short);
    }
  where
    own : (o : Option OwnShort) → IfSome (option_map (short_with t) o) (λ s. s.tenant < length old.plan.rows)
    own None = tt
    own (Some s) = within

pub map_option : {A B : Type 0} (f : A → B) (o : Option A) → option_to_list (option_map f o) ≡ map f (option_to_list o)
map_option f None = refl
map_option f (Some x) = refl

-- what comes alone, and what is taken within behind it
within_one : (site : Site) (local : Local) (x : Input) → within site local x ≡ x ∷ hops MOST_HOPS site (after_one site local x) (first_own site local x)
unfolding within
within_one site local x = refl

taken_one : (site : Site) (local : Local) (x : Input) → taken site local (x ∷ []) ≡ x ∷ hops MOST_HOPS site (after_one site local x) (first_own site local x)
taken_one site local x = append-nil (within site local x) ∙ within_one site local x

left_one : (site : Site) (local : Local) (x : Input) → left site local x ≡ left_behind MOST_HOPS site (after_one site local x) (first_own site local x)
unfolding left
left_one site local x = refl

-- where no letter is there, none is taken, and none is left
pub hops_none : (many : ℕ) (site : Site) (local : Local) → hops many site local [] ≡ []
unfolding hops
hops_none zero site local = refl
hops_none (suc n) site local = hops_none n site local

pub left_none : (many : ℕ) (site : Site) (local : Local) → left_behind many site local [] ≡ []
unfolding left_behind
left_none zero site local = refl
left_none (suc n) site local = left_none n site local

-- the letters that the code takes within are those of the part, and so are those that go by lines
pub home_is : (again : Bool) (plan : CheckedPlan) (here : Here) (t : ℕ) (ms : List OwnMessage) → map own_message (going_home again plan here (map (message_of t) ms)) ≡ own_by again (site_of plan here t) ms
home_is again plan here t [] = refl
home_is true plan here t (m ∷ ms) =
    let rest : map own_message (going_home true plan here (map (message_of t) ms)) ≡ own_by true (site_of plan here t) ms = home_is true plan here t ms in
    elim (cases_Bool (address_in (site_of plan here t) m == here.node)) [
      | inl is ↦ (rw is (ap (λ z. m ∷ z) rest))
      | inr is ↦ (rw is rest)
    ]
home_is false plan here t (m ∷ ms) =
    let rest : map own_message (going_home false plan here (map (message_of t) ms)) ≡ own_by false (site_of plan here t) ms = home_is false plan here t ms in
    elim (cases_Bool (is_own (site_of plan here t) m)) [
      | inl is ↦ (rw is (ap (λ z. m ∷ z) rest))
      | inr is ↦ (rw is rest)
    ]

lines_are_those : (again : Bool) (plan : CheckedPlan) (here : Here) (t : ℕ) (ms : List OwnMessage) → going_by_lines again plan here (map (message_of t) ms) ≡ map (message_of t) (others_by again (site_of plan here t) ms)
lines_are_those again plan here t [] = refl
lines_are_those true plan here t (m ∷ ms) =
    let rest : going_by_lines true plan here (map (message_of t) ms) ≡ map (message_of t) (others_by true (site_of plan here t) ms) = lines_are_those true plan here t ms in
    elim (cases_Bool (address_in (site_of plan here t) m == here.node)) [
      | inl is ↦ (rw is rest)
      | inr is ↦ (rw is (ap (λ z. message_of t m ∷ z) rest))
    ]
lines_are_those false plan here t (m ∷ ms) =
    let rest : going_by_lines false plan here (map (message_of t) ms) ≡ map (message_of t) (others_by false (site_of plan here t) ms) = lines_are_those false plan here t ms in
    elim (cases_Bool (is_own (site_of plan here t) m)) [
      | inl is ↦ (rw is rest)
      | inr is ↦ (rw is (ap (λ z. message_of t m ∷ z) rest))
    ]

-- each goes in the form that the part has it written in
form_is : (plan : CheckedPlan) (here : Here) (w : Tables) (t : ℕ) (local : Local) (m : OwnMessage) → w.plan ≡ plan → w.here ≡ here → Agrees w t local →
    form_at w (message_of t m) ≡ option_map (short_with t) (short_form (site_of plan here t) local m)
form_is plan here w t local m same_plan same_here agrees =
    let P : CheckedPlan → Here → Type 0 = λ p h. form_at w (message_of t m) ≡ option_map (short_with t) (short_form (site_of p h t) local m) in
    let own : P w.plan w.here = form_stands w (message_of t m) refl local agrees in
    subst (λ p. P p here) same_plan (subst (λ h. P w.plan h) same_here own)

pub formed_is : (again : Bool) (plan : CheckedPlan) (here : Here) (w : Tables) (t : ℕ) (local : Local) (ms : List OwnMessage) → w.plan ≡ plan → w.here ≡ here → Agrees w t local →
    table_lines again plan here w (map (message_of t) ms) ≡ letters_text plan here t again local ms
formed_is again plan here w t local [] same_plan same_here agrees = refl
formed_is true plan here w t local (m ∷ ms) same_plan same_here agrees =
    ap (λ z. letter_text plan here t true local m ++ z) (formed_is true plan here w t local ms same_plan same_here agrees)
formed_is false plan here w t local (m ∷ ms) same_plan same_here agrees =
    ap (λ form. formed_line plan here (message_of t m) form ++ table_lines false plan here w (map (message_of t) ms)) (form_is plan here w t local m same_plan same_here agrees)
    ∙ ap (λ z. letter_text plan here t false local m ++ z) (formed_is false plan here w t local ms same_plan same_here agrees)

pub told_is : (again : Bool) (plan : CheckedPlan) (here : Here) (w : Tables) (t : ℕ) (local : Local) (ms : List OwnMessage) → w.plan ≡ plan → w.here ≡ here → Agrees w t local →
    told_letters again plan here w (map (message_of t) ms) ≡ letters_text plan here t again local (others_by again (site_of plan here t) ms)
told_is again plan here w t local ms same_plan same_here agrees =
    ap (table_lines again plan here w) (lines_are_those again plan here t ms) ∙ formed_is again plan here w t local (others_by again (site_of plan here t) ms) same_plan same_here agrees

-- ---- what a call gave

-- all letters of the law go out, and none in place of one
abbrev pub IsPlain : Input → Type 0
IsPlain x = (site : Site) (local : Local) → (letters_by site local x ≡ (does x site local).letters) × (reply_by site local x ≡ None)

pub gave_plain : (old : Tables) (t : ℕ) (x : Input) (out : Output) (new : Tables) → IsPlain x → Acts old t (does x) out new → GivesBy old t x out None new
gave_plain old t x out new plain acts = record {
  leads = acts.leads;
  gives = λ local agrees. (
      let g : Gives t (does x (site_of old.plan old.here t) local) out = acts.gives local agrees in
      record { answer = g.answer; letters = g.letters ∙ ap (map (message_of t)) (sym (plain (site_of old.plan old.here t) local).0); transfer = g.transfer; fact = g.fact });
  reply = λ local agrees. ap (option_map (short_with t)) (sym (plain (site_of old.plan old.here t) local).1);
}

pub gave_short : (old : Tables) (t from : ℕ) (s : OwnShort) (bytes : List ℕ) (given : ShortOutput) (new : Tables) → ActsShortly old t (takes_short from s bytes) given new →
    GivesBy old t (Shortened from s bytes) given.out given.short new
gave_short old t from s bytes given new acts = record { leads = acts.leads; gives = λ local agrees. (acts.gives local agrees).gives; reply = λ local agrees. (acts.gives local agrees).short }

-- what the code writes of a step is what the part writes
abbrev pub given_text : CheckedPlan → Here → Tables → (t : ℕ) → Input → Output → Option Short → List ℕ
given_text plan here new t x out short = reply_text plan here short ++ step_text plan here t (asked_in x) out.answer (told_letters (gives_again x) plan here new out.letters.items) out.transfer

pub text_is : (old : Tables) (t : ℕ) (x : Input) (out : Output) (short : Option Short) (new : Tables) (local : Local) → GivesBy old t x out short new → Agrees old t local →
    given_text old.plan old.here new t x out short ≡ doing_text old.plan old.here t local x
text_is old t x out short new local by agrees =
    let plan : CheckedPlan = old.plan in
    let here : Here = old.here in
    let site : Site = site_of plan here t in
    let doing : Doing = does x site local in
    let letters : List OwnMessage = letters_by site local x in
    let g : Gives t (record doing { letters = letters }) out = by.gives local agrees in
    let lines : told_letters (gives_again x) plan here new out.letters.items ≡ others_text plan here t local x =
    ap (told_letters (gives_again x) plan here new) g.letters ∙ told_is (gives_again x) plan here new t doing.local letters by.leads.plan by.leads.here (by.leads.own local agrees) in
    λ i. reply_text plan here (by.reply local agrees i) ++ step_text plan here t (asked_in x) (g.answer i) (lines i) (g.transfer i)

-- what is taken within, by the plan and the number that the node had before
record OwnThen (plan : CheckedPlan) (here : Here) (m : Tables) (t : ℕ) (letters : List OwnMessage) (b : List Fact) (y : List ℕ) (new : Tables) : Type 0 where
  own : (local : Local) → Agrees m t local → Agrees new t (after_all (site_of plan here t) local (hops MOST_HOPS (site_of plan here t) local letters))
  gives : (local : Local) → Agrees m t local → b ≡ map (fact_of t) (own_facts (site_of plan here t) local (hops MOST_HOPS (site_of plan here t) local letters))
  tells : (local : Local) → Agrees m t local →
      y ≡ steps_text plan here t local (hops MOST_HOPS (site_of plan here t) local letters)
      ++ letters_text plan here t false (after_all (site_of plan here t) local (hops MOST_HOPS (site_of plan here t) local letters)) (left_behind MOST_HOPS (site_of plan here t) local letters)
  fit : All (FitsFact plan) b

own_then : (old m new : Tables) (t : ℕ) (letters : List OwnMessage) (b : List Fact) (y : List ℕ) → m.plan ≡ old.plan → m.here ≡ old.here → TakesOwn MOST_HOPS m t letters b y new → OwnThen old.plan old.here m t letters b y new
own_then old m new t letters b y plan here q =
    subst (λ p. OwnThen p old.here m t letters b y new) plan
    (subst (λ h. OwnThen m.plan h m t letters b y new) here (record { own = q.own; gives = q.gives; tells = q.tells; fit = q.fit }))

-- a step, and then what is taken within
one_takes : (old m new : Tables) (t : ℕ) (x : Input) (out : Output) (short : Option Short) (b : List Fact) (y : List ℕ) → GivesBy old t x out short m → All (FitsFact old.plan) (option_to_list out.fact) →
    TakesOwn MOST_HOPS m t (map own_message (going_home (gives_again x) old.plan old.here out.letters.items)) b y new →
    TakesOf old t (x ∷ []) (option_to_list out.fact ++ b) (given_text old.plan old.here m t x out short ++ y) new
one_takes old m new t x out short b y by fit q = record {
  plan = q.plan ∙ by.leads.plan;
  here = q.here ∙ by.leads.here;
  own = λ local agrees. (
      let next : Local = after_one site local x in
      subst (λ xs. Agrees new t (after_all site local xs)) (sym (taken_one site local x))
      (subst (λ ms. Agrees new t (after_all site next (hops MOST_HOPS site next ms))) (its local agrees) (h.own next (by.leads.own local agrees))));
  others = λ u other local agrees. q.others u other local (by.leads.others u other local agrees);
  gives = λ local agrees. (
      let next : Local = after_one site local x in
      let doing : Doing = does x site local in
      let rest : List Input = hops MOST_HOPS site next (first_own site local x) in
      ap (λ z. z ++ b) (ap option_to_list (by.gives local agrees).fact ∙ map_option (fact_of t) doing.fact)
      ∙ ap (λ z. map (fact_of t) (option_to_list doing.fact) ++ z) (h.gives next (by.leads.own local agrees) ∙ ap (λ ms. map (fact_of t) (own_facts site next (hops MOST_HOPS site next ms))) (its local agrees))
      ∙ sym (map-append (fact_of t) (option_to_list doing.fact) (own_facts site next rest))
      ∙ ap (λ xs. map (fact_of t) (own_facts site local xs)) (sym (taken_one site local x)));
  tells = λ local agrees. (
      let next : Local = after_one site local x in
      let rest : List Input = hops MOST_HOPS site next (first_own site local x) in
      let gone : List ℕ = letters_text old.plan old.here t false (after_all site next rest) (left_behind MOST_HOPS site next (first_own site local x)) in
      ap (λ z. z ++ y) (text_is old t x out short m local by agrees)
      ∙ ap (λ z. doing_text old.plan old.here t local x ++ z) (h.tells next (by.leads.own local agrees)
      ∙ ap (λ ms. steps_text old.plan old.here t next (hops MOST_HOPS site next ms) ++ letters_text old.plan old.here t false (after_all site next (hops MOST_HOPS site next ms)) (left_behind MOST_HOPS site next ms)) (its local agrees))
      ∙ sym (append_assoc (doing_text old.plan old.here t local x) (steps_text old.plan old.here t next rest) gone)
      ∙ ap (λ xs. steps_text old.plan old.here t local xs ++ letters_text old.plan old.here t false (after_all site local xs) (left_behind MOST_HOPS site next (first_own site local x))) (sym (within_one site local x))
      ∙ ap (λ ms. steps_text old.plan old.here t local (within site local x) ++ letters_text old.plan old.here t false (after_all site local (within site local x)) ms) (sym (left_one site local x))
      ∙ sym (append-nil (outside_text old.plan old.here t local x)));
  fit = All-append (FitsFact old.plan) (option_to_list out.fact) b fit h.fit;
}
  where
    site : Site
    site = site_of old.plan old.here t

    letters : List OwnMessage
    letters = map own_message (going_home (gives_again x) old.plan old.here out.letters.items)

    h : OwnThen old.plan old.here m t letters b y new
    h = own_then old m new t letters b y by.leads.plan by.leads.here q

    its : (local : Local) → Agrees old t local → letters ≡ first_own site local x
    its local agrees = ap (λ z. map own_message (going_home (gives_again x) old.plan old.here z)) (by.gives local agrees).letters ∙ home_is (gives_again x) old.plan old.here t (letters_by site local x)

-- what a call put, by the plan and the number that the node had before it: the reply, the step, and what was taken within
record PutThen (plan : CheckedPlan) (here : Here) (m : Tables) (t : ℕ) (asked : Line) (again : Bool) (out : Output) (short : Option Short) (f0 f1 t0 t1 : List ℕ) (new : Tables) : Type 0 where
  facts : List Fact
  told : List ℕ
  takes : TakesOwn MOST_HOPS m t (map own_message (going_home again plan here out.letters.items)) facts told new
  fit : All (FitsFact plan) (option_to_list out.fact)
  appended : Appended plan (option_to_list out.fact ++ facts) ((reply_text plan here short ++ step_text plan here t asked out.answer (told_letters again plan here m out.letters.items) out.transfer) ++ told) f0 f1 t0 t1

put_then : (old m new : Tables) (t : ℕ) (asked : Line) (again : Bool) (out : Output) (short : Option Short) (f0 f1 t0 tr t1 : List ℕ) → m.plan ≡ old.plan → m.here ≡ old.here →
    tr ≡ t0 ++ reply_text m.plan m.here short → PutAll m t asked again out f0 f1 tr t1 new → PutThen old.plan old.here m t asked again out short f0 f1 t0 t1 new
put_then old m new t asked again out short f0 f1 t0 tr t1 same_plan same_here replied put =
    let reply : List ℕ = reply_text m.plan m.here short in
    let text : List ℕ = step_text m.plan m.here t asked out.answer (told_letters again m.plan m.here m out.letters.items) out.transfer in
    let first : Appended m.plan [] reply f0 f0 t0 tr = record { facts_are = sym (append-nil f0); told_is = replied } in
    let step : Appended m.plan (option_to_list out.fact) (reply ++ text) f0 put.facts_between t0 put.told_between =
    appended_more m.plan [] (option_to_list out.fact) reply text f0 f0 put.facts_between t0 tr put.told_between first put.step in
    let all : PutThen m.plan m.here m t asked again out short f0 f1 t0 t1 new = record {
      facts = put.own.facts;
      told = put.own.told;
      takes = put.own.takes;
      fit = put.fit;
      appended = appended_more m.plan (option_to_list out.fact) put.own.facts (reply ++ text) put.own.told f0 put.facts_between f1 t0 put.told_between t1 step put.own.appended;
    } in
    subst (λ p. PutThen p old.here m t asked again out short f0 f1 t0 t1 new) same_plan (subst (λ h. PutThen m.plan h m t asked again out short f0 f1 t0 t1 new) same_here all)

-- and what that appends
pub one_took : (old : Tables) (t : ℕ) (x : Input) (out : Output) (m new : Tables) (f0 f1 t0 t1 : List ℕ) → IsPlain x → Acts old t (does x) out m → PutAll m t (asked_in x) (gives_again x) out f0 f1 t0 t1 new →
    TookOf old t (x ∷ []) f0 f1 t0 t1 new
one_took old t x out m new f0 f1 t0 t1 plain acts put =
    let z : PutThen old.plan old.here m t (asked_in x) (gives_again x) out None f0 f1 t0 t1 new =
    put_then old m new t (asked_in x) (gives_again x) out None f0 f1 t0 t0 t1 acts.leads.plan acts.leads.here (sym (append-nil t0)) put in
    record {
      facts = option_to_list out.fact ++ z.facts;
      told = given_text old.plan old.here m t x out None ++ z.told;
      takes = one_takes old m new t x out None z.facts z.told (gave_plain old t x out m plain acts) z.fit z.takes;
      appended = z.appended;
    }

pub short_took : (old : Tables) (t from : ℕ) (s : OwnShort) (given : ShortOutput) (m new : Tables) (f0 f1 t0 tr t1 : List ℕ) → ((bytes : List ℕ) → ActsShortly old t (takes_short from s bytes) given m) →
    tr ≡ t0 ++ reply_text m.plan m.here given.short → PutAll m t NoLine (is_once_more s.body) given.out f0 f1 tr t1 new → TookShort old t from s f0 f1 t0 t1 new
short_took old t from s given m new f0 f1 t0 tr t1 acts replied put =
    let z : PutThen old.plan old.here m t NoLine (is_once_more s.body) given.out given.short f0 f1 t0 t1 new =
    put_then old m new t NoLine (is_once_more s.body) given.out given.short f0 f1 t0 tr t1 (acts []).leads.plan (acts []).leads.here replied put in
    record {
      facts = option_to_list given.out.fact ++ z.facts;
      told = given_text old.plan old.here m t (Shortened from s []) given.out given.short ++ z.told;
      takes = λ bytes. one_takes old m new t (Shortened from s bytes) given.out given.short z.facts z.told (gave_short old t from s bytes given m (acts bytes)) z.fit z.takes;
      appended = z.appended;
    }

-- ---- no input, and more inputs, of one tenant

pub none_took : (w : Tables) (t : ℕ) (f told : List ℕ) → TookOf w t [] f f told told w
none_took w t f told = record {
  facts = [];
  told = [];
  takes = record { plan = refl; here = refl; own = λ local agrees. agrees; others = λ u other local agrees. agrees; gives = λ local agrees. refl; tells = λ local agrees. refl; fit = All-nil (FitsFact w.plan) };
  appended = appended_none w.plan f told;
}

-- what the second of two calls did, by the plan and the number that the first had
record TakesThen (plan : CheckedPlan) (here : Here) (m : Tables) (t : ℕ) (ys : List Input) (b : List Fact) (y : List ℕ) (new : Tables) : Type 0 where
  own : (local : Local) → Agrees m t local → Agrees new t (after_taken (site_of plan here t) local ys)
  gives : (local : Local) → Agrees m t local → b ≡ facts_for plan here t local ys
  tells : (local : Local) → Agrees m t local → y ≡ written_for plan here t local ys
  fit : All (FitsFact plan) b

takes_then : (old m new : Tables) (t : ℕ) (ys : List Input) (b : List Fact) (y : List ℕ) → m.plan ≡ old.plan → m.here ≡ old.here → TakesOf m t ys b y new → TakesThen old.plan old.here m t ys b y new
takes_then old m new t ys b y plan here q =
    subst (λ p. TakesThen p old.here m t ys b y new) plan
    (subst (λ h. TakesThen m.plan h m t ys b y new) here (record { own = q.own; gives = q.gives; tells = q.tells; fit = q.fit }))

takes_more : (old m new : Tables) (t : ℕ) (xs ys : List Input) (a b : List Fact) (x y : List ℕ) → TakesOf old t xs a x m → TakesOf m t ys b y new → TakesOf old t (xs ++ ys) (a ++ b) (x ++ y) new
takes_more old m new t xs ys a b x y p q =
    let site : Site = site_of old.plan old.here t in
    let h : TakesThen old.plan old.here m t ys b y new = takes_then old m new t ys b y p.plan p.here q in
    record {
      plan = q.plan ∙ p.plan;
      here = q.here ∙ p.here;
      own = λ local agrees. subst (Agrees new t) (sym (after_taken_more site local xs ys)) (h.own (after_taken site local xs) (p.own local agrees));
      others = λ u other local agrees. q.others u other local (p.others u other local agrees);
      gives = λ local agrees. ap (λ z. z ++ b) (p.gives local agrees) ∙ ap (λ z. facts_for old.plan old.here t local xs ++ z) (h.gives (after_taken site local xs) (p.own local agrees)) ∙ sym (facts_more old.plan old.here t local xs ys);
      tells = λ local agrees. ap (λ z. z ++ y) (p.tells local agrees) ∙ ap (λ z. written_for old.plan old.here t local xs ++ z) (h.tells (after_taken site local xs) (p.own local agrees)) ∙ sym (written_more old.plan old.here t local xs ys);
      fit = All-append (FitsFact old.plan) a b p.fit h.fit;
    }

pub took_more : (old m new : Tables) (t : ℕ) (xs ys : List Input) (f0 f1 f2 t0 t1 t2 : List ℕ) → TookOf old t xs f0 f1 t0 t1 m → TookOf m t ys f1 f2 t1 t2 new → TookOf old t (xs ++ ys) f0 f2 t0 t2 new
took_more old m new t xs ys f0 f1 f2 t0 t1 t2 p q = record {
  facts = p.facts ++ q.facts;
  told = p.told ++ q.told;
  takes = takes_more old m new t xs ys p.facts q.facts p.told q.told p.takes q.takes;
  appended = appended_more old.plan p.facts q.facts p.told q.told f0 f1 f2 t0 t1 t2 p.appended (subst (λ z. Appended z q.facts q.told f1 f2 t1 t2) p.takes.plan q.appended);
}

-- ---- inputs of all tenants

-- these inputs, and those of the tenant at place t in the place of its own
abbrev pub with_inputs : (ℕ → List Input) → ℕ → List Input → ℕ → List Input
with_inputs inputs t xs u = if u == t then xs else inputs u

with_other : (inputs : ℕ → List Input) (t : ℕ) (xs : List Input) (u : ℕ) → u ≢ t → with_inputs inputs t xs u ≡ inputs u
with_other inputs t xs u other = rw (ne_eqb u t other) refl

with_same : (inputs : ℕ → List Input) (t : ℕ) (xs : List Input) → with_inputs inputs t xs t ≡ xs
with_same inputs t xs = rw (eq-eqb t t refl) refl

-- nothing from a place on
none_from : {A : Type 0} (f : ℕ → List A) (a n : ℕ) → ((u : ℕ) → a ≤ u → f u ≡ []) → flat_map f (range_with_len a n) ≡ []
none_from f a zero none = refl
none_from f a (suc n) none = ap (λ z. z ++ flat_map f (range_with_len (a + 1) n)) (none a (omega arith)) ∙ none_from f (a + 1) n (λ u above. none u (omega arith))

-- where there is nothing from place t on, one more list of it comes last
last_place : {A : Type 0} (f g : ℕ → List A) (t a n : ℕ) → a ≤ t → t < a + n → ((u : ℕ) → t ≤ u → f u ≡ []) → ((u : ℕ) → u ≢ t → g u ≡ f u) →
    flat_map g (range_with_len a n) ≡ flat_map f (range_with_len a n) ++ g t
last_place f g t a zero low high none same = absurd (omega arith)
last_place {A} f g t a (suc n) low high none same = elim (cases_eq a t) [
  | inl here ↦ (
      let all : (u : ℕ) → a + 1 ≤ u → g u ≡ [] = λ u above. same u (λ e. omega arith) ∙ none u (omega arith) in
      let left : flat_map g (range_with_len a (suc n)) ≡ g a = ap (λ z. g a ++ z) (none_from g (a + 1) n all) ∙ append-nil (g a) in
      let right : flat_map f (range_with_len a (suc n)) ≡ [] = none_from f a (suc n) (λ u above. none u (omega arith)) in
      left ∙ ap g here ∙ ap (λ z. z ++ g t) (sym right))
  | inr other ↦ (
      ap (λ z. z ++ flat_map g (range_with_len (a + 1) n)) (same a other)
      ∙ ap (λ z. f a ++ z) (last_place f g t (a + 1) n (omega arith) (omega arith) none same)
      ∙ sym (append_assoc (f a) (flat_map f (range_with_len (a + 1) n)) (g t)))
]

none_takes_all : (w : Tables) → TakesAll w (λ t. []) [] [] w
none_takes_all w = record {
  plan = refl;
  here = refl;
  parts = λ t within local agrees. agrees;
  gives = λ parts agree. sym (none_from (λ (t : ℕ). let z : List Fact = [] in z) 0 (length w.plan.rows) (λ u above. refl));
  tells = λ parts agree. sym (none_from (λ (t : ℕ). let z : List ℕ = [] in z) 0 (length w.plan.rows) (λ u above. refl));
  fit = All-nil (FitsFact w.plan);
}

pub none_took_all : (w : Tables) (f told : List ℕ) → TookAll w (λ t. []) f f told told w
none_took_all w f told = record { facts = []; told = []; takes = none_takes_all w; appended = appended_none w.plan f told }

-- inputs of the tenant at place t, where there were none from there on
takes_next : (old m new : Tables) (inputs : ℕ → List Input) (t : ℕ) (xs : List Input) (a b : List Fact) (x y : List ℕ) → t < length old.plan.rows → ((u : ℕ) → t ≤ u → inputs u ≡ []) →
    TakesAll old inputs a x m → TakesOf m t xs b y new → TakesAll old (with_inputs inputs t xs) (a ++ b) (x ++ y) new
takes_next old m new inputs t xs a b x y within none p q =
    let h : TakesThen old.plan old.here m t xs b y new = takes_then old m new t xs b y p.plan p.here q in
    let still : (local : Local) → Agrees old t local → Agrees m t local = λ local agrees. subst (λ z. Agrees m t (after_taken (site_of old.plan old.here t) local z)) (none t (omega arith)) (p.parts t within local agrees) in
    record {
      plan = q.plan ∙ p.plan;
      here = q.here ∙ p.here;
      parts = λ u inside local agrees. elim (cases_eq u t) [
        | inl same ↦ (
            let at : Agrees old t local = subst (λ z. Agrees old z local) same agrees in
            let to : Agrees new t (after_taken (site_of old.plan old.here t) local (with_inputs inputs t xs t)) = subst (λ z. Agrees new t (after_taken (site_of old.plan old.here t) local z)) (sym (with_same inputs t xs)) (h.own local (still local at)) in
            subst (λ z. Agrees new z (after_taken (site_of old.plan old.here z) local (with_inputs inputs t xs z))) (sym same) to)
        | inr other ↦ (subst (λ z. Agrees new u (after_taken (site_of old.plan old.here u) local z)) (sym (with_other inputs t xs u other)) (q.others u other _ (p.parts u inside local agrees)))
      ];
      gives = λ parts agree.
          ap (λ z. z ++ b) (p.gives parts agree)
          ∙ ap (λ z. facts_by old.plan old.here parts inputs ++ z) (h.gives (parts t) (still (parts t) (agree t within)) ∙ ap (facts_for old.plan old.here t (parts t)) (sym (with_same inputs t xs)))
          ∙ sym (last_place (λ u. facts_for old.plan old.here u (parts u) (inputs u)) (λ u. facts_for old.plan old.here u (parts u) (with_inputs inputs t xs u)) t 0 (length old.plan.rows) (omega arith) (omega arith)
          (λ u above. ap (facts_for old.plan old.here u (parts u)) (none u above)) (λ u other. ap (facts_for old.plan old.here u (parts u)) (with_other inputs t xs u other)));
      tells = λ parts agree.
          ap (λ z. z ++ y) (p.tells parts agree)
          ∙ ap (λ z. written_by old.plan old.here parts inputs ++ z) (h.tells (parts t) (still (parts t) (agree t within)) ∙ ap (written_for old.plan old.here t (parts t)) (sym (with_same inputs t xs)))
          ∙ sym (last_place (λ u. written_for old.plan old.here u (parts u) (inputs u)) (λ u. written_for old.plan old.here u (parts u) (with_inputs inputs t xs u)) t 0 (length old.plan.rows) (omega arith) (omega arith)
          (λ u above. ap (written_for old.plan old.here u (parts u)) (none u above)) (λ u other. ap (written_for old.plan old.here u (parts u)) (with_other inputs t xs u other)));
      fit = All-append (FitsFact old.plan) a b p.fit h.fit;
    }

pub took_next : (old m new : Tables) (inputs : ℕ → List Input) (t : ℕ) (xs : List Input) (f0 f1 f2 t0 t1 t2 : List ℕ) → t < length old.plan.rows → ((u : ℕ) → t ≤ u → inputs u ≡ []) →
    TookAll old inputs f0 f1 t0 t1 m → TookOf m t xs f1 f2 t1 t2 new → TookAll old (with_inputs inputs t xs) f0 f2 t0 t2 new
took_next old m new inputs t xs f0 f1 f2 t0 t1 t2 within none p q = record {
  facts = p.facts ++ q.facts;
  told = p.told ++ q.told;
  takes = takes_next old m new inputs t xs p.facts q.facts p.told q.told within none p.takes q.takes;
  appended = appended_more old.plan p.facts q.facts p.told q.told f0 f1 f2 t0 t1 t2 p.appended (subst (λ z. Appended z q.facts q.told f1 f2 t1 t2) p.takes.plan q.appended);
}

-- inputs of one tenant alone
pub took_alone : (old new : Tables) (t : ℕ) (xs : List Input) (f0 f1 t0 t1 : List ℕ) → t < length old.plan.rows → TookOf old t xs f0 f1 t0 t1 new → TookAll old (with_inputs (λ u. []) t xs) f0 f1 t0 t1 new
took_alone old new t xs f0 f1 t0 t1 within q = took_next old old new (λ u. []) t xs f0 f0 f1 t0 t0 t1 within (λ u above. refl) (none_took_all old f0 t0) q

-- the same inputs of each tenant
pub same_places : {A : Type 0} (f g : ℕ → List A) (a n : ℕ) → ((u : ℕ) → u < a + n → f u ≡ g u) → flat_map f (range_with_len a n) ≡ flat_map g (range_with_len a n)
same_places f g a zero same = refl
same_places f g a (suc n) same =
    ap (λ z. z ++ flat_map f (range_with_len (a + 1) n)) (same a (omega arith)) ∙ ap (λ z. g a ++ z) (same_places f g (a + 1) n (λ u below. same u (omega arith)))

pub took_same : (old new : Tables) (inputs others : ℕ → List Input) (f0 f1 t0 t1 : List ℕ) → ((u : ℕ) → u < length old.plan.rows → inputs u ≡ others u) → TookAll old inputs f0 f1 t0 t1 new → TookAll old others f0 f1 t0 t1 new
took_same old new inputs others f0 f1 t0 t1 same p = record {
  facts = p.facts;
  told = p.told;
  takes = record {
    plan = p.takes.plan;
    here = p.takes.here;
    parts = λ u inside local agrees. subst (λ z. Agrees new u (after_taken (site_of old.plan old.here u) local z)) (same u inside) (p.takes.parts u inside local agrees);
    gives = λ parts agree. p.takes.gives parts agree
        ∙ same_places (λ u. facts_for old.plan old.here u (parts u) (inputs u)) (λ u. facts_for old.plan old.here u (parts u) (others u)) 0 (length old.plan.rows) (λ u below. ap (facts_for old.plan old.here u (parts u)) (same u (omega arith)));
    tells = λ parts agree. p.takes.tells parts agree
        ∙ same_places (λ u. written_for old.plan old.here u (parts u) (inputs u)) (λ u. written_for old.plan old.here u (parts u) (others u)) 0 (length old.plan.rows) (λ u below. ap (written_for old.plan old.here u (parts u)) (same u (omega arith)));
    fit = p.takes.fit;
  };
  appended = p.appended;
}

-- ---- a tick of the node

-- the tenants below this place were given their ticks
abbrev pub ticks_below : CheckedPlan → Here → (n t : ℕ) → List Input
ticks_below plan here n t = if nat_lt t n then ticks_of plan here t else []

pub below-none : (plan : CheckedPlan) (here : Here) (n t : ℕ) → n ≤ t → ticks_below plan here n t ≡ []
below-none plan here n t above = elim (cases_Bool (nat_lt t n)) [
  | inl below ↦ (absurd (let h : t < n = ltb-true t n below in omega arith))
  | inr is ↦ (rw is refl)
]

pub below-more : (plan : CheckedPlan) (here : Here) (n t : ℕ) → with_inputs (ticks_below plan here n) n (ticks_of plan here n) t ≡ ticks_below plan here (n + 1) t
below-more plan here n t = elim (cases_eq t n) [
  | inl same ↦ (let one : nat_lt t (n + 1) ≡ true = lt-ltb t (n + 1) (omega arith) in rw (eq-eqb t n same, one) (ap (ticks_of plan here) (sym same)))
  | inr other ↦ (elim (cases_Bool (nat_lt t n)) [
    | inl below ↦ (let h : t < n = ltb-true t n below in let one : nat_lt t (n + 1) ≡ true = lt-ltb t (n + 1) (omega arith) in rw (ne_eqb t n other, below, one) refl)
    | inr above ↦ (elim (cases_Bool (nat_lt t (n + 1))) [
      | inl more ↦ (let h : t < n + 1 = ltb-true t (n + 1) more in let k : t < n = lt_of_ne t n h other in absurd (let e : true ≡ false = sym (lt-ltb t n k) ∙ above in cc))
      | inr not ↦ (rw (ne_eqb t n other, above, not) refl)
    ])
  ])
]
  where
    lt_of_ne : (t n : ℕ) → t < n + 1 → t ≢ n → t < n
    lt_of_ne t n h other = elim (cases_eq t n) [
      | inl same ↦ (absurd (other same))
      | inr not ↦ (omega arith)
    ]

pub below-all : (plan : CheckedPlan) (here : Here) (n t : ℕ) → t < n → ticks_below plan here n t ≡ ticks_of plan here t
below-all plan here n t below = rw (lt-ltb t n below) refl

-- nothing is given
pub record GivesNothing (site : Site) (local : Local) (x : Input) (doing : Doing) : Type 0 where
  pub answer : doing.answer ≡ None
  pub letters : doing.letters ≡ []
  pub transfer : doing.transfer ≡ None
  pub fact : doing.fact ≡ None

pub joined_silent : (from losses : ℕ) (site : Site) (local : Local) → GivesNothing site local (HeardJoined from losses) (does (HeardJoined from losses) site local)
joined_silent from losses site local = by (is_new site && has_node site from && losses == site.losses) refl
  where
    by : (b : Bool) → (is_new site && has_node site from && losses == site.losses) ≡ b → GivesNothing site local (HeardJoined from losses) (does (HeardJoined from losses) site local)
    by true is = rw is (record { answer = refl; letters = refl; transfer = refl; fact = refl })
    by false is = rw is (record { answer = refl; letters = refl; transfer = refl; fact = refl })

-- ---- the step of a machine that has the tables

lines_stand : (plan : CheckedPlan) → IsPlan plan → (facts : List Fact) → All (FitsFact plan) facts → are_batch_lines (fact_lines plan facts) ≡ true
lines_stand plan is [] fit = refl
lines_stand plan is (fact ∷ facts) fit =
    rw (facts_stand_in_batches plan fact is (fit 0 fact (omega arith)), lines_stand plan is facts (λ i d below. fit (suc i) d (omega arith))) refl

pub takes_line : {M : Type 0} (tables : M → Tables) → (old new : M) (line f0 f1 t0 t1 : List ℕ) → IsPlan (tables old).plan → AllStand (tables old) →
    TookIncoming (tables old) (incoming_of (tables old).plan (tables old).here.node line) f0 f1 t0 t1 (tables new) →
    Takes (λ a l lines told b. StepsTo (tables a) l lines told (tables b)) old line f0 f1 t0 t1 new
takes_line tables old new line f0 f1 t0 t1 is stand took = record {
  lines = fact_lines (tables old).plan took.facts;
  text = took.told ++ took.own;
  step = record {
    sound = is;
    stand = stand;
    facts = took.facts;
    tenants = took.told;
    takes = took.takes;
    lines_are = refl;
    told_is = λ parts agree. ap (λ z. took.told ++ z) (took.own_is parts agree);
  };
  facts = took.appended.facts_are;
  told = took.told_is ∙ ap (λ z. z ++ took.own) took.appended.told_is ∙ append_assoc t0 took.told took.own;
  opened = lines_stand (tables old).plan is took.facts (took.takes []).fit;
}

-- ---- what comes to no tenant, and to each

-- it is no letter in a short form, so what it brings is the same whatever content one has
abbrev pub IsWhole : Incoming → Type 0
IsWhole (ShortLetter from s) = ⊥
IsWhole _ = ⊤

same_inputs : (plan : CheckedPlan) (here : Here) (incoming : Incoming) → IsWhole incoming → (bytes : List ℕ) → inputs_with bytes plan here incoming ≡ inputs_with [] plan here incoming
same_inputs plan here (Request tenant op line) whole bytes = refl
same_inputs plan here (Plan tenant) whole bytes = refl
same_inputs plan here (Look tenant mark volume) whole bytes = refl
same_inputs plan here (Bad tenant) whole bytes = refl
same_inputs plan here (Letter from m) whole bytes = refl
same_inputs plan here (ShortLetter from s) whole bytes = absurd whole
same_inputs plan here (Joins from losses) whole bytes = refl
same_inputs plan here (Joined from losses) whole bytes = refl
same_inputs plan here (Speaks from form) whole bytes = refl
same_inputs plan here (Fetch from file) whole bytes = refl
same_inputs plan here (Fetched from file copy) whole bytes = refl
same_inputs plan here Tick whole bytes = refl
same_inputs plan here Greet whole bytes = refl
same_inputs plan here Nothing whole bytes = refl

-- nothing is written to other nodes
pub all_took : (old new : Tables) (incoming : Incoming) (f0 f1 t0 t1 : List ℕ) → TookAll old (inputs_with [] old.plan old.here incoming) f0 f1 t0 t1 new → IsWhole incoming →
    ((parts : ℕ → Local) → node_text old.plan old.here incoming parts ≡ []) → TookIncoming old incoming f0 f1 t0 t1 new
all_took old new incoming f0 f1 t0 t1 took whole silent = record {
  facts = took.facts;
  told = took.told;
  takes = λ bytes. subst (λ inputs. TakesAll old inputs took.facts took.told new) (sym (same_inputs old.plan old.here incoming whole bytes)) took.takes;
  between = t1;
  appended = took.appended;
  own = [];
  told_is = sym (append-nil t1);
  own_is = λ parts agree. sym (silent parts);
}

-- a short letter of one tenant
short_alone : (old new : Tables) (t from : ℕ) (s : OwnShort) (f0 f1 t0 t1 : List ℕ) → t < length old.plan.rows → (took : TookShort old t from s f0 f1 t0 t1 new) → (bytes : List ℕ) →
    TakesAll old (with_inputs (λ u. []) t (Shortened from s bytes ∷ [])) took.facts took.told new
short_alone old new t from s f0 f1 t0 t1 within took bytes =
    takes_next old old new (λ u. []) t (Shortened from s bytes ∷ []) [] took.facts [] took.told within (λ u above. refl) (none_takes_all old) (took.takes bytes)

pub short_took_all : (old new : Tables) (from : ℕ) (s : Short) (f0 f1 t0 t1 : List ℕ) → s.tenant < length old.plan.rows → TookShort old s.tenant from (own_short s) f0 f1 t0 t1 new → TookIncoming old (ShortLetter from s) f0 f1 t0 t1 new
short_took_all old new from s f0 f1 t0 t1 within took = record {
  facts = took.facts;
  told = took.told;
  takes = λ bytes. short_alone old new s.tenant from (own_short s) f0 f1 t0 t1 within took bytes;
  between = t1;
  appended = took.appended;
  own = [];
  told_is = sym (append-nil t1);
  own_is = λ parts agree. refl;
}

-- each part takes one input, by which nothing is given
pub leads_took : (old new : Tables) (x : Input) (f told : List ℕ) → LeadsAll old (does x) new → IsPlain x → ((site : Site) (local : Local) → GivesNothing site local x (does x site local)) → TookAll old (λ t. x ∷ []) f f told told new
leads_took old new x f told leads plain silent = record {
  facts = [];
  told = [];
  takes = record {
    plan = leads.plan;
    here = leads.here;
    parts = λ t within local agrees. subst (λ xs. Agrees new t (after_all (site_of old.plan old.here t) local xs)) (sym (alone (site_of old.plan old.here t) local)) (leads.parts t within local agrees);
    gives = λ parts agree. sym (none_from (λ t. facts_for old.plan old.here t (parts t) (x ∷ [])) 0 (length old.plan.rows) (λ u above. no_facts u (parts u)));
    tells = λ parts agree. sym (none_from (λ t. written_for old.plan old.here t (parts t) (x ∷ [])) 0 (length old.plan.rows) (λ u above. no_text u (parts u)));
    fit = All-nil (FitsFact old.plan);
  };
  appended = appended_none old.plan f told;
}
  where
    none : (site : Site) (local : Local) → letters_by site local x ≡ []
    none site local = (plain site local).0 ∙ (silent site local).letters

    alone : (site : Site) (local : Local) → taken site local (x ∷ []) ≡ x ∷ []
    alone site local =
        taken_one site local x ∙ ap (λ ms. x ∷ hops MOST_HOPS site (after_one site local x) (own_by (gives_again x) site ms)) (none site local) ∙ ap (λ xs. x ∷ xs) (hops_none MOST_HOPS site (after_one site local x))

    no_facts : (u : ℕ) (local : Local) → facts_for old.plan old.here u local (x ∷ []) ≡ []
    no_facts u local =
        let site : Site = site_of old.plan old.here u in
        ap (λ xs. map (fact_of u) (own_facts site local xs)) (alone site local) ∙ ap (λ o. map (fact_of u) (option_to_list o ++ [])) (silent site local).fact

    no_text : (u : ℕ) (local : Local) → written_for old.plan old.here u local (x ∷ []) ≡ []
    no_text u local =
        let site : Site = site_of old.plan old.here u in
        let doing : Doing = does x site local in
        let s = silent site local in
        let left_text : List OwnMessage → List ℕ = λ ms. letters_text old.plan old.here u false (after_all site local (within site local x)) ms in
        let no : doing_text old.plan old.here u local x ≡ [] =
        λ i. reply_text old.plan old.here (option_map (short_with u) ((plain site local).1 i))
        ++ step_text old.plan old.here u (asked_in x) (s.answer i) (letters_text old.plan old.here u (gives_again x) doing.local (others_by (gives_again x) site (none site local i))) (option_map (transfer_of u) (s.transfer i)) in
        append-nil (outside_text old.plan old.here u local x)
        ∙ ap (λ xs. steps_text old.plan old.here u local xs ++ left_text (left site local x)) (sym (append-nil (within site local x)) ∙ alone site local)
        ∙ ap (λ z. (z ++ []) ++ left_text (left site local x)) no
        ∙ ap left_text (left_one site local x ∙ ap (λ ms. left_behind MOST_HOPS site (after_one site local x) (own_by (gives_again x) site ms)) (none site local) ∙ left_none MOST_HOPS site (after_one site local x))

-- ---- the facts that a start needs

pub all_of_plan : (w : Tables) (facts : List Fact) → AllOfPlan w facts → All (λ fact. tenant_of fact < length w.plan.rows) facts
all_of_plan w [] all i d below = absurd (omega arith)
all_of_plan w (fact ∷ facts) all zero d below = all.0
all_of_plan w (fact ∷ facts) all (suc i) d below = all_of_plan w facts all.1 i d (omega arith)
