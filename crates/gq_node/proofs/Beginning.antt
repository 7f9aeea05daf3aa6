-- Each number of an operation begins once.
use Rattle.std.proofs.Common.{◌≡◌, ◌∙◌, ◌⊎◌, ℕ, ◌+◌, Bool, true, false, List, [], ◌∷◌, length, refl, sym, ap, subst, Option, Some, None, inl, inr, arith}
use Rattle.std.specs.Prelude.{◌==◌, is_some, if◌then◌else◌}
use Rattle.gq_grid.specs.Grid.{Servers}
use Rattle.gq_model.specs.declared.events.Line.{Line}
use Rattle.gq_model.specs.Lone.{Step, asked_step, entry_of, is_refusal}
use Rattle.gq_model.specs.Trace.{Own}
use Rattle.gq_node.specs.declared.output.Answer.TheVariants.{Bad as IsBad}
use Rattle.gq_node.specs.declared.output.Admission.{Admission}
use Rattle.gq_node.specs.declared.output.Admission.TheVariants.{Tells, Passes, Goes}
use Rattle.std.specs.List.{range_with_len}
use Rattle.std.proofs.lemmas.Bool.{cases_Bool, eq-eqb, eqb-true, ne_eqb}
use Rattle.gq_phase.specs.declared.Outcome.{Outcome}
use Rattle.gq_model.specs.Told.{Told, Began, Done, Abandoned}
use Rattle.gq_model.specs.Trace.{Session}
use Rattle.gq_node.specs.Inputs.{Asked, does, doings}
use Rattle.gq_node.specs.Local.{Local, Resident, Doing, asker, begins, asks, asks_in, asked_by, admission_in, own_admission, aim_at, state_of, tells, silently, goes_on}
use Rattle.gq_node.specs.Once.{begun_by, with_number, numbers_begun, AllBeginOnce, AllBeginNamed}
use Rattle.gq_node.specs.Sites.{Site}
use Rattle.gq_node.proofs.Asking.{goes_home, next_number}
use Rattle.gq_node.proofs.Moves.{AfterTold, Moves, Stays, Goes_on, all_move}

-- ---- the number of a session's last operation

-- it stays, or is the next one
abbrev pub Steps : ℕ → ℕ → Type 0
Steps last after = (after ≡ last) ⊎ (after ≡ last + 1)

told_steps : (k : ℕ) (told : Told) (old : Resident) (session : Session) (outcome : Option Outcome) → AfterTold k told old session outcome → Steps old.session.op session.op
told_steps k (Began op first count) old session outcome a = inr a.0
told_steps k (Done o) old session outcome a = inl a.number
told_steps k Abandoned old session outcome a = inl a.number
told_steps k told old session outcome a = inl a.number

pub moved_steps : (site : Site) (local : Local) (doing : Doing) (k : ℕ) → Moves site local doing → Steps (local.residents k).session.op (doing.local.residents k).session.op
moved_steps site local doing k (Stays still) = inl (still.each k).number
moved_steps site local doing k (Goes_on j n told turns) = elim (cases_Bool (j == k)) [
  | inl same ↦ (subst (λ x. Steps (local.residents x).session.op (doing.local.residents x).session.op) (eqb-true j k same) (told_steps j told (local.residents j) (doing.local.residents j).session (doing.local.residents j).outcome turns.after))
  | inr other ↦ (inl (ap (λ (r : Resident). r.session.op) (turns.others k other)))
]

-- ---- the numbers rise by one

-- what a step does to it, where this one began
abbrev StepsOn : (last : ℕ) → Option ℕ → (after : ℕ) → Type 0
StepsOn last None after = after ≡ last
StepsOn last (Some op) after = (op ≡ last + 1) × (after ≡ op)

steps_on : (last after : ℕ) → Steps last after → StepsOn last (if after == last then None else Some after) after
steps_on last after (inl same) = rw (eq-eqb after last same) same
steps_on last after (inr next) = rw (ne_eqb after last (λ e. omega (arith, next, e))) (next, refl)

-- the numbers from that one on
abbrev FromOn : ℕ → List ℕ → Type 0
FromOn first numbers = numbers ≡ range_with_len first (length numbers)

rises : (last after : ℕ) (begun : Option ℕ) (numbers : List ℕ) → StepsOn last begun after → FromOn (after + 1) numbers → FromOn (last + 1) (with_number begun numbers)
rises last after None numbers step rest = subst (λ n. FromOn (n + 1) numbers) step rest
rises last after (Some op) numbers step rest =
    let later : FromOn (last + 1 + 1) numbers = subst (λ n. FromOn (n + 1) numbers) (step.1 ∙ step.0) rest in
    ap (λ n. n ∷ numbers) step.0 ∙ ap (λ ns. (last + 1) ∷ ns) later

pub begin_once : AllBeginOnce
begin_once site local [] k = refl
begin_once site local (input ∷ rest) k =
    let doing : Doing = does input site local in
    let last : ℕ = (local.residents k).session.op in
    let after : ℕ = (doing.local.residents k).session.op in
    rises last after (begun_by k local doing.local) (numbers_begun k doing.local (doings site doing.local rest))
    (steps_on last after (moved_steps site local doing k (all_move input site local)))
    (begin_once site doing.local rest k)

-- ---- they are those of the requests

pub none_begins : (k n : ℕ) (local : Local) → begun_by k local local ≡ Some n → ⊥
none_begins k n local is = let last : ℕ = (local.residents k).session.op in let e = rw (eq-eqb last last refl) at is in absurd (cc)

some_same : (a b : ℕ) → Some a ≡ Some b → a ≡ b
some_same a b is = cc

pub begun_next : (last after n : ℕ) → Steps last after → (if after == last then None else Some after) ≡ Some n → n ≡ last + 1
begun_next last after n (inl same) is = let e = rw (eq-eqb after last same) at is in absurd (cc)
begun_next last after n (inr next) is = let e = rw (ne_eqb after last (λ e. omega (arith, next, e))) at is in sym (some_same after n e) ∙ next

pub begun_is : (last after n : ℕ) → (if after == last then None else Some after) ≡ Some n → after ≡ n
begun_is last after n is = elim (cases_Bool (after == last)) [
  | inl same ↦ (let e = rw same at is in absurd (cc))
  | inr other ↦ (let e = rw other at is in some_same after n e)
]

begin_named_by : (site : Site) (local : Local) (op : ℕ) (line : Line) (j n : ℕ) (o : Option ℕ) → asker line ≡ o → begins line ≡ true → begun_by j local (asks op line site local).local ≡ Some n → n ≡ op
begin_named_by site local op line j n None its begin is =
    let e : asks op line site local ≡ tells local IsBad = rw its refl in
    absurd (none_begins j n local (subst (λ (d : Doing). begun_by j local d.local ≡ Some n) e is))
begin_named_by site local op line j n (Some k) its begin is = by (admission_in site local k op (begins line)) refl
  where
    r : Resident
    r = local.residents k

    aim : Servers
    aim = aim_at site.grid r

    step : Step
    step = asked_step site.grid site.row (state_of aim local) line

    same : asks op line site local ≡ asks_in site local op line k
    same = rw its refl

    never : (d : Doing) → asks op line site local ≡ d → d.local ≡ local → n ≡ op
    never d e stays = absurd (none_begins j n local (subst (λ (l : Local). begun_by j local l ≡ Some n) stays (subst (λ (d : Doing). begun_by j local d.local ≡ Some n) e is)))

    next : n ≡ (local.residents j).session.op + 1
    next = begun_next (local.residents j).session.op ((asks op line site local).local.residents j).session.op n (moved_steps site local (asks op line site local) j (all_move (Asked op line) site local)) is

    number : admission_in site local k op (begins line) ≡ Goes → op ≡ r.session.op + 1
    number goes = next_number k op r.session.op (is_some r.session.current) r.outcome
        (subst (λ b. own_admission k op b r.session.op (is_some r.session.current) r.outcome ≡ Goes) begin (goes_home site k op r.session.op (begins line) (is_some r.session.current) r.outcome goes).2)

    said : admission_in site local k op (begins line) ≡ Goes → asks op line site local ≡ asked_by local k op (state_of aim local) line step → (b : Bool) → is_refusal step.told ≡ b → n ≡ op
    said goes e true refused = let f : (asked_by local k op (state_of aim local) line step).local ≡ local = rw refused refl in never (asked_by local k op (state_of aim local) line step) e f
    said goes e false done = elim (cases_Bool (k == j)) [
      | inl own ↦ (next ∙ ap (λ x. (local.residents x).session.op + 1) (sym (eqb-true k j own)) ∙ sym (number goes))
      | inr other ↦ (
          let doing : Doing = goes_on local k op false (state_of aim local) (entry_of (state_of aim local) (Own line) step) in
          let f : asked_by local k op (state_of aim local) line step ≡ doing = rw done refl in
          let still : doing.local.residents j ≡ local.residents j = rw other refl in
          let begun : begun_by j local doing.local ≡ Some n = subst (λ (d : Doing). begun_by j local d.local ≡ Some n) (e ∙ f) is in
          absurd (none_begins j n local (subst (λ (x : Resident). (if x.session.op == (local.residents j).session.op then None else Some x.session.op) ≡ Some n) still begun)))
    ]

    by : (g : Admission) → admission_in site local k op (begins line) ≡ g → n ≡ op
    by (Tells answer) goes = never (tells local answer) (same ∙ rw goes refl) refl
    by Passes goes = never (silently local) (same ∙ rw goes refl) refl
    by Goes goes = said goes (same ∙ rw goes refl) (is_refusal step.told) refl

pub begin_named : AllBeginNamed
begin_named site local op line k n begin is = begin_named_by site local op line k n (asker line) refl begin is
