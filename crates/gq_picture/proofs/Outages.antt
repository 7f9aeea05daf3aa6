-- The absences that are read off events are the times in which the model has a server down.
use Rattle.std.proofs.Common.{◌≡◌, ◌⊎◌, ◌∙◌, ℕ, zero, suc, ◌+◌, ◌*◌, ◌<◌, ◌≤◌, Bool, true, false, List, [], ◌∷◌, ◌++◌, length, Option, Some, None, refl, sym, ap, subst, arith, inl, inr, append_assoc, append-nil}
use Rattle.std.specs.Prelude.{◌==◌, ◌||◌, nat_lt, slice_index_or, Contains, if◌then◌else◌}
use Rattle.std.proofs.lemmas.Bool.{cases_eq, cases_Bool, eq-eqb, ne_eqb, lt-ltb}
use Rattle.std.proofs.lemmas.List.Elements.{Contains-append_left, Contains-append_right, Contains-append_cases}
use Rattle.gq_grid.specs.Grid.{Servers}
use Rattle.gq_desk.specs.CheckedPlan.{CheckedPlan, row_at}
use Rattle.gq_model.specs.declared.events.Event.{Event}
use Rattle.gq_model.specs.declared.events.Event.TheVariants.{Tenant, Server as OfServer, Stray}
use Rattle.gq_model.specs.declared.events.ServerLine.{ServerLine}
use Rattle.gq_model.specs.declared.events.ServerLine.TheVariants.{Bad as NoServerLine, Down, Up, Lost, Repaired}
use Rattle.gq_model.specs.Trace.{Own, Serving, Past, up, up_by, gone}
use Rattle.gq_model.specs.Lone.{after, is_refusal, server_told}
use Rattle.gq_model.specs.Events.{past_at, server_past, answer_to}
use Rattle.gq_laws.specs.Tenants.{answers_from}
use Rattle.gq_laws.proofs.Acts.{SameServers, servers_own, next_up_is}
use Rattle.gq_laws.proofs.AllTenants.{servers_same, past_more}
use Rattle.gq_picture.specs.declared.absences.Absence.{Absence}
use Rattle.gq_picture.specs.declared.absences.Effect.{Effect}
use Rattle.gq_picture.specs.declared.absences.Effect.TheVariants.{Nothing, GoesDown, ComesBack}
use Rattle.gq_picture.specs.Absences.{line_effect, effect_of, effects, is_return, return_place, absence_at, absences, counted_from}
use Rattle.gq_picture.specs.Laws.{all_effects, IsAbsentAt, AbsencesAreTrue}

-- ---- the model

-- whether the server is up behind it, when it was up before or not
abbrev next : ℕ → Effect → Bool → Bool
next s (GoesDown n) was = if n == s then false else was
next s (ComesBack n) was = if n == s then true else was
next s Nothing was = was

either_way : (b x y z : Bool) → x ≡ z → y ≡ z → (if b then x else y) ≡ z
either_way true x y z one two = one
either_way false x y z one two = two

next_line : (b : Bool) (before : Servers) (line : ServerLine) (s : ℕ) → (if b then before else up_by (Serving line) before) s ≡ next s (if b then Nothing else line_effect line) (before s)
next_line true before line s = refl
next_line false before NoServerLine s = refl
next_line false before (Down n) s = refl
next_line false before (Up n) s = refl
next_line false before (Lost n) s = refl
next_line false before (Repaired n) s = refl

-- by one event
event_is : (plan : CheckedPlan) (t s : ℕ) (past : List Event) (event : Event) → up (past_at plan t (past ++ event ∷ [])).trace s ≡ next s (effect_of event (answer_to plan past event)) (up (past_at plan t past).trace s)
event_is plan t s past (Tenant u line) = elim (cases_eq u t) [
  | inl same ↦ (ap (λ (p : Past). up p.trace s) (past_more plan t past (Tenant u line) (Some (Own line)) (rw (eq-eqb u t same) refl)) ∙ ap (λ (f : Servers). f s) (servers_own plan.grid (row_at plan t) (past_at plan t past) line).up)
  | inr other ↦ (ap (λ (p : Past). up p.trace s) (past_more plan t past (Tenant u line) None (rw (ne_eqb u t other) refl)))
]
event_is plan t s past (OfServer line) =
    let same : SameServers (past_at plan t past).trace (server_past plan past).trace = servers_same plan t past in
    ap (λ (p : Past). up p.trace s) (past_more plan t past (OfServer line) (Some (Serving line)) refl)
    ∙ ap (λ (f : Servers). f s) (next_up_is plan.grid (row_at plan t) (past_at plan t past) line)
    ∙ next_line (is_refusal (server_told plan.grid (up (past_at plan t past).trace) (gone (past_at plan t past).trace) line)) (up (past_at plan t past).trace) line s
    ∙ (λ i. next s (if is_refusal (server_told plan.grid (same.up i) (same.gone i) line) then Nothing else line_effect line) (up (past_at plan t past).trace s))
event_is plan t s past Stray = ap (λ (p : Past). up p.trace s) (past_more plan t past Stray None refl)

-- what the events do that come after those past
unfoldable pub effects_from : CheckedPlan → List Event → List Event → List Effect
effects_from plan past [] = []
effects_from plan past (event ∷ events) = effect_of event (answer_to plan past event) ∷ effects_from plan (past ++ event ∷ []) events

pub effects_are : (plan : CheckedPlan) (past events : List Event) → effects events (answers_from plan past events) ≡ effects_from plan past events
unfolding effects_from
effects_are plan past [] = refl
effects_are plan past (event ∷ events) = ap (λ more. effect_of event (answer_to plan past event) ∷ more) (effects_are plan (past ++ event ∷ []) events)

joined : (past before : List Event) (event : Event) → (past ++ event ∷ []) ++ before ≡ past ++ event ∷ before
joined past before event = rw append_assoc refl

effects_from-append : (plan : CheckedPlan) (past before after : List Event) → effects_from plan past (before ++ after) ≡ effects_from plan past before ++ effects_from plan (past ++ before) after
unfolding effects_from
effects_from-append plan past [] after = ap (λ z. effects_from plan z after) (sym (append-nil past))
effects_from-append plan past (event ∷ before) after =
    ap (λ more. effect_of event (answer_to plan past event) ∷ more)
    (effects_from-append plan (past ++ event ∷ []) before after ∙ ap (λ z. effects_from plan (past ++ event ∷ []) before ++ effects_from plan z after) (joined past before event))

effects_from-length : (plan : CheckedPlan) (past events : List Event) → length (effects_from plan past events) ≡ length events
unfolding effects_from
effects_from-length plan past [] = refl
effects_from-length plan past (event ∷ events) = ap suc (effects_from-length plan (past ++ event ∷ []) events)

-- after all of them
all_next : ℕ → Bool → List Effect → Bool
all_next s was [] = was
all_next s was (effect ∷ effects) = all_next s (next s effect was) effects

model_is : (plan : CheckedPlan) (t s : ℕ) (past events : List Event) → up (past_at plan t (past ++ events)).trace s ≡ all_next s (up (past_at plan t past).trace s) (effects_from plan past events)
unfolding all_next effects_from
model_is plan t s past [] = ap (λ z. up (past_at plan t z).trace s) (append-nil past)
model_is plan t s past (event ∷ events) =
    ap (λ z. up (past_at plan t z).trace s) (sym (joined past events event))
    ∙ model_is plan t s (past ++ event ∷ []) events
    ∙ ap (λ was. all_next s was (effects_from plan (past ++ event ∷ []) events)) (event_is plan t s past event)

-- ---- returns

-- whether the server comes back by one of the first so many events
returned : ℕ → ℕ → List Effect → Bool
returned s zero events = false
returned s (suc k) [] = false
returned s (suc k) (event ∷ events) = is_return s event || returned s k events

-- the first return, if there is one, is behind as many events
abbrev IsBehind : ℕ → Option ℕ → Type 0
IsBehind place o = (e : ℕ) → o ≡ Some e → place ≤ e

later_return : (s c : ℕ) (events : List Effect) → IsBehind c (return_place s (counted_from c events) events)
later_return s c [] e is = cc
later_return s c (event ∷ events) e is = elim (cases_Bool (is_return s event)) [
  | inl back ↦ (let f : Some c ≡ Some e = rw back at is in let g : c ≡ e = cc in omega (arith, g))
  | inr on ↦ (let f : return_place s (counted_from (c + 1) events) events ≡ Some e = rw on at is in omega (arith, later_return s (c + 1) events e f))
]

not_returned : (s k c : ℕ) (events : List Effect) → returned s k events ≡ false → IsBehind (c + k) (return_place s (counted_from c events) events)
unfolding returned
not_returned s zero c events none e is = omega (arith, later_return s c events e is)
not_returned s (suc k) c [] none e is = cc
not_returned s (suc k) c (event ∷ events) none e is = elim (cases_Bool (is_return s event)) [
  | inl back ↦ (absurd (let f : true ≡ false = rw back at none in cc))
  | inr on ↦ (
      let f : return_place s (counted_from (c + 1) events) events ≡ Some e = rw on at is in
      let g : returned s k events ≡ false = rw on at none in
      omega (arith, not_returned s k (c + 1) events g e f))
]

has_returned : (s k c : ℕ) (events : List Effect) → IsBehind (c + k) (return_place s (counted_from c events) events) → returned s k events ≡ false
unfolding returned
has_returned s zero c events behind = refl
has_returned s (suc k) c [] behind = refl
has_returned s (suc k) c (event ∷ events) behind = elim (cases_Bool (is_return s event)) [
  | inl back ↦ (absurd (let f : return_place s (counted_from c (event ∷ events)) (event ∷ events) ≡ Some c = rw back refl in omega (arith, behind c f)))
  | inr on ↦ (rw on (has_returned s k (c + 1) events (λ e is. omega (arith, behind e (rw on is)))))
]

-- ---- absences

-- the absence is the one that begins with the event
record Begins (servers place : ℕ) (event : Effect) (places : List ℕ) (events : List Effect) (a : Absence) : Type 0 where
  down : event ≡ GoesDown a.server
  from : a.from ≡ place
  until : a.until ≡ return_place a.server places events

single : (x a : Absence) → Contains (x ∷ []) a → x ≡ a
single x a told = let first : told.0 ≡ 0 = omega (arith, told.1) in ap (λ k. slice_index_or (x ∷ []) k a) (sym first) ∙ told.2

its_absence : (servers place : ℕ) (event : Effect) (places : List ℕ) (events : List Effect) (a : Absence) → Contains (absence_at servers place event places events) a → Begins servers place event places events a
its_absence servers place (GoesDown n) places events a told = by (nat_lt n servers) refl
  where
    x : Absence
    x = record { server = n; from = place; until = return_place n places events }

    by : (b : Bool) → nat_lt n servers ≡ b → Begins servers place (GoesDown n) places events a
    by true inside =
        let one : Contains (x ∷ []) a = rw inside at told in
        subst (λ z. Begins servers place (GoesDown n) places events z) (single x a one) (record { down = refl; from = refl; until = refl })
    by false outside = let none : Contains {X = Absence} [] a = rw outside at told in absurd (omega (arith, none.1))
its_absence servers place Nothing places events a told = absurd (omega (arith, told.1))
its_absence servers place (ComesBack n) places events a told = absurd (omega (arith, told.1))

-- no absence begins before the first event
begins_behind : (servers c : ℕ) (events : List Effect) (a : Absence) → Contains (absences servers (counted_from c events) events) a → c ≤ a.from
begins_behind servers c [] a told = absurd (omega (arith, told.1))
begins_behind servers c (event ∷ events) a told = elim (Contains-append_cases (absence_at servers c event (counted_from (c + 1) events) events) (absences servers (counted_from (c + 1) events) events) a told) [
  | inl here ↦ (omega (arith, (its_absence servers c event (counted_from (c + 1) events) events a here).from))
  | inr later ↦ (omega (arith, begins_behind servers (c + 1) events a later))
]

-- an absence that began with the event lasts, where the server does not come back until then
begun : (servers s c place : ℕ) (event : Effect) (events : List Effect) (more : List Absence) → s < servers → event ≡ GoesDown s → c ≤ place → IsBehind (place + 1) (return_place s (counted_from (c + 1) events) events) →
    IsAbsentAt (absence_at servers c event (counted_from (c + 1) events) events ++ more) s place
begun servers s c place event events more small is low behind =
    let a : Absence = record { server = s; from = c; until = return_place s (counted_from (c + 1) events) events } in
    let first : List Absence = absence_at servers c event (counted_from (c + 1) events) events in
    let one : first ≡ a ∷ [] = ap (λ e. absence_at servers c e (counted_from (c + 1) events) events) is ∙ (rw (lt-ltb s servers small) refl) in
    record {
      absence = a;
      told = Contains-append_left first more a (subst (λ l. Contains l a) (sym one) (0, omega arith, refl));
      of_it = refl;
      from = low;
      lasts = λ e is. omega (arith, behind e is);
    }

-- ---- an event

-- the server is down behind the event because of it, or was and did not come back
down_by : (s : ℕ) (event : Effect) (was : Bool) → next s event was ≡ false → (event ≡ GoesDown s) ⊎ ((was ≡ false) × (is_return s event ≡ false))
down_by s (GoesDown n) was is = elim (cases_eq n s) [
  | inl same ↦ (inl (ap (λ m. GoesDown m) same))
  | inr other ↦ (inr (rw (ne_eqb n s other) at is, refl))
]
down_by s (ComesBack n) was is = elim (cases_eq n s) [
  | inl same ↦ (absurd (let bad : true ≡ false = rw (eq-eqb n s same) at is in cc))
  | inr other ↦ (inr (rw (ne_eqb n s other) at is, ne_eqb n s other))
]
down_by s Nothing was is = inr (is, refl)

stays_down : (s : ℕ) (event : Effect) (was : Bool) → was ≡ false → is_return s event ≡ false → next s event was ≡ false
stays_down s (GoesDown n) was is none = either_way (n == s) false was false refl is
stays_down s (ComesBack n) was is none = rw none is
stays_down s Nothing was is none = is

goes_down : (s n : ℕ) (event : Effect) (was : Bool) → event ≡ GoesDown n → n ≡ s → next s event was ≡ false
goes_down s n event was is same = ap (λ e. next s e was) is ∙ (rw (eq-eqb n s same) refl)

neither : (a b : Bool) → (a || b) ≡ false → (a ≡ false) × (b ≡ false)
neither true b is = cc
neither false b is = (refl, is)

-- ---- all events

more_absences : (first more : List Absence) (s place : ℕ) → IsAbsentAt more s place → IsAbsentAt (first ++ more) s place
more_absences first more s place is = record { absence = is.absence; told = Contains-append_right first more is.absence is.told; of_it = is.of_it; from = is.from; lasts = is.lasts }

-- all absences of these events, the first of which stands at this place
abbrev all_of : (servers c : ℕ) → List Effect → List Absence
all_of servers c events = absences servers (counted_from c events) events

-- the server was down before and did not come back, or an absence lasts
abbrev IsOut : (servers s c : ℕ) (before after : List Effect) (event : Effect) (was : Bool) → Type 0
IsOut servers s c before after event was =
    ((was ≡ false) × (returned s (suc (length before)) (before ++ event ∷ after) ≡ false)) ⊎ IsAbsentAt (all_of servers c (before ++ event ∷ after)) s (c + length before)

out_here : (servers s c : ℕ) → s < servers → (after : List Effect) (event : Effect) (was : Bool) → next s event was ≡ false → IsOut servers s c [] after event was
unfolding returned
out_here servers s c small after event was is = elim (down_by s event was is) [
  | inl down ↦ (inr (begun servers s c (c + 0) event after (all_of servers (c + 1) after) small down (omega arith) (λ e r. omega (arith, later_return s (c + 1) after e r))))
  | inr up ↦ (inl (up.0, (rw up.1 refl)))
]

here_out : (servers s c : ℕ) (after : List Effect) (event : Effect) (was : Bool) → IsOut servers s c [] after event was → next s event was ≡ false
unfolding returned
here_out servers s c after event was (inl out) = stays_down s event was out.0 (neither (is_return s event) false out.1).0
here_out servers s c after event was (inr absent) = elim (Contains-append_cases (absence_at servers c event (counted_from (c + 1) after) after) (all_of servers (c + 1) after) absent.absence absent.told) [
  | inl here ↦ (goes_down s absent.absence.server event was (its_absence servers c event (counted_from (c + 1) after) after absent.absence here).down absent.of_it)
  | inr later ↦ (absurd (omega (arith, begins_behind servers (c + 1) after absent.absence later, absent.from)))
]

all_out : (servers s : ℕ) → s < servers → (before after : List Effect) (event : Effect) (c : ℕ) (was : Bool) → all_next s was (before ++ event ∷ []) ≡ false → IsOut servers s c before after event was
unfolding all_next returned
all_out servers s small [] after event c was is = out_here servers s c small after event was is
all_out servers s small (b ∷ before) after event c was is = elim (all_out servers s small before after event (c + 1) (next s b was) is) [
  | inl out ↦ (elim (down_by s b was out.0) [
    | inl down ↦ (inr (begun servers s c (c + suc (length before)) b rest (all_of servers (c + 1) rest) small down (omega arith) (λ e r. omega (arith, not_returned s (suc (length before)) (c + 1) rest out.1 e r))))
    | inr up ↦ (inl (up.0, (rw up.1 out.1)))
  ])
  | inr absent ↦ (inr (more_absences (absence_at servers c b (counted_from (c + 1) rest) rest) (all_of servers (c + 1) rest) s (c + suc (length before)) (subst (IsAbsentAt (all_of servers (c + 1) rest) s) place absent)))
]
  where
    rest : List Effect
    rest = before ++ event ∷ after

    place : (c + 1) + length before ≡ c + suc (length before)
    place = omega arith

out_all : (servers s : ℕ) (before after : List Effect) (event : Effect) (c : ℕ) (was : Bool) → IsOut servers s c before after event was → all_next s was (before ++ event ∷ []) ≡ false
unfolding all_next returned
out_all servers s [] after event c was out = here_out servers s c after event was out
out_all servers s (b ∷ before) after event c was (inl out) =
    let parts = neither (is_return s b) (returned s (suc (length before)) (before ++ event ∷ after)) out.1 in
    out_all servers s before after event (c + 1) (next s b was) (inl (stays_down s b was out.0 parts.0, parts.1))
out_all servers s (b ∷ before) after event c was (inr absent) = elim (Contains-append_cases (absence_at servers c b (counted_from (c + 1) rest) rest) (all_of servers (c + 1) rest) absent.absence absent.told) [
  | inl here ↦ (
      let begins = its_absence servers c b (counted_from (c + 1) rest) rest absent.absence here in
      let until : absent.absence.until ≡ return_place s (counted_from (c + 1) rest) rest = begins.until ∙ ap (λ n. return_place n (counted_from (c + 1) rest) rest) absent.of_it in
      out_all servers s before after event (c + 1) (next s b was)
      (inl (goes_down s absent.absence.server b was begins.down absent.of_it, has_returned s (suc (length before)) (c + 1) rest (λ e is. omega (arith, absent.lasts e (until ∙ is))))))
  | inr later ↦ (
      out_all servers s before after event (c + 1) (next s b was) (inr (record { absence = absent.absence; told = later; of_it = absent.of_it; from = omega (arith, absent.from); lasts = λ e is. omega (arith, absent.lasts e is) })))
]
  where
    rest : List Effect
    rest = before ++ event ∷ after

pub absences_are_true : AbsencesAreTrue
unfolding effects_from
absences_are_true plan t s before after event small = (
  (λ down. elim (all_out servers s small first later this 0 true (sym model ∙ down)) [
    | inl out ↦ (absurd (let bad : true ≡ false = out.0 in cc))
    | inr absent ↦ (subst (λ all. IsAbsentAt (all_of servers 0 all) s (length before)) (sym whole) (subst (IsAbsentAt (all_of servers 0 (first ++ this ∷ later)) s) place absent))
  ]),
  (λ absent. model ∙ out_all servers s first later this 0 true (inr (subst (IsAbsentAt (all_of servers 0 (first ++ this ∷ later)) s) (sym place) (subst (λ all. IsAbsentAt (all_of servers 0 all) s (length before)) whole absent)))),
)
  where
    servers : ℕ
    servers = plan.grid.rows * plan.grid.cols

    -- what the events before do, the event, and those after it
    first : List Effect
    first = effects_from plan [] before

    this : Effect
    this = effect_of event (answer_to plan before event)

    later : List Effect
    later = effects_from plan (before ++ event ∷ []) after

    whole : all_effects plan (before ++ event ∷ after) ≡ first ++ this ∷ later
    whole = effects_are plan [] (before ++ event ∷ after) ∙ effects_from-append plan [] before (event ∷ after)

    place : 0 + length first ≡ length before
    place = omega (arith, effects_from-length plan [] before)

    model : up (past_at plan t (before ++ event ∷ [])).trace s ≡ all_next s true (first ++ this ∷ [])
    model = model_is plan t s [] (before ++ event ∷ []) ∙ ap (all_next s true) (effects_from-append plan [] before (event ∷ []))
