-- What a shard sees is answered as in the run of all.
use Rattle.std.proofs.Common.{◌≡◌, ◌≢◌, ◌⊎◌, ◌∙◌, ℕ, suc, zero, ◌+◌, ◌-◌, ◌<◌, ◌≤◌, Bool, true, false, List, [], ◌∷◌, ◌++◌, None, map, length, append_assoc, append-nil, refl, sym, ap, subst, inl, inr, arith}
use Rattle.std.specs.Prelude.{◌==◌, ◌||◌, filter, codes, slice_index_or, Result, Ok, Err, IfOk}
use Rattle.std.specs.List.{cons_option}
use Rattle.std.proofs.lemmas.Bool.{cases_eq, ne_eqb, eq-eqb, eqb-true, or_parts}
use Rattle.std.proofs.lemmas.List.{map-append, length-map}
use Rattle.std.proofs.lemmas.List.Elements.{filter-append}
use Rattle.std.proofs.lemmas.Grind.{flat_map-append}
use Rattle.gq_desk.specs.CheckedPlan.{CheckedPlan, nobody, row_at}
use Rattle.gq_model.specs.declared.events.Event.{Event}
use Rattle.gq_model.specs.declared.events.Event.TheVariants.{Tenant, Server, Stray}
use Rattle.gq_model.specs.Trace.{Own, Serving}
use Rattle.gq_model.specs.Lone.{said, past_of}
use Rattle.gq_model.specs.Told.{Told as Said}
use Rattle.gq_model.specs.Events.{turn_of, own, server_turn, server_lines, answer_to}
use Rattle.gq_text.specs.Input.{event_of}
use Rattle.gq_grid.specs.Grid.{Grid}
use Rattle.gq_desk.specs.declared.plans.TenantRow.{TenantRow}
use Rattle.gq_lines.specs.Written.{line_text}
use Rattle.gq_text.specs.AnswerText.{answer_line, told_words}
use Rattle.gq_lines.specs.Lines.{lines_of, joined}
use Rattle.gq_text.specs.PlanText.{Reading, plan_of}
use Rattle.gq_script.specs.Out.{answer_lines, output_lines, output_of, out}
use Rattle.gq_world.specs.Tables.{Tables, Stands}
use Rattle.gq_shards.specs.Shards.{shard_of, mark_of, marks_of, tells, sees_mark, of_shard, lines_from, out_lines, AreListed, IsPart, IsText, IsTold, IsUntold, EachTold, AreTold}
use Rattle.gq_shards.specs.declared.lengths.Lengths.{Lengths}
use Rattle.gq_shards.specs.declared.telling.Told.{Told}

-- the shard sees the event; the events that it sees
abbrev pub sees_event : ℕ → ℕ → Event → Bool
sees_event n k e = sees_mark k (mark_of n e)

abbrev pub part_events : ℕ → ℕ → List Event → List Event
part_events n k events = filter (sees_event n k) events

-- a tenant's line that the shard sees is its own
mine_of : (k m : ℕ) → sees_mark k (m + 1) ≡ true → m ≡ k
mine_of k m is = by (m + 1 == 0) refl (tells k (m + 1)) refl is
  where
    by : (a : Bool) → (m + 1 == 0) ≡ a → (b : Bool) → tells k (m + 1) ≡ b → (a || b) ≡ true → m ≡ k
    by true zero_is b tells_is either = let none : m + 1 ≡ 0 = eqb-true (m + 1) 0 zero_is in absurd (omega (arith, none))
    by false other true tells_is either = let same : m + 1 - 1 ≡ k = eqb-true (m + 1 - 1) k tells_is in omega (arith, same)
    by false other false tells_is either = absurd (let no : false ≡ true = either in cc)

-- what the shard doesn't see is no turn of its tenant, and no server line
unseen_turn : (n k t : ℕ) (e : Event) → shard_of n t ≡ k → sees_event n k e ≡ false → turn_of t e ≡ None
unseen_turn n k t (Tenant u line) mine not = by (cases_eq u t)
  where
    by : (u ≡ t) ⊎ (u ≢ t) → turn_of t (Tenant u line) ≡ None
    by (inl same) =
        let own : shard_of n u ≡ k = ap (shard_of n) same ∙ mine in
        let yes : tells k (shard_of n u + 1) ≡ true = eq-eqb (shard_of n u + 1 - 1) k (omega (arith, own)) in
        let no : tells k (shard_of n u + 1) ≡ false = (or_parts (shard_of n u + 1 == 0) (tells k (shard_of n u + 1)) not).1 in
        absurd (let never : false ≡ true = sym no ∙ yes in cc)
    by (inr other) = rw (ne_eqb u t other) refl
unseen_turn n k t (Server line) mine not = absurd (let no : true ≡ false = not in cc)
unseen_turn n k t Stray mine not = refl

unseen_server : (n k : ℕ) (e : Event) → sees_event n k e ≡ false → server_turn e ≡ None
unseen_server n k (Tenant u line) not = refl
unseen_server n k (Server line) not = absurd (let no : true ≡ false = not in cc)
unseen_server n k Stray not = refl

-- the shard sees all turns of its tenants
own_part : (n k t : ℕ) (events : List Event) → shard_of n t ≡ k → own t (part_events n k events) ≡ own t events
own_part n k t [] mine = refl
own_part n k t (e ∷ events) mine = by (sees_event n k e) refl (own_part n k t events mine)
  where
    by : (b : Bool) → sees_event n k e ≡ b → own t (part_events n k events) ≡ own t events → own t (part_events n k (e ∷ events)) ≡ own t (e ∷ events)
    by true is later =
        let first : part_events n k (e ∷ events) ≡ e ∷ part_events n k events = rw is refl in
        ap (own t) first ∙ ap (cons_option (turn_of t e)) later
    by false is later =
        let first : part_events n k (e ∷ events) ≡ part_events n k events = rw is refl in
        ap (own t) first ∙ (later ∙ sym (ap (λ o. cons_option o (own t events)) (unseen_turn n k t e mine is)))

server_lines_part : (n k : ℕ) (events : List Event) → server_lines (part_events n k events) ≡ server_lines events
server_lines_part n k [] = refl
server_lines_part n k (e ∷ events) = by (sees_event n k e) refl (server_lines_part n k events)
  where
    by : (b : Bool) → sees_event n k e ≡ b → server_lines (part_events n k events) ≡ server_lines events → server_lines (part_events n k (e ∷ events)) ≡ server_lines (e ∷ events)
    by true is later =
        let first : part_events n k (e ∷ events) ≡ e ∷ part_events n k events = rw is refl in
        ap server_lines first ∙ ap (cons_option (server_turn e)) later
    by false is later =
        let first : part_events n k (e ∷ events) ≡ part_events n k events = rw is refl in
        ap server_lines first ∙ (later ∙ sym (ap (λ o. cons_option o (server_lines events)) (unseen_server n k e is)))

-- what it sees is answered as in the run of all
pub answer_part : (n k : ℕ) (plan part : CheckedPlan) (events : List Event) (e : Event) → IsPart n k plan part → sees_event n k e ≡ true → answer_to part (part_events n k events) e ≡ answer_to plan events e
answer_part n k plan part events (Tenant t line) is seen =
    let mine : shard_of n t ≡ k = mine_of k (shard_of n t) seen in
    rw (is.grid, is.rows t mine) (ap (λ turns. said plan.grid (row_at plan t) (past_of plan.grid (row_at plan t) turns) (Own line)) (own_part n k t events mine))
answer_part n k plan part events (Server line) is seen =
    rw is.grid (ap (λ turns. said plan.grid nobody (past_of plan.grid nobody turns) (Serving line)) (server_lines_part n k events))
answer_part n k plan part events Stray is seen = refl

-- and its line is the same
pub line_part : (n k : ℕ) (plan part : CheckedPlan) (e : Event) (told : Said) → IsPart n k plan part → sees_event n k e ≡ true → answer_line part e told ≡ answer_line plan e told
line_part n k plan part (Tenant t line) told is seen =
    let mine : shard_of n t ≡ k = mine_of k (shard_of n t) seen in
    ap (λ (r : TenantRow). line_text r.name (told_words part.grid told)) (is.rows t mine) ∙ ap (λ (g : Grid). line_text (row_at plan t).name (told_words g told)) is.grid
line_part n k plan part (Server line) told is seen = ap (λ (g : Grid). line_text (codes "server") (told_words g told)) is.grid
line_part n k plan part Stray told is seen = ap (λ (g : Grid). line_text (codes "?") (told_words g told)) is.grid

-- ---- a shard that goes on, line by line

-- the world of the shard stands for what it saw of the events so far, and its text has the lines that it tells of them
pub record Tells (n k : ℕ) (plan : CheckedPlan) (world : Tables) (text : List ℕ) (lengths : Lengths) (left all : List (List ℕ)) : Type 0 where
  pub events : List Event
  pub told : List (List ℕ)
  pub part : IsPart n k plan world.plan
  pub stands : Stands world (part_events n k events)
  pub is : IsText text lengths told
  pub rest : told ++ of_shard k (marks_of plan n left) (answer_lines plan events (map (event_of plan) left)) ≡ of_shard k (marks_of plan n all) (output_lines plan all)

-- before the first line
pub tells_first : (n k : ℕ) (plan : CheckedPlan) (world : Tables) (text : List ℕ) (lengths : Lengths) (all : List (List ℕ)) → IsPart n k plan world.plan → Stands world [] → text ≡ [] → AreListed lengths [] → Tells n k plan world text lengths all all
tells_first n k plan world text lengths all part stands none no_length = record {
  events = [];
  told = [];
  part = part;
  stands = stands;
  is = record { bytes = none; counts = no_length };
  rest = refl;
}

one_more : (text : List ℕ) (lengths lengths' : Lengths) (x : List ℕ) (told : List (List ℕ)) → IsText text lengths told
    → ((old : List ℕ) → AreListed lengths old → AreListed lengths' (old ++ length x ∷ [])) → IsText (text ++ x) lengths' (told ++ x ∷ [])
one_more text lengths lengths' x told is grows = record {
  bytes = ap (λ z. z ++ x) is.bytes ∙ sym (flat_map-append (λ (line : List ℕ). line) told (x ∷ []) ∙ ap (λ z. joined told ++ z) (append-nil x));
  counts = subst (AreListed lengths') (sym (map-append length told (x ∷ []))) (grows (map length told) is.counts);
}

-- a line more that the shard sees
pub tells_seen : (n k : ℕ) (plan : CheckedPlan) (world world' : Tables) (text text' : List ℕ) (lengths lengths' : Lengths) (line : List ℕ) (rest all : List (List ℕ)) (e : Event) → Tells n k plan world text lengths (line ∷ rest) all
    → world'.plan ≡ world.plan → e ≡ event_of plan line → sees_event n k e ≡ true
    → ((before : List Event) → Stands world before → Stands world' (before ++ e ∷ []))
    → (IsUntold n k e → (text' ≡ text) × (lengths' ≡ lengths))
    → (IsTold n k e → (before : List Event) → Stands world before → text' ≡ text ++ answer_line world.plan e (answer_to world.plan before e))
    → (IsTold n k e → (before : List Event) (old : List ℕ) → Stands world before → AreListed lengths old → AreListed lengths' (old ++ length (answer_line world.plan e (answer_to world.plan before e)) ∷ []))
    → Tells n k plan world' text' lengths' rest all
tells_seen n k plan world world' text text' lengths lengths' line rest all e s same reads seen stands silent told counted = by (tells k (mark_of n e)) refl
  where
    x : List ℕ
    x = answer_line plan e (answer_to plan s.events e)

    ys : List (List ℕ)
    ys = answer_lines plan (s.events ++ e ∷ []) (map (event_of plan) rest)

    every : List (List ℕ)
    every = of_shard k (marks_of plan n all) (output_lines plan all)

    whole : s.told ++ of_shard k (mark_of n e ∷ marks_of plan n rest) (x ∷ ys) ≡ every
    whole = rw reads s.rest

    part : IsPart n k plan world'.plan
    part = subst (IsPart n k plan) (sym same) s.part

    more : part_events n k (s.events ++ e ∷ []) ≡ part_events n k s.events ++ e ∷ []
    more = filter-append (sees_event n k) s.events (e ∷ []) ∙ ap (λ z. part_events n k s.events ++ z) (rw seen refl)

    stands_now : Stands world' (part_events n k (s.events ++ e ∷ []))
    stands_now = rw more (stands (part_events n k s.events) s.stands)

    by : (b : Bool) → tells k (mark_of n e) ≡ b → Tells n k plan world' text' lengths' rest all
    by false quiet =
        let kept = silent (record { seen = seen; untold = quiet }) in
        let step : of_shard k (mark_of n e ∷ marks_of plan n rest) (x ∷ ys) ≡ of_shard k (marks_of plan n rest) ys = rw quiet refl in
        record {
          events = s.events ++ e ∷ [];
          told = s.told;
          part = part;
          stands = stands_now;
          is = rw (kept.0, kept.1) s.is;
          rest = ap (λ z. s.told ++ z) (sym step) ∙ whole;
        }
    by true tells_it =
        let now : IsTold n k e = record { seen = seen; told = tells_it } in
        let says : answer_line world.plan e (answer_to world.plan (part_events n k s.events) e) ≡ x =
        ap (answer_line world.plan e) (answer_part n k plan world.plan s.events e s.part seen) ∙ line_part n k plan world.plan e (answer_to plan s.events e) s.part seen in
        let text_is : text' ≡ text ++ x = told now (part_events n k s.events) s.stands ∙ ap (λ z. text ++ z) says in
        let step : of_shard k (mark_of n e ∷ marks_of plan n rest) (x ∷ ys) ≡ x ∷ of_shard k (marks_of plan n rest) ys = rw tells_it refl in
        record {
          events = s.events ++ e ∷ [];
          told = s.told ++ x ∷ [];
          part = part;
          stands = stands_now;
          is = rw text_is (one_more text lengths lengths' x s.told s.is (λ old are. rw says at (counted now (part_events n k s.events) old s.stands are)));
          rest = append_assoc s.told (x ∷ []) (of_shard k (marks_of plan n rest) ys) ∙ (ap (λ z. s.told ++ z) (sym step) ∙ whole);
        }

-- one that it does not see
pub tells_unseen : (n k : ℕ) (plan : CheckedPlan) (world : Tables) (text : List ℕ) (lengths : Lengths) (line : List ℕ) (rest all : List (List ℕ)) → Tells n k plan world text lengths (line ∷ rest) all
    → sees_event n k (event_of plan line) ≡ false → Tells n k plan world text lengths rest all
tells_unseen n k plan world text lengths line rest all s away = record {
  events = s.events ++ e ∷ [];
  told = s.told;
  part = s.part;
  stands = rw same s.stands;
  is = s.is;
  rest = ap (λ z. s.told ++ z) (sym step) ∙ s.rest;
}
  where
    e : Event
    e = event_of plan line

    x : List ℕ
    x = answer_line plan e (answer_to plan s.events e)

    ys : List (List ℕ)
    ys = answer_lines plan (s.events ++ e ∷ []) (map (event_of plan) rest)

    same : part_events n k (s.events ++ e ∷ []) ≡ part_events n k s.events
    same =
        let none : part_events n k (e ∷ []) ≡ [] = rw away refl in
        filter-append (sees_event n k) s.events (e ∷ []) ∙ (ap (λ z. part_events n k s.events ++ z) none ∙ append-nil (part_events n k s.events))

    step : of_shard k (mark_of n e ∷ marks_of plan n rest) (x ∷ ys) ≡ of_shard k (marks_of plan n rest) ys
    step = let quiet : tells k (mark_of n e) ≡ false = (or_parts (mark_of n e == 0) (tells k (mark_of n e)) away).1 in rw quiet refl

-- no line is left
pub tells_all : (n k : ℕ) (plan : CheckedPlan) (world : Tables) (text : List ℕ) (lengths : Lengths) (all : List (List ℕ)) → Tells n k plan world text lengths [] all → IsText text lengths (of_shard k (marks_of plan n all) (output_lines plan all))
tells_all n k plan world text lengths all s =
    let whole : s.told ≡ of_shard k (marks_of plan n all) (output_lines plan all) = sym (append-nil s.told) ∙ s.rest in
    subst (IsText text lengths) whole s.is

-- ---- the marks

length_answers : (plan : CheckedPlan) (before events : List Event) → length (answer_lines plan before events) ≡ length events
length_answers plan before [] = refl
length_answers plan before (e ∷ events) = ap suc (length_answers plan (before ++ e ∷ []) events)

-- each line has one
pub length_output : (n : ℕ) (plan : CheckedPlan) (lines : List (List ℕ)) (marks : List ℕ) → marks ≡ marks_of plan n lines → length (output_lines plan lines) ≡ length marks
length_output n plan lines marks is =
    length_answers plan [] (map (event_of plan) lines) ∙ (length-map lines (event_of plan) ∙ sym (ap length is ∙ length-map lines (λ line. mark_of n (event_of plan line))))

-- and each mark a shard
mark_below : (n : ℕ) (e : Event) → 1 ≤ n → mark_of n e - 1 < n
mark_below n (Tenant t line) some = omega arith
mark_below n (Server line) some = omega arith
mark_below n Stray some = omega arith

pub marks_below : (n : ℕ) (plan : CheckedPlan) (lines : List (List ℕ)) (i : ℕ) → 1 ≤ n → i < length (marks_of plan n lines) → slice_index_or (marks_of plan n lines) i 0 - 1 < n
marks_below n plan [] i some below = absurd (omega (arith, below))
marks_below n plan (line ∷ lines) zero some below = mark_below n (event_of plan line) some
marks_below n plan (line ∷ lines) (suc i) some below = marks_below n plan lines i some (omega (arith, below))

-- where all shards had memory, they told all
abbrev was_told : {E : Type 0} → Told → Result Told E
was_told told = Ok told

told_at : {E : Type 0} (all : List Told) (k : ℕ) (d : Told) → k < length all → slice_index_or (map (was_told {E = E}) all) k (Ok d) ≡ Ok (slice_index_or all k d)
told_at [] k d below = absurd (omega (arith, below))
told_at (told ∷ all) zero d below = refl
told_at (told ∷ all) (suc k) d below = told_at all k d (omega (arith, below))

pub are_told : {E : Type 0} (n : ℕ) (plan : CheckedPlan) (lines : List (List ℕ)) (marks : List ℕ) (all : List Told) (tried : List (Result Told E)) → 1 ≤ n → marks ≡ marks_of plan n lines → length tried ≡ n → map Ok all ≡ tried → EachTold marks (output_lines plan lines) tried
    → AreTold marks (output_lines plan lines) all
are_told {E} n plan lines marks all tried some is size every told = record {
  size = length_output n plan lines marks is;
  shards = λ i below.
      let few : slice_index_or (marks_of plan n lines) i 0 - 1 < n = marks_below n plan lines i some (subst (λ ms. i < length ms) is below) in
      let here : slice_index_or marks i 0 - 1 < n = subst (λ ms. slice_index_or ms i 0 - 1 < n) (sym is) few in
      omega (arith, here, count);
  texts = λ k d below.
      let at : slice_index_or tried k (Ok d) ≡ Ok (slice_index_or all k d) = ap (λ ts. slice_index_or ts k (Ok d)) (sym every) ∙ told_at {E = E} all k d below in
      subst (λ (r : Result Told E). IfOk r (λ t. IsText t.text.items t.lengths (of_shard k marks (output_lines plan lines)))) at (told k (Ok d) (omega (arith, below, count, size)));
}
  where
    count : length all ≡ n
    count = sym (length-map all Ok) ∙ (ap length every ∙ size)

-- the output is its lines
pub out_joined : (input : List ℕ) → out input ≡ joined (out_lines input)
out_joined input = by (plan_of (lines_of input))
  where
    by : (read : Reading (CheckedPlan × List (List ℕ))) → output_of read ≡ joined (lines_from read)
    by (Ok read) = refl
    by (Err fault) = refl
