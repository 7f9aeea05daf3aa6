-- The worked case happens, from nodes of which none was ever started.
use Rattle.std.proofs.Common.{◌≡◌, ◌≢◌, ◌∙◌, ℕ, zero, suc, ◌+◌, ◌<◌, ◌≤◌, ◌^◌, true, false, List, [], ◌∷◌, ◌++◌, map, refl, sym, ap, subst, arith, append-nil, inl, inr, Some, None}
use Rattle.std.specs.Prelude.{codes, ◌==◌, nat_lt, All, ⊤}
use Rattle.std.specs.List.{flat_map}
use Rattle.std.specs.Option.{option_to_list}
use Rattle.std.proofs.lemmas.List.{map-append}
use Rattle.std.proofs.lemmas.List.Sums.{fold-append}
use Rattle.std.proofs.lemmas.Bool.{cases_Bool, lt-ltb, eq-eqb}
use Rattle.gq_tag.specs.declared.StoredCopy.{StoredCopy}
use Rattle.gq_tag.specs.declared.Body.TheVariants.{Store, Stored}
use Rattle.gq_tag.specs.Tag.{first_copy, is_less, newer_of}
use Rattle.gq_phase.specs.declared.Outcome.TheVariants.{Wrote}
use Rattle.gq_phase.specs.Quorums.{are_peers}
use Rattle.gq_model.specs.declared.events.Line.TheVariants.{Write}
use Rattle.gq_cluster.specs.Facts.{OwnFact, Begun, Numbered, Kept, Had}
use Rattle.gq_facts.specs.Facts.{fact_line}
use Rattle.gq_facts.specs.Laws.{FitsFact, FitsOwn}
use Rattle.gq_keeper.specs.Runs.{Did}
use Rattle.gq_node.specs.declared.output.Fact.{Fact}
use Rattle.gq_node.specs.declared.output.Transfer.TheVariants.{Wants, Brings}
use Rattle.gq_node.specs.Local.{Local, copy_fits}
use Rattle.gq_node.specs.Lacks.{lacks_in}
use Rattle.gq_node.specs.Nodes.{NodeWorld, Nodes, Event, after_event, nodes_after, new_nodes}
use Rattle.gq_node.specs.Resting.{Needed, begun_local, recall_all}
use Rattle.gq_node.specs.Tables.{Tables, fact_of}
use Rattle.gq_wire.specs.declared.incoming.Incoming.{Incoming}
use Rattle.gq_wire.specs.Incoming.{incoming_of}
use Rattle.gq_wire.specs.Laws.{request_text, transfer_text, look_text}
use Rattle.gq_parts.specs.AllNodes.{GridPlans, here_in, first_in, world_at, HasNode, AllNodes, AllNew, Happening, Took, Starts, Renews, StartsBy, first_of, TakesStep, TakesStart, TakesNewJournal, Stays, Happens, AllHappen, events_of, events_from, LinesCanCome, AreNodes, CanHappen}
use Rattle.gq_parts.specs.Happened.{run_restarted, AllWorkedHappen}
use Rattle.gq_parts.specs.Inputs.{inputs_of}
use Rattle.gq_parts.specs.Resting.{IsNodeOf}
use Rattle.gq_parts.specs.Steps.{fact_lines, StepsTo}
use Rattle.gq_parts.specs.Within.{after_taken}
use Rattle.gq_parts.specs.Worked.{grid_worked, Sent, Starting, Sends, file_worked, joins_text, joined_text, replaced_by, losses_worked, content, written, line_worked, write_worked, looks_worked, writes_worked, run_worked, end_worked, IsWorked}
use Rattle.gq_parts.proofs.AllNodes.{follows_law, all_by_law, all_steps_happen, all_starts_happen, all_renewals_happen}
use Rattle.gq_parts.proofs.Journals.{Reads, AllRead, recalled_view, all_recalled_view, all_read, all_seen, kept_reads, had_reads}
use Rattle.gq_parts.proofs.Playing.{Goes, AllGo, go_append, all_go}
use Rattle.gq_parts.proofs.Replacing.{plans_sound, AreRead, replaced_known, replaced_read, first_tick, next_tick, last_tick}
use Rattle.gq_parts.proofs.Renewed.{IsFit, home_facts, home_reads, home_fit, home_needs}
use Rattle.gq_parts.proofs.Worked.{all_worked, content_bytes, known_of, write_read}
use Rattle.gq_parts.proofs.WorkedLooks.{look_steps}
use Rattle.gq_parts.proofs.WorkedSteps.{Steps, steps_to, IsTurn, joins_steps, joined_steps, tick_steps, fetch_steps, fetched_steps}
use Rattle.gq_parts.proofs.WorkedTables.{file, volume, site, View, tables_of, Sees, lacked, begun_view, begun_sees, is_begun}
use Rattle.gq_parts.proofs.WorkedWrites.{Rest, idle_view, busy_view, reserved_behind, reserved_fits, asked_steps, kept_facts, kept_steps, other_steps, done_steps}
use Rattle.gq_parts.proofs.Writing.{fits_yes}

apart : (a b : ℕ) → (a == b) ≡ false → a ≢ b
apart a b differ same = let yes : (a == b) ≡ true = eq-eqb a b same in absurd (cc)

-- ---- what a node has

-- the node was started, with these plans, and has these tables and these facts in its journal
record Has (m : AllNodes) (n first p : ℕ) (v : View) (kept : List (List ℕ)) : Type 0 where
  begun : m.begun n ≡ true
  first_plan : m.first_plan n ≡ first
  last_plan : m.last_plan n ≡ p
  tables : m.tables n ≡ tables_of n p v
  journal : m.kept n ≡ kept
  some : Local
  sees : Sees n p v some

-- it was never started
record IsNew (m : AllNodes) (n : ℕ) : Type 0 where
  begun : m.begun n ≡ false
  journal : m.kept n ≡ []

-- a node that stays
has_still : (m next : AllNodes) (n first p : ℕ) (v : View) (kept : List (List ℕ)) → Stays n m next → Has m n first p v kept → Has next n first p v kept
has_still m next n first p v kept stays has = record {
  begun = stays.begun ∙ has.begun;
  first_plan = stays.first_plan ∙ has.first_plan;
  last_plan = stays.last_plan ∙ has.last_plan;
  tables = stays.tables ∙ has.tables;
  journal = stays.kept ∙ has.journal;
  some = has.some;
  sees = has.sees;
}

new_still : (m next : AllNodes) (n : ℕ) → Stays n m next → IsNew m n → IsNew next n
new_still m next n stays new = record { begun = stays.begun ∙ new.begun; journal = stays.kept ∙ new.journal }

stays_more : (k : ℕ) (m next last : AllNodes) → Stays k m next → Stays k next last → Stays k m last
stays_more k m next last one more = record {
  begun = more.begun ∙ one.begun;
  first_plan = more.first_plan ∙ one.first_plan;
  last_plan = more.last_plan ∙ one.last_plan;
  tables = more.tables ∙ one.tables;
  kept = more.kept ∙ one.kept;
}

-- ---- one happening

-- the node goes on by it, and all others stay
record Went (m : AllNodes) (s : Sent) (n first p : ℕ) (v : View) (kept : List (List ℕ)) : Type 0 where
  next : AllNodes
  goes : Goes grid_worked s m next
  has : Has next n first p v kept
  others : (k : ℕ) → k ≢ n → Stays k m next

takes_line : (m : AllNodes) (n first p : ℕ) (v w : View) (kept : List (List ℕ)) (line : List ℕ) (incoming : Incoming) (facts : List Fact) → Has m n first p v kept → incoming_of grid_worked.plan n line ≡ incoming → Steps n p v w incoming facts →
    Went m (Sends n p line) n first p w (kept ++ fact_lines grid_worked.plan facts)
takes_line m n first p v w kept line incoming facts has read s =
    let did : Did = record { line = line; facts = fact_lines grid_worked.plan facts; told = s.told ++ s.own } in
    let step : StepsTo (m.tables n) line did.facts did.told (tables_of n p w) =
    subst (λ x. StepsTo x line did.facts did.told (tables_of n p w)) (sym has.tables) (steps_to n p v w line incoming facts has.some read has.sees s) in
    let can : CanHappen grid_worked m (Took n (m.last_plan n) [] did) (tables_of n p w) = all_steps_happen grid_worked m n [] did (tables_of n p w) has.begun step in
    let happens : Happens grid_worked m (Took n p [] did) can.new = subst (λ q. Happens grid_worked m (Took n q [] did) can.new) has.last_plan can.happens in
    let goes : TakesStep n p did m can.new = happens.goes in
    record {
      next = can.new;
      goes = record { did = did; line_is = refl; node = subst (IsNodeOf grid_worked.plan (here_in grid_worked p n)) (sym has.tables) (record { plan_is = refl; here_is = refl }); happens = happens };
      has = record {
        begun = goes.still.begun;
        first_plan = goes.still.first_plan ∙ has.first_plan;
        last_plan = goes.still.last_plan;
        tables = can.tables_are;
        journal = goes.kept ∙ ap (λ z. z ++ did.facts) has.journal;
        some = after_taken (site n p) has.some (inputs_of grid_worked.plan (here_in grid_worked p n) incoming 0);
        sees = (s.leads [] has.some has.sees).after;
      };
      others = happens.others;
    }

-- the lines of facts in its journal
abbrev lines_of : List OwnFact → List (List ℕ)
lines_of facts = fact_lines grid_worked.plan (map (fact_of 0) facts)

lines_more : (a b : List OwnFact) → lines_of a ++ lines_of b ≡ lines_of (a ++ b)
lines_more a b = sym (ap (fact_lines grid_worked.plan) (map-append (fact_of 0) a b) ∙ map-append (fact_line grid_worked.plan) (map (fact_of 0) a) (map (fact_of 0) b))

-- the node starts by its journal, of which this was the first plan
starts : (m : AllNodes) (n first p : ℕ) (facts : List OwnFact) → first_of m n p ≡ first → m.kept n ≡ lines_of facts → HasNode grid_worked p n → (m.begun n ≡ true → m.last_plan n ≤ p) → AllRead n p (begun_view n first p) facts →
    Went m (Starting n p) n first p (all_recalled_view facts (begun_view n first p)) (lines_of facts)
starts m n first p facts first_is journal has later read =
    let new : Tables = tables_of n p (all_recalled_view facts (begun_view n first p)) in
    let reads : StartsBy grid_worked first p n (lines_of facts) new = record { blank = tables_of n p (begun_view n first p); is_new = is_begun n first p; reads = all_read n p facts (begun_view n first p) read } in
    let by : StartsBy grid_worked (first_of m n p) p n (m.kept n) new =
    subst (λ f. StartsBy grid_worked f p n (m.kept n) new) (sym first_is) (subst (λ kept. StartsBy grid_worked first p n kept new) (sym journal) reads) in
    let can : CanHappen grid_worked m (Starts n p) new = all_starts_happen grid_worked m n p new has later by in
    let goes : TakesStart grid_worked n p m can.new = can.happens.goes in
    let blank : Local = begun_local (site n p) (volume ∷ []) (first_in grid_worked first 0) in
    record {
      next = can.new;
      goes = can.happens;
      has = record {
        begun = goes.started.begun;
        first_plan = goes.started.first_plan ∙ first_is;
        last_plan = goes.started.last_plan;
        tables = can.tables_are;
        journal = goes.kept ∙ journal;
        some = recall_all (site n p) blank facts;
        sees = all_seen n p facts (begun_view n first p) blank read (begun_sees n first p);
      };
      others = can.happens.others;
    }

begins : (m : AllNodes) (n p : ℕ) → IsNew m n → HasNode grid_worked p n → Went m (Starting n p) n p p (begun_view n p p) []
begins m n p new has = starts m n p p [] (rw new.begun refl) new.journal has (λ begun. absurd (let no = new.begun in cc)) tt

again : (m : AllNodes) (n first q p : ℕ) (v : View) (facts : List OwnFact) → Has m n first q v (lines_of facts) → q ≤ p → HasNode grid_worked p n → AllRead n p (begun_view n first p) facts →
    Went m (Starting n p) n first p (all_recalled_view facts (begun_view n first p)) (lines_of facts)
again m n first q p v facts was later has read = starts m n first p facts (rw was.begun was.first_plan) was.journal has (λ begun. subst (λ x. x ≤ p) (sym was.last_plan) later) read

-- ---- a node is replaced

-- the new node, once it was given the file
abbrev given_view : (new losses : ℕ) → View
given_view new losses = record (begun_view new losses losses) { given = (true ∷ []) ∷ []; joined = record { bits = 1 }; peer = 0 }

record Replaced (m : AllNodes) (new losses : ℕ) (tick : List ℕ) : Type 0 where
  next : AllNodes
  goes : AllGo grid_worked m (replaced_by new losses tick) next
  home : Has next 0 0 losses (begun_view 0 0 losses) []
  has : Has next new losses losses (given_view new losses) (lines_of (Had file first_copy ∷ []))
  others : (k : ℕ) → k ≢ 0 → k ≢ new → Stays k m next

replaced : (m : AllNodes) (new losses before : ℕ) (tick : List ℕ) (v : View) → Has m 0 0 before v [] → before ≤ losses → IsNew m new → HasNode grid_worked losses 0 → HasNode grid_worked losses new → new ≢ 0 → lacked new ≡ [] ∷ [] →
    IsTurn new losses → AreRead grid_worked (replaced_by new losses tick) (replaced_known new losses) → Replaced m new losses tick
replaced m new losses before tick v home later fresh has_home has_new other lacks turn read =
    let away : 0 ≢ new = λ e. other (sym e) in
    let x : View = begun_view 0 0 losses in
    let y : View = begun_view new losses losses in
    let a = again m 0 0 before losses v [] home later has_home tt in
    let b = begins a.next new losses (new_still m a.next new (a.others new other) fresh) has_new in
    let c = takes_line b.next 0 0 losses x x [] (joins_text 0 new losses) _ _ (has_still a.next b.next 0 0 losses x [] (b.others 0 away) a.has) read.1.1.0.2 (joins_steps new losses x) in
    let d = takes_line c.next new losses losses y (record y { joined = record { bits = 1 } }) [] (joined_text new 0 losses) _ _ (has_still b.next c.next new losses losses y [] (c.others new other) b.has) read.1.1.1.0.2
    (joined_steps new losses y refl turn) in
    let e = takes_line d.next new losses losses (record y { joined = record { bits = 1 } }) (record y { joined = record { bits = 1 }; peer = 0 }) [] tick _ _ d.has read.1.1.1.1.0.2
    (tick_steps new losses (record y { joined = record { bits = 1 } }) refl lacks turn.place refl refl turn) in
    let f = takes_line e.next 0 0 losses x x [] (transfer_text grid_worked.plan new (Wants 0 file_worked)) _ _
    (has_still d.next e.next 0 0 losses x [] (e.others 0 away) (has_still c.next d.next 0 0 losses x [] (d.others 0 away) c.has)) read.1.1.1.1.1.0.2 (fetch_steps new losses x refl turn) in
    let g = takes_line f.next new losses losses (record y { joined = record { bits = 1 }; peer = 0 }) (given_view new losses) [] (transfer_text grid_worked.plan 0 (Brings new file_worked first_copy)) _ _
    (has_still e.next f.next new losses losses (record y { joined = record { bits = 1 }; peer = 0 }) [] (f.others new other) e.has) read.1.1.1.1.1.1.0.2
    (fetched_steps new losses (record y { joined = record { bits = 1 }; peer = 0 }) refl lacks refl turn) in
    record {
      next = g.next;
      goes = (a.next, a.goes, (b.next, b.goes, (c.next, c.goes, (d.next, d.goes, (e.next, e.goes, (f.next, f.goes, (g.next, g.goes, refl {a = g.next})))))));
      home = has_still f.next g.next 0 0 losses x [] (g.others 0 away) f.has;
      has = g.has;
      others = λ k far apart. (
          stays_more k m a.next g.next (a.others k far)
          (stays_more k a.next b.next g.next (b.others k apart)
          (stays_more k b.next c.next g.next (c.others k far)
          (stays_more k c.next d.next g.next (d.others k apart)
          (stays_more k d.next e.next g.next (e.others k apart) (stays_more k e.next f.next g.next (f.others k far) (g.others k apart)))))));
    }

first_turn : IsTurn 65 1
unfolding are_peers
first_turn = record { joins = refl; place = refl; other = refl; peer = refl; peer_there = refl }

next_turn : IsTurn 129 2
unfolding are_peers
next_turn = record { joins = refl; place = refl; other = refl; peer = refl; peer_there = refl }

last_turn : IsTurn 193 3
unfolding are_peers
last_turn = record { joins = refl; place = refl; other = refl; peer = refl; peer_there = refl }

-- ---- a write

-- the facts of stores that replaced the copy
abbrev AllKept : List OwnFact → Type 0
AllKept [] = ⊤
AllKept (Kept f copy ∷ facts) = (file ≡ f) × FitsOwn (Kept f copy) × (copy_fits 64 copy ≡ true) × AllKept facts
AllKept (own ∷ facts) = ⊥

kept_more : (a b : List OwnFact) → AllKept a → AllKept b → AllKept (a ++ b)
kept_more [] b kept more = more
kept_more (Kept f copy ∷ a) b kept more = (kept.0, kept.1, kept.2, kept_more a b kept.3 more)
kept_more (Begun k op ∷ a) b kept more = absurd kept
kept_more (Numbered k number ∷ a) b kept more = absurd kept
kept_more (Had f copy ∷ a) b kept more = absurd kept

all_kept_read : (n p : ℕ) (facts : List OwnFact) (v : View) → AllKept facts → lacks_in v.given file ≡ false → AllRead n p v facts
all_kept_read n p [] v kept has = tt
all_kept_read n p (Kept f copy ∷ facts) v kept has =
    (subst (λ g. FitsOwn (Kept g copy) → Reads n p v (Kept g copy)) kept.0 (λ said. kept_reads n p v copy said kept.2 has) kept.1, all_kept_read n p facts (recalled_view (Kept f copy) v) kept.3 has)
all_kept_read n p (Begun k op ∷ facts) v kept has = absurd kept
all_kept_read n p (Numbered k number ∷ facts) v kept has = absurd kept
all_kept_read n p (Had f copy ∷ facts) v kept has = absurd kept

-- between writes, the last of which has this number
record Ready (m : AllNodes) (i : ℕ) : Type 0 where
  rest : Rest
  there : View
  kept : List (List ℕ)
  kept_there : List OwnFact
  home : Has m 0 0 3 (idle_view i rest) kept
  other : Has m 193 3 3 there (lines_of (Had file first_copy ∷ kept_there))
  number : rest.copy.tag.number ≡ i
  fit : IsFit rest
  given : there.given ≡ (true ∷ []) ∷ []
  all_kept : AllKept kept_there

record OneWrite (m : AllNodes) (i : ℕ) (sent : List Sent) : Type 0 where
  next : AllNodes
  goes : AllGo grid_worked m sent next
  ready : Ready next i

newer_is : (i : ℕ) (c : StoredCopy) → c.tag.number ≡ i → newer_of c (written (i + 1)) ≡ written (i + 1)
newer_is i c number = let less : nat_lt c.tag.number (i + 1) ≡ true = lt-ltb c.tag.number (i + 1) (omega arith) in rw less refl

one_kept : (i : ℕ) (c : StoredCopy) → i + 1 < 2 ^ 32 → AllKept (flat_map option_to_list (kept_facts i c))
one_kept i c low = elim (cases_Bool (is_less c.tag (written (i + 1)).tag)) [
  | inl is ↦ (rw is (refl, (omega arith, omega arith, (omega arith, omega arith, content_bytes)), fits_yes (i + 1) low, tt))
  | inr is ↦ (rw is tt)
]

next_fit : (i : ℕ) (s : Rest) → i + 1 < 2 ^ 32 → s.copy.tag.number ≡ i → IsFit s →
    IsFit (record { copy = newer_of s.copy (written (i + 1)); reserved = reserved_behind i s.reserved; outcome = Some (Wrote 1 (i + 1) (written (i + 1)).tag); waited = false; two = s.two })
next_fit i s low number fit =
    let is : newer_of s.copy (written (i + 1)) ≡ written (i + 1) = newer_is i s.copy number in
    let above : nat_lt 0 (i + 1) ≡ true = lt-ltb 0 (i + 1) (omega arith) in
    let newest : newer_of first_copy (written (i + 1)) ≡ written (i + 1) = rw above refl in
    record {
      op = (reserved_fits i s.reserved low fit.op fit.floor).0;
      floor = (reserved_fits i s.reserved low fit.op fit.floor).1;
      said = subst (λ (x : StoredCopy). FitsOwn (Kept file x)) (sym is) (omega arith, omega arith, (omega arith, omega arith, content_bytes));
      fits = subst (λ (x : StoredCopy). copy_fits 64 x ≡ true) (sym is) (fits_yes (i + 1) low);
      newest = subst (λ (x : StoredCopy). newer_of first_copy x ≡ x) (sym is) newest;
      two = fit.two;
    }

one_write : (m : AllNodes) (i : ℕ) → i + 1 < 2 ^ 32 → Ready m i → OneWrite m (i + 1) (write_worked (i + 1) ++ looks_worked (i + 1))
one_write m i low ready =
    let s : Rest = ready.rest in
    let r = reserved_behind i s.reserved in
    let c : StoredCopy = newer_of s.copy (written (i + 1)) in
    let v : View = ready.there in
    let w : View = record v { copy = newer_of v.copy (written (i + 1)) } in
    let x : View = busy_view (i + 1) s.copy r (record { bits = 0 }) s.two in
    let y : View = busy_view (i + 1) c r (record { bits = 1 }) s.two in
    let last : Rest = record { copy = c; reserved = r; outcome = Some (Wrote 1 (i + 1) (written (i + 1)).tag); waited = false; two = s.two } in
    let there : List (List ℕ) = lines_of (Had file first_copy ∷ ready.kept_there) in
    let more : List OwnFact = flat_map option_to_list (kept_facts i v.copy) in
    let read : AreRead grid_worked (write_worked (i + 1) ++ looks_worked (i + 1)) (known_of (i + 1)) = write_read (i + 1) low in
    let a = takes_line m 0 0 3 (idle_view i s) x ready.kept (request_text grid_worked.plan 0 0 (i + 1) (Write 1 0 0 content)) _ _ ready.home read.0.2 (asked_steps i s low ready.number ready.fit.fits) in
    let b = takes_line a.next 0 0 3 x y _ (line_worked 0 0 (i + 1) 0 (Store (written (i + 1)))) _ _ a.has read.1.0.2 (kept_steps i s.copy r s.two low) in
    let away : 193 ≢ 0 = apart 193 0 refl in
    let d = takes_line b.next 193 3 3 v w there (line_worked 193 0 (i + 1) 1 (Store (written (i + 1)))) _ _
    (has_still a.next b.next 193 3 3 v there (b.others 193 away) (has_still m a.next 193 3 3 v there (a.others 193 away) ready.other)) read.1.1.0.2 (other_steps i v low ready.given) in
    let e = takes_line d.next 0 0 3 y (idle_view (i + 1) last) _ (line_worked 0 193 (i + 1) 1 Stored) _ _ (has_still b.next d.next 0 0 3 y _ (d.others 0 (apart 0 193 refl)) b.has) read.1.1.1.0.2 (done_steps i c r s.two low) in
    let f = takes_line e.next 0 0 3 (idle_view (i + 1) last) (idle_view (i + 1) last) _ (look_text grid_worked.plan 0 0 (i + 1) 0) _ _ e.has read.1.1.1.1.0.2 (look_steps 0 (i + 1) (idle_view (i + 1) last)) in
    let g = takes_line f.next 193 3 3 w w _ (look_text grid_worked.plan 193 0 (i + 1) 0) _ _ (has_still e.next f.next 193 3 3 w _ (f.others 193 away) (has_still d.next e.next 193 3 3 w _ (e.others 193 away) d.has)) read.1.1.1.1.1.0.2
    (look_steps 193 (i + 1) w) in
    record {
      next = g.next;
      goes = (a.next, a.goes, (b.next, b.goes, (d.next, d.goes, (e.next, e.goes, (f.next, f.goes, (g.next, g.goes, refl {a = g.next}))))));
      ready = record {
        rest = last;
        there = w;
        kept = _;
        kept_there = ready.kept_there ++ more;
        home = has_still f.next g.next 0 0 3 (idle_view (i + 1) last) _ (g.others 0 (apart 0 193 refl)) f.has;
        other = subst (Has g.next 193 3 3 w) (append-nil _ ∙ lines_more (Had file first_copy ∷ ready.kept_there) more) g.has;
        number = ap (λ (x : StoredCopy). x.tag.number) (newer_is i s.copy ready.number);
        fit = next_fit i s low ready.number ready.fit;
        given = ready.given;
        all_kept = kept_more ready.kept_there more ready.all_kept (one_kept i v.copy low);
      };
    }

-- all of them
record Written (m : AllNodes) (before many : ℕ) : Type 0 where
  last : AllNodes
  goes : AllGo grid_worked m (writes_worked before many) last
  ready : Ready last (before + many)

all_writes : (many before : ℕ) (m : AllNodes) → before + many < 2 ^ 32 → Ready m before → Written m before many
all_writes zero before m low ready = let e : before ≡ before + 0 = omega arith in record { last = m; goes = refl; ready = subst (Ready m) e ready }
all_writes (suc many) before m low ready =
    let one : OneWrite m (before + 1) (write_worked (before + 1) ++ looks_worked (before + 1)) = one_write m before (omega arith) ready in
    let e : before + 1 + many ≡ before + suc many = omega arith in
    let rest : Written one.next (before + 1) many = all_writes many (before + 1) one.next (omega arith) one.ready in
    record { last = rest.last; goes = go_append grid_worked (write_worked (before + 1) ++ looks_worked (before + 1)) (writes_worked (before + 1) many) m one.next rest.last one.goes rest.goes; ready = subst (Ready rest.last) e rest.ready }

-- ---- the whole

-- none was ever started
abbrev none : AllNodes
none = record { begun = λ n. false; first_plan = λ n. 0; last_plan = λ n. 0; tables = λ n. tables_of n 0 (begun_view n 0 0); kept = λ n. [] }

record Lost : Type 0 where
  next : AllNodes
  goes : AllGo grid_worked none losses_worked next
  ready : Ready next 0

lost : Lost
lost =
    let fresh : (n : ℕ) → IsNew none n = λ n. record { begun = refl; journal = refl } in
    let a = begins none 0 0 (fresh 0) refl in
    let b = begins a.next 1 0 (new_still none a.next 1 (a.others 1 (apart 1 0 refl)) (fresh 1)) refl in
    let new_b : (k : ℕ) → k ≢ 0 → k ≢ 1 → IsNew b.next k = λ k far apart. new_still a.next b.next k (b.others k apart) (new_still none a.next k (a.others k far) (fresh k)) in
    let home_b = has_still a.next b.next 0 0 0 (begun_view 0 0 0) [] (b.others 0 (apart 0 1 refl)) a.has in
    let c = replaced b.next 65 1 0 (codes "65 65 tick") (begun_view 0 0 0) home_b (omega arith) (new_b 65 (apart 65 0 refl) (apart 65 1 refl)) refl refl (apart 65 0 refl) refl first_turn (replaced_read 65 1 (codes "65 65 tick") (omega arith) (omega arith) first_tick) in
    let d = replaced c.next 129 2 1 (codes "129 129 tick") (begun_view 0 0 1) c.home (omega arith)
    (new_still b.next c.next 129 (c.others 129 (apart 129 0 refl) (apart 129 65 refl)) (new_b 129 (apart 129 0 refl) (apart 129 1 refl)))
    refl refl (apart 129 0 refl) refl next_turn (replaced_read 129 2 (codes "129 129 tick") (omega arith) (omega arith) next_tick) in
    let f = replaced d.next 193 3 2 (codes "193 193 tick") (begun_view 0 0 2) d.home (omega arith)
    (new_still c.next d.next 193 (d.others 193 (apart 193 0 refl) (apart 193 129 refl))
    (new_still b.next c.next 193 (c.others 193 (apart 193 0 refl) (apart 193 65 refl)) (new_b 193 (apart 193 0 refl) (apart 193 1 refl))))
    refl refl (apart 193 0 refl) refl last_turn (replaced_read 193 3 (codes "193 193 tick") (omega arith) (omega arith) last_tick) in
    record {
      next = f.next;
      goes = (
        a.next,
        a.goes,
        (
          b.next,
          b.goes,
          go_append grid_worked (replaced_by 65 1 (codes "65 65 tick") ++ replaced_by 129 2 (codes "129 129 tick")) (replaced_by 193 3 (codes "193 193 tick")) b.next d.next f.next
              (go_append grid_worked (replaced_by 65 1 (codes "65 65 tick")) (replaced_by 129 2 (codes "129 129 tick")) b.next c.next d.next c.goes d.goes) f.goes,
        ),
      );
      ready = record {
        rest = record { copy = first_copy; reserved = record { op = 0; floor = 0 }; outcome = None; waited = false; two = (begun_view 0 0 3).two };
        there = given_view 193 3;
        kept = [];
        kept_there = [];
        home = f.home;
        other = f.has;
        number = refl;
        fit = record { op = omega arith; floor = omega arith; said = (omega arith, omega arith, (omega arith, omega arith, λ i. omega arith)); fits = refl; newest = refl; two = refl };
        given = refl;
        all_kept = tt;
      };
    }

-- ---- the journals

-- the home's journal is written anew between writes
record Anew (m : AllNodes) (i : ℕ) (s : Rest) : Type 0 where
  next : AllNodes
  happens : Happens grid_worked m (Renews 0 (map (fact_of 0) (home_facts s))) next
  home : Has next 0 3 3 (idle_view i s) (lines_of (home_facts s))

anew : (m : AllNodes) (i first : ℕ) (s : Rest) (kept : List (List ℕ)) → IsFit s → Has m 0 first 3 (idle_view i s) kept → Anew m i s
anew m i first s kept fit has =
    let facts : List Fact = map (fact_of 0) (home_facts s) in
    let needed : Needed (m.tables 0) facts = subst (λ w. Needed w facts) (sym has.tables) (home_needs i s fit) in
    let fits : All (FitsFact (m.tables 0).plan) facts = subst (λ (w : Tables). All (FitsFact w.plan) facts) (sym has.tables) (home_fit s fit) in
    let can : CanHappen grid_worked m (Renews 0 facts) (m.tables 0) = all_renewals_happen grid_worked m 0 facts has.begun needed fits in
    let goes : TakesNewJournal 0 facts m can.new = can.happens.goes in
    record {
      next = can.new;
      happens = can.happens;
      home = record {
        begun = goes.still.begun;
        first_plan = goes.still.first_plan ∙ has.last_plan;
        last_plan = goes.still.last_plan ∙ has.last_plan;
        tables = goes.tables ∙ has.tables;
        journal = goes.kept ∙ ap (λ (w : Tables). fact_lines w.plan facts) has.tables;
        some = has.some;
        sees = has.sees;
      };
    }

-- the other node starts again by its journal, and the home by its new one
record Restarted (m : AllNodes) : Type 0 where
  facts : List Fact
  last : AllNodes
  happen : AllHappen grid_worked m (Starts 193 3 ∷ Renews 0 facts ∷ Starts 0 3 ∷ []) last

restarted : (m : AllNodes) (i : ℕ) → Ready m i → Restarted m
restarted m i ready =
    let kept : List OwnFact = Had file first_copy ∷ ready.kept_there in
    let said : FitsOwn (Had file first_copy) = (omega arith, omega arith, (omega arith, omega arith, λ i. omega arith)) in
    let reads : AllRead 193 3 (begun_view 193 3 3) kept =
    (had_reads 193 3 (begun_view 193 3 3) first_copy said refl refl, all_kept_read 193 3 ready.kept_there (recalled_view (Had file first_copy) (begun_view 193 3 3)) ready.all_kept refl) in
    let a = again m 193 3 3 3 ready.there kept ready.other (omega arith) refl reads in
    let b : Anew a.next i ready.rest = anew a.next i 0 ready.rest ready.kept ready.fit (has_still m a.next 0 0 3 (idle_view i ready.rest) ready.kept (a.others 0 (apart 0 193 refl)) ready.home) in
    let c = again b.next 0 3 3 3 (idle_view i ready.rest) (home_facts ready.rest) b.home (omega arith) refl (home_reads ready.rest 3 ready.fit) in
    record { facts = map (fact_of 0) (home_facts ready.rest); last = c.next; happen = (a.next, a.goes, (b.next, b.happens, (c.next, c.goes, refl {a = c.next}))) }

happen_append : (g : GridPlans) (xs ys : List Happening) (first next last : AllNodes) → AllHappen g first xs next → AllHappen g next ys last → AllHappen g first (xs ++ ys) last
happen_append g [] ys first next last same more = subst (λ m. AllHappen g m ys last) (sym same) more
happen_append g (x ∷ xs) ys first next last happen more = (happen.0, happen.1, happen_append g xs ys happen.0 next last happen.2 more)

can_append : (g : GridPlans) (t : ℕ) (xs ys : List Happening) (nodes : Nodes) → LinesCanCome g t nodes xs → LinesCanCome g t (nodes_after (world_at g t) nodes (events_from g t nodes xs)) ys → LinesCanCome g t nodes (xs ++ ys)
can_append g t [] ys nodes can more = more
can_append g t (x ∷ xs) ys nodes can more =
    let w : NodeWorld = world_at g t in
    let one : List Event = events_of g t nodes x in
    let next : Nodes = nodes_after w nodes one in
    (can.0, can_append g t xs ys next can.1 (subst (λ after. LinesCanCome g t after ys) (fold-append (after_event w) nodes one (events_from g t next xs)) more))

pub all_worked_happen : AllWorkedHappen
all_worked_happen many low =
    let all : Written lost.next 0 many = all_writes many 0 lost.next (omega arith) lost.ready in
    let ready : Ready all.last (0 + many) = all.ready in
    let new : AllNew none = λ n. (refl, refl) in
    let go : AllGo grid_worked none (losses_worked ++ writes_worked 0 many) all.last = go_append grid_worked losses_worked (writes_worked 0 many) none lost.next all.last lost.goes all.goes in
    let run : AllHappen grid_worked none (run_worked many) all.last = all_go grid_worked (losses_worked ++ writes_worked 0 many) [] none none all.last plans_sound new refl go in
    let more : Restarted all.last = restarted all.last (0 + many) ready in
    let behind : List Happening = Starts 193 3 ∷ Renews 0 more.facts ∷ Starts 0 3 ∷ [] in
    let happen : AllHappen grid_worked none (run_restarted many more.facts) more.last = happen_append grid_worked (run_worked many) behind none all.last more.last run more.happen in
    let worked : IsWorked many = all_worked many low in
    let are : AreNodes grid_worked all.last 0 (end_worked many) = (all_by_law grid_worked none all.last (run_worked many) plans_sound new run).nodes 0 (omega arith) in
    let home_plan : 3 ≡ (end_worked many).last_plan 0 = sym ready.home.last_plan ∙ are.last_plan 0 ready.home.begun in
    let other_plan : 3 ≡ (end_worked many).last_plan 193 = sym ready.other.last_plan ∙ are.last_plan 193 ready.other.begun in
    let later : LinesCanCome grid_worked 0 (end_worked many) behind =
    ((worked.stays_there, refl, λ begun. subst (λ p. p ≤ 3) other_plan (omega arith)), (tt, ((worked.stays, refl, λ begun. subst (λ p. p ≤ 3) home_plan (omega arith)), tt))) in
    let can : LinesCanCome grid_worked 0 (new_nodes (world_at grid_worked 0)) (run_restarted many more.facts) = can_append grid_worked 0 (run_worked many) behind (new_nodes (world_at grid_worked 0)) worked.can later in
    record {
      first = none;
      last = more.last;
      facts = more.facts;
      new = new;
      happen = happen;
      law = all_by_law grid_worked none more.last (run_restarted many more.facts) plans_sound new happen;
      can = can;
      right = (follows_law grid_worked (run_restarted many more.facts) 0 plans_sound can).right (refl, tt);
    }
