-- A start that reads what was written has the same chunks.
use Rattle.std.proofs.Common.{◌≡◌, ◌≢◌, ◌<◌, ◌≤◌, ◌+◌, ◌-◌, ℕ, List, [], ◌∷◌, ◌++◌, length, get_or, Bool, true, false, Option, Some, None, refl, sym, ap, subst, ◌∙◌, arith, append_assoc, append-nil}
use Rattle.std.specs.Prelude.{◌==◌, ◌&&◌, ◌||◌, take, nat_lt, nat_le, max, map, slice_get, option_map, IsSome, if◌then◌else◌}
use Rattle.std.specs.List.{list_all}
use Rattle.std.proofs.lemmas.Bool.{and_from, and_right, eqb-true, eq-eqb, true≢false, lt-ltb, le-ltb, ltb-true, ltb-false, le-leb, leb-true}
use Rattle.std.proofs.lemmas.List.{map-append, take_all}
use Rattle.std.proofs.lemmas.List.Concat.{flat_map-append}
use Rattle.std.proofs.lemmas.List.Folds.{list_all-append, list_any_at, list_any_more}
use Rattle.std.proofs.lemmas.Option.{same_Some, slice_get-get_or, slice_get_past, slice_get_within}
use Rattle.gq_shelf.specs.Places.{long_at}
use Rattle.gq_shelf.specs.declared.place.Place.{Place}
use Rattle.gq_ledger.specs.Ledgers.{book_of}
use Rattle.gq_ledger.specs.Steps.{Book}
use Rattle.gq_stock.specs.Forgetting.{is_in, is_in_any}
use Rattle.gq_stock.specs.declared.chunk.Chunk.{Chunk}
use Rattle.gq_stock.specs.declared.run.Run.{Run}
use Rattle.gq_stock.specs.declared.session.Session.{Session}
use Rattle.gq_desk.specs.CheckedPlan.{CheckedPlan}
use Rattle.gq_journal.specs.Batches.{Line, lines_text, ended_line}
use Rattle.gq_keeper.specs.Plans.{are_facts}
use Rattle.gq_keeper.specs.Restarting.{Needs}
use Rattle.gq_keeper.specs.Starting.{RecallsAll}
use Rattle.gq_depot.specs.Answers.{In}
use Rattle.gq_depot.specs.Depots.{Placed, Standing, standing_of, placed_of, book_in, is_gone, after_fact, bare, IsSame, LeadsTo, reads_fact, StandsIn}
use Rattle.gq_depot.specs.Tenants.{ApartFrom}
use Rattle.gq_depot.specs.declared.limits.TheConstants.{MOST_CHUNK}
use Rattle.gq_depot.specs.declared.depot.Depot.{Depot}
use Rattle.gq_depot.specs.declared.fact.ChunkFact.{ChunkFact}
use Rattle.gq_depot.specs.declared.gone.Gone.{Gone}
use Rattle.gq_depot.specs.declared.fact.ChunkFact.TheVariants.{Put, Forgot, Filled}
use Rattle.gq_depot.proofs.Standing.{there}
use Rattle.gq_depot.proofs.Tenants.{after_same, same_on}
use Rattle.gq_chunks.specs.Facts.{chunk_fact_line, chunk_fact_of_line}
use Rattle.gq_chunks.specs.Machines.{Chunks, IsSite, FactStands, depot_reads, reads_told, chunk_reads, ChunkRecalls, room_of_lines, lacks_at_first, IsBare, ChunksAreBlank, AllFit, GoneFits, HasRoom, ChunksAreOf, DepotRests, ChunksRest}
use Rattle.gq_chunks.specs.Lasting.{on_chunks, Went, site_on, site_itself, same_itself, across, recall_went, lines_are_facts}
use Rattle.gq_chunks.specs.Needed.{after_facts, FactsStand, Wrote, empty_book, before_place, below_number, before_chunks, with_run, RunFits, before_number, lacking, first_lacks, written_of, HasSessions, IsLike, Makes, WroteTenants}

-- ---- facts one behind another

facts_append : (xs ys : List ChunkFact) (it : Standing) → after_facts (xs ++ ys) it ≡ after_facts ys (after_facts xs it)
facts_append [] ys it = refl
facts_append (x ∷ xs) ys it = facts_append xs ys (after_fact (Some x) it)

facts_same : (facts : List ChunkFact) (a b : Standing) → IsSame a b → IsSame (after_facts facts a) (after_facts facts b)
facts_same [] a b same = same
facts_same (fact ∷ facts) a b same = facts_same facts (after_fact (Some fact) a) (after_fact (Some fact) b) (after_same (Some fact) a b same)

stand_append : (plan : CheckedPlan) (t sessions : ℕ) (xs ys : List ChunkFact) → FactsStand plan t sessions xs → FactsStand plan t sessions ys → FactsStand plan t sessions (xs ++ ys)
stand_append plan t sessions [] ys one two = two
stand_append plan t sessions (x ∷ xs) ys one two = (one.0, one.1, stand_append plan t sessions xs ys one.2 two)

texts_append : (before middle after : List ℕ) (xs ys : List Line) → middle ≡ before ++ lines_text xs → after ≡ middle ++ lines_text ys → after ≡ before ++ lines_text (xs ++ ys)
texts_append before middle after xs ys one two = two ∙ ap (λ z. z ++ lines_text ys) one ∙ append_assoc before (lines_text xs) (lines_text ys) ∙ ap (λ z. before ++ z) (sym (flat_map-append ended_line xs ys))

pub wrote_none : (plan : CheckedPlan) (t sessions : ℕ) (before : List ℕ) (was is : Standing) → IsSame was is → Wrote plan t sessions before before was is
wrote_none plan t sessions before was is same = record { facts = []; text = sym (append-nil before); stand = tt; makes = same }

pub wrote_one : (plan : CheckedPlan) (t sessions : ℕ) (before after : List ℕ) (was is : Standing) (fact : ChunkFact) → after ≡ before ++ lines_text (chunk_fact_line plan t fact ∷ []) → FactStands plan t (Some fact) → reads_fact sessions fact ≡ true →
    IsSame (after_fact (Some fact) was) is → Wrote plan t sessions before after was is
wrote_one plan t sessions before after was is fact text stands reads same = record { facts = fact ∷ []; text = text; stand = (stands, reads, tt); makes = same }

pub wrote_on : (plan : CheckedPlan) (t sessions : ℕ) (before middle after : List ℕ) (a b c : Standing) → Wrote plan t sessions before middle a b → Wrote plan t sessions middle after b c → Wrote plan t sessions before after a c
wrote_on plan t sessions before middle after a b c one two = record {
  facts = one.facts ++ two.facts;
  text = subst (λ (lines : List Line). after ≡ before ++ lines_text lines) (sym (map-append (chunk_fact_line plan t) one.facts two.facts))
      (texts_append before middle after (map (chunk_fact_line plan t) one.facts) (map (chunk_fact_line plan t) two.facts) one.text two.text);
  stand = stand_append plan t sessions one.facts two.facts one.stand two.stand;
  makes = subst (λ (x : Standing). IsSame x c) (sym (facts_append one.facts two.facts a))
      (same_on (after_facts two.facts (after_facts one.facts a)) (after_facts two.facts b) c (facts_same two.facts (after_facts one.facts a) b one.makes) two.makes);
}

pub wrote_as : (plan : CheckedPlan) (t sessions : ℕ) (before after : List ℕ) (a b c : Standing) → Wrote plan t sessions before after a b → IsSame b c → Wrote plan t sessions before after a c
wrote_as plan t sessions before after a b c one same = record { facts = one.facts; text = one.text; stand = one.stand; makes = same_on (after_facts one.facts a) b c one.makes same }

-- ---- parts of what a tenant has

-- two that differ in the book at one place alone
one_place : (k : ℕ) (a b : Standing) → ((j : ℕ) → j ≢ k → a.books j ≡ b.books j) → ((m : ℕ) → (a.books k).at m ≡ (b.books k).at m) → (a.books k).floor ≡ (b.books k).floor → ((j m : ℕ) → j ≢ k → a.gone j m ≡ b.gone j m) → ((m : ℕ) → a.gone k m ≡ b.gone k m) → a.lacks ≡ b.lacks → IsSame a b
one_place k a b others at floor others_gone gone lacks = record { at = λ j m. at_by j m (j == k) refl; floor = λ j. floor_by j (j == k) refl; gone = λ j m. gone_by j m (j == k) refl; lacks = lacks }
  where
    other : (j : ℕ) → (j == k) ≡ false → j ≢ k
    other j e same = true≢false (sym (eq-eqb j k same) ∙ e)

    at_by : (j m : ℕ) (t : Bool) → (j == k) ≡ t → (a.books j).at m ≡ (b.books j).at m
    at_by j m true e = subst (λ (z : ℕ). (a.books z).at m ≡ (b.books z).at m) (sym (eqb-true j k e)) (at m)
    at_by j m false e = ap (λ (x : Book Placed). x.at m) (others j (other j e))

    floor_by : (j : ℕ) (t : Bool) → (j == k) ≡ t → (a.books j).floor ≡ (b.books j).floor
    floor_by j true e = subst (λ (z : ℕ). (a.books z).floor ≡ (b.books z).floor) (sym (eqb-true j k e)) floor
    floor_by j false e = ap (λ (x : Book Placed). x.floor) (others j (other j e))

    gone_by : (j m : ℕ) (t : Bool) → (j == k) ≡ t → a.gone j m ≡ b.gone j m
    gone_by j m true e = subst (λ (z : ℕ). a.gone z m ≡ b.gone z m) (sym (eqb-true j k e)) (gone m)
    gone_by j m false e = others_gone j m (other j e)

unequal : (j k : ℕ) → j ≢ k → (j == k) ≡ false
unequal j k other = by (j == k) refl
  where
    by : (t : Bool) → (j == k) ≡ t → (j == k) ≡ false
    by true e = absurd (other (eqb-true j k e))
    by false e = e

-- what was forgotten there, and at each other place
gone_here : (it : Standing) (lacks : Bool) (k n m : ℕ) → (before_number it lacks k n).gone k m ≡ (lacks && it.gone k m)
gone_here it lacks k n m = ap (λ (t : Bool). if t then lacks && it.gone k m else (before_place it lacks k).gone k m) (eq-eqb k k refl)

gone_there : (it : Standing) (lacks : Bool) (k n j m : ℕ) → j ≢ k → (before_number it lacks k n).gone j m ≡ (before_place it lacks k).gone j m
gone_there it lacks k n j m other = ap (λ (t : Bool). if t then lacks && it.gone k m else (before_place it lacks k).gone j m) (unequal j k other)

noted_here : (it : Standing) (lacks : Bool) (k : ℕ) (g : ℕ → Bool) (m : ℕ) → (before_chunks it lacks k g).gone k m ≡ (lacks && g m)
noted_here it lacks k g m = ap (λ (t : Bool). if t then lacks && g m else (before_place it lacks k).gone k m) (eq-eqb k k refl)

noted_there : (it : Standing) (lacks : Bool) (k : ℕ) (g : ℕ → Bool) (j m : ℕ) → j ≢ k → (before_chunks it lacks k g).gone j m ≡ (before_place it lacks k).gone j m
noted_there it lacks k g j m other = ap (λ (t : Bool). if t then lacks && g m else (before_place it lacks k).gone j m) (unequal j k other)

gone_empty : (it : Standing) (lacks : Bool) (k m : ℕ) → (before_place it lacks k).gone k m ≡ false
gone_empty it lacks k m = ap (λ (t : Bool). if t then lacks && it.gone k m else false) (le-ltb k k (omega arith))

-- no fact of another session notes anything here
not_here : (x lacks : Bool) (j p : ℕ) (b : Bool) → j ≢ p → (x || (lacks && ((j == p) && b))) ≡ x
not_here x lacks j p b other = ap (λ (t : Bool). x || (lacks && (t && b))) (unequal j p other) ∙ by x lacks
  where
    by : (x lacks : Bool) → (x || (lacks && false)) ≡ x
    by true lacks = refl
    by false true = refl
    by false false = refl

-- the book there, and at each other place
here_is : (it : Standing) (lacks : Bool) (k n : ℕ) → (before_number it lacks k n).books k ≡ below_number (it.books k) n
here_is it lacks k n = ap (λ (t : Bool). if t then below_number (it.books k) n else (before_place it lacks k).books k) (eq-eqb k k refl)

there_is : (it : Standing) (lacks : Bool) (k n j : ℕ) → j ≢ k → (before_number it lacks k n).books j ≡ (before_place it lacks k).books j
there_is it lacks k n j other = ap (λ (t : Bool). if t then below_number (it.books k) n else (before_place it lacks k).books j) (unequal j k other)

empty_is : (it : Standing) (lacks : Bool) (k : ℕ) → (before_place it lacks k).books k ≡ empty_book
empty_is it lacks k = ap (λ (t : Bool). if t then it.books k else empty_book) (le-ltb k k (omega arith))

number_of_place : (k : ℕ) → (k + 1) - 1 ≡ k
number_of_place k = omega arith

-- what a fact of the session at the place makes of one book
fact_here : (k : ℕ) (f : Book Placed → Book Placed) (it : Standing) → (λ (j : ℕ). if j == (k + 1) - 1 then f (it.books j) else it.books j) k ≡ f (it.books k)
fact_here k f it = ap (λ (t : Bool). if t then f (it.books k) else it.books k) (eq-eqb k ((k + 1) - 1) (sym (number_of_place k)))

fact_there : (k j : ℕ) (f : Book Placed → Book Placed) (it : Standing) → j ≢ k → (if j == (k + 1) - 1 then f (it.books j) else it.books j) ≡ it.books j
fact_there k j f it other = by (j == (k + 1) - 1) refl
  where
    by : (t : Bool) → (j == (k + 1) - 1) ≡ t → (if j == (k + 1) - 1 then f (it.books j) else it.books j) ≡ it.books j
    by true e = absurd (other (eqb-true j ((k + 1) - 1) e ∙ number_of_place k))
    by false e = ap (λ (t : Bool). if t then f (it.books j) else it.books j) e

none_below : (b : Book Placed) (m : ℕ) → (below_number b 0).at m ≡ None
none_below b m = ap (λ (t : Bool). if t then b.at m else None) (le-ltb m 0 (omega arith))

abbrev no_placed : Option Placed
no_placed = None

-- the floor is written
pub floor_same : (it : Standing) (lacks : Bool) (k floor : ℕ) (run : Run) → floor ≡ (it.books k).floor → ((n : ℕ) → is_in n run ≡ false) → IsSame (after_fact (Some (Forgot (k + 1) floor run)) (before_place it lacks k)) (before_chunks it lacks k (λ n. false))
floor_same it lacks k floor run is empty =
    let was : Standing = before_place it lacks k in
    let forget : Book Placed → Book Placed = λ b. record { at = λ n. if is_in_any n (run ∷ []) then None else b.at n; floor = max b.floor floor } in
    one_place k (after_fact (Some (Forgot (k + 1) floor run)) was) (before_chunks it lacks k (λ n. false))
    (λ j other. fact_there k j forget was other ∙ sym (there_is it lacks k 0 j other))
    (λ m. ap (λ (b : Book Placed). b.at m) (fact_here k forget was) ∙ (ap (λ (b : Book Placed). (forget b).at m) (empty_is it lacks k) ∙ (gone (is_in_any m (run ∷ [])) ∙ (sym (none_below (it.books k) m) ∙ sym (ap (λ (b : Book Placed). b.at m) (here_is it lacks k 0))))))
    (ap (λ (b : Book Placed). b.floor) (fact_here k forget was) ∙ (ap (λ (b : Book Placed). (forget b).floor) (empty_is it lacks k) ∙ (greatest floor ∙ (is ∙ sym (ap (λ (b : Book Placed). b.floor) (here_is it lacks k 0))))))
    (λ j m other. not_here (was.gone j m) lacks j ((k + 1) - 1) (is_in m run) (λ same. other (same ∙ number_of_place k)) ∙ sym (noted_there it lacks k (λ n. false) j m other))
    (λ m. ap (λ (x : Bool). x || (lacks && ((k == (k + 1) - 1) && is_in m run))) (gone_empty it lacks k m) ∙ (ap (λ (x : Bool). lacks && ((k == (k + 1) - 1) && x)) (empty m) ∙ (never lacks (k == (k + 1) - 1) ∙ sym (noted_here it lacks k (λ n. false) m))))
    refl
  where
    gone : (t : Bool) → (if t then no_placed else no_placed) ≡ no_placed
    gone true = refl
    gone false = refl

    greatest : (n : ℕ) → max 0 n ≡ n
    greatest n = omega arith

    never : (l b : Bool) → (l && (b && false)) ≡ (l && false)
    never true true = refl
    never true false = refl
    never false b = refl

-- a floor at 0 needs no fact
pub no_floor : (it : Standing) (lacks : Bool) (k : ℕ) → (it.books k).floor ≡ 0 → IsSame (before_place it lacks k) (before_chunks it lacks k (λ n. false))
no_floor it lacks k is =
    one_place k (before_place it lacks k) (before_chunks it lacks k (λ n. false))
    (λ j other. sym (there_is it lacks k 0 j other))
    (λ m. ap (λ (b : Book Placed). b.at m) (empty_is it lacks k) ∙ (sym (none_below (it.books k) m) ∙ sym (ap (λ (b : Book Placed). b.at m) (here_is it lacks k 0))))
    (ap (λ (b : Book Placed). b.floor) (empty_is it lacks k) ∙ (sym is ∙ sym (ap (λ (b : Book Placed). b.floor) (here_is it lacks k 0))))
    (λ j m other. sym (noted_there it lacks k (λ n. false) j m other))
    (λ m. gone_empty it lacks k m ∙ (never lacks ∙ sym (noted_here it lacks k (λ n. false) m)))
    refl
  where
    never : (l : Bool) → false ≡ (l && false)
    never true = refl
    never false = refl

-- a run that was forgotten is written
pub run_same : (it : Standing) (lacks : Bool) (k floor : ℕ) (g : ℕ → Bool) (one : Gone) → floor ≡ (it.books k).floor → one.place ≡ k → IsSame (after_fact (Some (Forgot (k + 1) floor one.run)) (before_chunks it lacks k g)) (before_chunks it lacks k (with_run g k one))
run_same it lacks k floor g one is here =
    let was : Standing = before_chunks it lacks k g in
    let forget : Book Placed → Book Placed = λ b. record { at = λ n. if is_in_any n (one.run ∷ []) then None else b.at n; floor = max b.floor floor } in
    one_place k (after_fact (Some (Forgot (k + 1) floor one.run)) was) (before_chunks it lacks k (with_run g k one))
    (λ j other. fact_there k j forget was other)
    (λ m. ap (λ (b : Book Placed). b.at m) (fact_here k forget was) ∙ (ap (λ (b : Book Placed). (forget b).at m) (here_is it lacks k 0) ∙ (gone (is_in_any m (one.run ∷ [])) ((below_number (it.books k) 0).at m) (none_below (it.books k) m) ∙ (sym (none_below (it.books k) m) ∙ sym (ap (λ (b : Book Placed). b.at m) (here_is it lacks k 0))))))
    (ap (λ (b : Book Placed). b.floor) (fact_here k forget was) ∙ (ap (λ (b : Book Placed). (forget b).floor) (here_is it lacks k 0) ∙ (ap (λ (n : ℕ). max (it.books k).floor n) is ∙ (greatest (it.books k).floor ∙ sym (ap (λ (b : Book Placed). b.floor) (here_is it lacks k 0))))))
    (λ j m other. not_here (was.gone j m) lacks j ((k + 1) - 1) (is_in m one.run) (λ same. other (same ∙ number_of_place k)) ∙ (noted_there it lacks k g j m other ∙ sym (noted_there it lacks k (with_run g k one) j m other)))
    (λ m. ap (λ (x : Bool). x || (lacks && ((k == (k + 1) - 1) && is_in m one.run))) (noted_here it lacks k g m)
    ∙ (ap (λ (t : Bool). (lacks && g m) || (lacks && (t && is_in m one.run))) (eq-eqb k ((k + 1) - 1) (sym (number_of_place k)) ∙ sym (eq-eqb k one.place (sym here)))
    ∙ (both lacks (g m) ((k == one.place) && is_in m one.run) ∙ sym (noted_here it lacks k (with_run g k one) m))))
    refl
  where
    gone : (t : Bool) (o : Option Placed) → o ≡ None → (if t then no_placed else o) ≡ no_placed
    gone true o e = refl
    gone false o e = e

    greatest : (n : ℕ) → max n n ≡ n
    greatest n = omega arith

    both : (l a b : Bool) → ((l && a) || (l && b)) ≡ (l && (a || b))
    both true a b = refl
    both false a b = refl

-- the same numbers were forgotten
pub noted_same : (it : Standing) (lacks : Bool) (k : ℕ) (g h : ℕ → Bool) → ((n : ℕ) → g n ≡ h n) → IsSame (before_chunks it lacks k g) (before_chunks it lacks k h)
noted_same it lacks k g h same =
    one_place k (before_chunks it lacks k g) (before_chunks it lacks k h) (λ j other. refl) (λ m. refl) refl
    (λ j m other. noted_there it lacks k g j m other ∙ sym (noted_there it lacks k h j m other))
    (λ m. noted_here it lacks k g m ∙ (ap (λ (x : Bool). lacks && x) (same m) ∙ sym (noted_here it lacks k h m)))
    refl

-- a chunk is written
pub chunk_same : (it : Standing) (lacks : Bool) (k n : ℕ) (sure : Bool) (place : Place) → (it.books k).at n ≡ Some (record { place = place; is_sure = sure }) → IsSame (after_fact (Some (Put (k + 1) n sure place)) (before_number it lacks k n)) (before_number it lacks k (n + 1))
chunk_same it lacks k n sure place is =
    let was : Standing = before_number it lacks k n in
    let x : Placed = record { place = place; is_sure = sure } in
    let put : Book Placed → Book Placed = λ b. record { at = λ m. if m == n then Some x else b.at m; floor = b.floor } in
    one_place k (after_fact (Some (Put (k + 1) n sure place)) was) (before_number it lacks k (n + 1))
    (λ j other. fact_there k j put was other ∙ (there_is it lacks k n j other ∙ sym (there_is it lacks k (n + 1) j other)))
    (λ m. ap (λ (b : Book Placed). b.at m) (fact_here k put was) ∙ (ap (λ (b : Book Placed). (put b).at m) (here_is it lacks k n) ∙ (by m (m == n) refl ∙ sym (ap (λ (b : Book Placed). b.at m) (here_is it lacks k (n + 1))))))
    (ap (λ (b : Book Placed). b.floor) (fact_here k put was) ∙ (ap (λ (b : Book Placed). b.floor) (here_is it lacks k n) ∙ sym (ap (λ (b : Book Placed). b.floor) (here_is it lacks k (n + 1)))))
    (λ j m other. gone_there it lacks k n j m other ∙ sym (gone_there it lacks k (n + 1) j m other))
    (λ m. gone_here it lacks k n m ∙ sym (gone_here it lacks k (n + 1) m))
    refl
  where
    below : (m : ℕ) → m ≢ n → nat_lt m n ≡ nat_lt m (n + 1)
    below m other = cases (nat_lt m n) refl
      where
        cases : (t : Bool) → nat_lt m n ≡ t → nat_lt m n ≡ nat_lt m (n + 1)
        cases true e = e ∙ sym (lt-ltb m (n + 1) (omega (arith, ltb-true m n e)))
        cases false e = e ∙ sym (le-ltb m (n + 1) (omega (arith, ltb-false m n e, other)))

    by : (m : ℕ) (t : Bool) → (m == n) ≡ t → (if m == n then Some (record { place = place; is_sure = sure }) else (if nat_lt m n then (it.books k).at m else None)) ≡ (if nat_lt m (n + 1) then (it.books k).at m else None)
    by m true e =
        let same : m ≡ n = eqb-true m n e in
        ap (λ (t : Bool). if t then Some (record { place = place; is_sure = sure }) else (if nat_lt m n then (it.books k).at m else None)) e
        ∙ (sym is ∙ (ap (λ (z : ℕ). (it.books k).at z) (sym same) ∙ sym (ap (λ (t : Bool). if t then (it.books k).at m else None) (lt-ltb m (n + 1) (omega (arith, same))))))
    by m false e =
        ap (λ (t : Bool). if t then Some (record { place = place; is_sure = sure }) else (if nat_lt m n then (it.books k).at m else None)) e
        ∙ ap (λ (t : Bool). if t then (it.books k).at m else None) (below m (λ same. true≢false (sym (eq-eqb m n same) ∙ e)))

-- where nothing is between two numbers
pub gap_same : (it : Standing) (lacks : Bool) (k a b : ℕ) → a ≤ b → ((m : ℕ) → a ≤ m → m < b → (it.books k).at m ≡ None) → IsSame (before_number it lacks k a) (before_number it lacks k b)
gap_same it lacks k a b le none =
    one_place k (before_number it lacks k a) (before_number it lacks k b)
    (λ j other. there_is it lacks k a j other ∙ sym (there_is it lacks k b j other))
    (λ m. ap (λ (x : Book Placed). x.at m) (here_is it lacks k a) ∙ (by m (nat_lt m a) refl (nat_lt m b) refl ∙ sym (ap (λ (x : Book Placed). x.at m) (here_is it lacks k b))))
    (ap (λ (x : Book Placed). x.floor) (here_is it lacks k a) ∙ sym (ap (λ (x : Book Placed). x.floor) (here_is it lacks k b)))
    (λ j m other. gone_there it lacks k a j m other ∙ sym (gone_there it lacks k b j m other))
    (λ m. gone_here it lacks k a m ∙ sym (gone_here it lacks k b m))
    refl
  where
    by : (m : ℕ) (s : Bool) → nat_lt m a ≡ s → (t : Bool) → nat_lt m b ≡ t → (if nat_lt m a then (it.books k).at m else None) ≡ (if nat_lt m b then (it.books k).at m else None)
    by m true e true f = rw (e, f) refl
    by m false e false f = rw (e, f) refl
    by m false e true f = rw (e, f) (sym (none m (ltb-false m a e) (ltb-true m b f)))
    by m true e false f = absurd (never (ltb-true m a e) (ltb-false m b f))
      where
        never : m < a → b ≤ m → ⊥
        never lt ge = omega (arith, le, lt, ge)

-- where nothing is from a number on
pub end_same : (it : Standing) (lacks : Bool) (k a : ℕ) → ((m : ℕ) → a ≤ m → (it.books k).at m ≡ None) → IsSame (before_number it lacks k a) (before_place it lacks (k + 1))
end_same it lacks k a none =
    one_place k (before_number it lacks k a) (before_place it lacks (k + 1))
    (λ j other. there_is it lacks k a j other ∙ ap (λ (t : Bool). if t then it.books j else empty_book) (next j other))
    (λ m. ap (λ (x : Book Placed). x.at m) (here_is it lacks k a) ∙ (by m (nat_lt m a) refl ∙ sym (ap (λ (x : Book Placed). x.at m) whole)))
    (ap (λ (x : Book Placed). x.floor) (here_is it lacks k a) ∙ sym (ap (λ (x : Book Placed). x.floor) whole))
    (λ j m other. gone_there it lacks k a j m other ∙ ap (λ (t : Bool). if t then lacks && it.gone j m else false) (next j other))
    (λ m. gone_here it lacks k a m ∙ sym (ap (λ (t : Bool). if t then lacks && it.gone k m else false) (lt-ltb k (k + 1) (omega arith))))
    refl
  where
    whole : (before_place it lacks (k + 1)).books k ≡ it.books k
    whole = ap (λ (t : Bool). if t then it.books k else empty_book) (lt-ltb k (k + 1) (omega arith))

    next : (j : ℕ) → j ≢ k → nat_lt j k ≡ nat_lt j (k + 1)
    next j other = cases (nat_lt j k) refl
      where
        cases : (t : Bool) → nat_lt j k ≡ t → nat_lt j k ≡ nat_lt j (k + 1)
        cases true e = e ∙ sym (lt-ltb j (k + 1) (omega (arith, ltb-true j k e)))
        cases false e = e ∙ sym (le-ltb j (k + 1) (omega (arith, ltb-false j k e, other)))

    by : (m : ℕ) (s : Bool) → nat_lt m a ≡ s → (if nat_lt m a then (it.books k).at m else None) ≡ (it.books k).at m
    by m true e = ap (λ (t : Bool). if t then (it.books k).at m else None) e
    by m false e = ap (λ (t : Bool). if t then (it.books k).at m else None) e ∙ sym (none m (ltb-false m a e))

pub none_first : (it : Standing) (lacks : Bool) → IsSame (bare lacks) (before_place it lacks 0)
none_first it lacks = record { at = λ j m. ap (λ (b : Book Placed). b.at m) (nothing j); floor = λ j. ap (λ (b : Book Placed). b.floor) (nothing j); gone = λ j m. sym (ap (λ (t : Bool). if t then lacks && it.gone j m else false) (le-ltb j 0 (omega arith))); lacks = refl }
  where
    nothing : (j : ℕ) → empty_book ≡ (before_place it lacks 0).books j
    nothing j = sym (ap (λ (t : Bool). if t then it.books j else empty_book) (le-ltb j 0 (omega arith)))

-- all sessions
pub all_places : (depot : Depot) (lacks : Bool) (n : ℕ) → length depot.stock.sessions.items ≡ n → GoneFits (length depot.stock.sessions.items) (standing_of depot) → IsSame (before_place (standing_of depot) lacks n) (lacking lacks (standing_of depot))
all_places depot lacks n is fits = record { at = λ j m. ap (λ (b : Book Placed). b.at m) (same j); floor = λ j. ap (λ (b : Book Placed). b.floor) (same j); gone = λ j m. gone j m (nat_lt j n) refl ((standing_of depot).gone j m) refl; lacks = refl }
  where
    gone : (j m : ℕ) (t : Bool) → nat_lt j n ≡ t → (x : Bool) → (standing_of depot).gone j m ≡ x → (if nat_lt j n then lacks && (standing_of depot).gone j m else false) ≡ (lacks && (standing_of depot).gone j m)
    gone j m true e x f = ap (λ (t : Bool). if t then lacks && (standing_of depot).gone j m else false) e
    gone j m false e true f = absurd (past (ltb-false j n e) (fits j m f).0)
      where
        past : n ≤ j → j < length depot.stock.sessions.items → ⊥
        past le lt = omega (arith, is, le, lt)
    gone j m false e false f = ap (λ (t : Bool). if t then lacks && (standing_of depot).gone j m else false) e ∙ (never lacks ∙ sym (ap (λ (x : Bool). lacks && x) f))
      where
        never : (l : Bool) → false ≡ (l && false)
        never true = refl
        never false = refl

    same : (j : ℕ) → (before_place (standing_of depot) lacks n).books j ≡ (standing_of depot).books j
    same j = by (nat_lt j n) refl
      where
        by : (t : Bool) → nat_lt j n ≡ t → (if nat_lt j n then book_in (slice_get depot.stock.sessions.items j) else empty_book) ≡ book_in (slice_get depot.stock.sessions.items j)
        by true e = ap (λ (t : Bool). if t then book_in (slice_get depot.stock.sessions.items j) else empty_book) e
        by false e =
            ap (λ (t : Bool). if t then book_in (slice_get depot.stock.sessions.items j) else empty_book) e
            ∙ ap book_in (sym (slice_get_past depot.stock.sessions.items j (omega (arith, is, ltb-false j n e))))

-- ---- the session at a place

pub book_at : (depot : Depot) (place : ℕ) (d : Session) → place < length depot.stock.sessions.items → d ≡ get_or depot.stock.sessions.items place d → (standing_of depot).books place ≡ book_in (Some d)
book_at depot place d lt is = ap book_in (slice_get-get_or depot.stock.sessions.items place d lt ∙ ap (λ (s : Session). Some s) (sym is))

pub in_place : (sessions : List Session) (place : ℕ) (d : Session) (P : Session → Type 0) → place < length sessions → d ≡ get_or sessions place d → P d → In sessions place P
in_place sessions place d P lt is holds session at = subst P (same_Some d session (ap (λ (s : Session). Some s) is ∙ (sym (slice_get-get_or sessions place d lt) ∙ at))) holds

pub none_placed : (b : Book Chunk) (m : ℕ) → b.at m ≡ None → option_map placed_of (b.at m) ≡ None
none_placed b m is = ap (option_map placed_of) is

-- where the numbers above one have a least
none_by : (b : Book Chunk) (a n : ℕ) → ((m : ℕ) → a < m → IsSome (b.at m) → n ≤ m) → (m : ℕ) → a + 1 ≤ m → m < n → option_map placed_of (b.at m) ≡ None
none_by b a n least m over below = by (b.at m) refl
  where
    by : (o : Option Chunk) → b.at m ≡ o → option_map placed_of (b.at m) ≡ None
    by None e = ap (option_map placed_of) e
    by (Some x) e =
        let le : n ≤ m = least m (omega (arith, over)) (subst (λ (o : Option Chunk). IsSome o) (sym e) refl) in
        absurd (never le below)
      where
        never : n ≤ m → m < n → ⊥
        never le lt = omega (arith, le, lt)

-- the next number is reached, and behind it one is written
pub gap_to : (depot : Depot) (lacks : Bool) (place last next : ℕ) (d : Session) → place < length depot.stock.sessions.items → d ≡ get_or depot.stock.sessions.items place d → last < next → ((m : ℕ) → last < m → IsSome ((book_of d.chunks).at m) → next ≤ m) →
    IsSame (before_number (standing_of depot) lacks place (last + 1)) (before_number (standing_of depot) lacks place next)
gap_to depot lacks place last next d lt is above least =
    gap_same (standing_of depot) lacks place (last + 1) next (omega (arith, above)) (λ m over below. ap (λ (b : Book Placed). b.at m) (book_at depot place d lt is) ∙ none_by (book_of d.chunks) last next least m over below)

pub end_at : (depot : Depot) (lacks : Bool) (place last : ℕ) (d : Session) → place < length depot.stock.sessions.items → d ≡ get_or depot.stock.sessions.items place d → ((m : ℕ) → last < m → (book_of d.chunks).at m ≡ None) →
    IsSame (before_number (standing_of depot) lacks place (last + 1)) (before_place (standing_of depot) lacks (place + 1))
end_at depot lacks place last d lt is none =
    end_same (standing_of depot) lacks place (last + 1) (λ m over. ap (λ (b : Book Placed). b.at m) (book_at depot place d lt is) ∙ none_placed (book_of d.chunks) m (none m (omega (arith, over))))

pub zero_gap : (depot : Depot) (lacks : Bool) (place : ℕ) (d : Session) → place < length depot.stock.sessions.items → d ≡ get_or depot.stock.sessions.items place d → (book_of d.chunks).at 0 ≡ None →
    IsSame (before_number (standing_of depot) lacks place 0) (before_number (standing_of depot) lacks place 1)
zero_gap depot lacks place d lt is none =
    gap_same (standing_of depot) lacks place 0 1 (omega arith) (λ m over below. ap (λ (b : Book Placed). b.at m) (book_at depot place d lt is) ∙ none_placed (book_of d.chunks) m (ap (λ (z : ℕ). (book_of d.chunks).at z) (only m below) ∙ none))
  where
    only : (m : ℕ) → m < 1 → m ≡ 0
    only m lt = omega (arith, lt)

-- the fact of a chunk
pub wrote_chunk : (plan : CheckedPlan) (t : ℕ) (before after : List ℕ) (depot : Depot) (lacks : Bool) (place session n : ℕ) (fact : ChunkFact) → place < length depot.stock.sessions.items → session ≡ place + 1 → AllFit (standing_of depot) →
    In depot.stock.sessions.items place (λ s. StandsIn (book_of s.chunks) session n fact) → after ≡ before ++ lines_text (chunk_fact_line plan t fact ∷ []) → FactStands plan t (Some fact) →
    Wrote plan t (length depot.stock.sessions.items) before after (before_number (standing_of depot) lacks place n) (before_number (standing_of depot) lacks place (n + 1))
wrote_chunk plan t before after depot lacks place session n fact lt number fit stands text says = by fact (stands d at) text says
  where
    its : (x : Session) × (slice_get depot.stock.sessions.items place ≡ Some x)
    its = there depot.stock.sessions.items place lt

    d : Session
    d = its.0

    at : slice_get depot.stock.sessions.items place ≡ Some d
    at = its.1

    by : (f : ChunkFact) → StandsIn (book_of d.chunks) session n f → after ≡ before ++ lines_text (chunk_fact_line plan t f ∷ []) → FactStands plan t (Some f) →
        Wrote plan t (length depot.stock.sessions.items) before after (before_number (standing_of depot) lacks place n) (before_number (standing_of depot) lacks place (n + 1))
    by (Put s m sure put) st tx sy =
        let is : ((standing_of depot).books place).at n ≡ Some (record { place = put; is_sure = sure }) = ap (λ (o : Option Session). (book_in o).at n) at ∙ st.2 in
        let long : long_at put ≤ MOST_CHUNK = fit place n (record { place = put; is_sure = sure }) is in
        let first : s ≡ place + 1 = st.0 ∙ number in
        wrote_one plan t (length depot.stock.sessions.items) before after _ _ (Put s m sure put) tx sy
        (and_from (nat_le 1 s && nat_le s (length depot.stock.sessions.items)) (nat_le (long_at put) MOST_CHUNK)
        (and_from (nat_le 1 s) (nat_le s (length depot.stock.sessions.items)) (le-leb 1 s (omega (arith, first))) (le-leb s (length depot.stock.sessions.items) (omega (arith, first, lt)))) (le-leb (long_at put) MOST_CHUNK long))
        (subst (λ (z : ℕ). IsSame (after_fact (Some (Put z m sure put)) (before_number (standing_of depot) lacks place n)) (before_number (standing_of depot) lacks place (n + 1))) (sym first)
        (subst (λ (z : ℕ). IsSame (after_fact (Some (Put (place + 1) z sure put)) (before_number (standing_of depot) lacks place n)) (before_number (standing_of depot) lacks place (n + 1))) (sym st.1)
        (chunk_same (standing_of depot) lacks place n sure put is)))
    by (Forgot s floor run) st tx sy = absurd st
    by Filled st tx sy = absurd st

empty_run : (n : ℕ) → is_in n (record { first = 1; last = 0 }) ≡ false
empty_run n = by (nat_le 1 n) refl (nat_le n 0) refl
  where
    by : (a : Bool) → nat_le 1 n ≡ a → (b : Bool) → nat_le n 0 ≡ b → (nat_le 1 n && nat_le n 0) ≡ false
    by true e true f = absurd (never (leb-true 1 n e) (leb-true n 0 f))
      where
        never : 1 ≤ n → n ≤ 0 → ⊥
        never le ge = omega (arith, le, ge)
    by true e false f = ap (λ (t : Bool). t && nat_le n 0) e ∙ f
    by false e b f = ap (λ (t : Bool). t && nat_le n 0) e

-- the fact of a floor
pub wrote_floor : (plan : CheckedPlan) (t : ℕ) (before after : List ℕ) (depot : Depot) (lacks : Bool) (place floor : ℕ) (d : Session) → place < length depot.stock.sessions.items → d ≡ get_or depot.stock.sessions.items place d → floor ≡ (book_of d.chunks).floor →
    after ≡ before ++ lines_text (chunk_fact_line plan t (Forgot (place + 1) floor (record { first = 1; last = 0 })) ∷ []) → FactStands plan t (Some (Forgot (place + 1) floor (record { first = 1; last = 0 }))) →
    Wrote plan t (length depot.stock.sessions.items) before after (before_place (standing_of depot) lacks place) (before_chunks (standing_of depot) lacks place (λ n. false))
wrote_floor plan t before after depot lacks place floor d lt is floor_is text says =
    wrote_one plan t (length depot.stock.sessions.items) before after _ _ (Forgot (place + 1) floor (record { first = 1; last = 0 })) text says
    (and_from (nat_le 1 (place + 1) && nat_le (place + 1) (length depot.stock.sessions.items)) (nat_le 0 floor)
    (and_from (nat_le 1 (place + 1)) (nat_le (place + 1) (length depot.stock.sessions.items)) (le-leb 1 (place + 1) (omega arith)) (le-leb (place + 1) (length depot.stock.sessions.items) (omega (arith, lt)))) (le-leb 0 floor (omega arith)))
    (floor_same (standing_of depot) lacks place floor (record { first = 1; last = 0 }) (floor_is ∙ sym (ap (λ (b : Book Placed). b.floor) (book_at depot place d lt is))) empty_run)

pub wrote_no_floor : (plan : CheckedPlan) (t : ℕ) (before : List ℕ) (depot : Depot) (lacks : Bool) (place : ℕ) (d : Session) → place < length depot.stock.sessions.items → d ≡ get_or depot.stock.sessions.items place d → (book_of d.chunks).floor ≡ 0 →
    Wrote plan t (length depot.stock.sessions.items) before before (before_place (standing_of depot) lacks place) (before_chunks (standing_of depot) lacks place (λ n. false))
wrote_no_floor plan t before depot lacks place d lt is none = wrote_none plan t (length depot.stock.sessions.items) before _ _ (no_floor (standing_of depot) lacks place (ap (λ (b : Book Placed). b.floor) (book_at depot place d lt is) ∙ none))

-- the fact of a run that was forgotten
pub wrote_run : (plan : CheckedPlan) (t : ℕ) (before after : List ℕ) (depot : Depot) (lacks : Bool) (place floor : ℕ) (g : ℕ → Bool) (one : Gone) (d : Session) → place < length depot.stock.sessions.items → d ≡ get_or depot.stock.sessions.items place d → floor ≡ (book_of d.chunks).floor →
    one.place ≡ place → one.run.first ≤ one.run.last → RunFits depot place one → after ≡ before ++ lines_text (chunk_fact_line plan t (Forgot (place + 1) floor one.run) ∷ []) → FactStands plan t (Some (Forgot (place + 1) floor one.run)) →
    Wrote plan t (length depot.stock.sessions.items) before after (before_chunks (standing_of depot) lacks place g) (before_chunks (standing_of depot) lacks place (with_run g place one))
wrote_run plan t before after depot lacks place floor g one d lt is floor_is here some fits text says =
    let floor_same : floor ≡ ((standing_of depot).books place).floor = floor_is ∙ sym (ap (λ (b : Book Placed). b.floor) (book_at depot place d lt is)) in
    let last : one.run.last ≤ ((standing_of depot).books place).floor = fits one.run.last (and_from (place == one.place) (is_in one.run.last one.run) (eq-eqb place one.place (sym here)) (and_from (nat_le one.run.first one.run.last) (nat_le one.run.last one.run.last) (le-leb one.run.first one.run.last some) (le-leb one.run.last one.run.last (omega arith)))) in
    wrote_one plan t (length depot.stock.sessions.items) before after _ _ (Forgot (place + 1) floor one.run) text says
    (and_from (nat_le 1 (place + 1) && nat_le (place + 1) (length depot.stock.sessions.items)) (nat_le one.run.last floor)
    (and_from (nat_le 1 (place + 1)) (nat_le (place + 1) (length depot.stock.sessions.items)) (le-leb 1 (place + 1) (omega arith)) (le-leb (place + 1) (length depot.stock.sessions.items) (omega (arith, lt)))) (le-leb one.run.last floor (omega (arith, last, floor_same))))
    (run_same (standing_of depot) lacks place floor g one floor_same here)

-- one that is of another session, or has no number
pub wrote_no_run : (plan : CheckedPlan) (t : ℕ) (before : List ℕ) (depot : Depot) (lacks : Bool) (place : ℕ) (g : ℕ → Bool) (one : Gone) → ((n : ℕ) → ((place == one.place) && is_in n one.run) ≡ false) →
    Wrote plan t (length depot.stock.sessions.items) before before (before_chunks (standing_of depot) lacks place g) (before_chunks (standing_of depot) lacks place (with_run g place one))
wrote_no_run plan t before depot lacks place g one none = wrote_none plan t (length depot.stock.sessions.items) before _ _ (noted_same (standing_of depot) lacks place g (with_run g place one) (λ n. sym (ap (λ (x : Bool). g n || x) (none n) ∙ or_false (g n))))
  where
    or_false : (x : Bool) → (x || false) ≡ x
    or_false true = refl
    or_false false = refl

pub other_place : (place : ℕ) (one : Gone) → one.place ≢ place → (n : ℕ) → ((place == one.place) && is_in n one.run) ≡ false
other_place place one other n = ap (λ (t : Bool). t && is_in n one.run) (unequal place one.place (λ same. other (sym same)))

pub no_number : (place : ℕ) (one : Gone) → one.run.last < one.run.first → (n : ℕ) → ((place == one.place) && is_in n one.run) ≡ false
no_number place one below n = ap (λ (t : Bool). (place == one.place) && t) (none (nat_le one.run.first n) refl (nat_le n one.run.last) refl) ∙ never (place == one.place)
  where
    none : (a : Bool) → nat_le one.run.first n ≡ a → (b : Bool) → nat_le n one.run.last ≡ b → is_in n one.run ≡ false
    none true e true f = absurd (between (leb-true one.run.first n e) (leb-true n one.run.last f))
      where
        between : one.run.first ≤ n → n ≤ one.run.last → ⊥
        between le ge = omega (arith, below, le, ge)
    none true e false f = ap (λ (t : Bool). t && nat_le n one.run.last) e ∙ f
    none false e b f = ap (λ (t : Bool). t && nat_le n one.run.last) e

    never : (b : Bool) → (b && false) ≡ false
    never true = refl
    never false = refl

-- one of those that are noted
run_fits : (depot : Depot) (place i : ℕ) (d : Gone) → i < length depot.gone.items → depot.lacks ≡ true → GoneFits (length depot.stock.sessions.items) (standing_of depot) → RunFits depot place (get_or depot.gone.items i d)
run_fits depot place i d lt lacks fits n e =
    let noted : is_gone depot.gone.items place n ≡ true = list_any_at (λ (x : Gone). (place == x.place) && is_in n x.run) depot.gone.items i d lt e in
    (fits place n (ap (λ (b : Bool). b && is_gone depot.gone.items place n) lacks ∙ noted)).1

-- all of them so far
pub run_more : (plan : CheckedPlan) (t : ℕ) (before middle after : List ℕ) (depot : Depot) (lacks : Bool) (place i : ℕ) (gone : List Gone) (d : Gone) → gone ≡ depot.gone.items → i < length gone → depot.lacks ≡ true → GoneFits (length depot.stock.sessions.items) (standing_of depot) →
    Wrote plan t (length depot.stock.sessions.items) before middle (before_chunks (standing_of depot) lacks place (λ n. false)) (before_chunks (standing_of depot) lacks place (λ n. is_gone (take i depot.gone.items) place n)) →
    ((g : ℕ → Bool) → RunFits depot place (get_or gone i d) → Wrote plan t (length depot.stock.sessions.items) middle after (before_chunks (standing_of depot) lacks place g) (before_chunks (standing_of depot) lacks place (with_run g place (get_or gone i d)))) →
    Wrote plan t (length depot.stock.sessions.items) before after (before_chunks (standing_of depot) lacks place (λ n. false)) (before_chunks (standing_of depot) lacks place (λ n. is_gone (take (i + 1) depot.gone.items) place n))
run_more plan t before middle after depot lacks place i gone d is lt lacked fits first second =
    let same : get_or gone i d ≡ get_or depot.gone.items i d = ap (λ (xs : List Gone). get_or xs i d) is in
    let within : i < length depot.gone.items = subst (λ (xs : List Gone). i < length xs) is lt in
    wrote_as plan t (length depot.stock.sessions.items) before after _ _ _
    (wrote_on plan t (length depot.stock.sessions.items) before middle after _ _ _ first
    (second (λ n. is_gone (take i depot.gone.items) place n) (subst (λ (one : Gone). RunFits depot place one) (sym same) (run_fits depot place i d within lacked fits))))
    (noted_same (standing_of depot) lacks place (with_run (λ n. is_gone (take i depot.gone.items) place n) place (get_or gone i d)) (λ n. is_gone (take (i + 1) depot.gone.items) place n)
    (λ n. ap (λ (x : Gone). is_gone (take i depot.gone.items) place n || ((place == x.place) && is_in n x.run)) same ∙ sym (list_any_more (λ (x : Gone). (place == x.place) && is_in n x.run) depot.gone.items i d within)))

pub runs_all : (depot : Depot) (lacks : Bool) (place i : ℕ) → length depot.gone.items ≤ i → depot.lacks ≡ true → IsSame (before_chunks (standing_of depot) lacks place (λ n. is_gone (take i depot.gone.items) place n)) (before_number (standing_of depot) lacks place 0)
runs_all depot lacks place i all is =
    noted_same (standing_of depot) lacks place (λ n. is_gone (take i depot.gone.items) place n) ((standing_of depot).gone place)
    (λ n. ap (λ (xs : List Gone). is_gone xs place n) (take_all i depot.gone.items all) ∙ sym (ap (λ (b : Bool). b && is_gone depot.gone.items place n) is))

pub no_runs : (depot : Depot) (lacks : Bool) (place : ℕ) → depot.lacks ≡ false → IsSame (before_chunks (standing_of depot) lacks place (λ n. false)) (before_number (standing_of depot) lacks place 0)
no_runs depot lacks place is = noted_same (standing_of depot) lacks place (λ n. false) ((standing_of depot).gone place) (λ n. sym (ap (λ (b : Bool). b && is_gone depot.gone.items place n) is))

-- ---- what is lacked

pub filled_same : (node : ℕ) (depot : Depot) → depot.lacks ≡ false → IsSame (after_fact (Some Filled) (lacking (first_lacks node depot) (standing_of depot))) (written_of node depot)
filled_same node depot is = record { at = λ k n. refl; floor = λ k. refl; gone = λ k n. sym (ap (λ (t : Bool). t && (standing_of depot).gone k n) (and_right (first_lacks node depot) depot.lacks is)); lacks = sym (and_right (first_lacks node depot) depot.lacks is) }

pub lacks_same : (node : ℕ) (depot : Depot) → depot.lacks ≡ true → IsSame (lacking (first_lacks node depot) (standing_of depot)) (written_of node depot)
lacks_same node depot is = record { at = λ k n. refl; floor = λ k. refl; gone = λ k n. ap (λ (t : Bool). t && (standing_of depot).gone k n) (by (first_lacks node depot) depot.lacks is); lacks = by (first_lacks node depot) depot.lacks is }
  where
    by : (a b : Bool) → b ≡ true → a ≡ (a && b)
    by true b e = sym e
    by false b e = refl

pub never_lacks : (node : ℕ) (depot : Depot) → first_lacks node depot ≡ false → IsSame (lacking (first_lacks node depot) (standing_of depot)) (written_of node depot)
never_lacks node depot is = record { at = λ k n. refl; floor = λ k. refl; gone = λ k n. ap (λ (t : Bool). t && (standing_of depot).gone k n) (by (first_lacks node depot) depot.lacks is); lacks = by (first_lacks node depot) depot.lacks is }
  where
    by : (a b : Bool) → a ≡ false → a ≡ (a && b)
    by true b e = absurd (true≢false e)
    by false b e = refl

-- ---- lines of one tenant, read

-- the facts of the tenant make this of its depot, and all others stay
record ManyWent (a : Chunks) (t : ℕ) (facts : List ChunkFact) (b : Chunks) : Type 0 where
  site : IsSite a b
  apart : ApartFrom t a.depots b.depots
  sessions : (was is : Depot) → slice_get a.depots t ≡ Some was → slice_get b.depots t ≡ Some is → HasSessions was is
  allowed : (was is : Depot) → slice_get a.depots t ≡ Some was → slice_get b.depots t ≡ Some is → is.stock.allowed ≡ was.stock.allowed
  makes : (was is : Depot) → slice_get a.depots t ≡ Some was → slice_get b.depots t ≡ Some is → IsSame (standing_of is) (after_facts facts (standing_of was))

none_went : (a : Chunks) (t : ℕ) → ManyWent a t [] a
none_went a t = record {
  site = site_itself a;
  apart = λ other is. refl;
  sessions = λ was is at_was at_is. ap (λ (x : Depot). length x.stock.sessions.items) (one was is at_was at_is);
  allowed = λ was is at_was at_is. ap (λ (x : Depot). x.stock.allowed) (one was is at_was at_is);
  makes = λ was is at_was at_is. subst (λ (x : Depot). IsSame (standing_of x) (standing_of was)) (sym (one was is at_was at_is)) (same_itself (standing_of was));
}
  where
    one : (was is : Depot) → slice_get a.depots t ≡ Some was → slice_get a.depots t ≡ Some is → is ≡ was
    one was is at_was at_is = same_Some is was (sym at_is ∙ at_was)

more_went : (a : Chunks) (t : ℕ) (fact : ChunkFact) (facts : List ChunkFact) (next b : Chunks) → Went a t (Some fact) next → ManyWent next t facts b → ManyWent a t (fact ∷ facts) b
more_went a t fact facts next b one more = record {
  site = site_on a next b one.site more.site;
  apart = λ other is. more.apart other is ∙ one.apart other is;
  sessions = λ was is at_was at_is. more.sessions (mid was at_was).0 is (mid was at_was).1 at_is ∙ (lead was at_was).sessions;
  allowed = λ was is at_was at_is. more.allowed (mid was at_was).0 is (mid was at_was).1 at_is ∙ (lead was at_was).allowed;
  makes = λ was is at_was at_is. same_on (standing_of is) (after_facts facts (standing_of (mid was at_was).0)) (after_facts facts (after_fact (Some fact) (standing_of was)))
      (more.makes (mid was at_was).0 is (mid was at_was).1 at_is) (facts_same facts (standing_of (mid was at_was).0) (after_fact (Some fact) (standing_of was)) (lead was at_was).standing);
}
  where
    mid : (was : Depot) → slice_get a.depots t ≡ Some was → (x : Depot) × (slice_get next.depots t ≡ Some x)
    mid was at_was = across next.depots a.depots t was (sym one.site.tenants) at_was

    lead : (was : Depot) (at_was : slice_get a.depots t ≡ Some was) → LeadsTo was (Some fact) (mid was at_was).0
    lead was at_was = one.leads was (mid was at_was).0 at_was (mid was at_was).1

many_went : (plan : CheckedPlan) (t sessions : ℕ) (facts : List ChunkFact) (a b : Chunks) → a.plan ≡ plan → FactsStand plan t sessions facts → RecallsAll ChunkRecalls a (map (chunk_fact_line plan t) facts) b → ManyWent a t facts b
many_went plan t sessions [] a b is stand same = subst (λ (z : Chunks). ManyWent a t [] z) same (none_went a t)
many_went plan t sessions (fact ∷ facts) a b is stand (next, one, more) =
    let line : List ℕ = chunk_fact_line plan t fact in
    let says : chunk_fact_of_line plan line ≡ Some (one.tenant, one.fact) = ap (λ (p : CheckedPlan). chunk_fact_of_line p line) (sym is) ∙ one.says in
    let same : (one.tenant, one.fact) ≡ (t, fact) = same_Some (one.tenant, one.fact) (t, fact) (sym says ∙ stand.0.0) in
    let went : Went a t (Some fact) next = subst (λ (x : ℕ × ChunkFact). Went a x.0 (Some x.1) next) same (recall_went a line next one) in
    more_went a t fact facts next b went (many_went plan t sessions facts next b (went.site.plan ∙ is) stand.2 more)

-- they are facts, and are read
many_facts : (plan : CheckedPlan) (t sessions : ℕ) (facts : List ChunkFact) → FactsStand plan t sessions facts → are_facts (map (chunk_fact_line plan t) facts) ≡ true
many_facts plan t sessions [] stand = refl
many_facts plan t sessions (fact ∷ facts) stand = and_from _ _ (one_of _ (lines_are_facts plan t (Some fact) stand.0)) (many_facts plan t sessions facts stand.2)
  where
    one_of : (x : Bool) → (x && true) ≡ true → x ≡ true
    one_of true e = refl
    one_of false e = absurd (true≢false (sym e))

many_read : (plan : CheckedPlan) (t sessions : ℕ) (facts : List ChunkFact) (new : Chunks) (depot : Depot) → new.plan ≡ plan → slice_get new.depots t ≡ Some depot → length depot.stock.sessions.items ≡ sessions → FactsStand plan t sessions facts → list_all (chunk_reads new) (map (chunk_fact_line plan t) facts) ≡ true
many_read plan t sessions [] new depot is at long stand = refl
many_read plan t sessions (fact ∷ facts) new depot is at long stand =
    let line : List ℕ = chunk_fact_line plan t fact in
    let says : chunk_fact_of_line new.plan line ≡ Some (t, fact) = ap (λ (p : CheckedPlan). chunk_fact_of_line p line) is ∙ stand.0.0 in
    let reads : depot_reads (slice_get new.depots t) fact ≡ true = ap (λ (o : Option Depot). depot_reads o fact) at ∙ (ap (λ (n : ℕ). reads_fact n fact) long ∙ stand.1) in
    and_from (chunk_reads new line) (list_all (chunk_reads new) (map (chunk_fact_line plan t) facts)) (ap (reads_told new.depots) says ∙ reads) (many_read plan t sessions facts new depot is at long stand.2)

-- ---- lines of all tenants

recalls_split : (a c : Chunks) (xs ys : List Line) → RecallsAll ChunkRecalls a (xs ++ ys) c → (b : Chunks) × RecallsAll ChunkRecalls a xs b × RecallsAll ChunkRecalls b ys c
recalls_split a c [] ys r = (a, refl, r)
recalls_split a c (x ∷ xs) ys (next, one, more) =
    let rest = recalls_split next c xs ys more in
    (rest.0, (next, one, rest.1), rest.2)

pub wrote_nobody : (m : Chunks) (before : List ℕ) → WroteTenants m 0 before before
wrote_nobody m before = record {
  lines = [];
  text = sym (append-nil before);
  facts = refl;
  read = λ new like. refl;
  makes = λ new last like same. subst (λ (z : Chunks). Makes m 0 new z) same (record {
    like = like;
    made = λ t depot was is lt at_m at_was at_is. absurd (never t lt);
    others = λ t le. refl;
  });
}
  where
    never : (t : ℕ) → t < 0 → ⊥
    never t lt = omega arith

makes_more : (m : Chunks) (t : ℕ) (depot : Depot) (facts : List ChunkFact) (new mid last : Chunks) → slice_get m.depots t ≡ Some depot → IsSame (after_facts facts (bare (first_lacks m.node depot))) (written_of m.node depot) → Makes m t new mid → ManyWent mid t facts last → Makes m (t + 1) new last
makes_more m t depot facts new mid last at makes before went = record {
  like = record { site = site_on m mid last before.like.site went.site; sessions = sessions };
  made = λ k d was is lt at_d at_was at_is. made k d was is lt at_d at_was at_is (k == t) refl;
  others = λ k le. went.apart k (λ same. absurd (over k le same)) ∙ before.others k (omega (arith, le));
}
  where
    over : (k : ℕ) → t + 1 ≤ k → k ≡ t → ⊥
    over k le same = omega (arith, le, same)

    back : (k : ℕ) (is : Depot) → slice_get last.depots k ≡ Some is → (x : Depot) × (slice_get mid.depots k ≡ Some x)
    back k is at_is = across mid.depots last.depots k is went.site.tenants at_is

    other : (k : ℕ) → (k == t) ≡ false → k ≢ t
    other k e same = true≢false (sym (eq-eqb k t same) ∙ e)

    sessions : (k : ℕ) (was is : Depot) → slice_get m.depots k ≡ Some was → slice_get last.depots k ≡ Some is → HasSessions was is
    sessions k was is at_was at_is = by (k == t) refl (back k is at_is)
      where
        by : (b : Bool) → (k == t) ≡ b → (x : Depot) × (slice_get mid.depots k ≡ Some x) → HasSessions was is
        by true e x =
            let same : k ≡ t = eqb-true k t e in
            went.sessions x.0 is (subst (λ (z : ℕ). slice_get mid.depots z ≡ Some x.0) same x.1) (subst (λ (z : ℕ). slice_get last.depots z ≡ Some is) same at_is) ∙ before.like.sessions k was x.0 at_was x.1
        by false e x = before.like.sessions k was is at_was (sym (went.apart k (other k e)) ∙ at_is)

    made : (k : ℕ) (d was is : Depot) → k < t + 1 → slice_get m.depots k ≡ Some d → slice_get new.depots k ≡ Some was → slice_get last.depots k ≡ Some is → (b : Bool) → (k == t) ≡ b →
        (is.stock.allowed ≡ was.stock.allowed) × (IsSame (standing_of was) (bare (first_lacks m.node d)) → IsSame (standing_of is) (written_of m.node d))
    made k d was is lt at_d at_was at_is true e =
        let same : k ≡ t = eqb-true k t e in
        let in_mid : slice_get mid.depots t ≡ Some was = before.others t (omega arith) ∙ subst (λ (z : ℕ). slice_get new.depots z ≡ Some was) same at_was in
        let in_last : slice_get last.depots t ≡ Some is = subst (λ (z : ℕ). slice_get last.depots z ≡ Some is) same at_is in
        let one : depot ≡ d = same_Some depot d (sym at ∙ subst (λ (z : ℕ). slice_get m.depots z ≡ Some d) same at_d) in (
          went.allowed was is in_mid in_last,
          λ nothing. subst (λ (x : Depot). IsSame (standing_of is) (written_of m.node x)) one
              (same_on (standing_of is) (after_facts facts (standing_of was)) (written_of m.node depot) (went.makes was is in_mid in_last)
              (same_on (after_facts facts (standing_of was)) (after_facts facts (bare (first_lacks m.node depot))) (written_of m.node depot)
              (facts_same facts (standing_of was) (bare (first_lacks m.node depot)) (subst (λ (x : Depot). IsSame (standing_of was) (bare (first_lacks m.node x))) (sym one) nothing)) makes)),
        )
    made k d was is lt at_d at_was at_is false e =
        before.made k d was is (below k lt (other k e)) at_d at_was (sym (went.apart k (other k e)) ∙ at_is)
      where
        below : (k : ℕ) → k < t + 1 → k ≢ t → k < t
        below k lt ne = omega (arith, lt, ne)

pub wrote_tenant : (m : Chunks) (t : ℕ) (before middle after : List ℕ) (depot : Depot) → slice_get m.depots t ≡ Some depot → WroteTenants m t before middle → Wrote m.plan t (length depot.stock.sessions.items) middle after (bare (first_lacks m.node depot)) (written_of m.node depot) →
    WroteTenants m (t + 1) before after
wrote_tenant m t before middle after depot at all one = record {
  lines = all.lines ++ more;
  text = texts_append before middle after all.lines more all.text one.text;
  facts = list_all-append _ all.lines more ∙ and_from _ _ all.facts (many_facts m.plan t (length depot.stock.sessions.items) one.facts one.stand);
  read = λ new like.
      let its : (x : Depot) × (slice_get new.depots t ≡ Some x) = across new.depots m.depots t depot (sym like.site.tenants) at in
      list_all-append (chunk_reads new) all.lines more ∙ and_from _ _ (all.read new like) (many_read m.plan t (length depot.stock.sessions.items) one.facts new its.0 like.site.plan its.1 (like.sessions t depot its.0 at its.1) one.stand);
  makes = λ new last like r.
      let parts = recalls_split new last all.lines more r in
      let first : Makes m t new parts.0 = all.makes new parts.0 like parts.1 in
      makes_more m t depot one.facts new parts.0 last at one.makes first (many_went m.plan t (length depot.stock.sessions.items) one.facts parts.0 last first.like.site.plan one.stand parts.2);
}
  where
    more : List Line
    more = map (chunk_fact_line m.plan t) one.facts

-- ---- what a start needs

pub needs : (plan : List (List ℕ)) (m : Chunks) (before after : List ℕ) → ChunksAreOf plan m → WroteTenants m (length m.depots) before after → Needs ChunkRecalls chunk_reads (ChunksAreBlank plan) ChunksRest m before after
needs plan m before after of wrote = record {
  lines = wrote.lines;
  text = wrote.text;
  facts = wrote.facts;
  stands = record {
    read = λ new blank. wrote.read new (like new blank);
    again = λ new last blank r. record { site = (made new last blank r).like.site; depots = rests new last blank (made new last blank r) };
  };
}
  where
    like : (new : Chunks) → ChunksAreBlank plan m new → IsLike m new
    like new blank = record { site = blank.site; sessions = λ t was is at_was at_is. (blank.depots t was is at_was at_is).sessions_are }

    made : (new last : Chunks) → ChunksAreBlank plan m new → RecallsAll ChunkRecalls new wrote.lines last → Makes m (length m.depots) new last
    made new last blank r = wrote.makes new last (like new blank) r

    twice : (l g : Bool) → (l && (l && g)) ≡ (l && g)
    twice true g = refl
    twice false g = refl

    lacks_as : (depot : Depot) (room : ℕ) → HasRoom m.node room depot → (first_lacks m.node depot && depot.lacks) ≡ depot.lacks
    lacks_as depot room has = by depot.lacks refl
      where
        by : (b : Bool) → depot.lacks ≡ b → (first_lacks m.node depot && depot.lacks) ≡ depot.lacks
        by true e =
            let first : first_lacks m.node depot ≡ true = ap (λ (n : ℕ). lacks_at_first m.node n depot.stock.allowed) has.allowed ∙ has.lacking e in
            ap (λ (z : Bool). z && depot.lacks) first
        by false e = and_right (first_lacks m.node depot) depot.lacks e ∙ sym e

    rests : (new last : Chunks) → ChunksAreBlank plan m new → Makes m (length m.depots) new last → (t : ℕ) (was is : Depot) → slice_get m.depots t ≡ Some was → slice_get last.depots t ≡ Some is → DepotRests was is
    rests new last blank makes t was is at_was at_is =
        let its : (x : Depot) × (slice_get new.depots t ≡ Some x) = across new.depots m.depots t was (sym blank.site.tenants) at_was in
        let bare_it : IsBare (length was.stock.sessions.items) was.stock.allowed (lacks_at_first m.node (room_of_lines plan t) was.stock.allowed) its.0 = blank.depots t was its.0 at_was its.1 in
        let has : HasRoom m.node (room_of_lines plan t) was = of.rooms t was at_was in
        let done = makes.made t was its.0 is (slice_get_within m.depots t was at_was) at_was its.1 at_is in
        let lacks : lacks_at_first m.node (room_of_lines plan t) was.stock.allowed ≡ first_lacks m.node was = ap (λ (n : ℕ). lacks_at_first m.node n was.stock.allowed) (sym has.allowed) in
        let standing : IsSame (standing_of is) (written_of m.node was) = done.1 (subst (λ (b : Bool). IsSame (standing_of its.0) (bare b)) lacks bare_it.nothing) in
        record {
          sessions = makes.like.sessions t was is at_was at_is;
          allowed = done.0 ∙ bare_it.allowed_is;
          standing = record { at = standing.at; floor = standing.floor; gone = λ k n. standing.gone k n ∙ (ap (λ (b : Bool). b && (was.lacks && is_gone was.gone.items k n)) (lacks_as was (room_of_lines plan t) has) ∙ twice was.lacks (is_gone was.gone.items k n)); lacks = standing.lacks ∙ lacks_as was (room_of_lines plan t) has };
        }

-- the same of machines that have chunks
pub needs_of : {M : Type 0} (f : M → Chunks) (plan : List (List ℕ)) (m : M) (before after : List ℕ) → ChunksAreOf plan (f m) → WroteTenants (f m) (length (f m).depots) before after →
    Needs (λ (a : M) (line : List ℕ) (b : M). ChunkRecalls (f a) line (f b)) (λ (a : M) (line : List ℕ). chunk_reads (f a) line) (λ (a b : M). ChunksAreBlank plan (f a) (f b)) (λ (a b : M). ChunksRest (f a) (f b)) m before after
needs_of f plan m before after of wrote =
    let needed = needs plan (f m) before after of wrote in
    record {
      lines = needed.lines;
      text = needed.text;
      facts = needed.facts;
      stands = record {
        read = λ new blank. needed.stands.read (f new) blank;
        again = λ new last blank r. needed.stands.again (f new) (f last) blank (on_chunks f needed.lines new last r);
      };
    }
