-- What a start makes of the journal that it read.
use Rattle.std.proofs.Common.{◌≡◌, ℕ, ◌+◌, ◌^◌, ◌<◌, List, [], ◌∷◌, ◌++◌, length, take, drop, Bool, true, false, Option, Some, None, refl, sym, ap, ◌∙◌, subst, arith, append-nil, inl, inr, ⊎_elim}
use Rattle.std.specs.Prelude.{◌&&◌, if◌then◌else◌, MatchOption}
use Rattle.std.specs.Str.{bytes_eq}
use Rattle.std.proofs.lemmas.List.{length-take-le, take-append-drop}
use Rattle.std.proofs.lemmas.Slice.Eq.{bytes_eq-Decides}
use Rattle.gq_journal.specs.Batches.{Line, lines_text, whole_lines, batches_of, journal_text, has_right_batch, are_batch_lines}
use Rattle.gq_journal.specs.Laws.{FitBatches}
use Rattle.gq_journal.proofs.Lines.{lines_then, open_ones}
use Rattle.gq_keeper.specs.Plans.{IsPlan, is_plan, facts_in, first_plan, last_plan, begins_with_plan, new_plan, goes_on_from, is_of}
use Rattle.gq_keeper.specs.Starting.{facts_read, EndsAt, behind}
use Rattle.gq_keeper.specs.Crashes.{Leaves, LeavesSyncing}
use Rattle.gq_keeper.specs.Restarting.{Stands, Restarts, ReadsAs}
use Rattle.gq_keeper.specs.Durable.{AllSealed, kept_text, number_after}
use Rattle.gq_keeper.proofs.Planning.{batches_for, facts_in-append, first_plan-append, last_plan-append, begins_append, plan_batch_facts, plan_batch_last}
use Rattle.gq_keeper.proofs.Journals.{sealed_of, grown_is, grown_fit, grown_sealed, kept_is, fit_for}
use Rattle.gq_keeper.proofs.Crashing.{Found, found_whole, leaves_all, leaves_for, leaves_cut}
use Rattle.gq_keeper.proofs.Restarts.{restarts_of}

-- ---- the plan that is added, if it is another than the last

pub added : List ℕ → List ℕ → List Line
added plan last = if bytes_eq last plan then [] else whole_lines plan

added_text : (plan last : List ℕ) → IsPlan plan → new_plan plan last ≡ lines_text (added plan last)
unfolding added
added_text plan last p = by (bytes_eq last plan)
  where
    by : (b : Bool) → (if b then [] else plan) ≡ lines_text (if b then [] else whole_lines plan)
    by true = refl
    by false = sym p.batch.is

added_open : (plan last : List ℕ) → IsPlan plan → are_batch_lines (added plan last) ≡ true
unfolding added
added_open plan last p = by (bytes_eq last plan)
  where
    by : (b : Bool) → are_batch_lines (if b then [] else whole_lines plan) ≡ true
    by true = refl
    by false = p.batch.fit

plan_batch : (lines : List Line) → is_plan lines ≡ true → batches_for lines ≡ lines ∷ []
plan_batch [] is = cc
plan_batch (line ∷ lines) is = refl

added_facts : (plan last : List ℕ) → IsPlan plan → facts_in (batches_for (added plan last)) ≡ []
unfolding added
added_facts plan last p = by (bytes_eq last plan)
  where
    by : (b : Bool) → facts_in (batches_for (if b then [] else whole_lines plan)) ≡ []
    by true = refl
    by false = ap facts_in (plan_batch (whole_lines plan) p.plan) ∙ plan_batch_facts (whole_lines plan) p.plan

-- the lines of the last plan are those of its text
last_open : (before : List Line) (n : ℕ) (batches : List (List Line)) → are_batch_lines before ≡ true → FitBatches n batches → are_batch_lines (last_plan before batches) ≡ true
last_open before n [] are fit = are
last_open before n (batch ∷ batches) are fit = last_open (if is_plan batch then batch else before) (n + 1) batches (by (is_plan batch)) fit.1
  where
    by : (b : Bool) → are_batch_lines (if b then batch else before) ≡ true
    by true = fit.0.2
    by false = are

lines_back : (lines : List Line) → are_batch_lines lines ≡ true → whole_lines (lines_text lines) ≡ lines
lines_back lines are = ap whole_lines (sym (append-nil (lines_text lines))) ∙ lines_then lines [] (open_ones lines are) ∙ append-nil lines

added_last : (plan last : List ℕ) (before : List Line) → IsPlan plan → are_batch_lines before ≡ true → last ≡ lines_text before → last_plan before (batches_for (added plan last)) ≡ whole_lines plan
unfolding added
added_last plan last before p are is = by (bytes_eq last plan) refl
  where
    by : (b : Bool) → bytes_eq last plan ≡ b → last_plan before (batches_for (if b then [] else whole_lines plan)) ≡ whole_lines plan
    by true same = sym (lines_back before are) ∙ ap whole_lines (sym is ∙ (bytes_eq-Decides last plan).0 same)
    by false other = ap (last_plan before) (plan_batch (whole_lines plan) p.plan) ∙ plan_batch_last before (whole_lines plan) p.plan

-- ---- the front of the journal that is kept

pub front_sealed : (text seen synced : List ℕ) (at number : ℕ) → EndsAt text at number → seen ≡ take at text → synced ≡ take at text → AllSealed seen synced number
front_sealed text seen synced at number e a b = sealed_of (batches_of text) seen synced number (a ∙ sym b) (b ∙ e.front) e.fit e.next

pub front_batches : (text synced : List ℕ) (at number : ℕ) → EndsAt text at number → synced ≡ take at text → batches_of synced ≡ batches_of text
unfolding front_sealed
front_batches text synced at number e is = ap batches_of (is ∙ e.front) ∙ back
  where
    back : batches_of (journal_text 1 (batches_of text)) ≡ batches_of text
    back = (found_whole (batches_of text) (journal_text 1 (batches_of text)) e.fit refl).read

pub behind_is : (text : List ℕ) (at number : ℕ) → EndsAt text at number → behind text ≡ drop at text
behind_is text at number e = ap (λ k. drop k text) (ap length (sym e.front) ∙ length-take-le at text e.within)

-- ---- what the start left

-- the journal with the plan behind its right batches
pub record Begins (seen_old plan last seen synced : List ℕ) (at number next : ℕ) : Type 0 where
  pub ends : EndsAt seen_old at number
  pub is_plan : IsPlan plan
  pub last_is : last ≡ lines_text (last_plan [] (batches_of seen_old))
  pub begins : begins_with_plan (batches_of seen_old) ≡ true
  pub fits : number < 2 ^ 64
  pub short : length plan < 2 ^ 64
  pub all : seen ≡ synced
  pub kept : synced ≡ take at seen_old ++ kept_text number (new_plan plan last)
  pub next_is : next ≡ number_after number (new_plan plan last)

short_new : (plan last : List ℕ) → length plan < 2 ^ 64 → length (new_plan plan last) < 2 ^ 64
short_new plan last short = by (bytes_eq last plan)
  where
    by : (b : Bool) → length (if b then [] else plan) < 2 ^ 64
    by true = omega arith
    by false = short

pub begun_sealed : (seen_old plan last seen synced : List ℕ) (at number next : ℕ) → Begins seen_old plan last seen synced at number next → AllSealed seen synced next
begun_sealed seen_old plan last seen synced at number next b =
    grown_sealed (take at seen_old) (take at seen_old) number (added plan last) (new_plan plan last) seen synced next (front_sealed seen_old (take at seen_old) (take at seen_old) at number b.ends refl refl)
    (added_text plan last b.is_plan) b.fits (short_new plan last b.short) (added_open plan last b.is_plan) b.all b.kept b.next_is

begun_is : (seen_old plan last seen synced : List ℕ) (at number next : ℕ) → Begins seen_old plan last seen synced at number next → synced ≡ journal_text 1 (batches_of seen_old ++ batches_for (added plan last))
begun_is seen_old plan last seen synced at number next b =
    b.kept ∙ grown_is (take at seen_old) (take at seen_old) number (added plan last) (new_plan plan last) (front_sealed seen_old (take at seen_old) (take at seen_old) at number b.ends refl refl) (added_text plan last b.is_plan)
    ∙ ap (λ bs. journal_text 1 (bs ++ batches_for (added plan last))) (front_batches seen_old (take at seen_old) at number b.ends refl)

begun_fit : (seen_old plan last seen synced : List ℕ) (at number next : ℕ) → Begins seen_old plan last seen synced at number next → FitBatches 1 (batches_of seen_old ++ batches_for (added plan last))
begun_fit seen_old plan last seen synced at number next b =
    subst (λ bs. FitBatches 1 (bs ++ batches_for (added plan last))) (front_batches seen_old (take at seen_old) at number b.ends refl)
    (grown_fit (take at seen_old) (take at seen_old) number (added plan last) (new_plan plan last) (front_sealed seen_old (take at seen_old) (take at seen_old) at number b.ends refl refl) (added_text plan last b.is_plan) b.fits (short_new plan last b.short) (added_open plan last b.is_plan))

same_facts : (bs : List (List Line)) (plan last : List ℕ) → IsPlan plan → facts_in (bs ++ batches_for (added plan last)) ≡ facts_in bs
same_facts bs plan last p = facts_in-append bs (batches_for (added plan last)) ∙ ap (λ x. facts_in bs ++ x) (added_facts plan last p) ∙ append-nil (facts_in bs)

pub begun_restarts : {M : Type 0} (recalls : M → List ℕ → M → Type 0) (readable : M → List ℕ → Bool) (blank : List Line → M → M → Type 0) (rests : M → M → Type 0) (machine : M) (seen_old plan last seen synced : List ℕ) (at number next : ℕ) → Begins seen_old plan last seen synced at number next →
    Stands recalls readable (blank (first_plan (batches_of seen_old))) rests machine (facts_read seen_old) → Restarts recalls readable blank rests (whole_lines plan) machine synced
begun_restarts recalls readable blank rests machine seen_old plan last seen synced at number next b s =
    restarts_of recalls readable blank rests (whole_lines plan) machine (batches_of seen_old ++ batches_for (added plan last)) synced
    (subst (λ p. Stands recalls readable (blank p) rests machine (facts_in (batches_of seen_old ++ batches_for (added plan last)))) (sym (first_plan-append (batches_of seen_old) (batches_for (added plan last)) b.begins))
    (subst (Stands recalls readable (blank (first_plan (batches_of seen_old))) rests machine) (sym (same_facts (batches_of seen_old) plan last b.is_plan)) s))
    (begins_append (batches_of seen_old) (batches_for (added plan last)) b.begins)
    (last_plan-append [] (batches_of seen_old) (batches_for (added plan last)) ∙ added_last plan last (last_plan [] (batches_of seen_old)) b.is_plan (last_open [] 1 (batches_of seen_old) refl b.ends.fit) b.last_is)
    (found_whole (batches_of seen_old ++ batches_for (added plan last)) synced (begun_fit seen_old plan last seen synced at number next b) (begun_is seen_old plan last seen synced at number next b))

-- ---- what a crash leaves meanwhile

found_reads : (own : List Line) (seen text left : List ℕ) (at number : ℕ) → text ≡ seen → EndsAt text at number → has_right_batch (drop at text) ≡ false → Found (batches_of text) left → ReadsAs own seen left
found_reads own seen text left at number is e none f = record {
  facts = ap facts_in f.read ∙ ap facts_read is;
  begins = ap begins_with_plan f.read ∙ ap (λ t. begins_with_plan (batches_of t)) is;
  first = ap first_plan f.read ∙ ap (λ t. first_plan (batches_of t)) is;
  last = inl (ap (last_plan []) f.read ∙ ap (λ t. last_plan [] (batches_of t)) is);
  mends = f.mends ∙ sym (ap has_right_batch (behind_is text at number e) ∙ none) ∙ ap (λ t. has_right_batch (behind t)) is;
}

added_reads : (own : List Line) (seen text plan last left : List ℕ) (at number : ℕ) → text ≡ seen → EndsAt text at number → has_right_batch (drop at text) ≡ false → own ≡ whole_lines plan → IsPlan plan →
    begins_with_plan (batches_of text) ≡ true → last ≡ lines_text (last_plan [] (batches_of text)) → Found (batches_of text ++ batches_for (added plan last)) left → ReadsAs own seen left
added_reads own seen text plan last left at number is e none owns p begins last_is f = record {
  facts = ap facts_in f.read ∙ same_facts (batches_of text) plan last p ∙ ap facts_read is;
  begins = ap begins_with_plan f.read ∙ begins_append (batches_of text) (batches_for (added plan last)) begins ∙ sym begins ∙ ap (λ t. begins_with_plan (batches_of t)) is;
  first = ap first_plan f.read ∙ first_plan-append (batches_of text) (batches_for (added plan last)) begins ∙ ap (λ t. first_plan (batches_of t)) is;
  last = inr (ap (last_plan []) f.read ∙ last_plan-append [] (batches_of text) (batches_for (added plan last))
      ∙ added_last plan last (last_plan [] (batches_of text)) p (last_open [] 1 (batches_of text) refl e.fit) last_is ∙ sym owns);
  mends = f.mends ∙ sym (ap has_right_batch (behind_is text at number e) ∙ none) ∙ ap (λ t. has_right_batch (behind t)) is;
}

pub cut_left : (own : List Line) (seen text left : List ℕ) (at number : ℕ) → text ≡ seen → EndsAt text at number → number < 2 ^ 64 → has_right_batch (drop at text) ≡ false → Leaves (take at text) text left → ReadsAs own seen left
cut_left own seen text left at number is e fits none l =
    found_reads own seen text left at number is e none
    (leaves_cut (batches_of text) text left at e.fit (subst (λ n. n < 2 ^ 64) e.next fits) e.front (sym (take-append-drop at text)) none l)

pub plan_left : (own : List Line) (seen text now plan last left : List ℕ) (at number : ℕ) → text ≡ seen → EndsAt text at number → has_right_batch (drop at text) ≡ false → own ≡ whole_lines plan → IsPlan plan →
    begins_with_plan (batches_of text) ≡ true → last ≡ lines_text (last_plan [] (batches_of text)) → number < 2 ^ 64 → length plan < 2 ^ 64 → now ≡ take at text →
    LeavesSyncing now (now ++ kept_text number (new_plan plan last)) left → ReadsAs own seen left
plan_left own seen text now plan last left at number is e none owns p begins last_is fits short here l = ⊎_elim part whole l
  where
    added_fit : FitBatches (1 + length (batches_of text)) (batches_for (added plan last))
    added_fit = subst (λ n. FitBatches n (batches_for (added plan last))) e.next (fit_for number (added plan last) fits (subst (λ x. length x < 2 ^ 64) (added_text plan last p) (short_new plan last short)) (added_open plan last p))

    all : now ++ kept_text number (new_plan plan last) ≡ journal_text 1 (batches_of text) ++ journal_text (1 + length (batches_of text)) (batches_for (added plan last))
    all = ap (λ s. s ++ kept_text number (new_plan plan last)) (here ∙ e.front) ∙ ap (λ t. journal_text 1 (batches_of text) ++ kept_text number t) (added_text plan last p)
        ∙ ap (λ t. journal_text 1 (batches_of text) ++ t) (kept_is number (added plan last) ∙ ap (λ n. journal_text n (batches_for (added plan last))) e.next)

    read_more : Found (batches_of text ++ batches_for (added plan last)) left → ReadsAs own seen left
    read_more f = added_reads own seen text plan last left at number is e none owns p begins last_is f

    part : Leaves now (now ++ kept_text number (new_plan plan last)) left → ReadsAs own seen left
    part a = ⊎_elim (λ f. found_reads own seen text left at number is e none f) read_more
        (leaves_for (batches_of text) (added plan last) left e.fit added_fit
        (subst (λ s. Leaves s (journal_text 1 (batches_of text) ++ journal_text (1 + length (batches_of text)) (batches_for (added plan last))) left) (here ∙ e.front) (subst (λ t. Leaves now t left) all a)))

    sealed : AllSealed (take at text) (take at text) number
    sealed = front_sealed text (take at text) (take at text) at number e refl refl

    grown : now ++ kept_text number (new_plan plan last) ≡ journal_text 1 (batches_of text ++ batches_for (added plan last))
    grown = ap (λ s. s ++ kept_text number (new_plan plan last)) here ∙ grown_is (take at text) (take at text) number (added plan last) (new_plan plan last) sealed (added_text plan last p)
        ∙ ap (λ bs. journal_text 1 (bs ++ batches_for (added plan last))) (front_batches text (take at text) at number e refl)

    fit_all : FitBatches 1 (batches_of text ++ batches_for (added plan last))
    fit_all = subst (λ bs. FitBatches 1 (bs ++ batches_for (added plan last))) (front_batches text (take at text) at number e refl)
        (grown_fit (take at text) (take at text) number (added plan last) (new_plan plan last) sealed (added_text plan last p) fits (short_new plan last short) (added_open plan last p))

    whole : Leaves (now ++ kept_text number (new_plan plan last)) (now ++ kept_text number (new_plan plan last)) left → ReadsAs own seen left
    whole a = read_more (found_whole (batches_of text ++ batches_for (added plan last)) left fit_all (leaves_all (now ++ kept_text number (new_plan plan last)) left a ∙ grown))

-- ---- what the start tells

pub cut_told : (cut : Option ℕ) (text : List ℕ) (at number : ℕ) → EndsAt text at number → MatchOption cut (drop at text ≡ []) (λ place. place ≡ at) → MatchOption cut (behind text ≡ []) (λ place. behind text ≡ drop place text)
cut_told None text at number e m = behind_is text at number e ∙ m
cut_told (Some place) text at number e m = behind_is text at number e ∙ ap (λ k. drop k text) (sym m)

pub is_of_it : (goes_on : List ℕ → Bool) (plan last text : List ℕ) (begins goes : Bool) → begins ≡ begins_with_plan (batches_of text) → last ≡ lines_text (last_plan [] (batches_of text)) → goes ≡ goes_on_from goes_on plan last → (begins && goes) ≡ is_of goes_on plan (batches_of text)
is_of_it goes_on plan last text begins goes a b c = ap (λ x. x && goes) a ∙ ap (λ x. begins_with_plan (batches_of text) && x) (c ∙ ap (goes_on_from goes_on plan) b)
