-- What a start makes of a journal that has grown.
use Rattle.std.proofs.Common.{◌≡◌, ◌⊎◌, ℕ, ◌+◌, ◌^◌, ◌<◌, Bool, List, [], ◌∷◌, ◌++◌, length, true, refl, sym, ap, ◌∙◌, subst, append-nil, append_assoc, inl, inr, ⊎_elim}
use Rattle.std.specs.List.{list_all}
use Rattle.std.proofs.lemmas.List.Folds.{list_all-append}
use Rattle.gq_journal.specs.Batches.{Line, lines_text, batches_of, journal_text, are_batch_lines}
use Rattle.gq_journal.specs.Laws.{FitBatches}
use Rattle.gq_keeper.specs.Runs.{Did, Runs, facts_of}
use Rattle.gq_keeper.specs.Plans.{are_facts, facts_in, first_plan, last_plan, begins_with_plan}
use Rattle.gq_keeper.specs.Starting.{facts_read, RecallsAll}
use Rattle.gq_keeper.specs.Crashes.{Leaves, LeavesSyncing}
use Rattle.gq_keeper.specs.Restarting.{Stands, Restarts, RestartsAsEither}
use Rattle.gq_keeper.specs.Durable.{AllSealed, kept_text}
use Rattle.gq_keeper.proofs.Planning.{batches_for, facts_in-append, first_plan-append, last_plan-append, begins_append, facts_in-for, last_plan-for, are_facts-append, open_facts}
use Rattle.gq_keeper.proofs.Journals.{grown_is, grown_fit, kept_is, fit_for}
use Rattle.gq_keeper.proofs.Crashing.{Found, found_whole, leaves_all, leaves_for}

-- what a machine owes
pub record Owes {M : Type 0} (steps : M → List ℕ → List (List ℕ) → List ℕ → M → Type 0) (recalls : M → List ℕ → M → Type 0) (readable : M → List ℕ → Bool) (blank : List Line → M → M → Type 0) (rests : M → M → Type 0) : Type 0 where
  pub gives_facts : (old : M) (line : List ℕ) (facts : List (List ℕ)) (told : List ℕ) (new : M) → steps old line facts told new → are_facts facts ≡ true
  pub gives_readable : (plan : List Line) (old : M) (line : List ℕ) (facts : List (List ℕ)) (told : List ℕ) (new other : M) → steps old line facts told new → blank plan old other → list_all (readable other) facts ≡ true
  pub keeps_blank : (plan : List Line) (old : M) (line : List ℕ) (facts : List (List ℕ)) (told : List ℕ) (new other : M) → steps old line facts told new → blank plan new other → blank plan old other
  pub keeps_rest : (old : M) (line : List ℕ) (facts : List (List ℕ)) (told : List ℕ) (new before after : M) → steps old line facts told new → rests old before → RecallsAll recalls before facts after → rests new after

pub recalls_split : {M : Type 0} (recalls : M → List ℕ → M → Type 0) (a c : M) (ls ks : List Line) → RecallsAll recalls a (ls ++ ks) c → (b : M) × RecallsAll recalls a ls b × RecallsAll recalls b ks c
recalls_split recalls a c [] ks x = (a, refl, x)
recalls_split recalls a c (l ∷ ls) ks x =
    let more = recalls_split recalls x.0 c ls ks x.2 in
    (more.0, (x.0, x.1, more.1), more.2)

pub stands_step : {M : Type 0} (steps : M → List ℕ → List (List ℕ) → List ℕ → M → Type 0) (recalls : M → List ℕ → M → Type 0) (readable : M → List ℕ → Bool) (blank : List Line → M → M → Type 0) (rests : M → M → Type 0) → Owes steps recalls readable blank rests →
    (plan : List Line) (old : M) (line : List ℕ) (facts : List (List ℕ)) (told : List ℕ) (new : M) (lines : List Line) → steps old line facts told new → Stands recalls readable (blank plan) rests old lines → Stands recalls readable (blank plan) rests new (lines ++ facts)
stands_step steps recalls readable blank rests owes plan old line facts told new lines step s = record {
  read = λ other begins.
      let blank_before = owes.keeps_blank plan old line facts told new other step begins in
      (rw (list_all-append (readable other) lines facts, s.read other blank_before, owes.gives_readable plan old line facts told new other step blank_before) refl);
  again = λ other last begins all.
      let parts = recalls_split recalls other last lines facts all in
      owes.keeps_rest old line facts told new parts.0 last step (s.again other parts.0 (owes.keeps_blank plan old line facts told new other step begins) parts.1) parts.2;
}

pub stands_runs : {M : Type 0} (steps : M → List ℕ → List (List ℕ) → List ℕ → M → Type 0) (recalls : M → List ℕ → M → Type 0) (readable : M → List ℕ → Bool) (blank : List Line → M → M → Type 0) (rests : M → M → Type 0) → Owes steps recalls readable blank rests →
    (plan : List Line) (first : M) (dids : List Did) (last : M) (lines : List Line) → Runs steps first dids last → Stands recalls readable (blank plan) rests first lines → Stands recalls readable (blank plan) rests last (lines ++ facts_of dids)
stands_runs steps recalls readable blank rests owes plan first [] last lines runs s = subst (λ m. Stands recalls readable (blank plan) rests m (lines ++ [])) runs (subst (Stands recalls readable (blank plan) rests first) (sym (append-nil lines)) s)
stands_runs steps recalls readable blank rests owes plan first (did ∷ dids) last lines runs s =
    subst (Stands recalls readable (blank plan) rests last) (append_assoc lines did.facts (facts_of dids))
    (stands_runs steps recalls readable blank rests owes plan runs.0 dids last (lines ++ did.facts) runs.2 (stands_step steps recalls readable blank rests owes plan first did.line did.facts did.told runs.0 lines runs.1 s))

pub runs_facts : {M : Type 0} (steps : M → List ℕ → List (List ℕ) → List ℕ → M → Type 0) (recalls : M → List ℕ → M → Type 0) (readable : M → List ℕ → Bool) (blank : List Line → M → M → Type 0) (rests : M → M → Type 0) → Owes steps recalls readable blank rests →
    (first : M) (dids : List Did) (last : M) → Runs steps first dids last → are_facts (facts_of dids) ≡ true
runs_facts steps recalls readable blank rests owes first [] last runs = refl
runs_facts steps recalls readable blank rests owes first (did ∷ dids) last runs =
    are_facts-append did.facts (facts_of dids) (owes.gives_facts first did.line did.facts did.told runs.0 runs.1) (runs_facts steps recalls readable blank rests owes runs.0 dids last runs.2)

-- ---- a journal that was found

pub restarts_of : {M : Type 0} (recalls : M → List ℕ → M → Type 0) (readable : M → List ℕ → Bool) (blank : List Line → M → M → Type 0) (rests : M → M → Type 0) (plan : List Line) (machine : M) (batches : List (List Line)) (journal : List ℕ) →
    Stands recalls readable (blank (first_plan batches)) rests machine (facts_in batches) → begins_with_plan batches ≡ true → last_plan [] batches ≡ plan → Found batches journal → Restarts recalls readable blank rests plan machine journal
restarts_of recalls readable blank rests plan machine batches journal s begins last f = record {
  stands = subst (λ b. Stands recalls readable (blank (first_plan b)) rests machine (facts_in b)) (sym f.read) s;
  begins = ap begins_with_plan f.read ∙ begins;
  last = ap (last_plan []) f.read ∙ last;
  mends = f.mends;
}

pub restarts_found : {M : Type 0} (recalls : M → List ℕ → M → Type 0) (readable : M → List ℕ → Bool) (blank : List Line → M → M → Type 0) (rests : M → M → Type 0) (plan : List Line) (machine : M) (synced journal : List ℕ) →
    Restarts recalls readable blank rests plan machine synced → Found (batches_of synced) journal → Restarts recalls readable blank rests plan machine journal
restarts_found recalls readable blank rests plan machine synced journal r f = restarts_of recalls readable blank rests plan machine (batches_of synced) journal r.stands r.begins r.last f

pub restarts_more : {M : Type 0} (steps : M → List ℕ → List (List ℕ) → List ℕ → M → Type 0) (recalls : M → List ℕ → M → Type 0) (readable : M → List ℕ → Bool) (blank : List Line → M → M → Type 0) (rests : M → M → Type 0) → Owes steps recalls readable blank rests →
    (plan : List Line) (first last : M) (dids : List Did) (synced journal : List ℕ) → Restarts recalls readable blank rests plan first synced → Runs steps first dids last →
    Found (batches_of synced ++ batches_for (facts_of dids)) journal → Restarts recalls readable blank rests plan last journal
restarts_more steps recalls readable blank rests owes plan first last dids synced journal r runs f =
    restarts_of recalls readable blank rests plan last (batches_of synced ++ batches_for (facts_of dids)) journal
    (subst (λ p. Stands recalls readable (blank p) rests last (facts_in (batches_of synced ++ batches_for (facts_of dids)))) (sym (first_plan-append (batches_of synced) (batches_for (facts_of dids)) r.begins))
    (subst (Stands recalls readable (blank (first_plan (batches_of synced))) rests last) (sym all) (stands_runs steps recalls readable blank rests owes (first_plan (batches_of synced)) first dids last (facts_read synced) runs r.stands)))
    (begins_append (batches_of synced) (batches_for (facts_of dids)) r.begins)
    (last_plan-append [] (batches_of synced) (batches_for (facts_of dids)) ∙ last_plan-for (last_plan [] (batches_of synced)) (facts_of dids) are ∙ r.last)
    f
  where
    are : are_facts (facts_of dids) ≡ true
    are = runs_facts steps recalls readable blank rests owes first dids last runs

    all : facts_in (batches_of synced ++ batches_for (facts_of dids)) ≡ facts_read synced ++ facts_of dids
    all = facts_in-append (batches_of synced) (batches_for (facts_of dids)) ∙ ap (λ x. facts_read synced ++ x) (facts_in-for (facts_of dids) are)

-- a sealed journal is left as it was
pub sealed_left : (seen synced : List ℕ) (number : ℕ) (left : List ℕ) → AllSealed seen synced number → Leaves synced seen left → Found (batches_of synced) left
sealed_left seen synced number left s l =
    found_whole (batches_of synced) left s.fit (leaves_all synced left (subst (λ x. Leaves synced x left) s.all l) ∙ s.whole)

-- while a batch of a read's facts is kept, the machine before it is left, or the one behind it
pub turn_left : {M : Type 0} (steps : M → List ℕ → List (List ℕ) → List ℕ → M → Type 0) (recalls : M → List ℕ → M → Type 0) (readable : M → List ℕ → Bool) (blank : List Line → M → M → Type 0) (rests : M → M → Type 0) → Owes steps recalls readable blank rests →
    (plan : List Line) (first last : M) (dids : List Did) (seen synced : List ℕ) (number : ℕ) (text left : List ℕ) → AllSealed seen synced number → Restarts recalls readable blank rests plan first synced → Runs steps first dids last →
    text ≡ lines_text (facts_of dids) → number < 2 ^ 64 → length text < 2 ^ 64 → LeavesSyncing synced (synced ++ kept_text number text) left → RestartsAsEither steps recalls readable blank rests plan first last left
turn_left steps recalls readable blank rests owes plan first last dids seen synced number text left s r runs is fits short l = ⊎_elim appending whole l
  where
    F : List Line
    F = facts_of dids

    bs : List (List Line)
    bs = batches_of synced

    are : are_batch_lines (facts_of dids) ≡ true
    are = open_facts (facts_of dids) (runs_facts steps recalls readable blank rests owes first dids last runs)

    own : FitBatches (1 + length (batches_of synced)) (batches_for (facts_of dids))
    own = subst (λ n. FitBatches n (batches_for (facts_of dids))) s.next (fit_for number (facts_of dids) fits (subst (λ x. length x < 2 ^ 64) is short) are)

    tail : synced ++ kept_text number text ≡ journal_text 1 (batches_of synced) ++ journal_text (1 + length (batches_of synced)) (batches_for (facts_of dids))
    tail = ap (λ x. synced ++ kept_text number x) is ∙ ap (λ x. synced ++ x) (kept_is number (facts_of dids)) ∙ ap (λ n. synced ++ journal_text n (batches_for (facts_of dids))) s.next ∙ ap (λ x. x ++ journal_text (1 + length (batches_of synced)) (batches_for (facts_of dids))) s.whole

    found : Found (batches_of synced) left ⊎ Found (batches_of synced ++ batches_for (facts_of dids)) left → RestartsAsEither steps recalls readable blank rests plan first last left
    found f = ⊎_elim (λ old. inl (restarts_found recalls readable blank rests plan first synced left r old)) (λ new. inr (dids, runs, restarts_more steps recalls readable blank rests owes plan first last dids synced left r runs new)) f

    appending : Leaves synced (synced ++ kept_text number text) left → RestartsAsEither steps recalls readable blank rests plan first last left
    appending a = found (leaves_for (batches_of synced) (facts_of dids) left s.fit own (subst (λ x. Leaves x (journal_text 1 (batches_of synced) ++ journal_text (1 + length (batches_of synced)) (batches_for (facts_of dids))) left) s.whole (subst (λ x. Leaves synced x left) tail a)))

    whole : Leaves (synced ++ kept_text number text) (synced ++ kept_text number text) left → RestartsAsEither steps recalls readable blank rests plan first last left
    whole a = found (inr (found_whole (batches_of synced ++ batches_for (facts_of dids)) left (grown_fit seen synced number (facts_of dids) text s is fits short are)
        (leaves_all (synced ++ kept_text number text) left a ∙ grown_is seen synced number (facts_of dids) text s is)))
