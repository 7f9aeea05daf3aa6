-- What a crash leaves of a node's journal.
use Rattle.std.proofs.Common.{◌≡◌, ◌⊎◌, ℕ, List, [], Bool, true, false, refl, sym, ◌∙◌, subst, inl, inr, ⊎_elim, arith}
use Rattle.std.specs.Prelude.{Ok}
use Rattle.std.proofs.lemmas.Bool.{cases_Bool}
use Rattle.gq_journal.specs.Batches.{Line, whole_lines, batches_of}
use Rattle.gq_keeper.specs.Plans.{is_of}
use Rattle.gq_setup.specs.GoingOn.{goes_on_from_read}
use Rattle.gq_keeper.specs.Crashes.{Elapses, Leaves, LeavesSyncing}
use Rattle.gq_keeper.specs.Restarting.{ReadsAs, Restarts, RestartsAsOne}
use Rattle.gq_keeper.proofs.Crashing.{leaves_all}
use Rattle.gq_keeper.proofs.Instants.{elapses_only, elapses_then}
use Rattle.gq_setup.specs.Setups.{Setup}
use Rattle.gq_setup.specs.Texts.{node_text, setup_of_node_text}
use Rattle.gq_keeper.specs.LeavingOut.{facts_but}
use Rattle.gq_keeper.specs.Starting.{RecallsAll}
use Rattle.gq_service.specs.Gone.{facts_left, facts_taken, first_taken, is_of_gone, somebody_went}
use Rattle.gq_service.specs.Kinds.{Kind}
use Rattle.gq_service.specs.Serving.{GoesOnAs, IsStarted, MayBeLeft, RestartsFrom, is_its_journal, journal_found}
use Rattle.gq_service.proofs.NewNodes.{begun_found}

-- a node that begins its journal
pub begun_is_started : {M : Type 0} (k : Kind M) (setup : Setup) (number : ℕ) (is_new : Bool) (machine : M) (seen : List ℕ) → is_new ≡ true → k.is_new setup number (Ok setup) machine → IsStarted k setup number (journal_found is_new seen) machine
begun_is_started k setup number is_new machine seen is new = subst (λ b. IsStarted k setup number (journal_found b seen) machine) (sym is) (record { new = machine; is_new = new; reads = none_taken (somebody_went setup []) })
  where
    -- an empty journal has no fact
    none_taken : (went : Bool) → RecallsAll k.recalls machine (facts_left went setup []) machine
    none_taken true = refl
    none_taken false = refl

pub left_beginning : {M : Type 0} (k : Kind M) (setup : Setup) (number : ℕ) (is_new : Bool) (machine : M) (text synced seen left : List ℕ) → is_new ≡ true → k.is_new setup number (Ok setup) machine → text ≡ node_text number setup →
    Leaves synced seen left ⊎ Restarts k.recalls k.readable k.blank k.rests (whole_lines text) machine left → MayBeLeft k setup number is_new synced seen left
left_beginning k setup number is_new machine text synced seen left is new same l = ⊎_elim (λ old. inl old) (λ r. inr (inr (record {
  first = machine;
  started = begun_is_started k setup number is_new machine seen is new;
  restarts = (machine, [], refl, subst (λ (t : List ℕ). Restarts k.recalls k.readable k.blank k.rests (whole_lines t) machine left) same r);
}))) l

-- a node that goes on from the journal that is found
pub found_is_started : {M : Type 0} (k : Kind M) (setup : Setup) (number : ℕ) (is_new : Bool) (new machine : M) (seen : List ℕ) → is_new ≡ false → is_its_journal setup number seen ≡ true → k.is_new setup number (first_taken setup seen) new →
    RecallsAll k.recalls new (facts_taken setup seen) machine → IsStarted k setup number (journal_found is_new seen) machine
found_is_started k setup number is_new new machine seen is its found reads = subst (λ b. IsStarted k setup number (journal_found b seen) machine) (sym is) (record {
  new = new;
  is_new = subst (λ reading. k.is_new setup number reading new) (sym (begun_found setup number seen its)) found;
  reads = reads;
})

pub left_going_on : {M : Type 0} (k : Kind M) (setup : Setup) (number : ℕ) (is_new went : Bool) (synced seen left : List ℕ) → is_new ≡ false → went ≡ somebody_went setup seen →
    GoesOnAs went setup number seen left ⊎ RestartsFrom k setup number seen left → MayBeLeft k setup number is_new synced seen left
left_going_on k setup number is_new went synced seen left is same l = ⊎_elim
    (λ on. inr (inl (is, subst (λ b. GoesOnAs b setup number seen left) same on)))
    (λ anew. inr (inr (subst (λ b. RestartsFrom k setup number (journal_found b seen) left) (sym is) anew))) l

-- a start that leaves nothing out
pub left_reading_all : {M : Type 0} (k : Kind M) (setup : Setup) (number : ℕ) (went : Bool) (text seen left : List ℕ) → went ≡ false → text ≡ node_text number setup → ReadsAs (whole_lines text) seen left → GoesOnAs went setup number seen left ⊎ RestartsFrom k setup number seen left
left_reading_all k setup number went text seen left is same r = inl (subst (λ b. GoesOnAs b setup number seen left) (sym is) (subst (λ (t : List ℕ). ReadsAs (whole_lines t) seen left) same r))

-- a start that leaves out those who went leaves the journal that is found, or one without them
pub left_reading_some : {M : Type 0} (k : Kind M) (setup told : Setup) (number : ℕ) (went : Bool) (new machine : M) (text synced seen left : List ℕ) → told ≡ setup → went ≡ true → went ≡ somebody_went setup seen → synced ≡ seen → text ≡ node_text number setup →
    k.is_new setup number (first_taken setup seen) new →
    Leaves synced seen left ⊎ (RecallsAll k.recalls new (facts_but (is_of_gone told.gone) seen) machine × (is_of (λ last. goes_on_from_read (setup_of_node_text last) setup) text (batches_of seen) ≡ true) × Restarts k.recalls k.readable k.blank k.rests (whole_lines text) machine left) →
    GoesOnAs went setup number seen left ⊎ RestartsFrom k setup number seen left
left_reading_some k setup told number went new machine text synced seen left says is same sure its found l = ⊎_elim
    (λ old. inl (subst (λ b. GoesOnAs b setup number seen left) (sym is) (leaves_all seen left (subst (λ (s : List ℕ). Leaves s seen left) sure old))))
    (λ anew. inr (record {
      first = machine;
      started = found_is_started k setup number false new machine seen refl (subst (λ (t : List ℕ). is_of (λ last. goes_on_from_read (setup_of_node_text last) setup) t (batches_of seen) ≡ true) its anew.1) found
          (subst (λ b. RecallsAll k.recalls new (facts_left b setup seen) machine) (sym is ∙ same) (subst (λ (s : Setup). RecallsAll k.recalls new (facts_but (is_of_gone s.gone) seen) machine) says anew.0));
      restarts = (machine, [], refl, subst (λ (t : List ℕ). Restarts k.recalls k.readable k.blank k.rests (whole_lines t) machine left) its anew.2);
    })) l

pub left_serving : {M : Type 0} (k : Kind M) (setup : Setup) (number : ℕ) (is_new : Bool) (first : M) (text synced seen left : List ℕ) → IsStarted k setup number (journal_found is_new seen) first → text ≡ node_text number setup →
    RestartsAsOne k.steps k.recalls k.readable k.blank k.rests (whole_lines text) first left → MayBeLeft k setup number is_new synced seen left
left_serving k setup number is_new first text synced seen left started same r = inr (inr (record {
  first = first;
  started = started;
  restarts = subst (λ (t : List ℕ). RestartsAsOne k.steps k.recalls k.readable k.blank k.rests (whole_lines t) first left) same r;
}))

-- a journal that was made sure of is left whole
reads_as_itself : (plan : List Line) (seen left : List ℕ) → left ≡ seen → ReadsAs plan seen left
reads_as_itself plan seen left same = subst (λ (t : List ℕ). ReadsAs plan seen t) (sym same) (record { facts = refl; begins = refl; first = refl; last = inl refl; mends = refl })

left_whole : (went : Bool) (setup : Setup) (number : ℕ) (seen left : List ℕ) → Leaves seen seen left → GoesOnAs went setup number seen left
left_whole true setup number seen left l = leaves_all seen left l
left_whole false setup number seen left l = reads_as_itself (whole_lines (node_text number setup)) seen left (leaves_all seen left l)

-- so is one that is written anew, until the new one is there
pub left_anew : {M : Type 0} (k : Kind M) (machine : M) (plan : List Line) (synced seen left : List ℕ) → seen ≡ synced → Restarts k.recalls k.readable k.blank k.rests plan machine synced →
    Leaves synced seen left ⊎ Restarts k.recalls k.readable k.blank k.rests plan machine left → Restarts k.recalls k.readable k.blank k.rests plan machine left
left_anew k machine plan synced seen left all restarts l =
    ⊎_elim (λ old. subst (λ (t : List ℕ). Restarts k.recalls k.readable k.blank k.rests plan machine t) (sym (leaves_all synced left (subst (λ (t : List ℕ). Leaves synced t left) all old))) restarts) (λ r. r) l

left_reading : {M : Type 0} (k : Kind M) (setup : Setup) (number : ℕ) (is_new : Bool) (synced seen left : List ℕ) → (is_new ≡ false) × LeavesSyncing synced seen left → MayBeLeft k setup number is_new synced seen left
left_reading k setup number is_new synced seen left l = ⊎_elim (λ old. inl old) (λ whole. inr (inl (l.0, left_whole (somebody_went setup seen) setup number seen left whole))) l.1

-- what may be left behind a read may be left before it
left_behind : {M : Type 0} (k : Kind M) (setup : Setup) (number : ℕ) (is_new : Bool) (synced seen synced_then seen_then left : List ℕ) → seen_then ≡ seen → (is_new ≡ true → synced_then ≡ synced) → (is_new ≡ false → synced_then ≡ seen_then) →
    MayBeLeft k setup number is_new synced_then seen_then left → MayBeLeft k setup number is_new synced seen left
left_behind k setup number is_new synced seen synced_then seen_then left same alone sure l =
    ⊎_elim
    (λ old. elim (cases_Bool is_new) [
      | inl is ↦ inl (subst (λ (s : List ℕ). Leaves s seen left) (alone is) (subst (λ (t : List ℕ). Leaves synced_then t left) same old))
      | inr is ↦ inr (inl (is, left_whole (somebody_went setup seen) setup number seen left (subst (λ (s : List ℕ). Leaves s seen left) (sure is ∙ same) (subst (λ (t : List ℕ). Leaves synced_then t left) same old))))
    ])
    (λ more. subst (λ (t : List ℕ). MayBeLeft k setup number is_new synced t left) same (inr more)) l

-- ---- one call behind another

pub elapses_reading : {M : Type 0} (k : Kind M) (setup : Setup) (number : ℕ) (is_new : Bool) (a b : ℕ) (since_a since_b : ℕ → List ℕ → Type 0) (synced seen : List ℕ) →
    Elapses a b since_a since_b (λ left. (is_new ≡ false) × LeavesSyncing synced seen left) → Elapses a b since_a since_b (MayBeLeft k setup number is_new synced seen)
elapses_reading k setup number is_new a b since_a since_b synced seen e = elapses_only a b since_a since_b _ (MayBeLeft k setup number is_new synced seen) e (λ left l. left_reading k setup number is_new synced seen left l)

pub elapses_beginning : {M : Type 0} (k : Kind M) (setup : Setup) (number : ℕ) (is_new : Bool) (a b c : ℕ) (since_a since_b since_c : ℕ → List ℕ → Type 0) (synced seen synced_then seen_then : List ℕ) →
    seen_then ≡ seen → (is_new ≡ true → synced_then ≡ synced) → (is_new ≡ false → synced_then ≡ seen_then) →
    Elapses a b since_a since_b (λ left. (is_new ≡ false) × LeavesSyncing synced seen left) → Elapses b c since_b since_c (MayBeLeft k setup number is_new synced_then seen_then) → Elapses a c since_a since_c (MayBeLeft k setup number is_new synced seen)
elapses_beginning k setup number is_new a b c since_a since_b since_c synced seen synced_then seen_then same alone sure read begun =
    elapses_then a b c since_a since_b since_c _ _ (MayBeLeft k setup number is_new synced seen) read begun (λ left l. left_reading k setup number is_new synced seen left l) (λ left l. left_behind k setup number is_new synced seen synced_then seen_then left same alone sure l)

pub elapses_serving : {M : Type 0} (k : Kind M) (setup : Setup) (number : ℕ) (is_new : Bool) (a b c : ℕ) (since_a since_b since_c : ℕ → List ℕ → Type 0) (synced seen : List ℕ) (first : M) (text : List ℕ) →
    IsStarted k setup number (journal_found is_new seen) first → text ≡ node_text number setup →
    Elapses a b since_a since_b (MayBeLeft k setup number is_new synced seen) → Elapses b c since_b since_c (RestartsAsOne k.steps k.recalls k.readable k.blank k.rests (whole_lines text) first) → Elapses a c since_a since_c (MayBeLeft k setup number is_new synced seen)
elapses_serving k setup number is_new a b c since_a since_b since_c synced seen first text started is begun served =
    elapses_then a b c since_a since_b since_c _ _ (MayBeLeft k setup number is_new synced seen) begun served (λ left l. l) (λ left r. left_serving k setup number is_new first text synced seen left started is r)

pub elapses_anew : {M : Type 0} (k : Kind M) (setup : Setup) (number : ℕ) (is_new : Bool) (a b c : ℕ) (since_a since_b since_c : ℕ → List ℕ → Type 0) (synced seen : List ℕ) (first : M) (text : List ℕ) →
    IsStarted k setup number (journal_found is_new seen) first → text ≡ node_text number setup →
    Elapses a b since_a since_b (MayBeLeft k setup number is_new synced seen) → Elapses b c since_b since_c (Restarts k.recalls k.readable k.blank k.rests (whole_lines text) first) → Elapses a c since_a since_c (MayBeLeft k setup number is_new synced seen)
elapses_anew k setup number is_new a b c since_a since_b since_c synced seen first text started is begun anew =
    elapses_serving k setup number is_new a b c since_a since_b since_c synced seen first text started is begun (elapses_only b c since_b since_c _ (RestartsAsOne k.steps k.recalls k.readable k.blank k.rests (whole_lines text) first) anew (λ left r. (first, [], refl, r)))

-- ---- at any time

pub at_any : {M : Type 0} (k : Kind M) (setup : Setup) (number : ℕ) (is_new : Bool) (before now : ℕ) (past since : ℕ → List ℕ → Type 0) (synced seen : List ℕ) →
    Elapses before now past since (MayBeLeft k setup number is_new synced seen) → ((left : List ℕ) → past before left → Leaves synced seen left) →
    (left : List ℕ) → since before left → MayBeLeft k setup number is_new synced seen left
at_any k setup number is_new before now past since synced seen e only left may = ⊎_elim (λ old. inl (only left old)) (λ during. during) (e.nothing_else before left (omega arith) may)
