-- A journal that is written anew.
use Rattle.std.proofs.Common.{◌≡◌, ◌⊎◌, ℕ, ◌+◌, ◌^◌, ◌<◌, Bool, List, [], ◌∷◌, ◌++◌, length, take, drop, true, refl, sym, ap, ◌∙◌, subst, arith, inl, inr, ⊎_elim}
use Rattle.std.proofs.Math.Seq.{take-append_seam, drop-append_seam}
use Rattle.std.proofs.lemmas.List.{length-append}
use Rattle.gq_journal.specs.Batches.{Line, lines_text, whole_lines, ended_line, seal, batch_text, journal_text, CanBeSealed, are_batch_lines}
use Rattle.gq_journal.specs.Laws.{FitBatches}
use Rattle.gq_keeper.specs.Plans.{IsPlan, is_plan, facts_in, last_plan}
use Rattle.gq_keeper.specs.Crashes.{Leaves, LeavesReplacing}
use Rattle.gq_keeper.specs.Restarting.{Needs, Stands, Restarts}
use Rattle.gq_keeper.specs.Durable.{AllSealed, IsAnew, kept_text, number_after, new_text}
use Rattle.gq_keeper.proofs.Planning.{batches_for, open_facts, facts_in-for, last_plan-for}
use Rattle.gq_keeper.proofs.Journals.{sealed_of, kept_is, next_is, fit_for}
use Rattle.gq_keeper.proofs.Crashing.{found_whole}
use Rattle.gq_keeper.proofs.Restarts.{restarts_of, restarts_found, sealed_left}

batch_is : (n : ℕ) (body : List ℕ) → CanBeSealed body → batch_text n (whole_lines body) ≡ body ++ ended_line (seal n body)
batch_is n body b = ap (λ x. x ++ ended_line (seal n x)) b.is

anew_is : (plan text : List ℕ) (facts : List Line) → IsPlan plan → text ≡ lines_text facts → new_text plan text ≡ journal_text 1 (whole_lines plan ∷ batches_for facts)
anew_is plan text facts p is =
    ap (λ t. (plan ++ ended_line (seal 1 plan)) ++ kept_text 2 t) is ∙ ap (λ t. (plan ++ ended_line (seal 1 plan)) ++ t) (kept_is 2 facts)
    ∙ ap (λ b. b ++ journal_text 2 (batches_for facts)) (sym (batch_is 1 plan p.batch))

anew_fit : (plan text : List ℕ) (facts : List Line) → IsPlan plan → text ≡ lines_text facts → length plan < 2 ^ 64 → length text < 2 ^ 64 → are_batch_lines facts ≡ true → FitBatches 1 (whole_lines plan ∷ batches_for facts)
anew_fit plan text facts p is short small are =
    ((omega arith, subst (λ x. length x < 2 ^ 64) (sym p.batch.is) short, p.batch.fit), fit_for 2 facts (omega arith) (subst (λ x. length x < 2 ^ 64) is small) are)

facts_then : (plan : List Line) (batches : List (List Line)) → is_plan plan ≡ true → facts_in (plan ∷ batches) ≡ facts_in batches
facts_then plan batches is = rw is refl

last_then : (plan : List Line) (batches : List (List Line)) → is_plan plan ≡ true → last_plan [] (plan ∷ batches) ≡ last_plan plan batches
last_then plan batches is = rw is refl

pub anew_sealed : {M : Type 0} (recalls : M → List ℕ → M → Type 0) (readable : M → List ℕ → Bool) (blank : List Line → M → M → Type 0) (rests : M → M → Type 0) (machine : M) (plan text seen synced : List ℕ) (next : ℕ) → IsAnew recalls readable blank rests machine plan text next → IsPlan plan → length plan < 2 ^ 64 →
    seen ≡ text → synced ≡ text → AllSealed seen synced next
anew_sealed recalls readable blank rests machine plan text seen synced next n p short a b =
    sealed_of (whole_lines plan ∷ batches_for n.lines) seen synced next (a ∙ sym b) (b ∙ n.is ∙ anew_is plan (lines_text n.lines) n.lines p refl) (anew_fit plan (lines_text n.lines) n.lines p refl short n.short (open_facts n.lines n.facts))
    (n.number ∙ next_is 2 n.lines ∙ (let e : 2 + length (batches_for n.lines) ≡ 1 + length (whole_lines plan ∷ batches_for n.lines) = omega arith in e))

pub anew_restarts : {M : Type 0} (recalls : M → List ℕ → M → Type 0) (readable : M → List ℕ → Bool) (blank : List Line → M → M → Type 0) (rests : M → M → Type 0) (machine : M) (plan text journal : List ℕ) (next : ℕ) → IsAnew recalls readable blank rests machine plan text next → IsPlan plan → length plan < 2 ^ 64 →
    journal ≡ text → Restarts recalls readable blank rests (whole_lines plan) machine journal
anew_restarts recalls readable blank rests machine plan text journal next n p short is =
    restarts_of recalls readable blank rests (whole_lines plan) machine (whole_lines plan ∷ batches_for n.lines) journal
    (subst (Stands recalls readable (blank (whole_lines plan)) rests machine) (sym (facts_then (whole_lines plan) (batches_for n.lines) p.plan ∙ facts_in-for n.lines n.facts)) n.stands)
    p.plan
    (last_then (whole_lines plan) (batches_for n.lines) p.plan ∙ last_plan-for (whole_lines plan) n.lines n.facts)
    (found_whole (whole_lines plan ∷ batches_for n.lines) journal (anew_fit plan (lines_text n.lines) n.lines p refl short n.short (open_facts n.lines n.facts)) (is ∙ n.is ∙ anew_is plan (lines_text n.lines) n.lines p refl))

-- while a journal is written anew, the old one is left or the new one
pub anew_left : {M : Type 0} (recalls : M → List ℕ → M → Type 0) (readable : M → List ℕ → Bool) (blank : List Line → M → M → Type 0) (rests : M → M → Type 0) (machine : M) (plan text synced seen left : List ℕ) (next : ℕ) → IsAnew recalls readable blank rests machine plan text next → IsPlan plan → length plan < 2 ^ 64 →
    LeavesReplacing synced seen text left → Leaves synced seen left ⊎ Restarts recalls readable blank rests (whole_lines plan) machine left
anew_left recalls readable blank rests machine plan text synced seen left next n p short l =
    ⊎_elim (λ old. inl old) (λ new. inr (anew_restarts recalls readable blank rests machine plan text left next n p short new)) l

-- so a start reads the machine, where it read it before
pub due_left : {M : Type 0} (recalls : M → List ℕ → M → Type 0) (readable : M → List ℕ → Bool) (blank : List Line → M → M → Type 0) (rests : M → M → Type 0) (machine : M) (plan : List Line) (synced seen left : List ℕ) (number : ℕ) → AllSealed seen synced number → Restarts recalls readable blank rests plan machine synced →
    Leaves synced seen left ⊎ Restarts recalls readable blank rests plan machine left → Restarts recalls readable blank rests plan machine left
due_left recalls readable blank rests machine plan synced seen left number s r l =
    ⊎_elim (λ old. restarts_found recalls readable blank rests plan machine synced left r (sealed_left seen synced number left s old)) (λ new. new) l

-- what was appended behind the plan is sealed there
pub anew_of : {M : Type 0} (recalls : M → List ℕ → M → Type 0) (readable : M → List ℕ → Bool) (blank : List Line → M → M → Type 0) (rests : M → M → Type 0) (machine : M) (plan front behind text : List ℕ) (at next : ℕ) → front ≡ plan ++ ended_line (seal 1 plan) → at ≡ length front →
    Needs recalls readable (blank (whole_lines plan)) rests machine front behind → length behind < 2 ^ 64 → text ≡ take at behind ++ kept_text 2 (drop at behind) → next ≡ number_after 2 (drop at behind) → IsAnew recalls readable blank rests machine plan text next
anew_of recalls readable blank rests machine plan front behind text at next is here n small sealed number =
    let head : take at behind ≡ front = ap (λ k. take k behind) here ∙ ap (take (length front)) n.text ∙ take-append_seam front (lines_text n.lines) in
    let rest : drop at behind ≡ lines_text n.lines = ap (λ k. drop k behind) here ∙ ap (drop (length front)) n.text ∙ drop-append_seam front (lines_text n.lines) in
    let long : length behind ≡ length front + length (lines_text n.lines) = ap length n.text ∙ length-append front (lines_text n.lines) in
    record {
      lines = n.lines;
      facts = n.facts;
      stands = n.stands;
      short = omega (arith, small, long);
      is = sealed ∙ ap (λ x. x ++ kept_text 2 (drop at behind)) (head ∙ is) ∙ ap (λ x. (plan ++ ended_line (seal 1 plan)) ++ kept_text 2 x) rest;
      number = number ∙ ap (number_after 2) rest;
    }
