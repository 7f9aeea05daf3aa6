-- What is durable over turns.
use Rattle.std.proofs.Common.{◌≡◌, ℕ, ◌^◌, ◌<◌, Bool, List, [], ◌∷◌, ◌++◌, length, refl, sym, ap, ◌∙◌, subst, append_assoc, append-nil}
use Rattle.std.proofs.lemmas.List.{append_cancel_left}
use Rattle.gq_journal.specs.Batches.{Line, batches_of}
use Rattle.gq_keeper.specs.Lines.{most_held, short_lines}
use Rattle.gq_keeper.specs.Runs.{StopsAt, lines_of, facts_of, told_of, Took}
use Rattle.gq_keeper.specs.Restarting.{Restarts}
use Rattle.gq_keeper.specs.Durable.{AllSealed, Durable, Grows, TakenAtOnce, TakenBefore, kept_text}
use Rattle.gq_keeper.proofs.Planning.{batches_for, open_facts}
use Rattle.gq_keeper.proofs.Running.{runs_append, lines_append, told_append, took_front, took_apart}
use Rattle.gq_keeper.proofs.Journals.{grown_is, grown_fit}
use Rattle.gq_keeper.proofs.Crashing.{found_whole}
use Rattle.gq_keeper.proofs.Restarts.{Owes, runs_facts, restarts_more}

-- lines that are kept and shown at once
pub taken_at_once : {M : Type 0} (longest most : ℕ) (steps : M → List ℕ → List (List ℕ) → List ℕ → M → Type 0) (recalls : M → List ℕ → M → Type 0) (readable : M → List ℕ → Bool) (blank : List Line → M → M → Type 0) (rests : M → M → Type 0) → Owes steps recalls readable blank rests →
    (plan : List Line) (first last : M) (seen synced : List ℕ) (number : ℕ) (base text rest facts told synced_now shown_now : List ℕ) → AllSealed seen synced number → Restarts recalls readable blank rests plan first synced →
    Took longest most steps first text rest facts told last → most ≡ most_held longest → number < 2 ^ 64 → length facts < 2 ^ 64 → synced_now ≡ synced ++ kept_text number facts → shown_now ≡ base ++ told →
    TakenAtOnce longest steps recalls readable blank rests first last plan text rest base synced_now shown_now
taken_at_once longest most steps recalls readable blank rests owes plan first last seen synced number base text rest facts told synced_now shown_now s r t held fits short kept shown = record {
  taken = record {
    front = t.front;
    cut = t.cut;
    apart = took_apart longest most steps first last text rest facts told t;
    durable = record {
      dids = t.dids;
      runs = t.runs;
      took = took_front longest most steps first last text rest facts told t;
      told = shown ∙ ap (λ x. base ++ x) t.told;
      restarts = restarts_more steps recalls readable blank rests owes plan first last t.dids synced synced_now r t.runs
          (found_whole (batches_of synced ++ batches_for (facts_of t.dids)) synced_now
          (grown_fit seen synced number (facts_of t.dids) facts s t.facts fits short (open_facts (facts_of t.dids) (runs_facts steps recalls readable blank rests owes first t.dids last t.runs)))
          (kept ∙ grown_is seen synced number (facts_of t.dids) facts s t.facts));
    };
  };
  few = subst (λ m. StopsAt m t.dids) held t.few;
}

pub durable_none : {M : Type 0} (steps : M → List ℕ → List (List ℕ) → List ℕ → M → Type 0) (recalls : M → List ℕ → M → Type 0) (readable : M → List ℕ → Bool) (blank : List Line → M → M → Type 0) (rests : M → M → Type 0) (machine : M) (plan : List Line) (base synced : List ℕ) →
    Restarts recalls readable blank rests plan machine synced → Durable steps recalls readable blank rests machine machine plan [] base synced base
durable_none steps recalls readable blank rests machine plan base synced r = record { dids = []; runs = refl; took = refl; told = sym (append-nil base); restarts = r }

pub durable_then : {M : Type 0} (steps : M → List ℕ → List (List ℕ) → List ℕ → M → Type 0) (recalls : M → List ℕ → M → Type 0) (readable : M → List ℕ → Bool) (blank : List Line → M → M → Type 0) (rests : M → M → Type 0) (a b c : M) (plan l1 l2 : List Line) (base s1 o1 s2 o2 : List ℕ) →
    Durable steps recalls readable blank rests a b plan l1 base s1 o1 → Durable steps recalls readable blank rests b c plan l2 o1 s2 o2 → Durable steps recalls readable blank rests a c plan (l1 ++ l2) base s2 o2
durable_then steps recalls readable blank rests a b c plan l1 l2 base s1 o1 s2 o2 x y = record {
  dids = x.dids ++ y.dids;
  runs = runs_append steps a b c x.dids y.dids x.runs y.runs;
  took = lines_append x.dids y.dids ∙ ap (λ t. t ++ lines_of y.dids) x.took ∙ ap (λ t. l1 ++ t) y.took;
  told = y.told ∙ ap (λ t. t ++ told_of y.dids) x.told ∙ append_assoc base (told_of x.dids) (told_of y.dids) ∙ ap (λ t. base ++ t) (sym (told_append x.dids y.dids));
  restarts = y.restarts;
}

-- a journal that is written anew
pub durable_renewed : {M : Type 0} (steps : M → List ℕ → List (List ℕ) → List ℕ → M → Type 0) (recalls : M → List ℕ → M → Type 0) (readable : M → List ℕ → Bool) (blank : List Line → M → M → Type 0) (rests : M → M → Type 0) (first last : M) (plan lines : List Line) (base synced shown new : List ℕ) →
    Durable steps recalls readable blank rests first last plan lines base synced shown → Restarts recalls readable blank rests plan last new → Durable steps recalls readable blank rests first last plan lines base new shown
durable_renewed steps recalls readable blank rests first last plan lines base synced shown new d r = record { dids = d.dids; runs = d.runs; took = d.took; told = d.told; restarts = r }

-- ---- one batch behind another

pub taken_none : {M : Type 0} (longest : ℕ) (steps : M → List ℕ → List (List ℕ) → List ℕ → M → Type 0) (recalls : M → List ℕ → M → Type 0) (readable : M → List ℕ → Bool) (blank : List Line → M → M → Type 0) (rests : M → M → Type 0) (machine : M) (plan : List Line) (text base synced : List ℕ) →
    Restarts recalls readable blank rests plan machine synced → TakenBefore longest steps recalls readable blank rests machine machine plan text text base synced base
taken_none longest steps recalls readable blank rests machine plan text base synced r = record {
  front = [];
  cut = refl;
  apart = λ more. refl;
  durable = durable_none steps recalls readable blank rests machine plan base synced r;
}

-- what is durable of lines behind those that were taken is so of both
pub durable_behind : {M : Type 0} (longest : ℕ) (steps : M → List ℕ → List (List ℕ) → List ℕ → M → Type 0) (recalls : M → List ℕ → M → Type 0) (readable : M → List ℕ → Bool) (blank : List Line → M → M → Type 0) (rests : M → M → Type 0) (a b c : M) (plan own : List Line) (text rest front base s1 o1 s2 o2 : List ℕ) →
    (x : TakenBefore longest steps recalls readable blank rests a b plan text rest base s1 o1) → own ≡ plan → Durable steps recalls readable blank rests b c own (short_lines longest front) o1 s2 o2 →
    Durable steps recalls readable blank rests a c plan (short_lines longest (x.front ++ front)) base s2 o2
durable_behind longest steps recalls readable blank rests a b c plan own text rest front base s1 o1 s2 o2 x same d =
    subst (λ ls. Durable steps recalls readable blank rests a c plan ls base s2 o2) (sym (x.apart front))
    (durable_then steps recalls readable blank rests a b c plan (short_lines longest x.front) (short_lines longest front) base s1 o1 s2 o2 x.durable
    (subst (λ p. Durable steps recalls readable blank rests b c p (short_lines longest front) o1 s2 o2) same d))

pub taken_then : {M : Type 0} (longest : ℕ) (steps : M → List ℕ → List (List ℕ) → List ℕ → M → Type 0) (recalls : M → List ℕ → M → Type 0) (readable : M → List ℕ → Bool) (blank : List Line → M → M → Type 0) (rests : M → M → Type 0) (a b c : M) (plan own : List Line) (text mid rest base s1 o1 s2 o2 : List ℕ) →
    TakenBefore longest steps recalls readable blank rests a b plan text mid base s1 o1 → own ≡ plan → TakenBefore longest steps recalls readable blank rests b c own mid rest o1 s2 o2 →
    TakenBefore longest steps recalls readable blank rests a c plan text rest base s2 o2
taken_then longest steps recalls readable blank rests a b c plan own text mid rest base s1 o1 s2 o2 x same y = record {
  front = x.front ++ y.front;
  cut = x.cut ∙ ap (λ t. x.front ++ t) y.cut ∙ sym (append_assoc x.front y.front rest);
  apart = λ more. ap (short_lines longest) (append_assoc x.front y.front more) ∙ x.apart (y.front ++ more) ∙ ap (λ ls. short_lines longest x.front ++ ls) (y.apart more)
      ∙ sym (append_assoc (short_lines longest x.front) (short_lines longest y.front) (short_lines longest more)) ∙ ap (λ ls. ls ++ short_lines longest more) (sym (x.apart y.front));
  durable = durable_behind longest steps recalls readable blank rests a b c plan own text mid y.front base s1 o1 s2 o2 x same y.durable;
}

-- where no line is left, the lines of the text were taken
pub taken_lines : {M : Type 0} (longest : ℕ) (steps : M → List ℕ → List (List ℕ) → List ℕ → M → Type 0) (recalls : M → List ℕ → M → Type 0) (readable : M → List ℕ → Bool) (blank : List Line → M → M → Type 0) (rests : M → M → Type 0) (first last : M) (plan : List Line) (text rest base synced shown : List ℕ) →
    (x : TakenBefore longest steps recalls readable blank rests first last plan text rest base synced shown) → short_lines longest rest ≡ [] → short_lines longest text ≡ short_lines longest x.front
taken_lines longest steps recalls readable blank rests first last plan text rest base synced shown x none =
    ap (short_lines longest) x.cut ∙ x.apart rest ∙ ap (λ ls. short_lines longest x.front ++ ls) none ∙ append-nil (short_lines longest x.front)

-- and what stands behind the text joins with the rest
pub taken_behind : {M : Type 0} (longest : ℕ) (steps : M → List ℕ → List (List ℕ) → List ℕ → M → Type 0) (recalls : M → List ℕ → M → Type 0) (readable : M → List ℕ → Bool) (blank : List Line → M → M → Type 0) (rests : M → M → Type 0) (first last : M) (plan : List Line) (text rest base synced shown : List ℕ) →
    (x : TakenBefore longest steps recalls readable blank rests first last plan text rest base synced shown) → short_lines longest rest ≡ [] → (more : List ℕ) → short_lines longest (text ++ more) ≡ short_lines longest text ++ short_lines longest (rest ++ more)
taken_behind longest steps recalls readable blank rests first last plan text rest base synced shown x none more =
    ap (λ t. short_lines longest (t ++ more)) x.cut ∙ ap (short_lines longest) (append_assoc x.front rest more) ∙ x.apart (rest ++ more)
    ∙ ap (λ ls. ls ++ short_lines longest (rest ++ more)) (sym (taken_lines longest steps recalls readable blank rests first last plan text rest base synced shown x none))

-- ---- what is synced grows

pub grows_none : {L : Type 0} (synced : List ℕ) (log : L) → Grows synced synced (log ≡ log)
grows_none synced log = ([], sym (append-nil synced), λ none. refl)

nothing_both : (a b : List ℕ) → a ++ b ≡ [] → (a ≡ []) × (b ≡ [])
nothing_both [] b none = (refl, none)
nothing_both (x ∷ a) b none = cc

pub grows_then : {L : Type 0} (a b c : List ℕ) (x y z : L) → Grows a b (y ≡ x) → Grows b c (z ≡ y) → Grows a c (z ≡ x)
grows_then a b c x y z g h = (g.0 ++ h.0, h.1 ∙ ap (λ t. t ++ h.0) g.1 ∙ append_assoc a g.0 h.0, λ none. let parts = nothing_both g.0 h.0 none in h.2 parts.1 ∙ g.2 parts.0)

pub grows_idle : (a b : List ℕ) (alone : Type 0) → Grows a b alone → b ≡ a → alone
grows_idle a b alone g same = g.2 (append_cancel_left a g.0 [] (sym g.1 ∙ same ∙ sym (append-nil a)))
