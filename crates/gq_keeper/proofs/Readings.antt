-- The loop, one read behind another.
use Rattle.std.proofs.Common.{◌≡◌, ◌⊎◌, arith, ℕ, Bool, List, [], ◌∷◌, ◌++◌, length, take, drop, get_or, Option, Some, None, refl, sym, ap, ◌∙◌, subst, append_assoc, append-nil, inl, inr, ⊎_elim}
use Rattle.std.specs.Prelude.{IfSome}
use Rattle.std.proofs.Math.Seq.{take-append_seam}
use Rattle.std.specs.Io.KnownBytes.{Consumes, IsAtEnd}
use Rattle.gq_journal.specs.Batches.{Line, whole_lines}
use Rattle.gq_journal.specs.Laws.{Begins}
use Rattle.gq_keeper.specs.Lines.{short_lines}
use Rattle.gq_keeper.specs.Runs.{Did, Runs}
use Rattle.gq_keeper.specs.Crashes.{Leaves, Elapses}
use Rattle.gq_keeper.specs.Restarting.{Restarts, RestartsAsEither, RestartsAsOne}
use Rattle.gq_keeper.specs.Durable.{AllSealed, Durable}
use Rattle.gq_lines.specs.Written.{first_text}
use Rattle.gq_keeper.proofs.Ends.{kept_none, none_behind}
use Rattle.gq_keeper.proofs.Running.{runs_append}
use Rattle.gq_keeper.proofs.Restarts.{restarts_found, sealed_left}
use Rattle.gq_keeper.proofs.Durability.{durable_none, durable_then, durable_renewed}

-- this was taken of the input, its lines were served, and what is held is the end that goes on
pub record Served {M : Type 0} (longest : ℕ) (steps : M → List ℕ → List (List ℕ) → List ℕ → M → Type 0) (recalls : M → List ℕ → M → Type 0) (readable : M → List ℕ → Bool) (blank : List Line → M → M → Type 0) (rests : M → M → Type 0) (first now : M) (plan : List Line) (base synced shown : List ℕ) (before after : Option (List ℕ)) (held : List ℕ) : Type 0 where
  pub taken : List ℕ
  pub input : Consumes before after taken
  pub durable : Durable steps recalls readable blank rests first now plan (short_lines longest taken) (base ++ first_text) synced shown
  pub none : whole_lines held ≡ []
  pub goes_on : (more : List ℕ) → short_lines longest (taken ++ more) ≡ short_lines longest taken ++ short_lines longest (held ++ more)

consumes_none : (known : Option (List ℕ)) → Consumes known known []
consumes_none None = tt
consumes_none (Some xs) = refl

consumes_more : (a b c : Option (List ℕ)) (xs ys : List ℕ) → Consumes a b xs → Consumes b c ys → Consumes a c (xs ++ ys)
consumes_more None b c xs ys x y = tt
consumes_more (Some a) None c xs ys x y = absurd x
consumes_more (Some a) (Some b) None xs ys x y = absurd y
consumes_more (Some a) (Some b) (Some c) xs ys x y = x ∙ ap (λ t. xs ++ t) y ∙ sym (append_assoc xs ys c)

pub consumes_all : (a b : Option (List ℕ)) (xs ys : List ℕ) → Consumes a b xs → IsAtEnd b → IfSome a (λ all. all ≡ xs)
consumes_all None b xs ys x end = tt
consumes_all (Some a) None xs ys x end = absurd x
consumes_all (Some a) (Some b) xs ys x end = x ∙ ap (λ t. xs ++ t) end ∙ append-nil xs

pub served_none : {M : Type 0} (longest : ℕ) (steps : M → List ℕ → List (List ℕ) → List ℕ → M → Type 0) (recalls : M → List ℕ → M → Type 0) (readable : M → List ℕ → Bool) (blank : List Line → M → M → Type 0) (rests : M → M → Type 0) (machine : M) (plan : List Line) (base synced shown : List ℕ) (known : Option (List ℕ)) (held : List ℕ) →
    Restarts recalls readable blank rests plan machine synced → shown ≡ base ++ first_text → held ≡ [] → Served longest steps recalls readable blank rests machine machine plan base synced shown known known held
served_none longest steps recalls readable blank rests machine plan base synced shown known held r is none = record {
  taken = [];
  input = consumes_none known;
  durable = subst (λ o. Durable steps recalls readable blank rests machine machine plan [] (base ++ first_text) synced o) (sym is) (durable_none steps recalls readable blank rests machine plan (base ++ first_text) synced r);
  none = ap whole_lines none;
  goes_on = λ more. ap (λ h. short_lines longest (h ++ more)) (sym none);
}

pub no_short : (longest : ℕ) (text : List ℕ) → whole_lines text ≡ [] → short_lines longest text ≡ []
no_short longest text none = rw none refl

-- one read more
pub served_more : {M : Type 0} (longest : ℕ) (steps : M → List ℕ → List (List ℕ) → List ℕ → M → Type 0) (recalls : M → List ℕ → M → Type 0) (readable : M → List ℕ → Bool) (blank : List Line → M → M → Type 0) (rests : M → M → Type 0) (first now next : M) (plan : List Line) (base synced shown synced_turn shown_next synced_next : List ℕ) (before after later : Option (List ℕ)) (held block text rest kept : List ℕ) →
    Served longest steps recalls readable blank rests first now plan base synced shown before after held → Consumes after later block → text ≡ held ++ block →
    Durable steps recalls readable blank rests now next plan (short_lines longest text) shown synced_turn shown_next → Restarts recalls readable blank rests plan next synced_next →
    ((more : List ℕ) → short_lines longest (text ++ more) ≡ short_lines longest text ++ short_lines longest (rest ++ more)) → whole_lines kept ≡ [] → ((more : List ℕ) → short_lines longest (kept ++ more) ≡ short_lines longest (rest ++ more)) →
    Served longest steps recalls readable blank rests first next plan base synced_next shown_next before later kept
served_more longest steps recalls readable blank rests first now next plan base synced shown synced_turn shown_next synced_next before after later held block text rest kept s read is d r behind none same = record {
  taken = s.taken ++ block;
  input = consumes_more before after later s.taken block s.input read;
  durable = subst (λ ls. Durable steps recalls readable blank rests first next plan ls (base ++ first_text) synced_next shown_next) (sym lines)
      (durable_renewed steps recalls readable blank rests first next plan (short_lines longest s.taken ++ short_lines longest text) (base ++ first_text) synced_turn shown_next synced_next
      (durable_then steps recalls readable blank rests first now next plan (short_lines longest s.taken) (short_lines longest text) (base ++ first_text) synced shown synced_turn shown_next s.durable d) r);
  none = none;
  goes_on = λ more. all more ∙ ap (λ ls. ls ++ short_lines longest (kept ++ more)) (sym lines);
}
  where
    step : (more : List ℕ) → short_lines longest ((s.taken ++ block) ++ more) ≡ short_lines longest s.taken ++ short_lines longest (text ++ more)
    step more = ap (short_lines longest) (append_assoc s.taken block more) ∙ s.goes_on (block ++ more) ∙ ap (λ t. short_lines longest s.taken ++ short_lines longest t) (sym (append_assoc held block more) ∙ ap (λ t. t ++ more) (sym is))

    all : (more : List ℕ) → short_lines longest ((s.taken ++ block) ++ more) ≡ (short_lines longest s.taken ++ short_lines longest text) ++ short_lines longest (kept ++ more)
    all more = step more ∙ ap (λ ls. short_lines longest s.taken ++ ls) (behind more ∙ ap (λ ls. short_lines longest text ++ ls) (sym (same more))) ∙ sym (append_assoc (short_lines longest s.taken) (short_lines longest text) (short_lines longest (kept ++ more)))

    lines : short_lines longest (s.taken ++ block) ≡ short_lines longest s.taken ++ short_lines longest text
    lines = ap (short_lines longest) (sym (append-nil (s.taken ++ block))) ∙ step [] ∙ ap (λ t. short_lines longest s.taken ++ short_lines longest t) (append-nil text)

-- one read more in which no line ends
pub served_longer : {M : Type 0} (longest : ℕ) (steps : M → List ℕ → List (List ℕ) → List ℕ → M → Type 0) (recalls : M → List ℕ → M → Type 0) (readable : M → List ℕ → Bool) (blank : List Line → M → M → Type 0) (rests : M → M → Type 0) (first now : M) (plan : List Line) (base synced shown : List ℕ) (before after later : Option (List ℕ)) (held block kept : List ℕ) →
    Served longest steps recalls readable blank rests first now plan base synced shown before after held → Consumes after later block → whole_lines block ≡ [] →
    whole_lines kept ≡ [] → ((more : List ℕ) → short_lines longest (kept ++ more) ≡ short_lines longest ((held ++ block) ++ more)) →
    Served longest steps recalls readable blank rests first now plan base synced shown before later kept
served_longer longest steps recalls readable blank rests first now plan base synced shown before after later held block kept s read no_line none same =
    let lines : short_lines longest (held ++ block) ≡ [] = no_short longest (held ++ block) (none_behind held block s.none no_line) in
    served_more longest steps recalls readable blank rests first now now plan base synced shown synced shown synced before after later held block (held ++ block) (held ++ block) kept s read refl
    (subst (λ ls. Durable steps recalls readable blank rests now now plan ls shown synced shown) (sym lines) (durable_none steps recalls readable blank rests now plan shown synced s.durable.restarts))
    s.durable.restarts
    (λ more. ap (λ ls. ls ++ short_lines longest ((held ++ block) ++ more)) (sym lines))
    none same

-- ---- a beginning of the input

pub begins_nothing : (known : Option (List ℕ)) → IfSome known (Begins [])
begins_nothing None = tt
begins_nothing (Some all) = (all, refl)

begins_consumed : (before later : Option (List ℕ)) (taken rest : List ℕ) → Consumes before later (taken ++ rest) → IfSome before (Begins taken)
begins_consumed None later taken rest x = tt
begins_consumed (Some a) None taken rest x = absurd x
begins_consumed (Some a) (Some b) taken rest x = (rest ++ b, x ∙ append_assoc taken rest b)

-- where two texts are one, the second part begins behind the first one's, or amid it
seams : (a b c d : List ℕ) → a ++ b ≡ c ++ d → ((m : List ℕ) × (c ≡ a ++ m) × (b ≡ m ++ d)) ⊎ ((m : List ℕ) × (a ≡ c ++ m))
seams [] b c d e = inl (c, refl, e)
seams (x ∷ a) b [] d e = inr (x ∷ a, refl)
seams (x ∷ a) b (y ∷ c) d e =
    let same : x ≡ y = ap (λ l. get_or l 0 0) e in
    ⊎_elim (λ s. inl (s.0, ap (λ h. h ∷ c) (sym same) ∙ ap (λ l. x ∷ l) s.1, s.2)) (λ s. inr (s.0, ap (λ h. h ∷ a) same ∙ ap (λ l. y ∷ l) s.1)) (seams a b c d (ap (drop 1) e))

-- a beginning of the input whose lines are those so far, and these
abbrev pub TakesMore : (longest : ℕ) (before : Option (List ℕ)) (so_far front : List ℕ) → Type 0
TakesMore longest before so_far front = (taken : List ℕ) × IfSome before (Begins taken) × (short_lines longest taken ≡ short_lines longest so_far ++ short_lines longest front)

-- what was taken of the input, with lines of one read more
pub taken_more : {M : Type 0} (longest : ℕ) (steps : M → List ℕ → List (List ℕ) → List ℕ → M → Type 0) (recalls : M → List ℕ → M → Type 0) (readable : M → List ℕ → Bool) (blank : List Line → M → M → Type 0) (rests : M → M → Type 0) (first now : M) (plan : List Line) (base synced shown : List ℕ) (before after later : Option (List ℕ)) (held block front behind : List ℕ) →
    (s : Served longest steps recalls readable blank rests first now plan base synced shown before after held) → Consumes after later block → held ++ block ≡ front ++ behind → TakesMore longest before s.taken front
taken_more {M} longest steps recalls readable blank rests first now plan base synced shown before after later held block front behind s read is = ⊎_elim past within (seams held block front behind is)
  where
    past : ((m : List ℕ) × (front ≡ held ++ m) × (block ≡ m ++ behind)) → TakesMore longest before s.taken front
    past m = (
      s.taken ++ m.0,
      begins_consumed before later (s.taken ++ m.0) behind (subst (λ b. Consumes before later b) (ap (λ b. s.taken ++ b) m.2 ∙ sym (append_assoc s.taken m.0 behind)) (consumes_more before after later s.taken block s.input read)),
      s.goes_on m.0 ∙ ap (λ t. short_lines longest s.taken ++ short_lines longest t) (sym m.1),
    )

    within : ((m : List ℕ) × (held ≡ front ++ m)) → TakesMore longest before s.taken front
    within m =
        let none : whole_lines front ≡ [] = ap whole_lines (sym (ap (take (length front)) m.1 ∙ take-append_seam front m.0)) ∙ kept_none (length front) held s.none in (
          s.taken,
          begins_consumed before after s.taken [] (subst (λ b. Consumes before after b) (sym (append-nil s.taken)) s.input),
          sym (append-nil (short_lines longest s.taken)) ∙ ap (λ ls. short_lines longest s.taken ++ ls) (sym (no_short longest front none)),
        )

-- ---- what a crash leaves

pub as_one : {M : Type 0} (steps : M → List ℕ → List (List ℕ) → List ℕ → M → Type 0) (recalls : M → List ℕ → M → Type 0) (readable : M → List ℕ → Bool) (blank : List Line → M → M → Type 0) (rests : M → M → Type 0) (plan : List Line) (first now : M) (dids : List Did) (left : List ℕ) → Runs steps first dids now → Restarts recalls readable blank rests plan now left → RestartsAsOne steps recalls readable blank rests plan first left
as_one steps recalls readable blank rests plan first now dids left runs r = (now, dids, runs, r)

pub of_batch : {M : Type 0} (steps : M → List ℕ → List (List ℕ) → List ℕ → M → Type 0) (recalls : M → List ℕ → M → Type 0) (readable : M → List ℕ → Bool) (blank : List Line → M → M → Type 0) (rests : M → M → Type 0) (plan own : List Line) (first now next : M) (dids : List Did) (left : List ℕ) → Runs steps first dids now → own ≡ plan → RestartsAsEither steps recalls readable blank rests own now next left → RestartsAsOne steps recalls readable blank rests plan first left
of_batch steps recalls readable blank rests plan own first now next dids left runs same e =
    ⊎_elim (λ old. as_one steps recalls readable blank rests plan first now dids left runs (subst (λ p. Restarts recalls readable blank rests p now left) same old))
    (λ new. as_one steps recalls readable blank rests plan first next (dids ++ new.0) left (runs_append steps first now next dids new.0 runs new.1) (subst (λ p. Restarts recalls readable blank rests p next left) same new.2)) e

pub of_turn : {M : Type 0} (steps : M → List ℕ → List (List ℕ) → List ℕ → M → Type 0) (recalls : M → List ℕ → M → Type 0) (readable : M → List ℕ → Bool) (blank : List Line → M → M → Type 0) (rests : M → M → Type 0) (plan own : List Line) (first now : M) (dids : List Did) (left : List ℕ) → Runs steps first dids now → own ≡ plan → RestartsAsOne steps recalls readable blank rests own now left → RestartsAsOne steps recalls readable blank rests plan first left
of_turn steps recalls readable blank rests plan own first now dids left runs same e =
    as_one steps recalls readable blank rests plan first e.0 (dids ++ e.1) left (runs_append steps first now e.0 dids e.1 runs e.2) (subst (λ p. Restarts recalls readable blank rests p e.0 left) same e.3)

-- at any instant since the beginning
pub at_any : {M : Type 0} (steps : M → List ℕ → List (List ℕ) → List ℕ → M → Type 0) (recalls : M → List ℕ → M → Type 0) (readable : M → List ℕ → Bool) (blank : List Line → M → M → Type 0) (rests : M → M → Type 0) (plan : List Line) (first : M) (before now : ℕ) (past since : ℕ → List ℕ → Type 0) (seen synced : List ℕ) (number : ℕ) →
    AllSealed seen synced number → Restarts recalls readable blank rests plan first synced → ((left : List ℕ) → past before left → Leaves synced seen left) → Elapses before now past since (RestartsAsOne steps recalls readable blank rests plan first) →
    (left : List ℕ) → since before left → RestartsAsOne steps recalls readable blank rests plan first left
at_any steps recalls readable blank rests plan first before now past since seen synced number s r only e left may =
    ⊎_elim (λ old. as_one steps recalls readable blank rests plan first first [] left refl (restarts_found recalls readable blank rests plan first synced left r (sealed_left seen synced number left s (only left old)))) (λ new. new)
    (e.nothing_else before left (omega arith) may)

-- a block that was lent is the bytes that were put there
pub written_back : (len : ℕ) (bytes rest : List ℕ) → length bytes ≡ len → take len (bytes ++ rest) ≡ bytes
written_back len bytes rest is = ap (λ n. take n (bytes ++ rest)) (sym is) ∙ take-append_seam bytes rest
