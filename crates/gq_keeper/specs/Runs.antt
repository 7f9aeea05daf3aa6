-- Steps of a machine one after another.
--
-- A step may end with any fault: what its facts name on a shelf is put and synced within it. Where that fails the machine is
-- given up, and nothing of the step is kept or shown.
use Rattle.std.specs.Prelude.{◌≡◌, ◌<◌, List, [], ◌∷◌, ◌++◌, ℕ, length, take, map, true}
use Rattle.std.specs.List.{flat_map}
use Rattle.gq_journal.specs.Batches.{Line, lines_text, are_batch_lines}
use Rattle.gq_keeper.specs.Lines.{short_lines}

-- a step: the line that it took, the lines of the facts that it gave, and what it told
pub record Did : Type 0 where
  pub line : Line
  pub facts : List Line
  pub told : List ℕ

abbrev pub lines_of : List Did → List Line
lines_of dids = map (λ did. did.line) dids

abbrev pub facts_of : List Did → List Line
facts_of dids = flat_map (λ did. did.facts) dids

abbrev pub told_of : List Did → List ℕ
told_of dids = flat_map (λ did. did.told) dids

-- the steps lead from the first machine to the last
abbrev pub Runs : {M : Type 0} → (M → List ℕ → List (List ℕ) → List ℕ → M → Type 0) → M → List Did → M → Type 0
Runs steps first [] last = first ≡ last
Runs {M} steps first (did ∷ dids) last = (next : M) × steps first did.line did.facts did.told next × Runs steps next dids last

-- one step took the line: what it gave was appended
pub record Takes {M : Type 0} (steps : M → List ℕ → List (List ℕ) → List ℕ → M → Type 0) (old : M) (line facts_before facts_after told_before told_after : List ℕ) (new : M) : Type 0 where
  pub lines : List Line
  pub text : List ℕ
  pub step : steps old line lines text new
  pub facts : facts_after ≡ facts_before ++ lines_text lines
  pub told : told_after ≡ told_before ++ text
  pub opened : are_batch_lines lines ≡ true

-- No step was taken once those before it had given facts, or told text, of so many bytes.
pub record StopsAt (most : ℕ) (dids : List Did) : Type 0 where
  pub facts : (n : ℕ) → n < length dids → length (lines_text (facts_of (take n dids))) < most
  pub told : (n : ℕ) → n < length dids → length (told_of (take n dids)) < most

-- Steps took the lines of the text before the rest, but for those that are longer: this is what they gave and told. Whatever comes
-- behind these lines, it is taken on its own.
pub record Took {M : Type 0} (longest most : ℕ) (steps : M → List ℕ → List (List ℕ) → List ℕ → M → Type 0) (old : M) (text rest given shown : List ℕ) (new : M) : Type 0 where
  pub dids : List Did
  pub runs : Runs steps old dids new
  pub front : List ℕ
  pub cut : text ≡ front ++ rest
  pub took : (more : List ℕ) → short_lines longest (front ++ more) ≡ lines_of dids ++ short_lines longest more
  pub facts : given ≡ lines_text (facts_of dids)
  pub told : shown ≡ told_of dids
  pub few : StopsAt most dids
