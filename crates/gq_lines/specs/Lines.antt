-- Lines of a text.
use Rattle.std.specs.Prelude.{◌≡◌, ◌<◌, ℕ, List, [], ◌∷◌, ◌++◌, ◌==◌, length, if◌then◌else◌}
use Rattle.std.specs.List.{flat_map}
use Rattle.gq_lines.specs.Words.{words_of, words_after}

-- a byte at the front of the first line
abbrev pub before_first : ℕ → List (List ℕ) → List (List ℕ)
before_first x [] = (x ∷ []) ∷ []
before_first x (line ∷ lines) = (x ∷ line) ∷ lines

-- the lines of a text: a line ends with a newline or with the text
abbrev pub lines_of : List ℕ → List (List ℕ)
lines_of [] = []
lines_of (x ∷ xs) = if x == 10 then [] ∷ lines_of xs else before_first x (lines_of xs)

-- lines one after another, each with the newline that ends it
abbrev pub joined : List (List ℕ) → List ℕ
joined lines = flat_map (λ line. line) lines

-- a text ends with the rest
pub record IsRest (text rest : List ℕ) : Type 0 where
  pub front : List ℕ
  pub is : text ≡ front ++ rest

-- the first line of a text is a first word and what follows it, and after it come the other lines
pub record IsCut (text first rest after : List ℕ) : Type 0 where
  pub lines : lines_of text ≡ (first ++ rest) ∷ lines_of after
  pub words : words_of (first ++ rest) ≡ first ∷ words_after rest
  pub shorter : length after < length text
