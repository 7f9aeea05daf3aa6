-- What a tenant asks a node of a volume: `look N V`, where N is the number that the tenant gives the question.
use Rattle.std.specs.Prelude.{ℕ, List, [], ◌∷◌, codes, decimal, Option, None, if◌then◌else◌}
use Rattle.std.specs.Str.{bytes_eq}
use Rattle.gq_lines.specs.Words.{Word}
use Rattle.gq_text.specs.Input.{◌>>=◌}
use Rattle.gq_wire.specs.Values.{number_then, long_then, alone}

-- the number of the question and the volume, and no more
unfoldable pub mark_and_volume : List Word → Option (ℕ × ℕ)
mark_and_volume words = do
  n ← long_then words
  v ← number_then n.1
  alone v.1 (n.0, v.0)

abbrev pub look_of : List Word → Option (ℕ × ℕ)
look_of [] = None
look_of (verb ∷ words) = if bytes_eq verb (codes "look") then mark_and_volume words else None

-- the words of the question behind its addresses, as a tenant writes it
abbrev pub look_words : (mark volume : ℕ) → List Word
look_words mark volume = codes "look" ∷ decimal mark ∷ decimal volume ∷ []
