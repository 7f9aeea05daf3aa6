-- The values that the words of a command line give, by the rules that clap states for its commands.
use Rattle.std.specs.Prelude.{◌≡◌, ◌<◌, ◌^◌, ℕ, Bool, true, false, List, [], Option, Some, None, unwrap_or, option_map, codes}
use Rattle.std.specs.Str.Parse.{IsNumeral, digits_value, without_leading_plus}
use Rattle.std.specs.Borrow.{Bor}
use Rattle.clap.specs.Simple.{App, subcommand_of}
use Rattle.clap.specs.Walk.{Row, Text, first_of, one_of}

-- what was found behind a subcommand, with its name
abbrev pub rows_behind : Option (Text × List Row) → List Row
rows_behind found = unwrap_or (option_map (λ p. p.1) found) []

-- what is found behind the subcommand that the words name
abbrev pub given_by : App → List Text → List Row
given_by app words = rows_behind (subcommand_of app words)

-- the text that is given for this id, the empty one where none is
abbrev pub text_given : List Row → Text → Text
text_given rows id = unwrap_or (first_of id rows) []

-- the text writes the number in decimal digits
abbrev pub Writes : Text → ℕ → Type 0
Writes text number = digits_value 10 (without_leading_plus text) ≡ number

-- it is a number below 2^32 in decimal digits
abbrev pub IsNumber : Text → Type 0
IsNumber text = IsNumeral 10 (without_leading_plus text) × (digits_value 10 (without_leading_plus text) < 2 ^ 32)

-- the number is that of the text, or where there is none, or one of no number, the other one
abbrev pub IsNumberIn : Option Text → ℕ → ℕ → Type 0
IsNumberIn None otherwise number = number ≡ otherwise
IsNumberIn (Some text) otherwise number = (IsNumber text → Writes text number) × ((IsNumber text → ⊥) → number ≡ otherwise)

-- the number is the one that is given for the id, or where none is given the other one
abbrev pub IsNumberGiven : List Row → Text → ℕ → ℕ → Type 0
IsNumberGiven rows id otherwise number = IsNumberIn (one_of id rows) otherwise number

-- the flag is what is given for the id, or where nothing is given not set
abbrev pub IsFlagIn : Option Text → Bool → Type 0
IsFlagIn None flag = flag ≡ false
IsFlagIn (Some text) flag = (text ≡ codes "true" → flag ≡ true) × (text ≡ codes "false" → flag ≡ false)

abbrev pub IsFlagGiven : List Row → Text → Bool → Type 0
IsFlagGiven rows id flag = IsFlagIn (one_of id rows) flag

-- the path, if there is one
abbrev pub path_in : Option (Bor Text) → Option Text
path_in path = option_map (λ p. p.now) path
