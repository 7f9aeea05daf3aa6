-- The subcommand that the words name.
use Rattle.std.proofs.Common.{refl, true, Option, Some, None, List, ◌≡◌, ◌∙◌, ap, sym}
use Rattle.std.specs.Prelude.{option_map}
use Rattle.clap.specs.Matches.{subcommand_name_of}
use Rattle.clap.specs.Simple.{App, HasMatchesOf, is_simple, subcommand_of}
use Rattle.clap.specs.declared.parser.matches.ArgMatches.{ArgMatches}
use Rattle.clap.specs.Walk.{Row, Text}

-- the name of a subcommand with its matches
abbrev pub first_part : Text × List Row → Text
first_part p = p.0

-- that of the subcommand that the words name
abbrev pub named : App → List Text → Option Text
named app words = option_map first_part (subcommand_of app words)

name_of_rows : {X : Type 0} (name : X → Text) (rows : X → List Row) (o : Option X) → option_map name o ≡ option_map first_part (option_map (λ x. (name x, rows x)) o)
name_of_rows name rows None = refl
name_of_rows name rows (Some x) = refl

-- what clap found is what the words name
pub found_is_named : (app : App) (words : List Text) (m : ArgMatches) → is_simple app ≡ true → HasMatchesOf app words m → subcommand_name_of m ≡ named app words
found_is_named app words m simple is = name_of_rows _ _ _ ∙ ap (option_map first_part) (is simple).1

-- one name of a subcommand is that which the words name
pub one_name : (app : App) (words : List Text) (a b : Text) → named app words ≡ Some a → named app words ≡ Some b → a ≡ b
one_name app words a b one other = let same : Some a ≡ Some b = sym one ∙ other in cc
