-- What is wrong with the words of a command line, and what is shown for it, by the rules that clap states for its commands.
use Rattle.std.specs.Prelude.{◌≡◌, ◌⊎◌, ◌∷◌, ⊤, ℕ, List, [], Some, true, pos, codes, drop}
use Rattle.clap.specs.Faults.{fault_of}
use Rattle.clap.specs.Kinds.{IsAmong}
use Rattle.clap.specs.Simple.{App, new_rule}
use Rattle.clap.specs.Values.{kind_of}
use Rattle.clap.specs.Walk.{Rule, Text}
use Rattle.clap.specs.declared.builder.action.ArgAction.TheVariants.{Set}
use Rattle.clap.specs.declared.builder.value_parser.ValueParser.TheVariants.{Signed}
use Rattle.clap.specs.declared.error.kind.ErrorKind.{ErrorKind}
use Rattle.clap.specs.declared.error.kind.ErrorKind.TheVariants.{DisplayHelp, DisplayVersion}
use Rattle.gq_words.specs.declared.reading.Usage.{Usage}
use Rattle.gq_words.specs.declared.reading.Usage.TheVariants.{Shown, Memory}

-- a number below 2^32 that has to be given
abbrev pub number_rule : Text → Rule
number_rule id = record (new_rule id) { required = true; action = Some Set; parser = Some (Signed (pos 0) (pos 4294967295)) }

-- the words behind the program's name are that word, behind which `--` may end the options
abbrev pub IsAlone : Text → List Text → Type 0
IsAlone word words = (drop 1 words ≡ word ∷ []) ⊎ (drop 1 words ≡ word ∷ codes "--" ∷ [])

-- they begin with that word, behind which come words of its own
abbrev pub IsFirst : Text → List Text → Type 0
IsFirst word words = (own : List Text) × (drop 1 words ≡ word ∷ own)

-- the text shown is about what is wrong with the words, the program's name first; a call for help or for the version counts
abbrev pub ShownFor : App → List Text → Usage → Type 0
ShownFor app words (Shown error) = IsAmong (kind_of error) (fault_of app words)
ShownFor app words Memory = ⊤

abbrev pub IsMemory : Usage → Type 0
IsMemory (Shown error) = ⊥
IsMemory Memory = ⊤

-- a text of that kind is shown
abbrev pub Shows : ErrorKind → Usage → Type 0
Shows kind (Shown error) = kind_of error ≡ kind
Shows kind Memory = ⊤

-- ---- the status of words that ask for nothing to be run

-- 0 for help and the version, which were asked for; else 2
abbrev pub status_of_kind : ErrorKind → ℕ
status_of_kind DisplayHelp = 0
status_of_kind DisplayVersion = 0
status_of_kind _ = 2

abbrev pub status_of : Usage → ℕ
status_of (Shown error) = status_of_kind (kind_of error)
status_of Memory = 3
