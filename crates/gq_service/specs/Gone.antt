-- Tenants that went: gone by a node's plan, and not by the last plan of its journal.
use Rattle.std.specs.Prelude.{◌≡◌, ℕ, List, [], ◌∷◌, length, Bool, true, false, nat_lt, Ok, Err, IsErr, Option, MatchOption}
use Rattle.gq_lines.specs.Words.{Word, words_of}
use Rattle.gq_journal.specs.Batches.{Line, batches_of, lines_text}
use Rattle.gq_keeper.specs.LeavingOut.{facts_but}
use Rattle.gq_keeper.specs.Plans.{first_plan, last_plan}
use Rattle.gq_keeper.specs.Starting.{facts_read}
use Rattle.gq_setup.specs.Leaving.{without}
use Rattle.gq_setup.specs.Setups.{Setup, SetupReading, is_gone}
use Rattle.gq_setup.specs.Texts.{setup_of_node_text}

-- whether a line names one of these tenants: the name of whom it is stands behind the verb
unfoldable pub names_gone : (gone : List Word) → List Word → Bool
names_gone gone (verb ∷ name ∷ words) = is_gone gone name
names_gone gone _ = false

abbrev pub is_of_gone : (gone : List Word) → List ℕ → Bool
is_of_gone gone line = names_gone gone (words_of line)

-- whether more tenants are gone by the setup than by the one that was read
abbrev pub more_gone : SetupReading Setup → Setup → Bool
more_gone (Ok old) setup = nat_lt (length old.gone) (length setup.gone)
more_gone (Err fault) setup = false

-- whether tenants went since the last plan of the journal
abbrev pub somebody_went : Setup → (journal : List ℕ) → Bool
somebody_went setup journal = more_gone (setup_of_node_text (lines_text (last_plan [] (batches_of journal)))) setup

-- a plan that was read, without those who are gone
abbrev pub read_without : (gone : List Word) → SetupReading Setup → SetupReading Setup
read_without gone (Ok setup) = Ok (without gone setup)
read_without gone (Err fault) = Err fault

-- as it is, or where tenants went without those who are gone by the setup
abbrev pub read_left : (went : Bool) → Setup → SetupReading Setup → SetupReading Setup
read_left true setup reading = read_without setup.gone reading
read_left false setup reading = reading

-- the plan with which the journal begins, as a node of the setup takes it
abbrev pub first_taken : Setup → (journal : List ℕ) → SetupReading Setup
first_taken setup journal = read_left (somebody_went setup journal) setup (setup_of_node_text (lines_text (first_plan (batches_of journal))))

-- all facts of the journal, or where tenants went those that name none who is gone by the setup
abbrev pub facts_left : (went : Bool) → Setup → (journal : List ℕ) → List Line
facts_left true setup journal = facts_but (is_of_gone setup.gone) journal
facts_left false setup journal = facts_read journal

-- the facts of the journal that a node of the setup takes
abbrev pub facts_taken : Setup → (journal : List ℕ) → List Line
facts_taken setup journal = facts_left (somebody_went setup journal) setup journal

-- what is made of a reading: the setup, or nothing where it has a fault
abbrev pub IsRead : SetupReading Setup → Option Setup → Type 0
IsRead reading read = MatchOption read (IsErr reading) (λ setup. reading ≡ Ok setup)
