-- Which fault is told, and why.
use Rattle.std.specs.Prelude.{ℕ, ◌≡◌, ◌≤◌, ◌⊎◌, List, [], ◌∷◌, All, Contains, Option, Some, None, Result, Ok, Err, IfErr, IsTrue, true}
use Rattle.gq_tag.specs.Tag.{to_server}
use Rattle.gq_tag.specs.declared.Message.{Message}
use Rattle.gq_cell.specs.Journal.{is_up}
use Rattle.gq_cell.specs.Keeping.{Journaled}
use Rattle.gq_cell.specs.Serving.{cell_fault}
use Rattle.gq_cell.specs.declared.cell.CellRefused.TheVariants.{Stamps as NoStamp, File as NoFile, Long as TooLong}
use Rattle.gq_cell.specs.declared.letter.Letter.{Letter as LetterIs}
use Rattle.gq_session.specs.declared.records.LiveFault.{LiveFault}
use Rattle.gq_session.specs.declared.records.LiveFault.TheVariants.{Memory, Thread, Gate, Stamps, Volume, Letter}

-- the number of a fault in the order in which faults are told
abbrev pub number_of : LiveFault → ℕ
number_of (Memory _) = 1
number_of Thread = 2
number_of Gate = 3
number_of Stamps = 4
number_of (Volume place) = 5
number_of Letter = 6

-- of the faults that were met the one of the least number
pub record IsLeastOf (met : List LiveFault) (told : LiveFault) : Type 0 where
  pub one : Contains met told
  pub least : All (λ fault. number_of told ≤ number_of fault) met

-- the fault, if there is one
abbrev pub fault_in : {A : Type 0} → Result A LiveFault → List LiveFault
fault_in (Ok given) = []
fault_in (Err fault) = fault ∷ []

-- what a thread gave is added, or its fault is told; where it met none, it is told that what it gave can't be added
abbrev pub AddsOrTells : Option LiveFault → Result Unit LiveFault → Type 0
AddsOrTells None added = IfErr added (λ fault. (fault ≡ Memory tt) ⊎ (fault ≡ Letter))
AddsOrTells (Some met) added = added ≡ Err met

-- one of the faults that threads met, or that what they gave can't be put together, is told; and none that they met is of a
-- lesser number
pub record IsToldOf (met : List LiveFault) (told : LiveFault) : Type 0 where
  pub cause : Contains met told ⊎ ((told ≡ Memory tt) ⊎ (told ≡ Letter))
  pub least : All (λ fault. number_of told ≤ number_of fault) met

-- so far such a fault is told, or none was met
abbrev pub TellsOf : List LiveFault → Option LiveFault → Type 0
TellsOf met None = met ≡ []
TellsOf met (Some told) = IsToldOf met told

-- the message is one that the server may be asked
abbrev pub IsFor : ℕ → Message → Type 0
IsFor server message = (message.server ≡ server) × IsTrue (to_server message.body)

-- why a worker that holds the cell did not have the letter served, where the gate let it in: memory is wanting, for a letter
-- that the cell would serve; no stamp is left; the letter is not for the server, or for no file of its, or too long
abbrev pub IsServeFault : Journaled → LetterIs → LiveFault → Type 0
IsServeFault cell letter (Memory _) = IsFor cell.server letter.message × (is_up cell.journal ≡ true) × (cell_fault cell letter ≡ None)
IsServeFault cell letter Stamps = (is_up cell.journal ≡ true) × (cell_fault cell letter ≡ Some NoStamp)
IsServeFault cell letter Letter = (IsFor cell.server letter.message → ⊥) ⊎ ((cell_fault cell letter ≡ Some NoFile) ⊎ (cell_fault cell letter ≡ Some TooLong))
IsServeFault cell letter Gate = Unit {0}
IsServeFault cell letter _ = ⊥
