-- A session of a live run: what each step records, and where it leaves the session.
use Rattle.std.specs.Prelude.{ℕ, ◌≡◌, ◌≤◌, ◌⊎◌, ◌^◌, ◌==◌, List, [], ◌∷◌, ◌++◌, Bool, true, false}
use Rattle.gq_grid.specs.Grid.{Servers}
use Rattle.gq_cell.specs.Stamps.{stamp_after}
use Rattle.gq_cell.specs.declared.letter.Letter.{Letter}
use Rattle.gq_model.specs.declared.events.Line.{Line}
use Rattle.gq_tag.specs.declared.Message.{Message}
use Rattle.gq_model.specs.declared.said.Said.{Said}
use Rattle.gq_model.specs.declared.said.Said.TheVariants.{Round, Refused}
use Rattle.gq_session.specs.Works.{Home, Work, AsksAs, HearsIn, RetriesIn, IsAskFault, IsHearFault}
use Rattle.gq_session.specs.declared.records.Did.{Did}
use Rattle.gq_session.specs.declared.records.Did.TheVariants.{Asked, Heard, Retried}
use Rattle.gq_session.specs.declared.records.LiveFault.{LiveFault}
use Rattle.gq_session.specs.declared.records.LiveFault.TheVariants.{Stamps}
use Rattle.gq_session.specs.declared.records.SessionEntry.{SessionEntry}

-- what a contract sees of a session: whose it is, its operation, the requests that are left, and what it did, in order
pub record Sitting : Type 0 where
  pub home : Home
  pub work : Work
  pub left : List Line
  pub entries : List SessionEntry

-- the session with one entry more, which asked no request
abbrev pub with_step : Sitting → ℕ → Did → Said → Work → Sitting
with_step s stamp did said work =
    record { home = s.home; work = work; left = s.left; entries = s.entries ++ record { stamp = stamp; did = did; said = said } ∷ [] }

-- whether a session to which this is said in its operation waits for nothing
abbrev pub is_stuck : Said → Bool
is_stuck (Round round tag sent) = sent == 0
is_stuck (Refused refusal) = true
is_stuck _ = false

-- ---- the steps, at a stamp, where they send these messages

-- the next request is asked, once, and is left no more
pub record AsksNext (old new : Sitting) (up : Servers) (stamp : ℕ) (messages : List Message) : Type 0 where
  pub line : Line
  pub rest : List Line
  pub next : old.left ≡ line ∷ rest
  pub said : Said
  pub asks : AsksAs old.home old.work new.work up line said messages
  pub left : new ≡ record { home = old.home; work = new.work; left = rest; entries = old.entries ++ record { stamp = stamp; did = Asked line; said = said } ∷ [] }

-- the letter is heard, and recorded whole
pub record HearsLetter (old new : Sitting) (up : Servers) (letter : Letter) (stamp : ℕ) (messages : List Message) (stuck : Bool) : Type 0 where
  pub said : Said
  pub hears : HearsIn old.work.operation old.work new.work up letter.message said messages
  pub left : new ≡ with_step old stamp (Heard letter) said new.work
  pub waits : stuck ≡ is_stuck said

-- the round's message is sent once more, which leaves the operation as it was
pub record Retries (old new : Sitting) (up : Servers) (stamp : ℕ) (messages : List Message) (stuck : Bool) : Type 0 where
  pub said : Said
  pub retries : RetriesIn old.work.operation up said messages
  pub left : new ≡ with_step old stamp Retried said old.work
  pub waits : stuck ≡ is_stuck said

-- ---- why a step is not done: no stamp is left above the last and the one seen, or the session's own cause

abbrev pub IsLastStamp : ℕ → ℕ → LiveFault → Type 0
IsLastStamp last seen fault = (fault ≡ Stamps) × (2 ^ 64 ≤ stamp_after last seen)

abbrev pub IsAskNextFault : Sitting → ℕ → LiveFault → Type 0
IsAskNextFault s last fault = IsLastStamp last 0 fault ⊎ IsAskFault s.work fault

abbrev pub IsHearLetterFault : Sitting → Letter → ℕ → LiveFault → Type 0
IsHearLetterFault s letter last fault = IsLastStamp last letter.stamp fault ⊎ IsHearFault s.home s.work letter.message fault
