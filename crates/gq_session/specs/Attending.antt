-- What a session of a live run does with what comes to it. Which servers are up then the board knows.
use Rattle.std.specs.Prelude.{ℕ, ◌≡◌, ◌&&◌, List, [], ◌∷◌, Bool, true, false, MatchBool}
use Rattle.std.specs.Coded.{×_prop, Coded-set, coded_bool}
use Rattle.gq_grid.specs.Grid.{Servers}
use Rattle.gq_tag.specs.declared.Message.{Message}
use Rattle.gq_cell.specs.declared.letter.Letter.{Letter}
use Rattle.gq_session.specs.Sessions.{Sitting, AsksNext, HearsLetter, Retries, is_stuck, with_step}
use Rattle.gq_session.specs.Works.{is_of_work, said_ending, ended_work}
use Rattle.gq_session.specs.declared.records.Did.{Did}
use Rattle.gq_session.specs.declared.records.Did.TheVariants.{Heard, Retried, GaveUp}
use Rattle.gq_session.specs.declared.records.SessionEntry.{SessionEntry}

-- ---- the steps, whichever servers are up

pub record Asks (old new : Sitting) (stamp : ℕ) (messages : List Message) : Type 0 where
  pub up : Servers
  pub asks : AsksNext old new up stamp messages

pub record Hears (letter : Letter) (old new : Sitting) (stamp : ℕ) (messages : List Message) (stuck : Bool) : Type 0 where
  pub up : Servers
  pub hears : HearsLetter old new up letter stamp messages stuck

pub record SendsAgain (old new : Sitting) (stamp : ℕ) (messages : List Message) (stuck : Bool) : Type 0 where
  pub up : Servers
  pub retries : Retries old new up stamp messages stuck

-- no operation is left
abbrev pub GivesUp : ℕ → Sitting → Sitting → Type 0
GivesUp stamp old new = new ≡ with_step old stamp GaveUp (said_ending old.work.operation) (ended_work old.work)

-- ---- what comes

-- a session that waits for nothing gives its operation up, and one that waits goes on waiting
abbrev pub GoesOn : Bool → Sitting → Sitting → Type 0
GoesOn stuck old new = MatchBool stuck ((stamp : ℕ) × GivesUp stamp old new) (new ≡ old)

-- a reply is heard and recorded, also one that comes too late
pub record TakesReply (letter : Letter) (old new : Sitting) : Type 0 where
  pub stamp : ℕ
  pub messages : List Message
  pub stuck : Bool
  pub heard : Sitting
  pub hears : Hears letter old heard stamp messages stuck
  pub goes_on : GoesOn stuck heard new

-- the round's message is sent once more, and the operation is given up only where no row or column is up to send it to
pub record TriesAgain (old new : Sitting) : Type 0 where
  pub stamp : ℕ
  pub messages : List Message
  pub stuck : Bool
  pub tried : Sitting
  pub tries : SendsAgain old tried stamp messages stuck
  pub goes_on : GoesOn stuck tried new

-- a notice that the letter's server is down: where the letter is of the session's operation and round, that is tried again, and
-- else the notice is passed by
abbrev pub TakesNotice : Letter → Sitting → Sitting → Type 0
TakesNotice letter old new = MatchBool (is_of_work old.work letter.message) (TriesAgain old new) (new ≡ old)

-- ---- what a session's entries show of it

abbrev pub gives_up : Did → Bool
gives_up GaveUp = true
gives_up _ = false

-- whether the step is one in an operation: a reply or a retry
abbrev pub is_in_operation : Did → Bool
is_in_operation (Heard letter) = true
is_in_operation Retried = true
is_in_operation _ = false

-- whether the step left the session waiting for nothing: a round began with no message, or a retry was refused
abbrev pub leaves_stuck : SessionEntry → Bool
leaves_stuck e = is_in_operation e.did && is_stuck e.said

-- an operation is given up exactly in the step behind one that left the session waiting for nothing; `stuck` says whether the
-- step before these did
abbrev pub GivesUpAfter : Bool → List SessionEntry → Type 0
GivesUpAfter stuck [] = stuck ≡ false
GivesUpAfter stuck (e ∷ es) = (gives_up e.did ≡ stuck) × GivesUpAfter (leaves_stuck e) es

abbrev pub GivesUpWhereStuck : List SessionEntry → Type 0
GivesUpWhereStuck entries = GivesUpAfter false entries

-- a fact that holds in one way at most
is_prop-gives_up_after : (stuck : Bool) (entries : List SessionEntry) → IsProp (GivesUpAfter stuck entries)
is_prop-gives_up_after stuck [] = Coded-set coded_bool stuck false
is_prop-gives_up_after stuck (e ∷ es) = ×_prop (Coded-set coded_bool (gives_up e.did) stuck) (is_prop-gives_up_after (leaves_stuck e) es)

pub is_prop-gives_up : (entries : List SessionEntry) → IsProp (GivesUpWhereStuck entries)
is_prop-gives_up entries = is_prop-gives_up_after false entries
