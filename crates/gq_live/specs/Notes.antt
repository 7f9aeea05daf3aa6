-- What comes to a session of a live run.
use Rattle.std.specs.Prelude.{◌≡◌}
use Rattle.gq_cell.specs.declared.letter.Letter.{Letter as LetterIs}
use Rattle.gq_cell.specs.declared.cell.Served.{Served}
use Rattle.gq_cell.specs.declared.cell.Served.TheVariants.{Reply, Down}
use Rattle.gq_session.specs.Attending.{TakesReply, TakesNotice}
use Rattle.gq_session.specs.Sessions.{Sitting}
use Rattle.gq_live.specs.declared.starts.Note.{Note}
use Rattle.gq_live.specs.declared.starts.Note.TheVariants.{Letter, Returned, Quit}

-- what is told to the session of a letter: the reply, or that the server is down, by the letter itself
abbrev pub note_for : LetterIs → Served → Note
note_for letter (Reply reply) = Letter reply
note_for letter Down = Returned letter

-- what a session does with it
abbrev pub TakesNote : Note → Sitting → Sitting → Type 0
TakesNote (Letter letter) old new = TakesReply letter old new
TakesNote (Returned letter) old new = TakesNotice letter old new
TakesNote Quit old new = new ≡ old
