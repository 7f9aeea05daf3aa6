-- The requests that a session's entries say it asked.
use Rattle.std.specs.Prelude.{List, [], ◌∷◌, ◌++◌}
use Rattle.gq_model.specs.declared.events.Line.{Line}
use Rattle.gq_session.specs.declared.records.SessionEntry.{SessionEntry}
use Rattle.gq_session.specs.declared.records.Did.{Did}
use Rattle.gq_session.specs.declared.records.Did.TheVariants.{Asked, Heard, Retried, GaveUp}

abbrev pub asks : Did → List Line
asks (Asked line) = line ∷ []
asks (Heard letter) = []
asks Retried = []
asks GaveUp = []

abbrev pub asked_of : List SessionEntry → List Line
asked_of [] = []
asked_of (e ∷ es) = asks e.did ++ asked_of es
