-- What a live run gives.
use Rattle.std.specs.Prelude.{ℕ, ◌≡◌, List, Some, slice_get}
use Rattle.gq_cell.specs.declared.letter.CellEntry.{CellEntry}
use Rattle.gq_cell.specs.Journal.{IsLawful}
use Rattle.gq_model.specs.declared.events.Line.{Line}
use Rattle.gq_session.specs.declared.records.SessionEntry.{SessionEntry}
use Rattle.gq_session.specs.Asked.{asked_of}

-- the journal at each server's place is lawful for that server
abbrev pub AllLawful : List (List CellEntry) → Type 0
AllLawful journals = (server : ℕ) (journal : List CellEntry) → slice_get journals server ≡ Some journal → IsLawful server journal

-- each session asked its program's requests, all, in order
abbrev pub AllAsked : List (List Line) → List (List SessionEntry) → Type 0
AllAsked programs sessions =
    (place : ℕ) (entries : List SessionEntry) (program : List Line) → slice_get sessions place ≡ Some entries → slice_get programs place ≡ Some program → asked_of entries ≡ program
