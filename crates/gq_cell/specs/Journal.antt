-- What a server's journal says.
use Rattle.std.specs.Prelude.{ℕ, ◌≡◌, ◌+◌, ◌<◌, List, [], ◌∷◌, ◌++◌, Bool, true, false, ◌&&◌, ◌==◌, if◌then◌else◌}
use Rattle.gq_tag.specs.declared.FileId.{FileId}
use Rattle.gq_tag.specs.declared.StoredCopy.{StoredCopy}
use Rattle.gq_tag.specs.declared.Body.{Body}
use Rattle.gq_tag.specs.declared.Body.TheVariants.{Store}
use Rattle.gq_tag.specs.Tag.{file_place, is_file, first_copy, greatest, to_server}
use Rattle.gq_store.specs.Serving.{server_reply}
use Rattle.gq_cell.specs.declared.letter.Letter.{Letter}
use Rattle.gq_cell.specs.declared.letter.CellEntry.{CellEntry}
use Rattle.gq_cell.specs.declared.letter.CellEntry.TheVariants.{Served, Stop, Back}

-- ---- questions to a journal, whose entries stand in order

-- the stamp of an entry: of a served letter its reply's
abbrev pub stamp_of : CellEntry → ℕ
stamp_of (Served letter reply) = reply.stamp
stamp_of (Stop stamp) = stamp
stamp_of (Back stamp) = stamp

-- the last stamp, or that number where there is none
abbrev pub last_from : ℕ → List CellEntry → ℕ
last_from n [] = n
last_from n (e ∷ es) = last_from (stamp_of e) es

abbrev pub last_stamp_of : List CellEntry → ℕ
last_stamp_of journal = last_from 0 journal

-- whether the server is up
abbrev pub up_after : Bool → CellEntry → Bool
up_after up (Served letter reply) = up
up_after up (Stop stamp) = false
up_after up (Back stamp) = true

abbrev pub up_from : Bool → List CellEntry → Bool
up_from up [] = up
up_from up (e ∷ es) = up_from (up_after up e) es

abbrev pub is_up : List CellEntry → Bool
is_up journal = up_from true journal

-- how many letters were served
abbrev pub served_by : CellEntry → ℕ
served_by (Served letter reply) = 1
served_by (Stop stamp) = 0
served_by (Back stamp) = 0

abbrev pub served : List CellEntry → ℕ
served [] = 0
served (e ∷ es) = served_by e + served es

-- they name the same file
abbrev pub is_file_id : FileId → FileId → Bool
is_file_id a b = (a.tenant == b.tenant) && is_file (file_place a) (file_place b)

-- the copies of the file that stores brought, in order
abbrev pub stored_by_body : Body → List StoredCopy
stored_by_body (Store copy) = copy ∷ []
stored_by_body _ = []

abbrev pub stored_by_entry : FileId → CellEntry → List StoredCopy
stored_by_entry file (Served letter reply) = if is_file_id letter.message.file file then stored_by_body letter.message.body else []
stored_by_entry file (Stop stamp) = []
stored_by_entry file (Back stamp) = []

abbrev pub stored_by_journal : FileId → List CellEntry → List StoredCopy
stored_by_journal file [] = []
stored_by_journal file (e ∷ es) = stored_by_entry file e ++ stored_by_journal file es

-- the file's copy that the server holds: the greatest of the first copy and those that stores brought
abbrev pub copy_after : List CellEntry → FileId → StoredCopy
copy_after journal file = greatest (first_copy ∷ stored_by_journal file journal)

-- ---- lawful journals

-- the letter that answers a letter at that stamp: from the server's place, the only one of its step, with what the copy
-- held then gives
abbrev pub answer_at : ℕ → List CellEntry → ℕ → Letter → Letter
answer_at server before stamp letter =
    record { place = server + 1; stamp = stamp; index = 0; message = server_reply (copy_after before letter.message.file) letter.message }

-- the server served the letter: it is for this server, which was up, and is answered above its own stamp
pub record IsServed (server : ℕ) (before : List CellEntry) (letter reply : Letter) : Type 0 where
  pub here : letter.message.server ≡ server
  pub asks : to_server letter.message.body ≡ true
  pub up : is_up before ≡ true
  pub answer : reply ≡ answer_at server before reply.stamp letter
  pub above : letter.stamp < reply.stamp

-- the entry may follow those before it: a server that is up stops, one that is stopped comes back
abbrev pub Follows : ℕ → List CellEntry → CellEntry → Type 0
Follows server before (Served letter reply) = IsServed server before letter reply
Follows server before (Stop stamp) = is_up before ≡ true
Follows server before (Back stamp) = is_up before ≡ false

-- each entry may follow those before it, and the stamps rise
abbrev pub LawfulAfter : ℕ → List CellEntry → List CellEntry → Type 0
LawfulAfter server before [] = Unit {0}
LawfulAfter server before (e ∷ es) = (last_stamp_of before < stamp_of e) × Follows server before e × LawfulAfter server (before ++ e ∷ []) es

abbrev pub IsLawful : ℕ → List CellEntry → Type 0
IsLawful server journal = LawfulAfter server [] journal
