-- The lines that a node writes.
use Rattle.std.specs.Prelude.{ℕ, List, [], ◌∷◌, ◌++◌, ◌+◌, ◌==◌, ◌&&◌, Bool, nat_le, if◌then◌else◌, codes, decimal, length, map, slice_index_or, Option, Some, None}
use Rattle.gq_tag.specs.declared.Tag.{Tag}
use Rattle.gq_tag.specs.declared.FileId.{FileId}
use Rattle.gq_tag.specs.declared.StoredCopy.{StoredCopy}
use Rattle.gq_tag.specs.declared.Body.{Body}
use Rattle.gq_tag.specs.declared.Body.TheVariants.{Ask, Copy, Store, Stored}
use Rattle.gq_tag.specs.declared.Message.{Message}
use Rattle.gq_desk.specs.declared.volumes.VolumeRow.{VolumeRow}
use Rattle.gq_desk.specs.CheckedPlan.{CheckedPlan, row_at}
use Rattle.gq_grid.specs.Grid.{Grid}
use Rattle.gq_phase.specs.declared.Row.{Row}
use Rattle.gq_model.specs.declared.events.Line.{Line}
use Rattle.gq_model.specs.declared.events.Line.TheVariants.{Write, Read, List as ListFiles}
use Rattle.gq_model.specs.declared.events.Refusal.{Refusal}
use Rattle.gq_model.specs.declared.events.Refusal.TheVariants.{NoVolume, NoFile, TooLong}
use Rattle.gq_lines.specs.Words.{Word}
use Rattle.gq_lines.specs.Written.{bytes_word, line_text}
use Rattle.gq_text.specs.AnswerText.{file_word, outcome_words, refusal_words}
use Rattle.gq_wire.specs.declared.answers.TheConstants.{VOLUMES_ONE_BY_ONE}
use Rattle.gq_node.specs.declared.shorts.Short.{Short}
use Rattle.gq_node.specs.declared.shorts.ShortBody.{ShortBody}
use Rattle.gq_node.specs.declared.shorts.ShortBody.TheVariants.{AskAbove, Tagged, Confirm, Want}
use Rattle.gq_node.specs.declared.output.Answer.{Answer}
use Rattle.gq_node.specs.declared.output.Holding.{Holding}
use Rattle.gq_node.specs.declared.output.Look.{Look}
use Rattle.gq_node.specs.declared.output.Transfer.{Transfer}
use Rattle.gq_node.specs.declared.output.Transfer.TheVariants.{Wants, Brings}
use Rattle.gq_node.specs.declared.output.Answer.TheVariants.{Done, Gone, Refused, Old, Early, Busy, Away, Has, Looked, NotLooked, Bad}
use Rattle.gq_wire.specs.declared.incoming.TheConstants.{LINE_FORM}

-- ---- a letter

abbrev pub copy_words : StoredCopy → List Word
copy_words copy = decimal copy.tag.number ∷ decimal copy.tag.session ∷ bytes_word copy.bytes ∷ []

abbrev pub body_words : Body → List Word
body_words Ask = codes "ask" ∷ []
body_words (Store copy) = codes "store" ∷ copy_words copy
body_words (Copy copy) = codes "copy" ∷ copy_words copy
body_words Stored = codes "stored" ∷ []

-- the words of a letter behind its addresses, of which these are the body's
abbrev pub headed : CheckedPlan → Message → List Word → List Word
headed plan m body =
    (row_at plan m.tenant).name ∷ decimal m.session ∷ decimal m.op ∷ decimal m.round ∷ decimal m.file.volume ∷ decimal m.file.file ∷ body

abbrev pub letter_words : CheckedPlan → Message → List Word
letter_words plan m = headed plan m (body_words m.body)

abbrev pub letter_line : CheckedPlan → (to from : ℕ) → Message → List ℕ
letter_line plan to from m = line_text (decimal to) (decimal from ∷ letter_words plan m)

-- ---- a short letter

abbrev pub tag_words : Tag → List Word
tag_words tag = decimal tag.number ∷ decimal tag.session ∷ []

abbrev pub short_body_words : ShortBody → List Word
short_body_words (AskAbove tag) = codes "ask" ∷ tag_words tag
short_body_words (Tagged tag) = codes "tag" ∷ tag_words tag
short_body_words (Confirm tag) = codes "confirm" ∷ tag_words tag
short_body_words Want = codes "want" ∷ []

abbrev pub short_headed : CheckedPlan → Short → List Word → List Word
short_headed plan s body =
    (row_at plan s.tenant).name ∷ decimal s.session ∷ decimal s.op ∷ decimal s.round ∷ decimal s.file.volume ∷ decimal s.file.file ∷ body

abbrev pub short_words : CheckedPlan → Short → List Word
short_words plan s = short_headed plan s (short_body_words s.body)

abbrev pub short_line : CheckedPlan → (to from : ℕ) → Short → List ℕ
short_line plan to from s = line_text (decimal to) (decimal from ∷ short_words plan s)

-- ---- between a new node and others

-- a line about the tenant's file, of which these are the words behind the verb
abbrev pub transfer_file : Transfer → FileId
transfer_file (Wants to file) = file
transfer_file (Brings to file copy) = file

abbrev pub transfer_to : Transfer → ℕ
transfer_to (Wants to file) = to
transfer_to (Brings to file copy) = to

abbrev pub transfer_words : Transfer → List Word
transfer_words (Wants to file) = codes "fetch" ∷ decimal file.volume ∷ decimal file.file ∷ []
transfer_words (Brings to file copy) = codes "fetched" ∷ decimal file.volume ∷ decimal file.file ∷ copy_words copy

abbrev pub transfer_line : CheckedPlan → (from : ℕ) → Transfer → List ℕ
transfer_line plan from transfer = line_text (decimal (transfer_to transfer)) (decimal from ∷ (row_at plan (transfer_file transfer).tenant).name ∷ transfer_words transfer)

-- a new node asks whether the plan of another has it, and so many losses or more; and that node answers that it has
abbrev pub joins_line : (to from losses : ℕ) → List ℕ
joins_line to from losses = line_text (decimal to) (decimal from ∷ codes "joins" ∷ decimal losses ∷ [])

abbrev pub joined_line : (to from losses : ℕ) → List ℕ
joined_line to from losses = line_text (decimal to) (decimal from ∷ codes "joined" ∷ decimal losses ∷ [])

-- ---- forms

-- a node tells another that it speaks all forms of lines between nodes up to this one
abbrev pub speaks_line : (to from form : ℕ) → List ℕ
speaks_line to from form = line_text (decimal to) (decimal from ∷ codes "speaks" ∷ decimal form ∷ [])

-- how a tenant is told the form of this program
abbrev pub form_word : Word
form_word = codes "lines=" ++ decimal LINE_FORM

-- and how the nodes are arranged
abbrev pub grid_words : Grid → List Word
grid_words grid = (codes "rows=" ++ decimal grid.rows) ∷ (codes "columns=" ++ decimal grid.cols) ∷ []

-- ---- a refusal

-- the volume, the file and the length of the content that a request names
abbrev pub volume_in : Line → ℕ
volume_in (Write k v f bytes) = v
volume_in (Read k v f) = v
volume_in (ListFiles k v) = v
volume_in _ = 0

abbrev pub file_in : Line → ℕ
file_in (Write k v f bytes) = f
file_in (Read k v f) = f
file_in _ = 0

abbrev pub length_in : Line → ℕ
length_in (Write k v f bytes) = length bytes
length_in _ = 0

-- the first word by which a script is told the refusal; no node tells one that has two
abbrev pub word_of : Refusal → Word
word_of refusal = slice_index_or (refusal_words refusal) 0 []

-- what of the request it is that is refused
abbrev pub subject_words : Refusal → Line → List Word
subject_words NoVolume asked = decimal (volume_in asked) ∷ []
subject_words NoFile asked = decimal (volume_in asked) ∷ decimal (file_in asked) ∷ []
subject_words TooLong asked = decimal (volume_in asked) ∷ decimal (file_in asked) ∷ decimal (length_in asked) ∷ []
subject_words _ asked = []

abbrev pub refusal_words_of : (session op : ℕ) → Refusal → Line → List Word
refusal_words_of session op refusal asked = word_of refusal ∷ decimal session ∷ decimal op ∷ subject_words refusal asked

-- a number that can't begin is refused with that of the session's last operation
abbrev pub last_words : (session op last : ℕ) → List Word
last_words session op last = decimal session ∷ decimal op ∷ decimal last ∷ []

-- ---- what a tenant has

-- a volume: its files, and the blocks of a file
abbrev pub volume_word : VolumeRow → Word
volume_word volume = decimal volume.files ++ codes "." ++ decimal volume.blocks

-- several that are alike, one after another: these, and how many
abbrev pub run_word : VolumeRow → (times : ℕ) → Word
run_word volume times = volume_word volume ++ codes "." ++ decimal times

abbrev pub are_alike : VolumeRow → VolumeRow → Bool
are_alike a b = a.files == b.files && a.blocks == b.blocks

-- the runs of volumes, behind so many of the first
abbrev pub runs_behind : VolumeRow → (times : ℕ) → List VolumeRow → List Word
runs_behind volume times [] = run_word volume times ∷ []
runs_behind volume times (next ∷ volumes) =
    if are_alike next volume then runs_behind volume (times + 1) volumes
    else run_word volume times ∷ runs_behind next 1 volumes

abbrev pub run_words : List VolumeRow → List Word
run_words [] = []
run_words (volume ∷ volumes) = runs_behind volume 1 volumes

-- the volumes that are open: where they are many, by runs
abbrev pub volumes_words : List VolumeRow → List Word
volumes_words volumes = if nat_le (length volumes) VOLUMES_ONE_BY_ONE then map volume_word volumes else run_words volumes

abbrev pub holding_words : Holding → List Word
holding_words has =
    decimal has.servers ∷ decimal has.home ∷ decimal has.sessions ∷ decimal has.share ∷ decimal has.most_blocks ∷ volumes_words has.volumes ++ map decimal has.nodes

-- ---- what a server has of a volume

-- of a file: the length and the tag of its copy, or `-` where it lacks the file
abbrev pub held_word : Option Row → Word
held_word None = codes "-"
held_word (Some row) = file_word row

-- the number of the question, the volume, how many losses the node's plan tells of, and the files
abbrev pub looked_words : Look → List Word
looked_words look = codes "looked" ∷ decimal look.mark ∷ decimal look.volume ∷ decimal look.losses ∷ map held_word look.rows

-- ---- what a tenant is told

-- the words of an answer to the request `asked`, or to a question, by a node of this grid
abbrev pub told_words : Grid → Line → Answer → List Word
told_words grid asked (Done outcome) = codes "done" ∷ outcome_words outcome
told_words grid asked (Gone session op) = codes "gone" ∷ decimal session ∷ decimal op ∷ []
told_words grid asked (Refused session op refusal) = codes "refused" ∷ refusal_words_of session op refusal asked
told_words grid asked (Old session op last) = codes "refused" ∷ codes "old" ∷ last_words session op last
told_words grid asked (Early session op last) = codes "refused" ∷ codes "early" ∷ last_words session op last
told_words grid asked (Busy session op last) = codes "refused" ∷ codes "busy" ∷ last_words session op last
told_words grid asked (Away session op home) = codes "refused" ∷ codes "home" ∷ decimal home ∷ decimal session ∷ decimal op ∷ []
told_words grid asked (Has has) = codes "plan" ∷ holding_words has ++ form_word ∷ grid_words grid
told_words grid asked (Looked look) = looked_words look
told_words grid asked (NotLooked mark volume) = codes "refused" ∷ codes "novolume" ∷ decimal mark ∷ decimal volume ∷ []
told_words grid asked Bad = codes "refused" ∷ codes "bad" ∷ []

-- the line of it, from that node
abbrev pub told_line : CheckedPlan → (from tenant : ℕ) → Line → Answer → List ℕ
told_line plan from tenant asked answer = line_text (row_at plan tenant).name (decimal from ∷ told_words plan.grid asked answer)
