-- What is read of the lines that are written.
use Rattle.std.specs.Prelude.{◌≡◌, ◌≢◌, ℕ, ◌*◌, ◌<◌, ◌≤◌, ◌^◌, List, [], ◌∷◌, ◌++◌, Bool, true, false, not, ◌==◌, codes, decimal, length, Some, if◌then◌else◌}
use Rattle.std.specs.List.{list_all}
use Rattle.hex.specs.Hex.{IsBytes}
use Rattle.gq_tag.specs.declared.Tag.{Tag}
use Rattle.gq_tag.specs.declared.StoredCopy.{StoredCopy}
use Rattle.gq_tag.specs.declared.Body.{Body}
use Rattle.gq_tag.specs.declared.Body.TheVariants.{Copy, Store}
use Rattle.gq_tag.specs.declared.Message.{Message}
use Rattle.gq_tag.specs.Tag.{to_server}
use Rattle.gq_tag.specs.declared.TheConstants.{BLOCK_BYTES}
use Rattle.gq_desk.specs.CheckedPlan.{CheckedPlan, row_at}
use Rattle.gq_model.specs.declared.events.Line.{Line}
use Rattle.gq_model.specs.declared.events.Line.TheVariants.{Write, Read, List as ListFiles, Abandon}
use Rattle.gq_node.specs.declared.lost.TheConstants.{NODE_NUMBERS}
use Rattle.gq_node.specs.declared.shorts.Short.{Short}
use Rattle.gq_node.specs.declared.shorts.ShortBody.{ShortBody}
use Rattle.gq_node.specs.declared.shorts.ShortBody.TheVariants.{AskAbove, Tagged, Confirm, Want}
use Rattle.gq_node.specs.Shorts.{body_with}
use Rattle.gq_node.specs.declared.output.Transfer.{Transfer}
use Rattle.gq_node.specs.declared.output.Transfer.TheVariants.{Wants, Brings}
use Rattle.gq_replace.specs.Plans.{place_of}
use Rattle.gq_lines.specs.Words.{Word}
use Rattle.gq_lines.specs.Written.{bytes_word, content_word, spaced, first_text}
use Rattle.gq_text.specs.Canonical.{IsPlan, IsNumber}
use Rattle.gq_wire.specs.declared.incoming.Incoming.{Incoming}
use Rattle.gq_wire.specs.declared.incoming.Incoming.TheVariants.{Request, Plan, Look, Bad, Letter, ShortLetter, Joins, Joined, Speaks, Fetch, Fetched, Nothing}
use Rattle.gq_wire.specs.Values.{copy_of}
use Rattle.gq_wire.specs.Questions.{look_words}
use Rattle.gq_wire.specs.Requests.{request_words}
use Rattle.gq_wire.specs.Letters.{is_of_round}
use Rattle.gq_wire.specs.Incoming.{incoming_of}
use Rattle.gq_wire.specs.Texts.{letter_words, letter_line, short_words, short_line, transfer_file, transfer_to, transfer_words, transfer_line}

-- the numbers of a copy fit in the words of a line
abbrev pub FitsCopy : StoredCopy → Type 0
FitsCopy copy = (copy.tag.number < 2 ^ 64) × (copy.tag.session < 256) × IsBytes copy.bytes

abbrev pub FitsBody : Body → Type 0
FitsBody (Copy copy) = FitsCopy copy
FitsBody (Store copy) = FitsCopy copy
FitsBody _ = Unit {0}

-- how many bytes of content a body has
abbrev pub content_length : Body → ℕ
content_length (Copy copy) = length copy.bytes
content_length (Store copy) = length copy.bytes
content_length _ = 0

-- a letter between these two, of a tenant of the plan, whose numbers fit, whose content is no longer than
-- a file of the tenant may have, and whose body is of its round
pub record FitsLetter (plan : CheckedPlan) (to from : ℕ) (m : Message) : Type 0 where
  pub tenant : m.tenant < length plan.rows
  pub own : m.file.tenant ≡ m.tenant
  pub to_fits : to < 2 ^ 32
  pub from_fits : from < NODE_NUMBERS
  pub server : m.server ≡ place_of (if to_server m.body then to else from)
  pub session : m.session < 256
  pub op : m.op < 2 ^ 32
  pub round : m.round < 2 ^ 32
  pub volume : m.file.volume < 2 ^ 32
  pub file : m.file.file < 2 ^ 32
  pub body : FitsBody m.body
  pub short : content_length m.body ≤ BLOCK_BYTES * (row_at plan m.tenant).most_blocks
  pub in_round : is_of_round m.round m.body ≡ true

-- no byte of the line is a newline
abbrev pub is_one_line : List ℕ → Bool
is_one_line line = list_all (λ c. not (c == 10)) line

-- the line of a letter, without its newline
abbrev pub letter_text : CheckedPlan → (to from : ℕ) → Message → List ℕ
letter_text plan to from m = decimal to ++ spaced (decimal from ∷ letter_words plan m)

-- the line that one node writes is read by the other as that letter
abbrev pub LettersReadBack : Type 0
LettersReadBack =
    (plan : CheckedPlan) (to from : ℕ) (m : Message) → IsPlan plan → FitsLetter plan to from m →
    (letter_line plan to from m ≡ letter_text plan to from m ++ 10 ∷ []) × (is_one_line (letter_text plan to from m) ≡ true) × (incoming_of plan to (letter_text plan to from m) ≡ Letter from m)

-- ---- a short letter

-- the numbers of a tag fit in the words of a line
abbrev pub FitsTag : Tag → Type 0
FitsTag tag = (tag.number < 2 ^ 64) × (tag.session < 256)

abbrev pub FitsShortBody : ShortBody → Type 0
FitsShortBody (AskAbove tag) = FitsTag tag
FitsShortBody (Tagged tag) = FitsTag tag
FitsShortBody (Confirm tag) = FitsTag tag
FitsShortBody Want = Unit {0}

-- a short letter between these two, of a tenant of the plan, whose numbers fit, and whose body is of its round
pub record FitsShort (plan : CheckedPlan) (to from : ℕ) (s : Short) : Type 0 where
  pub tenant : s.tenant < length plan.rows
  pub own : s.file.tenant ≡ s.tenant
  pub to_fits : to < 2 ^ 32
  pub from_fits : from < NODE_NUMBERS
  pub server : s.server ≡ place_of (if to_server (body_with [] s.body) then to else from)
  pub session : s.session < 256
  pub op : s.op < 2 ^ 32
  pub round : s.round < 2 ^ 32
  pub volume : s.file.volume < 2 ^ 32
  pub file : s.file.file < 2 ^ 32
  pub body : FitsShortBody s.body
  pub in_round : is_of_round s.round (body_with [] s.body) ≡ true

-- the line of a short letter, without its newline
abbrev pub short_text : CheckedPlan → (to from : ℕ) → Short → List ℕ
short_text plan to from s = decimal to ++ spaced (decimal from ∷ short_words plan s)

-- the line that one node writes is read by the other as that short letter; so it is none of a whole letter
abbrev pub ShortsReadBack : Type 0
ShortsReadBack =
    (plan : CheckedPlan) (to from : ℕ) (s : Short) → IsPlan plan → FitsShort plan to from s →
    (short_line plan to from s ≡ short_text plan to from s ++ 10 ∷ []) × (is_one_line (short_text plan to from s) ≡ true) × (incoming_of plan to (short_text plan to from s) ≡ ShortLetter from s)

-- a copy is read from digits too, as nodes wrote it before
abbrev pub CopiesInDigitsReadBack : Type 0
CopiesInDigitsReadBack = (copy : StoredCopy) → FitsCopy copy → copy_of (decimal copy.tag.number ∷ decimal copy.tag.session ∷ content_word copy.bytes ∷ []) ≡ Some copy

-- ---- between a new node and others

-- a line about a file of a tenant of the plan, whose numbers fit, and whose content is no longer than a file of the tenant may have
abbrev pub FitsCopyOf : (blocks : ℕ) → StoredCopy → Type 0
FitsCopyOf blocks copy = FitsCopy copy × (length copy.bytes ≤ BLOCK_BYTES * blocks)

abbrev pub FitsGiven : (blocks : ℕ) → Transfer → Type 0
FitsGiven blocks (Wants to file) = Unit {0}
FitsGiven blocks (Brings to file copy) = FitsCopyOf blocks copy

pub record FitsTransfer (plan : CheckedPlan) (from : ℕ) (transfer : Transfer) : Type 0 where
  pub tenant : (transfer_file transfer).tenant < length plan.rows
  pub to_fits : transfer_to transfer < 2 ^ 32
  pub from_fits : from < NODE_NUMBERS
  pub volume : (transfer_file transfer).volume < 2 ^ 32
  pub file : (transfer_file transfer).file < 2 ^ 32
  pub given : FitsGiven (row_at plan (transfer_file transfer).tenant).most_blocks transfer

abbrev pub transfer_text : CheckedPlan → (from : ℕ) → Transfer → List ℕ
transfer_text plan from transfer = decimal (transfer_to transfer) ++ spaced (decimal from ∷ (row_at plan (transfer_file transfer).tenant).name ∷ transfer_words transfer)

-- what it is to the node that it is for
abbrev pub transfer_incoming : (from : ℕ) → Transfer → Incoming
transfer_incoming from (Wants to file) = Fetch from file
transfer_incoming from (Brings to file copy) = Fetched from file copy

-- the line that one node writes about a file is read so by the other
abbrev pub TransfersReadBack : Type 0
TransfersReadBack =
    (plan : CheckedPlan) (from : ℕ) (transfer : Transfer) → IsPlan plan → FitsTransfer plan from transfer →
    (transfer_line plan from transfer ≡ transfer_text plan from transfer ++ 10 ∷ []) × (is_one_line (transfer_text plan from transfer) ≡ true) × (incoming_of plan (transfer_to transfer) (transfer_text plan from transfer) ≡ transfer_incoming from transfer)

-- so are the question whether a plan has a node, and its answer
pub record JoinsReadBack (plan : CheckedPlan) (to from losses : ℕ) : Type 0 where
  pub asked : incoming_of plan to (decimal to ++ spaced (decimal from ∷ codes "joins" ∷ decimal losses ∷ [])) ≡ Joins from losses
  pub answered : incoming_of plan to (decimal to ++ spaced (decimal from ∷ codes "joined" ∷ decimal losses ∷ [])) ≡ Joined from losses

abbrev pub AllJoinsReadBack : Type 0
AllJoinsReadBack = (plan : CheckedPlan) (to from losses : ℕ) → IsNumber to → from < NODE_NUMBERS → IsNumber losses → JoinsReadBack plan to from losses

-- and so is the form of lines that a node tells
abbrev pub FormsReadBack : Type 0
FormsReadBack = (plan : CheckedPlan) (to from form : ℕ) → IsNumber to → from < NODE_NUMBERS → IsNumber form → incoming_of plan to (decimal to ++ spaced (decimal from ∷ codes "speaks" ∷ decimal form ∷ [])) ≡ Speaks from form

-- ---- requests

-- a content that a file of so many blocks may have
abbrev pub FitsContent : (blocks : ℕ) → List ℕ → Type 0
FitsContent blocks bytes = IsBytes bytes × (length bytes ≤ BLOCK_BYTES * blocks)

-- a request whose numbers fit, of a tenant whose files have at most so many blocks
abbrev pub FitsRequest : (blocks op : ℕ) → Line → Type 0
FitsRequest blocks op (Write k v f bytes) = IsNumber op × IsNumber k × IsNumber v × IsNumber f × FitsContent blocks bytes
FitsRequest blocks op (Read k v f) = IsNumber op × IsNumber k × IsNumber v × IsNumber f
FitsRequest blocks op (ListFiles k v) = IsNumber op × IsNumber k × IsNumber v
FitsRequest blocks op (Abandon k) = IsNumber op × IsNumber k
FitsRequest blocks op _ = ⊥

-- the line of a tenant's request to that node, without its newline
abbrev pub request_text : CheckedPlan → (to tenant op : ℕ) → Line → List ℕ
request_text plan to tenant op line = decimal to ++ spaced ((row_at plan tenant).name ∷ request_words op line)

-- the request that a tenant writes is read as that request
abbrev pub RequestsReadBack : Type 0
RequestsReadBack =
    (plan : CheckedPlan) (to tenant op : ℕ) (line : Line) → IsPlan plan → IsNumber to → tenant < length plan.rows → FitsRequest (row_at plan tenant).most_blocks op line →
    incoming_of plan to (request_text plan to tenant op line) ≡ Request tenant op line

-- the line of a write whose content is written as its bytes
abbrev pub write_text : CheckedPlan → (to tenant op session volume file : ℕ) → List ℕ → List ℕ
write_text plan to tenant op k v f bytes =
    decimal to ++ spaced ((row_at plan tenant).name ∷ codes "write" ∷ decimal k ∷ decimal op ∷ decimal v ∷ decimal f ∷ bytes_word bytes ∷ [])

-- it is read as that request too
abbrev pub WritesReadBack : Type 0
WritesReadBack =
    (plan : CheckedPlan) (to tenant op k v f : ℕ) (bytes : List ℕ) → IsPlan plan → IsNumber to → tenant < length plan.rows →
    FitsRequest (row_at plan tenant).most_blocks op (Write k v f bytes) → incoming_of plan to (write_text plan to tenant op k v f bytes) ≡ Request tenant op (Write k v f bytes)

-- ---- the question what a tenant has

-- the line of a tenant's question to that node, without its newline
abbrev pub plan_text : CheckedPlan → (to tenant : ℕ) → List ℕ
plan_text plan to tenant = decimal to ++ spaced ((row_at plan tenant).name ∷ codes "plan" ∷ [])

-- the question that a tenant writes is read as that question
abbrev pub PlansReadBack : Type 0
PlansReadBack =
    (plan : CheckedPlan) (to tenant : ℕ) → IsPlan plan → IsNumber to → tenant < length plan.rows → incoming_of plan to (plan_text plan to tenant) ≡ Plan tenant

-- ---- the question what a server has of a volume

-- the line of it to that node, without its newline
abbrev pub look_text : CheckedPlan → (to tenant mark volume : ℕ) → List ℕ
look_text plan to tenant mark volume = decimal to ++ spaced ((row_at plan tenant).name ∷ look_words mark volume)

-- it is read as that question
abbrev pub LooksReadBack : Type 0
LooksReadBack =
    (plan : CheckedPlan) (to tenant mark volume : ℕ) → IsPlan plan → IsNumber to → tenant < length plan.rows → mark < 2 ^ 64 → IsNumber volume →
    incoming_of plan to (look_text plan to tenant mark volume) ≡ Look tenant mark volume

-- ---- lines that are not for the node

-- A line that begins with a tenant's name is nothing to a node, and so is one that begins with the number of another node: of what nodes write, a
-- node acts on lines to it alone.
pub record PassesOver : Type 0 where
  pub told : (plan : CheckedPlan) (here tenant : ℕ) (words : List Word) → IsPlan plan → tenant < length plan.rows → incoming_of plan here ((row_at plan tenant).name ++ spaced words) ≡ Nothing
  pub others : (plan : CheckedPlan) (here to : ℕ) (words : List Word) → IsNumber to → to ≢ here → incoming_of plan here (decimal to ++ spaced words) ≡ Nothing

-- ---- torn lines

-- the line is no request, no question, no line between nodes and no tick
abbrev pub is_formless : Incoming → Bool
is_formless (Bad tenant) = true
is_formless Nothing = true
is_formless _ = false

-- the first line that a node writes has no form, whatever was torn before it: it ends with a word that ends no line
abbrev pub TornLinesHaveNoForm : Type 0
TornLinesHaveNoForm =
    (plan : CheckedPlan) (here : ℕ) (torn : List ℕ) →
    (torn ++ first_text ≡ (torn ++ spaced (codes "?" ∷ [])) ++ 10 ∷ []) × (is_formless (incoming_of plan here (torn ++ spaced (codes "?" ∷ []))) ≡ true)
