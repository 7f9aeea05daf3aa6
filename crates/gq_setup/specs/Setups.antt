-- What a node starts with: a plan, the volumes that are opened at each start, what tenants may have of chunks, which nodes were lost, and which
-- tenants are gone.
--
-- A new node lacks chunks by the plan with which its journal begins: a tenant who got room later never had a chunk at the lost
-- node. Else each node of a column that was once replaced would lack his chunks, and none could fill the others.
use Rattle.std.specs.Prelude.{◌≡◌, ℕ, ◌+◌, ◌*◌, ◌<◌, ◌^◌, List, [], ◌∷◌, ◌++◌, length, map, slice_set, Option, Some, None, Result, Ok, Err, Bool, true, ◌&&◌, ◌==◌, not, is_none, nat_lt, codes, zero, suc, if◌then◌else◌}
use Rattle.std.specs.List.{list_any}
use Rattle.std.specs.Str.{bytes_eq}
use Rattle.gq_desk.specs.CheckedPlan.{CheckedPlan, row_at}
use Rattle.gq_desk.specs.Names.{is_name}
use Rattle.gq_desk.specs.Volumes.{Account, open_fault, OpenFault, with_volume, account_at, new_account}
use Rattle.gq_desk.specs.declared.volumes.VolumeRow.{VolumeRow}
use Rattle.gq_model.specs.declared.events.Event.{Event}
use Rattle.gq_model.specs.declared.events.Event.TheVariants.{Tenant, Server, Stray}
use Rattle.gq_model.specs.declared.events.Line.{Line}
use Rattle.gq_model.specs.declared.events.Line.TheVariants.{NewVolume}
use Rattle.gq_text.specs.declared.plan_text.TextFault.{TextFault}
use Rattle.gq_lines.specs.Words.{Word, words_of, number_of}
use Rattle.gq_lines.specs.Lines.{lines_of}
use Rattle.gq_text.specs.Input.{◌>>=◌, event_of, place_named}
use Rattle.gq_text.specs.PlanText.{plan_of, Reading}
use Rattle.gq_replace.specs.Plans.{times, node_at, place_of}
use Rattle.gq_node.specs.declared.lost.TheConstants.{MOST_TIMES}
use Rattle.gq_node.specs.Sites.{plan_in}
use Rattle.gq_setup.specs.declared.openings.Opening.{Opening}
use Rattle.gq_setup.specs.declared.openings.ChunkRoom.{ChunkRoom}
use Rattle.gq_setup.specs.declared.openings.TheConstants.{MOST_LOSSES, MOST_GONE}

-- a plan, the volumes that are opened, the room that tenants have for chunks, the places whose nodes were lost, and the names of tenants that are
-- gone, each in order
pub record Setup : Type 0 where
  pub plan : CheckedPlan
  pub openings : List Opening
  pub rooms : List ChunkRoom
  pub lost : List ℕ
  pub gone : List Word

-- ---- volumes

-- what the tenants of a plan have before a volume is opened
abbrev pub accounts_of : CheckedPlan → List Account
accounts_of plan = map new_account plan.rows

abbrev pub volume_of : Opening → VolumeRow
volume_of opening = record { files = opening.files; blocks = opening.blocks }

-- why the volume can't be opened
abbrev pub opening_fault : List Account → Opening → Option OpenFault
opening_fault accounts opening = open_fault (account_at accounts opening.tenant) (volume_of opening)

-- what the tenants have once it is, and once several are
abbrev pub after_opening : List Account → Opening → List Account
after_opening accounts opening = slice_set accounts opening.tenant (with_volume (volume_of opening) (account_at accounts opening.tenant))

abbrev pub after_openings : List Account → List Opening → List Account
after_openings accounts [] = accounts
after_openings accounts (opening ∷ openings) = after_openings (after_opening accounts opening) openings

-- each volume is a tenant's that is there, and can be opened behind those before it
abbrev pub CanOpen : List Account → List Opening → Type 0
CanOpen accounts [] = Unit {0}
CanOpen accounts (opening ∷ openings) = (opening.tenant < length accounts) × (opening_fault accounts opening ≡ None) × CanOpen (after_opening accounts opening) openings

-- what the tenants of a setup have
abbrev pub holdings : Setup → List Account
holdings setup = after_openings (accounts_of setup.plan) setup.openings

-- ---- room for chunks

-- how many KiB of chunks the tenant at place t may have at each server by these, 0 where none is the tenant's
abbrev pub kib_of : List ChunkRoom → (t : ℕ) → ℕ
kib_of [] t = 0
kib_of (room ∷ rooms) t = if room.tenant == t then room.kib else kib_of rooms t

-- whether there is some, and the tenant had none by those before
abbrev pub can_have : List ChunkRoom → ChunkRoom → Bool
can_have rooms room = nat_lt 0 room.kib && kib_of rooms room.tenant == 0

-- each is a tenant's that is there, and has a number of 32 bits, and can be had behind those before it
abbrev pub CanHave : CheckedPlan → (before rooms : List ChunkRoom) → Type 0
CanHave plan before [] = Unit {0}
CanHave plan before (room ∷ rooms) =
    (room.tenant < length plan.rows) × (room.kib < 2 ^ 32) × (can_have before room ≡ true) × CanHave plan (before ++ room ∷ []) rooms

-- ---- nodes that were lost

-- whether the node at the place may be lost, where these were before: there is such a place, its column has another one, and not too many
-- nodes were lost, neither in all nor there
abbrev pub can_lose : CheckedPlan → List ℕ → (place : ℕ) → Bool
can_lose plan lost place =
    nat_lt place (plan.grid.rows * plan.grid.cols) && (nat_lt 1 plan.grid.rows && (nat_lt (length lost) MOST_LOSSES && nat_lt (times (plan_in lost) place) MOST_TIMES))

-- each may be lost, where those before it were
abbrev pub CanLose : CheckedPlan → (before lost : List ℕ) → Type 0
CanLose plan before [] = Unit {0}
CanLose plan before (place ∷ lost) = (can_lose plan before place ≡ true) × CanLose plan (before ++ place ∷ []) lost

-- whether it is a node of the plan: its place is one of the grid, and the plan has that node there
abbrev pub has_node : Setup → (node : ℕ) → Bool
has_node setup node = nat_lt (place_of node) (setup.plan.grid.rows * setup.plan.grid.cols) && node_at (plan_in setup.lost) (place_of node) == node

-- ---- tenants that are gone

-- whether a tenant of this name is one of those that are gone
abbrev pub is_gone : (gone : List Word) → (name : Word) → Bool
is_gone gone name = list_any (bytes_eq name) gone

-- whether the tenant at place t of the plan is
abbrev pub is_gone_at : (gone : List Word) → CheckedPlan → (t : ℕ) → Bool
is_gone_at gone plan t = is_gone gone (row_at plan t).name

-- whether a tenant of this name may be gone, where these are: it is a name, no tenant of the plan has it, it was not told before, and not too
-- many were
abbrev pub can_go : CheckedPlan → (gone : List Word) → (name : Word) → Bool
can_go plan gone name = is_name name && (is_none (place_named plan name) && (not (is_gone gone name) && nat_lt (length gone) MOST_GONE))

-- each may be gone, where those before it are
abbrev pub CanGo : CheckedPlan → (before gone : List Word) → Type 0
CanGo plan before [] = Unit {0}
CanGo plan before (name ∷ gone) = (can_go plan before name ≡ true) × CanGo plan (before ++ name ∷ []) gone

-- ---- as a text says it

-- why a line is at fault: it is no line of a plan, it says nothing of what may be said behind one, the volume can't be opened, the tenant can't
-- have that room for chunks, the node can't be lost, or the tenant can't be gone
pub data Why : Type 0 where
  InPlan : TextFault → Why
  NoOpening : Why
  NotOpened : OpenFault → Why
  NotHad : Why
  NotLost : Why
  NotGone : Why

-- what lines tell, or the number of the first line at fault and why
abbrev pub SetupReading : Type 0 → Type 0
SetupReading A = Result A (ℕ × Why)

-- the volume that a tenant's line opens
abbrev pub line_opens : ℕ → Line → Option Opening
line_opens tenant (NewVolume files blocks) = Some (record { tenant = tenant; files = files; blocks = blocks })
line_opens tenant _ = None

abbrev pub event_opens : Event → Option Opening
event_opens (Tenant tenant line) = line_opens tenant line
event_opens (Server line) = None
event_opens Stray = None

-- the volume of a line `T open FILES BLOCKS times N`, and N
abbrev pub many_from : Option ℕ → (files blocks times : Word) → Option (Opening × ℕ)
many_from tenant files blocks times =
    tenant >>= (λ tenant. number_of files >>= (λ files. number_of blocks >>= (λ blocks. number_of times >>= (λ times.
    if times == 0 then None else Some (record { tenant = tenant; files = files; blocks = blocks }, times)))))

abbrev pub many_told : CheckedPlan → List Word → Option (Opening × ℕ)
many_told plan (name ∷ verb ∷ files ∷ blocks ∷ word ∷ times ∷ []) =
    if bytes_eq verb (codes "open") && bytes_eq word (codes "times") then many_from (place_named plan name) files blocks times else None
many_told plan _ = None

-- the room for chunks of a line `T chunks KIB`, or none where the tenant or the number is wrong; if it is such a line
abbrev pub room_from : Option ℕ → (kib : Word) → Option ChunkRoom
room_from tenant kib = tenant >>= (λ tenant. number_of kib >>= (λ kib. Some (record { tenant = tenant; kib = kib })))

abbrev pub room_told : CheckedPlan → List Word → Option (Option ChunkRoom)
room_told plan (name ∷ verb ∷ kib ∷ []) = if bytes_eq verb (codes "chunks") then Some (room_from (place_named plan name) kib) else None
room_told plan _ = None

-- the word behind this verb, in a line of these two words
abbrev pub word_behind : (verb : Word) → List Word → Option Word
word_behind verb (first ∷ word ∷ []) = if bytes_eq first verb then Some word else None
word_behind verb _ = None

-- the word that tells the place of a loss, and the one that tells the name of a tenant that is gone
abbrev pub loss_word : List Word → Option Word
loss_word words = word_behind (codes "replace") words

abbrev pub gone_word : List Word → Option Word
gone_word words = word_behind (codes "gone") words

-- the setup with one volume more, with room for chunks of one tenant more, with one loss more, and with one tenant more that is gone
abbrev pub with_opening : Setup → Opening → Setup
with_opening setup opening = record setup { openings = setup.openings ++ opening ∷ [] }

abbrev pub with_room : Setup → ChunkRoom → Setup
with_room setup room = record setup { rooms = setup.rooms ++ room ∷ [] }

abbrev pub with_loss : Setup → (place : ℕ) → Setup
with_loss setup place = record setup { lost = setup.lost ++ place ∷ [] }

abbrev pub with_gone : Setup → (name : Word) → Setup
with_gone setup name = record setup { gone = setup.gone ++ name ∷ [] }

-- the same by line n, unless it has a fault
abbrev pub opened : ℕ → Setup → Opening → Option OpenFault → SetupReading Setup
opened n setup opening None = Ok (with_opening setup opening)
opened n setup opening (Some fault) = Err (n, NotOpened fault)

abbrev pub after_opens : ℕ → Setup → Option Opening → SetupReading Setup
after_opens n setup None = Err (n, NoOpening)
after_opens n setup (Some opening) = opened n setup opening (opening_fault (holdings setup) opening)

abbrev pub after_loses : ℕ → Setup → Option ℕ → SetupReading Setup
after_loses n setup None = Err (n, NotLost)
after_loses n setup (Some place) = if can_lose setup.plan setup.lost place then Ok (with_loss setup place) else Err (n, NotLost)

abbrev pub after_goes : ℕ → Setup → (name : Word) → SetupReading Setup
after_goes n setup name = if can_go setup.plan setup.gone name then Ok (with_gone setup name) else Err (n, NotGone)

abbrev pub after_has : ℕ → Setup → Option ChunkRoom → SetupReading Setup
after_has n setup None = Err (n, NotHad)
after_has n setup (Some room) = if can_have setup.rooms room then Ok (with_room setup room) else Err (n, NotHad)

-- what comes next, unless there is a fault
abbrev pub then_told : SetupReading Setup → (Setup → SetupReading Setup) → SetupReading Setup
then_told (Ok setup) next = next setup
then_told (Err fault) next = Err fault

-- the setup behind line n, which opens so many volumes alike, one after another
abbrev pub after_opens_many : ℕ → Setup → Opening → (times : ℕ) → SetupReading Setup
after_opens_many n setup opening zero = Ok setup
after_opens_many n setup opening (suc times) = then_told (after_opens n setup (Some opening)) (λ next. after_opens_many n next opening times)

-- which opens many, or one
abbrev pub after_opening_line : ℕ → Setup → List ℕ → Option (Opening × ℕ) → SetupReading Setup
after_opening_line n setup line (Some many) = after_opens_many n setup many.0 many.1
after_opening_line n setup line None = after_opens n setup (event_opens (event_of setup.plan line))

-- or gives room for chunks
abbrev pub after_room_line : ℕ → Setup → List ℕ → Option (Option ChunkRoom) → SetupReading Setup
after_room_line n setup line (Some room) = after_has n setup room
after_room_line n setup line None = after_opening_line n setup line (many_told setup.plan (words_of line))

-- or tells that a tenant is gone
abbrev pub after_gone_line : ℕ → Setup → List ℕ → Option Word → SetupReading Setup
after_gone_line n setup line (Some word) = after_goes n setup word
after_gone_line n setup line None = after_room_line n setup line (room_told setup.plan (words_of line))

-- the setup behind line n, a loss where it has such a word; and behind lines of which the first is line n
abbrev pub after_told : ℕ → Setup → List ℕ → Option Word → SetupReading Setup
after_told n setup line (Some word) = after_loses n setup (number_of word)
after_told n setup line None = after_gone_line n setup line (gone_word (words_of line))

abbrev pub after_line : ℕ → Setup → List ℕ → SetupReading Setup
after_line n setup line = after_told n setup line (loss_word (words_of line))

abbrev pub after_lines : ℕ → Setup → List (List ℕ) → SetupReading Setup
after_lines n setup [] = Ok setup
after_lines n setup (line ∷ lines) = then_told (after_line n setup line) (λ next. after_lines (n + 1) next lines)

-- a plan alone, and the number of the first line behind it
abbrev pub plan_alone : CheckedPlan → Setup
plan_alone plan = record { plan = plan; openings = []; rooms = []; lost = []; gone = [] }

abbrev pub first_behind : CheckedPlan → ℕ
first_behind plan = length plan.rows + 4

-- the setup of a plan and the lines behind it
abbrev pub behind_plan : Reading (CheckedPlan × List (List ℕ)) → SetupReading Setup
behind_plan (Ok read) = after_lines (first_behind read.0) (plan_alone read.0) read.1
behind_plan (Err fault) = Err (fault.0, InPlan fault.1)

-- the setup that a text tells: a plan, and behind `go` lines that open volumes, give room for chunks, tell losses or tell who is gone, and nothing
-- else
abbrev pub setup_of : List ℕ → SetupReading Setup
setup_of text = behind_plan (plan_of (lines_of text))
