-- What a machine of chunks has, and what a line makes of it. Nothing here names the shelf: only what was noted of it.
use Rattle.std.specs.Prelude.{◌≡◌, ◌⊎◌, ◌<◌, ◌≤◌, ◌*◌, ◌%◌, ◌^◌, ◌-◌, not, nat_le, MatchBool, ℕ, List, [], ◌∷◌, ◌++◌, length, map, Bool, true, false, ◌&&◌, ◌==◌, nat_lt, Option, Some, None, slice_get, Ok, Err, ⊤, if◌then◌else◌}
use Rattle.std.specs.List.{sum_by}
use Rattle.std.specs.Option.{option_to_list}
use Rattle.gq_shelf.specs.Notes.{Noted, GoesOn}
use Rattle.gq_shelf.specs.Places.{long_at}
use Rattle.gq_desk.specs.CheckedPlan.{CheckedPlan, row_at}
use Rattle.gq_journal.specs.Batches.{Line, lines_text, is_batch_line, are_batch_lines}
use Rattle.gq_keeper.specs.Runs.{Takes}
use Rattle.gq_keeper.specs.declared.fault.Fault.{Fault}
use Rattle.gq_keeper.specs.declared.fault.Fault.TheVariants as Ends
use Rattle.gq_shelf.specs.declared.fault.ShelfFault.{ShelfFault}
use Rattle.gq_shelf.specs.declared.fault.ShelfFault.TheVariants as Shelf
use Rattle.gq_replace.specs.Plans.{generation, place_of}
use Rattle.gq_setup.specs.Setups.{Setup, SetupReading, kib_of}
use Rattle.gq_setup.specs.Texts.{setup_of_node_text}
use Rattle.gq_stock.specs.Finding.{LacksSpace}
use Rattle.gq_stock.specs.Sure.{PutsStay}
use Rattle.gq_depot.specs.Depots.{Placed, Standing, standing_of, bare, IsSame, reads_fact, FactIsSure}
use Rattle.gq_depot.specs.Moving.{MovesOwn, FactIsPut}
use Rattle.gq_depot.specs.Tenants.{TakesOwn, FillsOwn, LeadsOwn, ApartFrom, DamageOf}
use Rattle.gq_depot.specs.Seeking.{Sought, AreAsks}
use Rattle.gq_depot.specs.declared.limits.TheConstants.{MOST_CHUNK}
use Rattle.gq_depot.specs.declared.answer.Answered.{Answered}
use Rattle.gq_depot.specs.declared.answer.ChunkAnswer.{ChunkAnswer}
use Rattle.gq_depot.specs.declared.answer.ChunkAnswer.TheVariants.{Bad}
use Rattle.gq_depot.specs.declared.depot.Depot.{Depot}
use Rattle.gq_depot.specs.declared.fact.ChunkFact.{ChunkFact}
use Rattle.gq_depot.specs.declared.filling.Filling.{Filling}
use Rattle.gq_depot.specs.declared.filling.Filling.TheVariants.{Give, Raise, End}
use Rattle.gq_depot.specs.declared.request.ChunkRequest.{ChunkRequest}
use Rattle.gq_depot.specs.declared.request.ChunkRequest.TheVariants.{Get, List as ListChunks}
use Rattle.gq_depot.specs.declared.seeking.Ask.{Ask}
use Rattle.gq_chunks.specs.declared.filling.Given.{Given}
use Rattle.gq_chunks.specs.declared.filling.Given.TheVariants.{Taken, NoSpace}
use Rattle.gq_chunks.specs.Answers.{chunk_answer_text}
use Rattle.gq_chunks.specs.Facts.{chunk_fact_line, chunk_fact_of_line}
use Rattle.gq_chunks.specs.Coming.{Coming, Asked, Said, Ticked, Nothing, coming_of, moves_at}
use Rattle.gq_chunks.specs.PeerLines.{Saying, Seeks, Found, Wants, Gives, Misses, Spoilt, asks_text, peer_answer_text}
use Rattle.gq_chunks.specs.Peers.{is_peer}

-- The plan's tenants, the number of the node, the places whose nodes were lost, how many of them are of its column, what each tenant has, by its place in the plan, and what was noted of
-- the shelf. What the node asked of its peers is no part of it.
pub record Chunks : Type 0 where
  pub plan : CheckedPlan
  pub node : ℕ
  pub lost : List ℕ
  pub losses : ℕ
  pub depots : List Depot
  pub noted : Noted

abbrev pub chunks : CheckedPlan → (node : ℕ) → (lost : List ℕ) → (losses : ℕ) → List Depot → Noted → Chunks
chunks plan node lost losses depots noted = record { plan = plan; node = node; lost = lost; losses = losses; depots = depots; noted = noted }

-- it is the node of the same number and plan
pub record IsSite (old new : Chunks) : Type 0 where
  pub plan : new.plan ≡ old.plan
  pub node : new.node ≡ old.node
  pub lost : new.lost ≡ old.lost
  pub losses : new.losses ≡ old.losses
  pub tenants : length new.depots ≡ length old.depots

-- ---- what a line is

-- to the machine, which has a depot for each tenant
abbrev pub coming_in : Chunks → List ℕ → Coming
coming_in m line = coming_of m.plan m.node m.lost (length m.depots) line

-- ---- a step

-- the lines of a fact, if there is one
abbrev pub fact_lines : CheckedPlan → (t : ℕ) → Option ChunkFact → List Line
fact_lines plan t fact = map (chunk_fact_line plan t) (option_to_list fact)

-- The line of the fact, if there is one, says it of this tenant, and may stand in a batch of a journal.
abbrev pub FactStands : CheckedPlan → (t : ℕ) → Option ChunkFact → Type 0
FactStands plan t None = ⊤
FactStands plan t (Some fact) = (chunk_fact_of_line plan (chunk_fact_line plan t fact) ≡ Some (t, fact)) × (is_batch_line (chunk_fact_line plan t fact) ≡ true)

-- whether the depot reads the fact
abbrev pub depot_reads : Option Depot → ChunkFact → Bool
depot_reads None fact = false
depot_reads (Some depot) fact = reads_fact (length depot.stock.sessions.items) fact

-- What came of the tenant's request. It hangs on this tenant's chunks alone, and all others stay.
pub record Answers (old : Chunks) (t : ℕ) (request : ChunkRequest) (answered : Answered) (new : Chunks) : Type 0 where
  pub own : TakesOwn new.noted old.losses old.depots t request answered new.depots
  pub damaged : DamageOf old.depots t old.noted new.noted answered.answer
  pub apart : ApartFrom t old.depots new.depots
  pub goes_on : GoesOn old.noted new.noted
  pub site : IsSite old new

-- This was asked of the tenant at this place: the machine gave the fact and told the answer, as this text.
pub record Took (text : ChunkAnswer → List ℕ) (old : Chunks) (t : ℕ) (request : ChunkRequest) (facts : List Line) (told : List ℕ) (new : Chunks) : Type 0 where
  pub answered : Answered
  pub answers : Answers old t request answered new
  pub facts_are : facts ≡ fact_lines old.plan t answered.fact
  pub told_is : told ≡ text answered.answer
  pub within : t < length old.depots
  pub stands : FactStands old.plan t answered.fact

-- What the machine did not change: it is as it was, gave no fact, and told this.
pub record Stays (old : Chunks) (facts : List Line) (told : List ℕ) (text : List ℕ) (new : Chunks) : Type 0 where
  pub same : new ≡ old
  pub facts_are : facts ≡ []
  pub told_is : told ≡ text

-- A step that hangs on no line was taken: the lines of its facts stand behind what was given, and its text behind what was told.
abbrev pub Adds : (Chunks → List Line → List ℕ → Chunks → Type 0) → (old : Chunks) → (given given_after told told_after : List ℕ) → (new : Chunks) → Type 0
Adds step old given given_after told told_after new = Takes (λ old line facts text new. step old facts text new) old [] given given_after told told_after new

-- ---- a node that lacks chunks, and one that gives them

-- A peer is asked this about the tenant at this place.
pub record AsksPeer (plan : CheckedPlan) (node : ℕ) (lost : List ℕ) (losses t : ℕ) (told : List ℕ) : Type 0 where
  pub to : ℕ
  pub peer : is_peer plan node lost to ≡ true
  pub sought : Sought
  pub asks : List Ask
  pub are_asks : AreAsks sought asks
  pub text : told ≡ asks_text plan node to t losses asks

-- nothing is told, or a peer is asked
abbrev pub MayAsk : CheckedPlan → (node : ℕ) → (lost : List ℕ) → (losses t : ℕ) → (told : List ℕ) → Type 0
MayAsk plan node lost losses t told = (told ≡ []) ⊎ AsksPeer plan node lost losses t told

abbrev pub MayAskOf : Chunks → (t : ℕ) → (told : List ℕ) → Type 0
MayAskOf m t told = MayAsk m.plan m.node m.lost m.losses t told

-- This came of what was done for the tenant at this place. It hangs on this tenant's chunks alone, and all others stay.
pub record FillsDone (old : Chunks) (t : ℕ) (filling : Filling) (fact : Option ChunkFact) (new : Chunks) : Type 0 where
  pub own : FillsOwn new.noted old.depots t filling fact new.depots
  pub apart : ApartFrom t old.depots new.depots
  pub goes_on : GoesOn old.noted new.noted
  pub site : IsSite old new

-- This was done for the tenant at this place of what a peer gave, or since all was given.
pub record Fills (old : Chunks) (t : ℕ) (filling : Filling) (facts : List Line) (new : Chunks) : Type 0 where
  pub fact : Option ChunkFact
  pub done : FillsDone old t filling fact new
  pub facts_are : facts ≡ fact_lines old.plan t fact
  pub within : t < length old.depots
  pub stands : FactStands old.plan t fact

-- it was done; a peer may be asked for more
pub record Fed (old : Chunks) (t : ℕ) (filling : Filling) (facts : List Line) (told : List ℕ) (new : Chunks) : Type 0 where
  pub fills : Fills old t filling facts new
  pub asks : MayAskOf old t told

-- nothing is done; a peer may be asked for more
pub record Waits (old : Chunks) (t : ℕ) (facts : List Line) (told : List ℕ) (new : Chunks) : Type 0 where
  pub same : new ≡ old
  pub facts_are : facts ≡ []
  pub asks : MayAskOf old t told

-- What a peer gave is not there, since the shelf had no space for it. What the tenant has is as it was, and so have all others.
pub record LeavesOut (old : Chunks) (t : ℕ) (new : Chunks) : Type 0 where
  pub leads : LeadsOwn old.depots t None new.depots
  pub space : LacksSpace old.noted new.noted
  pub apart : ApartFrom t old.depots new.depots
  pub goes_on : GoesOn old.noted new.noted
  pub site : IsSite old new

-- so it is, and no fact is given, and nobody is asked
pub record Unfed (old : Chunks) (t : ℕ) (facts : List Line) (told : List ℕ) (new : Chunks) : Type 0 where
  pub left : LeavesOut old t new
  pub facts_are : facts ≡ []
  pub told_is : told ≡ []

-- what comes of a content that a peer gives
abbrev pub GivenAs : Chunks → (t : ℕ) → Filling → Given → Chunks → Type 0
GivenAs old t filling (Taken fact) new = FillsDone old t filling fact new
GivenAs old t filling NoSpace new = LeavesOut old t new

-- whether the tenant is there, and none of its chunks is lacked
abbrev pub lacks_none : Option Depot → Bool
lacks_none None = false
lacks_none (Some depot) = not depot.lacks

-- a peer is answered about the tenant only where none of the tenant's chunks is lacked, and the plan tells as many losses of the column
abbrev pub may_answer : Chunks → (t losses : ℕ) → Bool
may_answer m t losses = lacks_none (slice_get m.depots t) && nat_le losses m.losses

-- It is told what a tenant would be, of a request that changes nothing; else it is told nothing.
abbrev pub AnswersPeer : (may : Bool) → Chunks → (t from : ℕ) → ChunkRequest → List Line → List ℕ → Chunks → Type 0
AnswersPeer true old t from request facts told new = Took (peer_answer_text old.plan old.node from t) old t request facts told new
AnswersPeer false old t from request facts told new = Stays old facts told [] new

-- all of a content
abbrev pub whole_length : ℕ
whole_length = 2 ^ 64 - 1

-- what a peer says about the tenant at this place
abbrev pub SaidBy : Saying → Chunks → (t from : ℕ) → List Line → List ℕ → Chunks → Type 0
SaidBy (Seeks p s after) old t from facts told new = AnswersPeer (may_answer old t p) old t from (ListChunks s after) facts told new
SaidBy (Wants s n) old t from facts told new = AnswersPeer (may_answer old t 0) old t from (Get s n 0 whole_length) facts told new
SaidBy (Found s after floor is_all chunks) old t from facts told new = Fed old t (Raise s floor) facts told new
SaidBy (Gives s n bytes) old t from facts told new = Fed old t (Give s n bytes) facts told new ⊎ Unfed old t facts told new
SaidBy (Misses s n) old t from facts told new = Waits old t facts told new
SaidBy (Spoilt s n) old t from facts told new = Waits old t facts told new

-- at a tick a peer may be asked about a tenant, or a tenant's chunks were all given
abbrev pub Ticks : Chunks → List Line → List ℕ → Chunks → Type 0
Ticks old facts told new = (t : ℕ) × (Waits old t facts told new ⊎ Fed old t End facts told new)

-- ---- chunks that are moved

-- whose chunk was to be moved, by the tenant's place, and the fact of it, if there is one
abbrev pub Move : Type 0
Move = ℕ × Option ChunkFact

abbrev pub move_lines : CheckedPlan → List Move → List Line
move_lines plan [] = []
move_lines plan (move ∷ moves) = fact_lines plan move.0 move.1 ++ move_lines plan moves

-- it is so of the fact of each
abbrev pub EachMove : (Option ChunkFact → Type 0) → List Move → Type 0
EachMove P [] = ⊤
EachMove P (move ∷ moves) = P move.1 × EachMove P moves

-- A chunk of the tenant at this place was to be moved, and this came of it. It hangs on this tenant's chunks alone, and all others stay.
pub record MoveDone (old : Chunks) (t : ℕ) (fact : Option ChunkFact) (new : Chunks) : Type 0 where
  pub session : ℕ
  pub number : ℕ
  pub end : ℕ
  pub own : MovesOwn new.noted end old.depots t session number fact new.depots
  pub apart : ApartFrom t old.depots new.depots
  pub goes_on : GoesOn old.noted new.noted
  pub site : IsSite old new
  pub put : FactIsPut fact new.noted
  pub puts_stay : PutsStay old.noted new.noted

-- so it was, and the line of the fact says it
pub record MovesOne (old : Chunks) (t : ℕ) (fact : Option ChunkFact) (new : Chunks) : Type 0 where
  pub done : MoveDone old t fact new
  pub within : t < length old.depots
  pub stands : FactStands old.plan t fact

-- one after another
abbrev pub MovesOn : Chunks → List Move → Chunks → Type 0
MovesOn old [] new = new ≡ old
MovesOn old (move ∷ moves) new = (mid : Chunks) × MovesOne old move.0 move.1 mid × MovesOn mid moves new

-- Chunks were moved, of any tenants, and the shelf made sure of all that the facts name.
pub record Moves (old : Chunks) (facts : List Line) (new : Chunks) : Type 0 where
  pub moves : List Move
  pub last : Chunks
  pub moved : MovesOn old moves last
  pub depots : new.depots ≡ last.depots
  pub site : IsSite last new
  pub goes_on : GoesOn last.noted new.noted
  pub sure : EachMove (λ fact. FactIsSure fact new.noted) moves
  pub facts_are : facts ≡ move_lines old.plan moves

-- Only a tick and a content that is to be kept have chunks moved.
abbrev pub MovesBy : Coming → Chunks → List Line → Chunks → Type 0
MovesBy its old facts new = MatchBool (moves_at its) (Moves old facts new) ((new ≡ old) × (facts ≡ []))

-- ---- any line

-- A request is answered, one without form is told to be bad, and another line is passed over.
abbrev pub StepsBy : Coming → Chunks → List Line → List ℕ → Chunks → Type 0
StepsBy Nothing old facts told new = Stays old facts told [] new
StepsBy (Asked t None) old facts told new = Stays old facts told (chunk_answer_text old.plan old.node t Bad) new
StepsBy (Asked t (Some request)) old facts told new = Took (chunk_answer_text old.plan old.node t) old t request facts told new
StepsBy (Said t from saying) old facts told new = SaidBy saying old t from facts told new
StepsBy Ticked old facts told new = Ticks old facts told new

-- Chunks may be moved before. Nothing that is told changes by that (`gq_depot::laws::moves_tell_same`).
pub record ChunkSteps (old : Chunks) (line : List ℕ) (facts : List (List ℕ)) (told : List ℕ) (new : Chunks) : Type 0 where
  pub mid : Chunks
  pub moved : List Line
  pub own : List Line
  pub moves : MovesBy (coming_in old line) old moved mid
  pub step : StepsBy (coming_in old line) mid own told new
  pub facts_are : facts ≡ moved ++ own

-- what is told behind the text: nothing, or asks about the tenant
pub record AddsAsks (m : Chunks) (t : ℕ) (before after : List ℕ) : Type 0 where
  pub text : List ℕ
  pub is : after ≡ before ++ text
  pub asks : MayAskOf m t text

-- so it is of some tenant
abbrev pub AsksOfOne : Chunks → (before after : List ℕ) → Type 0
AsksOfOne m before after = (t : ℕ) × AddsAsks m t before after

-- the facts that are given of it behind the text
pub record AddsFacts (old : Chunks) (t : ℕ) (filling : Filling) (before after : List ℕ) (new : Chunks) : Type 0 where
  pub lines : List Line
  pub is : after ≡ before ++ lines_text lines
  pub opened : are_batch_lines lines ≡ true
  pub fills : Fills old t filling lines new

-- chunks that were moved so far, the lines of the facts behind the text, and what was put of them on the shelf
pub record MovedSoFar (old : Chunks) (before after : List ℕ) (new : Chunks) : Type 0 where
  pub moves : List Move
  pub moved : MovesOn old moves new
  pub text : after ≡ before ++ lines_text (move_lines old.plan moves)
  pub opened : are_batch_lines (move_lines old.plan moves) ≡ true
  pub put : EachMove (λ fact. FactIsPut fact new.noted) moves
  pub puts_stay : PutsStay old.noted new.noted

-- the facts of chunks that were moved behind the text
pub record AddsMoves (old : Chunks) (before after : List ℕ) (new : Chunks) : Type 0 where
  pub lines : List Line
  pub is : after ≡ before ++ lines_text lines
  pub opened : are_batch_lines lines ≡ true
  pub moves : Moves old lines new
  pub site : IsSite old new
  pub refused : old.noted.refused ≤ new.noted.refused

-- the same of what may be moved before a line
pub record AddsMovesBy (its : Coming) (old : Chunks) (before after : List ℕ) (new : Chunks) : Type 0 where
  pub lines : List Line
  pub is : after ≡ before ++ lines_text lines
  pub opened : are_batch_lines lines ≡ true
  pub moves : MovesBy its old lines new

-- ---- a line of an earlier run

abbrev pub reads_told : List Depot → Option (ℕ × ChunkFact) → Bool
reads_told depots None = false
reads_told depots (Some (t, fact)) = depot_reads (slice_get depots t) fact

-- the line says a fact that its tenant's depot reads
abbrev pub chunk_reads : Chunks → List ℕ → Bool
chunk_reads m line = reads_told m.depots (chunk_fact_of_line m.plan line)

-- The tenant's depot is what the fact makes of it. All others stay.
pub record Recalled (old : Chunks) (t : ℕ) (fact : ChunkFact) (new : Chunks) : Type 0 where
  pub leads : LeadsOwn old.depots t (Some fact) new.depots
  pub apart : ApartFrom t old.depots new.depots
  pub site : IsSite old new
  pub noted : new.noted ≡ old.noted

-- The line says a fact of a tenant, whose depot reads it.
pub record ChunkRecalls (old : Chunks) (line : List ℕ) (new : Chunks) : Type 0 where
  pub tenant : ℕ
  pub fact : ChunkFact
  pub says : chunk_fact_of_line old.plan line ≡ Some (tenant, fact)
  pub reads : depot_reads (slice_get old.depots tenant) fact ≡ true
  pub recalled : Recalled old tenant fact new

-- ---- faults

-- why the machine ends where the shelf refuses: want of memory is told as that, and nothing else is
abbrev pub IsFaultOf : ShelfFault → Fault → Type 0
IsFaultOf (Shelf.Memory refused) fault = fault ≡ Ends.Memory refused
IsFaultOf Shelf.Read fault = fault ≡ Ends.JournalRead
IsFaultOf Shelf.Write fault = fault ≡ Ends.JournalWrite
IsFaultOf Shelf.Full fault = fault ≡ Ends.JournalWrite
IsFaultOf (Shelf.Damaged segment) fault = fault ≡ Ends.JournalRead

-- memory was wanting, or the shelf refused a call
abbrev pub IsShelfRefusal : Fault → Noted → Noted → Type 0
IsShelfRefusal (Ends.Memory refused) old new = ⊤
IsShelfRefusal Ends.JournalRead old new = old.refused < new.refused
IsShelfRefusal Ends.JournalWrite old new = old.refused < new.refused
IsShelfRefusal _ old new = ⊥

-- ---- a start

-- how many bytes of chunks the tenant at place t may have by a setup that was read; none, where none was
abbrev pub room_read : SetupReading Setup → (t : ℕ) → ℕ
room_read (Ok setup) t = kib_of setup.rooms t * 1024
room_read (Err fault) t = 0

-- and by the plan of these lines in a journal
abbrev pub room_of_lines : List Line → (t : ℕ) → ℕ
room_of_lines lines t = room_read (setup_of_node_text (lines_text lines)) t

-- A new node was begun in place of a lost one.
abbrev pub is_new : (node : ℕ) → Bool
is_new node = nat_lt 0 (generation node)

-- Whether a node that was begun where the tenant might have so much lacks chunks of it, where it may have so much now: a new one does, where the tenant had room
-- and has some.
abbrev pub lacks_at_first : (node first allowed : ℕ) → Bool
lacks_at_first node first allowed = is_new node && nat_lt 0 first && nat_lt 0 allowed

-- the tenant's depot was never asked anything
pub record IsBare (sessions allowed : ℕ) (lacks : Bool) (depot : Depot) : Type 0 where
  pub sessions_are : length depot.stock.sessions.items ≡ sessions
  pub allowed_is : depot.stock.allowed ≡ allowed
  pub nothing : IsSame (standing_of depot) (bare lacks)

-- The other is that of the same node, never started, with the same tenants, sessions and rooms. What a new node lacks the rooms say that the tenants had in the plan with which its journal
-- begins.
pub record IsBlank (first : ℕ → ℕ) (m blank : Chunks) : Type 0 where
  pub site : IsSite m blank
  pub depots : (t : ℕ) (was is : Depot) → slice_get m.depots t ≡ Some was → slice_get blank.depots t ≡ Some is →
      IsBare (length was.stock.sessions.items) was.stock.allowed (lacks_at_first m.node (first t) was.stock.allowed) is

abbrev pub ChunksAreBlank : List (List ℕ) → Chunks → Chunks → Type 0
ChunksAreBlank lines m blank = IsBlank (room_of_lines lines) m blank

-- no chunk is too long
abbrev pub AllFit : Standing → Type 0
AllFit it = (k n : ℕ) (placed : Placed) → (it.books k).at n ≡ Some placed → long_at placed.place ≤ MOST_CHUNK

-- what was forgotten is of so many sessions, and not above their floors
abbrev pub GoneFits : (sessions : ℕ) → Standing → Type 0
GoneFits sessions it = (k n : ℕ) → it.gone k n ≡ true → (k < sessions) × (n ≤ (it.books k).floor)

-- the depot has the sessions of the tenant at this place, no chunk that is too long, and forgot nothing above a floor
pub record IsSound (plan : CheckedPlan) (t : ℕ) (depot : Depot) : Type 0 where
  pub sessions_are : length depot.stock.sessions.items ≡ (row_at plan t).sessions
  pub fit : AllFit (standing_of depot)
  pub gone : GoneFits (length depot.stock.sessions.items) (standing_of depot)

abbrev pub AreSound : CheckedPlan → List Depot → Type 0
AreSound plan depots = (t : ℕ) (depot : Depot) → slice_get depots t ≡ Some depot → IsSound plan t depot

-- the tenant may have so much; and only a new node lacks chunks of a tenant, of one that has room
pub record HasRoom (node room : ℕ) (depot : Depot) : Type 0 where
  pub allowed : depot.stock.allowed ≡ room
  pub lacking : depot.lacks ≡ true → lacks_at_first node room depot.stock.allowed ≡ true

-- each tenant has such room
abbrev pub HasRooms : (room : ℕ → ℕ) → Chunks → Type 0
HasRooms room m = (t : ℕ) (depot : Depot) → slice_get m.depots t ≡ Some depot → HasRoom m.node (room t) depot

-- each tenant has the room that the plan of these lines gives it, its sessions, and chunks that fit
pub record ChunksAreOf (lines : List (List ℕ)) (m : Chunks) : Type 0 where
  pub tenants : length m.depots ≡ length m.plan.rows
  pub rooms : HasRooms (room_of_lines lines) m
  pub sound : AreSound m.plan m.depots

-- the tenant has the same chunks and floors, may have the same, and so much is lacked
pub record DepotRests (depot again : Depot) : Type 0 where
  pub sessions : length again.stock.sessions.items ≡ length depot.stock.sessions.items
  pub allowed : again.stock.allowed ≡ depot.stock.allowed
  pub standing : IsSame (standing_of again) (standing_of depot)

-- the other is that of the same node, and each tenant has the same
pub record ChunksRest (m again : Chunks) : Type 0 where
  pub site : IsSite m again
  pub depots : (t : ℕ) (was is : Depot) → slice_get m.depots t ≡ Some was → slice_get again.depots t ≡ Some is → DepotRests was is

-- how many bytes the chunks of all tenants take in a journal that is written anew, or somewhat less
abbrev pub in_journals : List Depot → ℕ
in_journals depots = sum_by (λ depot. depot.in_journal) depots

-- ---- a machine that read no line yet

-- 1 for a place of the same column
abbrev pub in_column : (cols place other : ℕ) → ℕ
in_column cols place other = if other % cols == place % cols then 1 else 0

-- how many nodes of the column of this place were lost, of these places
abbrev pub column_losses : (cols place : ℕ) → List ℕ → ℕ
column_losses cols place lost = sum_by (in_column cols place) lost

-- how many bytes the tenant might have by the setup that was read, if one was
abbrev pub room_before : Option Setup → (t : ℕ) → ℕ
room_before None t = 0
room_before (Some setup) t = room_read (Ok setup) t

-- Each tenant has the sessions and the room of the setup, and nothing yet.
abbrev pub AreBare : Setup → (first : Option Setup) → (node : ℕ) → List Depot → Type 0
AreBare setup first node depots = (t : ℕ) (depot : Depot) → slice_get depots t ≡ Some depot →
    IsBare (row_at setup.plan t).sessions (room_read (Ok setup) t) (lacks_at_first node (room_before first t) (room_read (Ok setup) t)) depot

-- It is that of the node of this number and setup, begun with the other setup, if one was read.
pub record IsNewFor (setup : Setup) (first : Option Setup) (node : ℕ) (m : Chunks) : Type 0 where
  pub plan_is : m.plan ≡ setup.plan
  pub node_is : m.node ≡ node
  pub lost_are : m.lost ≡ setup.lost
  pub losses_are : m.losses ≡ column_losses setup.plan.grid.cols (place_of node) setup.lost
  pub tenants : length m.depots ≡ length setup.plan.rows
  pub depots : AreBare setup first node m.depots
