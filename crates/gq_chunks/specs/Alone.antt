-- What a tenant is told hangs on its own lines, and on what peers say of it. Its chunks are moved at any tick, and whenever a content is to be kept, which changes nothing that is told.
use Rattle.std.specs.Prelude.{◌≡◌, ◌⊎◌, ℕ, List, [], ◌∷◌, ◌++◌, length, MatchBool, Bool, true, false, not, ◌&&◌, ◌==◌, nat_le, Option, Some, None, slice_get}
use Rattle.gq_shelf.specs.Notes.{Noted, GoesOn}
use Rattle.gq_desk.specs.CheckedPlan.{CheckedPlan}
use Rattle.gq_journal.specs.Batches.{Line}
use Rattle.gq_keeper.specs.Runs.{Did, Runs}
use Rattle.gq_stock.specs.Finding.{LacksSpace}
use Rattle.gq_depot.specs.Answers.{DamageIs}
use Rattle.gq_depot.specs.Depots.{LeadsTo}
use Rattle.gq_depot.specs.Moving.{MoveStep}
use Rattle.gq_depot.specs.Tenants.{Step, FillStep}
use Rattle.gq_depot.specs.declared.answer.Answered.{Answered}
use Rattle.gq_depot.specs.declared.answer.ChunkAnswer.{ChunkAnswer}
use Rattle.gq_depot.specs.declared.answer.ChunkAnswer.TheVariants.{Bad}
use Rattle.gq_depot.specs.declared.depot.Depot.{Depot}
use Rattle.gq_depot.specs.declared.fact.ChunkFact.{ChunkFact}
use Rattle.gq_depot.specs.declared.filling.Filling.{Filling}
use Rattle.gq_depot.specs.declared.filling.Filling.TheVariants.{Give, Raise, End}
use Rattle.gq_depot.specs.declared.request.ChunkRequest.{ChunkRequest}
use Rattle.gq_depot.specs.declared.request.ChunkRequest.TheVariants.{Get, List as ListChunks}
use Rattle.gq_chunks.specs.Answers.{chunk_answer_text}
use Rattle.gq_chunks.specs.Coming.{Coming, Asked, Said, Ticked, Nothing, coming_of, moves_at}
use Rattle.gq_chunks.specs.PeerLines.{Saying, Seeks, Found, Wants, Gives, Misses, Spoilt, peer_answer_text}
use Rattle.gq_chunks.specs.Machines.{Chunks, fact_lines, MayAsk, Move, move_lines, whole_length, ChunkSteps}

-- which node it is, of which plan, whose places were lost, for how many tenants it has depots, and how many nodes of its column were lost
pub record Site : Type 0 where
  pub plan : CheckedPlan
  pub node : ℕ
  pub lost : List ℕ
  pub tenants : ℕ
  pub losses : ℕ

abbrev pub site_of : Chunks → Site
site_of m = record { plan = m.plan; node = m.node; lost = m.lost; tenants = length m.depots; losses = m.losses }

-- what a line is there
abbrev pub coming_at : Site → List ℕ → Coming
coming_at site line = coming_of site.plan site.node site.lost site.tenants line

-- whether the tenant at this place asks it, or a peer says it of that tenant; a tick may be each tenant's
abbrev pub is_own : (t : ℕ) → Coming → Bool
is_own t Nothing = false
is_own t (Asked other request) = other == t
is_own t (Said other from saying) = other == t
is_own t Ticked = true

-- What came of the request, of whom the node had the one depot and has the other, told as this text. Beside this tenant's chunks it hangs on the shelf alone, and only so: a content is told
-- to be damaged where this read found it so, and that there is no space where the shelf had none for it.
pub record AnswersAlone (text : ChunkAnswer → List ℕ) (last : Noted) (site : Site) (t : ℕ) (request : ChunkRequest) (old : Depot) (facts : List Line) (told : List ℕ) (new : Depot) : Type 0 where
  pub answered : Answered
  pub before : Noted
  pub noted : Noted
  pub goes_on : GoesOn noted last
  pub step : Step noted site.losses old request answered new
  pub damaged : DamageIs old before noted answered.answer
  pub facts_are : facts ≡ fact_lines site.plan t answered.fact
  pub told_is : told ≡ text answered.answer

-- nothing changes, and this is told
pub record StaysAlone (old : Depot) (facts : List Line) (told : List ℕ) (text : List ℕ) (new : Depot) : Type 0 where
  pub same : new ≡ old
  pub facts_are : facts ≡ []
  pub told_is : told ≡ text

-- what came of what a peer gave, or of that all was given; a peer may be asked for more
pub record FedAlone (last : Noted) (site : Site) (t : ℕ) (filling : Filling) (old : Depot) (facts : List Line) (told : List ℕ) (new : Depot) : Type 0 where
  pub fact : Option ChunkFact
  pub noted : Noted
  pub goes_on : GoesOn noted last
  pub step : FillStep noted old filling fact new
  pub facts_are : facts ≡ fact_lines site.plan t fact
  pub asks : MayAsk site.plan site.node site.lost site.losses t told

-- what a peer gave is not there, since the shelf had no space for it, and nothing changes
pub record UnfedAlone (last : Noted) (old : Depot) (facts : List Line) (told : List ℕ) (new : Depot) : Type 0 where
  pub before : Noted
  pub noted : Noted
  pub space : LacksSpace before noted
  pub goes_on : GoesOn noted last
  pub leads : LeadsTo old None new
  pub facts_are : facts ≡ []
  pub told_is : told ≡ []

-- nothing changes; a peer may be asked for more
pub record WaitsAlone (site : Site) (t : ℕ) (old : Depot) (facts : List Line) (told : List ℕ) (new : Depot) : Type 0 where
  pub same : new ≡ old
  pub facts_are : facts ≡ []
  pub asks : MayAsk site.plan site.node site.lost site.losses t told

-- a peer is answered only where none of the tenant's chunks is lacked, and the plan tells as many losses
abbrev pub PeerAlone : (may : Bool) → (last : Noted) → Site → (t from : ℕ) → ChunkRequest → Depot → List Line → List ℕ → Depot → Type 0
PeerAlone true last site t from request old facts told new = AnswersAlone (peer_answer_text site.plan site.node from t) last site t request old facts told new
PeerAlone false last site t from request old facts told new = StaysAlone old facts told [] new

abbrev pub may_answer_alone : Site → Depot → (losses : ℕ) → Bool
may_answer_alone site depot losses = not depot.lacks && nat_le losses site.losses

-- what came of what a peer said
abbrev pub SaidAlone : Saying → (last : Noted) → Site → (t from : ℕ) → Depot → List Line → List ℕ → Depot → Type 0
SaidAlone (Seeks p s after) last site t from old facts told new = PeerAlone (may_answer_alone site old p) last site t from (ListChunks s after) old facts told new
SaidAlone (Wants s n) last site t from old facts told new = PeerAlone (may_answer_alone site old 0) last site t from (Get s n 0 whole_length) old facts told new
SaidAlone (Found s after floor is_all chunks) last site t from old facts told new = FedAlone last site t (Raise s floor) old facts told new
SaidAlone (Gives s n bytes) last site t from old facts told new = FedAlone last site t (Give s n bytes) old facts told new ⊎ UnfedAlone last old facts told new
SaidAlone (Misses s n) last site t from old facts told new = WaitsAlone site t old facts told new
SaidAlone (Spoilt s n) last site t from old facts told new = WaitsAlone site t old facts told new

-- At a tick nothing of the tenant's changes, or all was given. No tenant is told anything.
pub record TicksAlone (last : Noted) (site : Site) (t : ℕ) (old : Depot) (facts : List Line) (told : List ℕ) (new : Depot) : Type 0 where
  pub asks : (other : ℕ) × MayAsk site.plan site.node site.lost site.losses other told
  pub did : (new ≡ old) ⊎ FedAlone last site t End old facts told new

-- what came of the tenant's line, or of a peer's about it, or of a tick
abbrev pub StepsAlone : (last : Noted) → Site → (t : ℕ) → Coming → Depot → List Line → List ℕ → Depot → Type 0
StepsAlone last site t Nothing old facts told new = ⊥
StepsAlone last site t (Asked other None) old facts told new = StaysAlone old facts told (chunk_answer_text site.plan site.node t Bad) new
StepsAlone last site t (Asked other (Some request)) old facts told new = AnswersAlone (chunk_answer_text site.plan site.node t) last site t request old facts told new
StepsAlone last site t (Said other from saying) old facts told new = SaidAlone saying last site t from old facts told new
StepsAlone last site t Ticked old facts told new = TicksAlone last site t old facts told new

-- ---- chunks that are moved

abbrev pub move_with : (is_its : Bool) → Option ChunkFact → List (Option ChunkFact) → List (Option ChunkFact)
move_with true fact facts = fact ∷ facts
move_with false fact facts = facts

-- those of this tenant
abbrev pub own_moves : (t : ℕ) → List Move → List (Option ChunkFact)
own_moves t [] = []
own_moves t (move ∷ moves) = move_with (move.0 == t) move.1 (own_moves t moves)

-- a chunk of the tenant was to be moved, and this fact came of it
pub record MovesAlone (last : Noted) (old : Depot) (fact : Option ChunkFact) (new : Depot) : Type 0 where
  pub session : ℕ
  pub number : ℕ
  pub end : ℕ
  pub noted : Noted
  pub goes_on : GoesOn noted last
  pub step : MoveStep noted end old session number fact new

-- one after another
abbrev pub AllMoveAlone : (last : Noted) → Depot → List (Option ChunkFact) → Depot → Type 0
AllMoveAlone last old [] new = old ≡ new
AllMoveAlone last old (fact ∷ facts) new = (mid : Depot) × MovesAlone last old fact mid × AllMoveAlone last mid facts new

-- only a tick and a content that is to be kept have chunks moved
abbrev pub MayMove : Coming → List Move → Type 0
MayMove its moves = MatchBool (moves_at its) (Unit {0}) (moves ≡ [])

-- ---- all lines

-- what came of a line for the tenant: where it is its own, as is said above; else nothing
abbrev pub OwnAlone : (is_own : Bool) → (last : Noted) → Site → (t : ℕ) → Coming → Depot → List Line → List ℕ → Depot → Type 0
OwnAlone true last site t coming old facts told new = StepsAlone last site t coming old facts told new
OwnAlone false last site t coming old facts told new = new ≡ old

-- chunks were moved before
pub record LineAlone (last : Noted) (site : Site) (t : ℕ) (did : Did) (old new : Depot) : Type 0 where
  pub moves : List Move
  pub own : List Line
  pub mid : Depot
  pub facts_are : did.facts ≡ move_lines site.plan moves ++ own
  pub may : MayMove (coming_at site did.line) moves
  pub moved : AllMoveAlone last old (own_moves t moves) mid
  pub step : OwnAlone (is_own t (coming_at site did.line)) last site t (coming_at site did.line) mid own did.told new

-- The steps lead the tenant's depot from the one to the other, and nothing else plays a part. No read was wrong in any of them, where none was by the last notes.
abbrev pub RunsAlone : (last : Noted) → Site → (t : ℕ) → Depot → List Did → Depot → Type 0
RunsAlone last site t old [] new = old ≡ new
RunsAlone last site t old (did ∷ dids) new = (mid : Depot) × LineAlone last site t did old mid × RunsAlone last site t mid dids new

-- Whatever lines all tenants sent, and peers said: what one tenant is told, and what is kept of it, is what comes of its own lines, of what peers say of it, and of ticks, and of its chunks that are moved.
abbrev pub TenantsApart : Type 0
TenantsApart = (first last : Chunks) (dids : List Did) (t : ℕ) (was is : Depot) → Runs ChunkSteps first dids last → slice_get first.depots t ≡ Some was → slice_get last.depots t ≡ Some is →
    RunsAlone last.noted (site_of first) t was dids is
