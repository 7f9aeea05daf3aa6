-- What is told of a request.
use Rattle.std.specs.Prelude.{◌≡◌, ℕ, ◌-◌, ◌≤◌, ◌<◌, Bool, true, false, not, ◌||◌, ◌&&◌, nat_le, min, ◌^◌, List, [], ◌∷◌, length, Option, Some, None, IsSome, option_map, MatchOption, slice_get, ⊤}
use Rattle.gq_shelf.specs.Notes.{Noted}
use Rattle.gq_shelf.specs.Places.{content_at, long_at}
use Rattle.gq_shelf.specs.declared.extent.Extent.{Extent}
use Rattle.gq_ledger.specs.Ledgers.{book_of}
use Rattle.gq_ledger.specs.Steps.{Book}
use Rattle.gq_stock.specs.Finding.{FoundAs, LacksSpace}
use Rattle.gq_stock.specs.Held.{held_by, contents}
use Rattle.gq_stock.specs.Keeping.{ToldAs}
use Rattle.gq_stock.specs.Stocks.{used_in, DamagedIn}
use Rattle.gq_stock.specs.declared.chunk.Chunk.{Chunk}
use Rattle.gq_stock.specs.declared.keeping.Keeping.{Keeping}
use Rattle.gq_stock.specs.declared.finding.Found.TheVariants.{Damaged as Unreadable}
use Rattle.gq_stock.specs.declared.keeping.Keeping.TheVariants.{New, Damaged, NoSpace}
use Rattle.gq_stock.specs.declared.run.Run.{Run}
use Rattle.gq_stock.specs.declared.session.Session.{Session}
use Rattle.gq_depot.specs.Depots.{place_in, StandsIn}
use Rattle.gq_depot.specs.declared.limits.TheConstants.{MOST_CHUNK, MOST_FLOOR, MOST_GONE, MOST_LISTED}
use Rattle.gq_depot.specs.declared.answer.ChunkAnswer.{ChunkAnswer}
use Rattle.gq_depot.specs.declared.answer.ChunkAnswer.TheVariants as Told
use Rattle.gq_depot.specs.declared.answer.ListedChunk.{ListedChunk}
use Rattle.gq_depot.specs.declared.depot.Depot.{Depot}
use Rattle.gq_depot.specs.declared.request.ChunkRequest.{ChunkRequest}
use Rattle.gq_depot.specs.declared.request.ChunkRequest.TheVariants as Request
use Rattle.gq_depot.specs.declared.fact.ChunkFact.{ChunkFact}
use Rattle.gq_depot.specs.declared.fact.ChunkFact.TheVariants.{Put, Forgot}

-- this is so of the session at the place
abbrev pub In : List Session → (place : ℕ) → (Session → Type 0) → Type 0
In sessions place P = (session : Session) → slice_get sessions place ≡ Some session → P session

-- the one where there is no session of this number; else the other, of its place
abbrev pub BySession : Depot → (s : ℕ) → Type 0 → (ℕ → Type 0) → Type 0
BySession depot s none there = MatchOption (place_in depot.stock.sessions.items s) none there

-- how many bytes the tenant may have more
abbrev pub free_in : Depot → ℕ
free_in depot = depot.stock.allowed - used_in depot.stock.sessions.items

-- ---- a content that is to be kept

-- a chunk has a byte, and not too many
abbrev pub fits : List ℕ → Bool
fits bytes = nat_le 1 (length bytes) && nat_le (length bytes) MOST_CHUNK

-- what is told where the session is there, and the content fits
abbrev pub KeptAt : (Extent → List ℕ) → Depot → (place s n : ℕ) → List ℕ → (losses : ℕ) → ChunkAnswer → Type 0
KeptAt written depot place s n bytes losses (Told.Kept s' n' told p floor free) =
    (s' ≡ s) × (n' ≡ n) × (p ≡ losses) × (free ≡ free_in depot)
    × In depot.stock.sessions.items place (λ session. (floor ≡ (book_of session.chunks).floor) × ToldAs ((contents written (book_of session.chunks)).at n) n (book_of session.chunks).floor bytes (free_in depot) told)
KeptAt written depot place s n bytes losses _ = ⊥

abbrev pub KeptFitting : (fits : Bool) → (Extent → List ℕ) → Depot → (place s n : ℕ) → List ℕ → (losses : ℕ) → ChunkAnswer → Type 0
KeptFitting true written depot place s n bytes losses answer = KeptAt written depot place s n bytes losses answer
KeptFitting false written depot place s n bytes losses answer = answer ≡ Told.TooLong s n (length bytes)

-- what is told of it in any case: that there is no such session comes first
abbrev pub KeepTells : (Extent → List ℕ) → Depot → (s n : ℕ) → List ℕ → (losses : ℕ) → ChunkAnswer → Type 0
KeepTells written depot s n bytes losses answer = BySession depot s (answer ≡ Told.NoSession s n) (λ place. KeptFitting (fits bytes) written depot place s n bytes losses answer)

-- only a new content is a fact: that it is where it is
abbrev pub PutIs : (Extent → List ℕ) → (s n : ℕ) → (is_sure : Bool) → List ℕ → Option ChunkFact → Type 0
PutIs written s n is_sure bytes (Some (Put s' n' sure place)) = (s' ≡ s) × (n' ≡ n) × (sure ≡ is_sure) × (content_at written place ≡ bytes)
PutIs written s n is_sure bytes _ = ⊥

abbrev pub KeepGives : (Extent → List ℕ) → (s n : ℕ) → (is_sure : Bool) → List ℕ → ChunkAnswer → Option ChunkFact → Type 0
KeepGives written s n is_sure bytes (Told.Kept s' n' New p floor free) fact = PutIs written s n is_sure bytes fact
KeepGives written s n is_sure bytes _ fact = fact ≡ None

-- what is kept in the session gives a fact where it is new
abbrev pub GivesFor : Keeping → Book Chunk → (s n : ℕ) → Option ChunkFact → Type 0
GivesFor New b s n (Some fact) = StandsIn b s n fact
GivesFor New b s n None = ⊥
GivesFor _ b s n fact = fact ≡ None

-- ---- a part of a content

-- a chunk is told that was given, or kept while the server lacked nothing; each, where the server lacks nothing
abbrev pub is_told : (lacks : Bool) → Option Chunk → Bool
is_told lacks None = false
is_told lacks (Some chunk) = chunk.is_sure || not lacks

abbrev pub told_if : Bool → Option Chunk → Option Chunk
told_if true chunk = chunk
told_if false chunk = None

-- what is told where the session is there
abbrev pub FoundAt : (is_clean : Type 0) → (Extent → List ℕ) → Depot → (place s n from long : ℕ) → ChunkAnswer → Type 0
FoundAt is_clean written depot place s n from long (Told.Found s' n' from' long' found lacks) =
    (s' ≡ s) × (n' ≡ n) × (from' ≡ from) × (long' ≡ long) × (lacks ≡ depot.lacks)
    × In depot.stock.sessions.items place (λ session. FoundAs is_clean (option_map (held_by written) (told_if (is_told depot.lacks ((book_of session.chunks).at n)) ((book_of session.chunks).at n))) found)
FoundAt is_clean written depot place s n from long _ = ⊥

abbrev pub GetTells : (is_clean : Type 0) → (Extent → List ℕ) → Depot → (s n from long : ℕ) → ChunkAnswer → Type 0
GetTells is_clean written depot s n from long answer = BySession depot s (answer ≡ Told.NoSession s n) (λ place. FoundAt is_clean written depot place s n from long answer)

-- ---- numbers that are forgotten

-- what is told where the session is there: the floor is the one that is there then
abbrev pub ForgotAt : (new : Depot) → (place s : ℕ) → Run → ChunkAnswer → Type 0
ForgotAt new place s run (Told.Forgot s' floor run') = (s' ≡ s) × (run' ≡ run) × In new.stock.sessions.items place (λ session. floor ≡ (book_of session.chunks).floor)
ForgotAt new place s run _ = ⊥

-- whether a chunk of the number, or of a greater one, is there
abbrev pub Reaches : Book Chunk → (n : ℕ) → Bool → Type 0
Reaches b n true = (m : ℕ) × (n ≤ m) × IsSome (b.at m)
Reaches b n false = (m : ℕ) → n ≤ m → b.at m ≡ None

-- Whether a floor that was at the one number may be at the other. One in the upper half of all numbers has to be reached by a chunk, or be there already: else one
-- line would end what a session puts, for good.
abbrev pub may_be : (was floor : ℕ) → (is_reached : Bool) → Bool
may_be was floor is_reached = nat_le floor MOST_FLOOR || nat_le floor was || is_reached

-- while chunks are lacked no more runs of numbers are forgotten than so many
abbrev pub is_full : Depot → Run → Bool
is_full depot run = depot.lacks && (nat_le run.first run.last && nat_le MOST_GONE (length depot.gone.items))

abbrev pub ForgetIn : (is_full : Bool) → (new : Depot) → (place s floor : ℕ) → Run → ChunkAnswer → Type 0
ForgetIn true new place s floor run answer = answer ≡ Told.Lacking s floor
ForgetIn false new place s floor run answer = ForgotAt new place s run answer

abbrev pub ForgetRising : (may_be : Bool) → (old : Depot) → (new : Depot) → (place s floor : ℕ) → Run → ChunkAnswer → Type 0
ForgetRising false old new place s floor run answer = answer ≡ Told.Bad
ForgetRising true old new place s floor run answer = ForgetIn (is_full old run) new place s floor run answer

-- what is told where the session is there
abbrev pub ForgetAt : Depot → (place s floor : ℕ) → Run → (new : Depot) → ChunkAnswer → Type 0
ForgetAt old place s floor run new answer = In old.stock.sessions.items place (λ session. (is_reached : Bool) × Reaches (book_of session.chunks) floor is_reached × ForgetRising (may_be (book_of session.chunks).floor floor is_reached) old new place s floor run answer)

-- no number above the floor is forgotten
abbrev pub ForgetTellsBy : (is_within : Bool) → Depot → (s floor : ℕ) → Run → (new : Depot) → ChunkAnswer → Type 0
ForgetTellsBy false depot s floor run new answer = answer ≡ Told.Bad
ForgetTellsBy true depot s floor run new answer = BySession depot s (answer ≡ Told.NoSession s floor) (λ place. ForgetAt depot place s floor run new answer)

abbrev pub ForgetTells : Depot → (s floor : ℕ) → Run → (new : Depot) → ChunkAnswer → Type 0
ForgetTells depot s floor run new answer = ForgetTellsBy (nat_le run.last floor) depot s floor run new answer

abbrev pub ForgetGivesIn : (is_full : Bool) → (s floor : ℕ) → Run → Option ChunkFact → Type 0
ForgetGivesIn true s floor run fact = fact ≡ None
ForgetGivesIn false s floor run fact = fact ≡ Some (Forgot s floor run)

abbrev pub ForgetGivesRising : (may_be : Bool) → Depot → (s floor : ℕ) → Run → Option ChunkFact → Type 0
ForgetGivesRising false depot s floor run fact = fact ≡ None
ForgetGivesRising true depot s floor run fact = ForgetGivesIn (is_full depot run) s floor run fact

abbrev pub ForgetGivesAt : Depot → (place s floor : ℕ) → Run → Option ChunkFact → Type 0
ForgetGivesAt depot place s floor run fact = In depot.stock.sessions.items place (λ session. (is_reached : Bool) × Reaches (book_of session.chunks) floor is_reached × ForgetGivesRising (may_be (book_of session.chunks).floor floor is_reached) depot s floor run fact)

abbrev pub ForgetGivesBy : (is_within : Bool) → Depot → (s floor : ℕ) → Run → Option ChunkFact → Type 0
ForgetGivesBy false depot s floor run fact = fact ≡ None
ForgetGivesBy true depot s floor run fact = BySession depot s (fact ≡ None) (λ place. ForgetGivesAt depot place s floor run fact)

abbrev pub ForgetGives : Depot → (s floor : ℕ) → Run → Option ChunkFact → Type 0
ForgetGives depot s floor run fact = ForgetGivesBy (nat_le run.last floor) depot s floor run fact

-- ---- a listing

-- the first chunk above a number
pub record IsNext (b : Book Chunk) (after : ℕ) (next : ListedChunk) : Type 0 where
  pub above : after < next.number
  pub long : option_map (λ (chunk : Chunk). long_at chunk.place) (b.at next.number) ≡ Some next.size
  pub none : (m : ℕ) → after < m → m < next.number → b.at m ≡ None

-- each is the first above the one before it
abbrev pub Follow : (b : Book Chunk) → (after : ℕ) → List ListedChunk → Type 0
Follow b after [] = ⊤
Follow b after (next ∷ chunks) = IsNext b after next × Follow b next.number chunks

abbrev pub last_of : (after : ℕ) → List ListedChunk → ℕ
last_of after [] = after
last_of after (next ∷ chunks) = last_of next.number chunks

-- the chunks above a number, rising: all, or so many as a listing may have
pub record ListedAs (b : Book Chunk) (after : ℕ) (chunks : List ListedChunk) (is_all : Bool) : Type 0 where
  pub follow : Follow b after chunks
  pub few : length chunks ≤ MOST_LISTED
  pub all : is_all ≡ true → (m : ℕ) → last_of after chunks < m → b.at m ≡ None
  pub full : is_all ≡ false → length chunks ≡ MOST_LISTED

-- what is told where the session is there
abbrev pub ListedAt : Depot → (place s after : ℕ) → ChunkAnswer → Type 0
ListedAt depot place s after (Told.Listed s' after' floor chunks is_all) =
    (s' ≡ s) × (after' ≡ after) × In depot.stock.sessions.items place (λ session. (floor ≡ (book_of session.chunks).floor) × ListedAs (book_of session.chunks) after chunks.items is_all)
ListedAt depot place s after _ = ⊥

abbrev pub ListTells : Depot → (s after : ℕ) → ChunkAnswer → Type 0
ListTells depot s after answer = BySession depot s (answer ≡ Told.NoSession s after) (λ place. ListedAt depot place s after answer)

-- ---- room

-- what is used, as far as 64 bits tell, and allowed
abbrev pub RoomTells : Depot → (losses : ℕ) → ChunkAnswer → Type 0
RoomTells depot losses (Told.Room used allowed p lacks) = (used ≡ min (used_in depot.stock.sessions.items) (2 ^ 64 - 1)) × (allowed ≡ depot.stock.allowed) × (p ≡ losses) × (lacks ≡ depot.lacks)
RoomTells depot losses _ = ⊥

-- ---- any request

-- What is told of a request, at a server whose plan tells so many losses of its column, where no read was wrong: what the tenant asks, and what the server has
-- of that tenant, say what it is.
abbrev pub Tells : (is_clean : Type 0) → (Extent → List ℕ) → (old : Depot) → (losses : ℕ) → ChunkRequest → ChunkAnswer → (new : Depot) → Type 0
Tells is_clean written old losses (Request.Keep s n bytes) answer new = is_clean → KeepTells written old s n bytes losses answer
Tells is_clean written old losses (Request.Get s n from long) answer new = GetTells is_clean written old s n from long answer
Tells is_clean written old losses (Request.Forget s floor run) answer new = ForgetTells old s floor run new answer
Tells is_clean written old losses (Request.List s after) answer new = ListTells old s after answer
Tells is_clean written old losses Request.Room answer new = RoomTells old losses answer

-- which fact it gives
abbrev pub Gives : (is_clean : Type 0) → (Extent → List ℕ) → (old : Depot) → ChunkRequest → ChunkAnswer → Option ChunkFact → Type 0
Gives is_clean written old (Request.Keep s n bytes) answer fact = is_clean → KeepGives written s n (not old.lacks) bytes answer fact
Gives is_clean written old (Request.Forget s floor run) answer fact = ForgetGives old s floor run fact
Gives is_clean written old _ answer fact = fact ≡ None

-- ---- damage

-- a read found damage where the chunk of the number lies
abbrev pub ReadsDamage : Depot → (s n : ℕ) → Noted → Noted → Type 0
ReadsDamage depot s n old new = DamagedIn depot.stock.sessions.items (s - 1) n old new

-- what is told as damaged a read found so; and where it is told that there is no space, the shelf had none for this content
abbrev pub DamageIs : Depot → Noted → Noted → ChunkAnswer → Type 0
DamageIs depot old new (Told.Kept s n Damaged losses floor free) = ReadsDamage depot s n old new
DamageIs depot old new (Told.Kept s n NoSpace losses floor free) = LacksSpace old new
DamageIs depot old new (Told.Found s n from long Unreadable lacks) = ReadsDamage depot s n old new
DamageIs depot old new _ = ⊤
