-- How far a node that lacks chunks has come.
use Rattle.std.specs.Prelude.{◌≡◌, ◌⊎◌, ℕ, List, length, Bool, true, false, ◌&&◌, ◌||◌, ◌==◌, nat_lt, filter, Option, Some, None, slice_get, MatchBool, if◌then◌else◌}
use Rattle.gq_depot.specs.Answers.{last_of}
use Rattle.gq_depot.specs.Filling.{wants_of}
use Rattle.gq_depot.specs.Seeking.{Sought, sought_of, first_sought, expects, with_listing, settled}
use Rattle.gq_depot.specs.declared.answer.ListedChunk.{ListedChunk}
use Rattle.gq_depot.specs.declared.depot.Depot.{Depot}
use Rattle.gq_chunks.specs.PeerLines.{Saying, Seeks, Found, Wants, Gives, Misses, Spoilt}
use Rattle.gq_chunks.specs.declared.search.Search.{Search}

-- All of so many sessions was listed, and none of it is left: the session that is sought is behind the last one.
abbrev pub is_through : Sought → (sessions : ℕ) → Bool
is_through it sessions = nat_lt sessions it.session

-- those of the session's chunks that are wanted
abbrev pub wanted_of : Depot → (s : ℕ) → List ListedChunk → List ListedChunk
wanted_of depot s chunks = filter (λ chunk. wants_of depot s chunk.number) chunks

-- Of a listing that is waited for, what is wanted is left. One that is not all has to go on.
abbrev pub heard : Sought → Depot → (s after : ℕ) → (is_all : Bool) → List ListedChunk → Sought
heard it depot s after is_all chunks = if expects it s after && (is_all || nat_lt after (last_of after chunks)) then with_listing it (wanted_of depot s chunks) (last_of after chunks) is_all else it

-- whether chunks are lacked of the tenant, if it is there; and how many sessions it has
abbrev pub lacks_in : Option Depot → Bool
lacks_in None = false
lacks_in (Some depot) = depot.lacks

abbrev pub sessions_in : Option Depot → ℕ
sessions_in None = 0
sessions_in (Some depot) = length depot.stock.sessions.items

-- the same is sought of the same tenant, or all of a tenant is sought anew
abbrev pub SoughtOn : Search → Search → Type 0
SoughtOn old new = ((new.tenant ≡ old.tenant) × (sought_of new.seeking ≡ sought_of old.seeking) × (new.is_spoilt ≡ old.is_spoilt)) ⊎ (sought_of new.seeking ≡ first_sought)

-- All of the tenant's sessions was listed and came, and no content was spoilt.
abbrev pub IsGiven : List Depot → Search → Type 0
IsGiven depots search = (is_through (sought_of search.seeking) (sessions_in (slice_get depots search.tenant)) ≡ true) × (search.is_spoilt ≡ false)

-- Whose chunks were lacked, and are not any more: it was he whose chunks were sought, and all of them were given.
abbrev pub OnlyGivenAreFilled : (olds news : List Depot) → Search → Type 0
OnlyGivenAreFilled olds news search = (t : ℕ) → lacks_in (slice_get olds t) ≡ true → lacks_in (slice_get news t) ≡ false → (search.tenant ≡ t) × IsGiven olds search

-- ---- what is heard

-- the same is sought of the same tenant
pub record IsSameSearch (old new : Search) : Type 0 where
  pub tenant : new.tenant ≡ old.tenant
  pub sought : sought_of new.seeking ≡ sought_of old.seeking
  pub spoilt : new.is_spoilt ≡ old.is_spoilt

-- whether it is the tenant whose chunks are sought
abbrev pub seeks_of : (t : ℕ) → List Depot → Search → Bool
seeks_of t depots search = (t == search.tenant) && lacks_in (slice_get depots t)

-- a listing of him was heard
pub record IsHeard (depot : Depot) (s after : ℕ) (is_all : Bool) (chunks : List ListedChunk) (old new : Search) : Type 0 where
  pub tenant : new.tenant ≡ old.tenant
  pub sought : sought_of new.seeking ≡ heard (sought_of old.seeking) depot s after is_all chunks
  pub spoilt : new.is_spoilt ≡ old.is_spoilt

-- a content of him came, or won't come
pub record IsSettled (s n : ℕ) (is_spoilt : Bool) (old new : Search) : Type 0 where
  pub tenant : new.tenant ≡ old.tenant
  pub sought : sought_of new.seeking ≡ (if (sought_of old.seeking).session == s then settled (sought_of old.seeking) n else sought_of old.seeking)
  pub spoilt : new.is_spoilt ≡ (old.is_spoilt || (is_spoilt && ((sought_of old.seeking).session == s)))

abbrev pub Hears : (t : ℕ) → List Depot → (old new : Search) → Type 0 → Type 0
Hears t depots old new its = MatchBool (seeks_of t depots old) its (IsSameSearch old new)

-- What a peer says of a tenant makes of the search what it is of the tenant that is sought, and nothing of another. (A content for which there is no space is not settled.)
abbrev pub SearchHears : Saying → (t : ℕ) → List Depot → (old new : Search) → Type 0
SearchHears (Seeks p s after) t depots old new = IsSameSearch old new
SearchHears (Wants s n) t depots old new = IsSameSearch old new
SearchHears (Found s after floor is_all chunks) t depots old new = (depot : Depot) → slice_get depots t ≡ Some depot → Hears t depots old new (IsHeard depot s after is_all chunks old new)
SearchHears (Gives s n bytes) t depots old new = Hears t depots old new (IsSettled s n false old new) ⊎ IsSameSearch old new
SearchHears (Misses s n) t depots old new = Hears t depots old new (IsSettled s n false old new)
SearchHears (Spoilt s n) t depots old new = Hears t depots old new (IsSettled s n true old new)
