-- What a server that lacks chunks of a tenant makes of what a peer gives.
use Rattle.std.specs.Prelude.{◌≡◌, ℕ, Bool, true, false, not, ◌&&◌, nat_lt, List, length, Option, Some, None, MatchBool, MatchOption, slice_get}
use Rattle.gq_shelf.specs.declared.extent.Extent.{Extent}
use Rattle.gq_ledger.specs.Ledgers.{book_of}
use Rattle.gq_stock.specs.declared.session.Session.{Session}
use Rattle.gq_depot.specs.Answers.{In, BySession, PutIs, fits, is_told}
use Rattle.gq_depot.specs.Depots.{standing_of, place_in}
use Rattle.gq_depot.specs.declared.depot.Depot.{Depot}
use Rattle.gq_depot.specs.declared.fact.ChunkFact.{ChunkFact}
use Rattle.gq_depot.specs.declared.fact.ChunkFact.TheVariants.{Forgot, Filled}
use Rattle.gq_depot.specs.declared.filling.Filling.{Filling}
use Rattle.gq_depot.specs.declared.filling.Filling.TheVariants as Fill

-- A peer's content is wanted where the server lacks chunks, none that was given is under the number, and the number was not forgotten since.
abbrev pub wants_at : Depot → (place n : ℕ) → Session → Bool
wants_at depot place n session = depot.lacks && (not (is_told true ((book_of session.chunks).at n)) && not ((standing_of depot).gone place n))

-- the same of the session's number: of none that is not there
abbrev pub wants_by : Depot → (place n : ℕ) → Option Session → Bool
wants_by depot place n None = false
wants_by depot place n (Some session) = wants_at depot place n session

abbrev pub wants_in : Depot → (n : ℕ) → Option ℕ → Bool
wants_in depot n None = false
wants_in depot n (Some place) = wants_by depot place n (slice_get depot.stock.sessions.items place)

abbrev pub wants_of : Depot → (s n : ℕ) → Bool
wants_of depot s n = wants_in depot n (place_in depot.stock.sessions.items s)

-- one that is wanted, and has the length of a chunk, is there from then on, and told, whatever was there; any other is passed over
abbrev pub GivenAt : (is_clean : Type 0) → (Extent → List ℕ) → Depot → (place s n : ℕ) → List ℕ → Option ChunkFact → Type 0
GivenAt is_clean written depot place s n bytes fact =
    In depot.stock.sessions.items place (λ session. MatchBool (fits bytes && wants_at depot place n session) (is_clean → PutIs written s n true bytes fact) (fact ≡ None))

abbrev pub GiveGives : (is_clean : Type 0) → (Extent → List ℕ) → Depot → (s n : ℕ) → List ℕ → Option ChunkFact → Type 0
GiveGives is_clean written depot s n bytes fact = BySession depot s (fact ≡ None) (λ place. GivenAt is_clean written depot place s n bytes fact)

-- a floor that a peer tells is the session's, if it is higher than that, while chunks are lacked
abbrev pub RaisedAt : Depot → (place s floor : ℕ) → Option ChunkFact → Type 0
RaisedAt depot place s floor fact =
    In depot.stock.sessions.items place (λ session. MatchBool (depot.lacks && nat_lt (book_of session.chunks).floor floor) (fact ≡ Some (Forgot s floor (record { first = 1; last = 0 }))) (fact ≡ None))

abbrev pub RaiseGives : Depot → (s floor : ℕ) → Option ChunkFact → Type 0
RaiseGives depot s floor fact = BySession depot s (fact ≡ None) (λ place. RaisedAt depot place s floor fact)

-- where chunks were lacked, none are any more
abbrev pub EndGives : (lacks : Bool) → Option ChunkFact → Type 0
EndGives true fact = fact ≡ Some Filled
EndGives false fact = fact ≡ None

-- which fact comes of it, where no read was wrong; nothing else is kept of it
abbrev pub Fills : (is_clean : Type 0) → (Extent → List ℕ) → Depot → Filling → Option ChunkFact → Type 0
Fills is_clean written depot (Fill.Give s n bytes) fact = GiveGives is_clean written depot s n bytes fact
Fills is_clean written depot (Fill.Raise s floor) fact = RaiseGives depot s floor fact
Fills is_clean written depot Fill.End fact = EndGives depot.lacks fact
