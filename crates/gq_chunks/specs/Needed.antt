-- The facts that a start needs.
use Rattle.std.specs.Prelude.{◌≡◌, ◌<◌, ◌≤◌, ℕ, List, [], ◌∷◌, ◌++◌, length, map, Bool, true, false, ◌&&◌, ◌||◌, ◌==◌, nat_lt, Some, None, slice_get, if◌then◌else◌, ⊤}
use Rattle.std.specs.List.{list_all}
use Rattle.gq_desk.specs.CheckedPlan.{CheckedPlan}
use Rattle.gq_ledger.specs.Steps.{Book}
use Rattle.gq_stock.specs.Forgetting.{is_in}
use Rattle.gq_journal.specs.Batches.{Line, lines_text}
use Rattle.gq_keeper.specs.Plans.{are_facts}
use Rattle.gq_keeper.specs.Starting.{RecallsAll}
use Rattle.gq_depot.specs.Depots.{Placed, Standing, standing_of, after_fact, bare, IsSame, reads_fact}
use Rattle.gq_depot.specs.declared.depot.Depot.{Depot}
use Rattle.gq_depot.specs.declared.fact.ChunkFact.{ChunkFact}
use Rattle.gq_depot.specs.declared.gone.Gone.{Gone}
use Rattle.gq_chunks.specs.Facts.{chunk_fact_line}
use Rattle.gq_chunks.specs.Machines.{Chunks, IsSite, FactStands, AllFit, GoneFits, chunk_reads, ChunkRecalls, lacks_at_first}

-- ---- one tenant

-- what the facts make of it, the first one first
abbrev pub after_facts : List ChunkFact → Standing → Standing
after_facts [] it = it
after_facts (fact ∷ facts) it = after_facts facts (after_fact (Some fact) it)

-- each fact's line says it of this tenant, and stands in a batch; and a depot of so many sessions reads it
abbrev pub FactsStand : CheckedPlan → (t sessions : ℕ) → List ChunkFact → Type 0
FactsStand plan t sessions [] = ⊤
FactsStand plan t sessions (fact ∷ facts) = FactStands plan t (Some fact) × (reads_fact sessions fact ≡ true) × FactsStand plan t sessions facts

-- Lines of facts of the tenant were appended, which make of the one what is the same as the other.
pub record Wrote (plan : CheckedPlan) (t sessions : ℕ) (before after : List ℕ) (was is : Standing) : Type 0 where
  pub facts : List ChunkFact
  pub text : after ≡ before ++ lines_text (map (chunk_fact_line plan t) facts)
  pub stand : FactsStand plan t sessions facts
  pub makes : IsSame (after_facts facts was) is

-- the same of a depot: of the one part of what it has they make the other
abbrev pub WroteOf : CheckedPlan → (t : ℕ) → Depot → (before after : List ℕ) → (was is : Standing → Standing) → Type 0
WroteOf plan t depot before after was is = Wrote plan t (length depot.stock.sessions.items) before after (was (standing_of depot)) (is (standing_of depot))

-- no chunk of the depot is too long
abbrev pub ChunksFit : Depot → Type 0
ChunksFit depot = AllFit (standing_of depot)

-- what was forgotten is of its sessions, and not above their floors
abbrev pub ForgottenFit : Depot → Type 0
ForgottenFit depot = GoneFits (length depot.stock.sessions.items) (standing_of depot)

-- ---- a part of what a tenant has

abbrev pub empty_book : Book Placed
empty_book = record { at = λ n. None; floor = 0 }

-- the sessions before this place
abbrev pub before_place : Standing → (lacks : Bool) → (k : ℕ) → Standing
before_place it lacks k = record { books = λ j. if nat_lt j k then it.books j else empty_book; gone = λ j n. if nat_lt j k then lacks && it.gone j n else false; lacks = lacks }

-- of a session its floor, and the chunks below this number
abbrev pub below_number : Book Placed → (n : ℕ) → Book Placed
below_number b n = record { at = λ m. if nat_lt m n then b.at m else None; floor = b.floor }

-- the sessions before this place, and of the one at it the floor, and what was forgotten of these numbers
abbrev pub before_chunks : Standing → (lacks : Bool) → (k : ℕ) → (gone : ℕ → Bool) → Standing
before_chunks it lacks k gone = record {
  books = λ j. if j == k then below_number (it.books k) 0 else (before_place it lacks k).books j;
  gone = λ j n. if j == k then lacks && gone n else (before_place it lacks k).gone j n;
  lacks = lacks;
}

-- these numbers, and those of the run, if it is of the session at this place
abbrev pub with_run : (gone : ℕ → Bool) → (k : ℕ) → Gone → (n : ℕ) → Bool
with_run gone k one n = gone n || ((k == one.place) && is_in n one.run)

-- no number of the run is above the floor of that session
abbrev pub RunFits : Depot → (k : ℕ) → Gone → Type 0
RunFits depot k one = (n : ℕ) → ((k == one.place) && is_in n one.run) ≡ true → n ≤ ((standing_of depot).books k).floor

-- the sessions before this place, and so much of the one at it
abbrev pub before_number : Standing → (lacks : Bool) → (k n : ℕ) → Standing
before_number it lacks k n = record {
  books = λ j. if j == k then below_number (it.books k) n else (before_place it lacks k).books j;
  gone = λ j m. if j == k then lacks && it.gone k m else (before_place it lacks k).gone j m;
  lacks = lacks;
}

-- the same chunks, where this is lacked, and what was forgotten while chunks are
abbrev pub lacking : Bool → Standing → Standing
lacking lacks it = record { books = it.books; gone = λ k n. lacks && it.gone k n; lacks = lacks }

-- ---- all tenants

-- what a depot that is as this one, and was never asked anything, lacks
abbrev pub first_lacks : (node : ℕ) → Depot → Bool
first_lacks node depot = lacks_at_first node depot.stock.allowed depot.stock.allowed

-- what is written of the depot: what it has, and that it lacks nothing where a blank one would lack chunks
abbrev pub written_of : (node : ℕ) → Depot → Standing
written_of node depot = lacking (first_lacks node depot && depot.lacks) (standing_of depot)

-- the depot has the sessions of the other
abbrev pub HasSessions : Depot → Depot → Type 0
HasSessions depot other = length other.stock.sessions.items ≡ length depot.stock.sessions.items

-- it is of the same node, and its depots have the same sessions
pub record IsLike (m new : Chunks) : Type 0 where
  pub site : IsSite m new
  pub sessions : (t : ℕ) (was is : Depot) → slice_get m.depots t ≡ Some was → slice_get new.depots t ≡ Some is → HasSessions was is

-- What reading lines makes of a machine, of so many of its tenants: where a depot had nothing, it has what was written of the other machine's. All others stay.
pub record Makes (m : Chunks) (tenants : ℕ) (new last : Chunks) : Type 0 where
  pub like : IsLike m last
  pub made : (t : ℕ) (depot was is : Depot) → t < tenants → slice_get m.depots t ≡ Some depot → slice_get new.depots t ≡ Some was → slice_get last.depots t ≡ Some is →
      (is.stock.allowed ≡ was.stock.allowed) × (IsSame (standing_of was) (bare (first_lacks m.node depot)) → IsSame (standing_of is) (written_of m.node depot))
  pub others : (t : ℕ) → tenants ≤ t → slice_get last.depots t ≡ slice_get new.depots t

-- Lines of facts were appended of so many tenants of the machine, which a machine of the same node reads.
pub record WroteTenants (m : Chunks) (tenants : ℕ) (before after : List ℕ) : Type 0 where
  pub lines : List Line
  pub text : after ≡ before ++ lines_text lines
  pub facts : are_facts lines ≡ true
  pub read : (new : Chunks) → IsLike m new → list_all (chunk_reads new) lines ≡ true
  pub makes : (new last : Chunks) → IsLike m new → RecallsAll ChunkRecalls new lines last → Makes m tenants new last
