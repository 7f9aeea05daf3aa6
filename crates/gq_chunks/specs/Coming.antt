-- What a line is to a machine of chunks.
use Rattle.std.specs.Prelude.{◌<◌, ℕ, Bool, true, false, List, [], ◌∷◌, ◌&&◌, ◌==◌, nat_lt, Option, Some, None, if◌then◌else◌, ⊤}
use Rattle.gq_desk.specs.CheckedPlan.{CheckedPlan}
use Rattle.gq_lines.specs.Words.{Word, words_of, number_of}
use Rattle.gq_text.specs.Input.{place_named}
use Rattle.gq_wire.specs.Incoming.{is_to, is_tick}
use Rattle.gq_depot.specs.declared.request.ChunkRequest.{ChunkRequest}
use Rattle.gq_depot.specs.declared.request.ChunkRequest.TheVariants.{Keep}
use Rattle.gq_chunks.specs.declared.came.Came.{Came}
use Rattle.gq_chunks.specs.declared.came.Came.TheVariants as Line
use Rattle.gq_chunks.specs.Peers.{is_peer}
use Rattle.gq_chunks.specs.PeerLines.{Saying, Gives, saying_of, saying_by}
use Rattle.gq_chunks.specs.Requests.{chunk_request_by}

-- What the tenant at this place asks, none where its words have no form; what a peer says about the tenant at this place; a tick; or nothing.
pub data Coming : Type 0 where
  Asked : (t : ℕ) → Option ChunkRequest → Coming
  Said : (t from : ℕ) → Saying → Coming
  Ticked : Coming
  Nothing : Coming

-- what was read of it
abbrev pub coming : Came → Coming
coming (Line.Asked t request) = Asked t request
coming (Line.Said t from line) = Said t from (saying_of line)
coming Line.Tick = Ticked
coming Line.Nothing = Nothing

-- from the tenant at that place, one of the first of the plan, so many
abbrev pub asked_by : (tenants : ℕ) → Option ℕ → List Word → Coming
asked_by tenants None body = Nothing
asked_by tenants (Some t) body = if nat_lt t tenants then Asked t (chunk_request_by body) else Nothing

abbrev pub said_if : (t from : ℕ) → Option Saying → Coming
said_if t from None = Nothing
said_if t from (Some saying) = Said t from saying

-- about the tenant at that place
abbrev pub said_by : (tenants from : ℕ) → Option ℕ → List Word → Coming
said_by tenants from None words = Nothing
said_by tenants from (Some t) words = if nat_lt t tenants then said_if t from (saying_by words) else Nothing

abbrev pub from_peer : CheckedPlan → (tenants from : ℕ) → List Word → Coming
from_peer plan tenants from [] = Nothing
from_peer plan tenants from (name ∷ words) = said_by tenants from (place_named plan name) words

-- A tick is from the node itself; else only a peer's lines are taken.
abbrev pub from_node : CheckedPlan → (node : ℕ) → List ℕ → (tenants from : ℕ) → List Word → Coming
from_node plan node lost tenants from body = if from == node && is_tick body then Ticked else if is_peer plan node lost from then from_peer plan tenants from body else Nothing

-- a number names a node, another word a tenant
abbrev pub from_whom : CheckedPlan → (node : ℕ) → List ℕ → (tenants : ℕ) → Option ℕ → Word → List Word → Coming
from_whom plan node lost tenants None name body = asked_by tenants (place_named plan name) body
from_whom plan node lost tenants (Some from) name body = from_node plan node lost tenants from body

-- a line `TO FROM BODY` to the node; any other is passed over
abbrev pub coming_of_words : CheckedPlan → (node : ℕ) → List ℕ → (tenants : ℕ) → List Word → Coming
coming_of_words plan node lost tenants (to ∷ from ∷ body) = if is_to node (number_of to) then from_whom plan node lost tenants (number_of from) from body else Nothing
coming_of_words plan node lost tenants _ = Nothing

abbrev pub coming_of : CheckedPlan → (node : ℕ) → List ℕ → (tenants : ℕ) → List ℕ → Coming
coming_of plan node lost tenants line = coming_of_words plan node lost tenants (words_of line)

-- it names only one of the first tenants, so many
abbrev pub IsWithin : (tenants : ℕ) → Came → Type 0
IsWithin tenants (Line.Asked t request) = t < tenants
IsWithin tenants (Line.Said t from line) = t < tenants
IsWithin tenants _ = ⊤

-- whether chunks may be moved or mended before it: a tick, a content that is to be kept, or one that a peer gives
abbrev pub moves_at : Coming → Bool
moves_at Ticked = true
moves_at (Asked t (Some (Keep s n bytes))) = true
moves_at (Said t from (Gives s n bytes)) = true
moves_at _ = false
