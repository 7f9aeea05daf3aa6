-- What a server has of a chunk.
use Rattle.std.specs.Prelude.{ℕ, Bool, List, Option, option_map}
use Rattle.gq_shelf.specs.declared.extent.Extent.{Extent}
use Rattle.gq_shelf.specs.Places.{content_at}
use Rattle.gq_ledger.specs.Steps.{Book}
use Rattle.gq_stock.specs.declared.chunk.Chunk.{Chunk}

-- its bytes, and whether it is told: it was given, or was kept while the server lacked nothing
pub record Held : Type 0 where
  pub bytes : List ℕ
  pub is_sure : Bool

-- the content that is there
abbrev pub content_of : Option Held → Option (List ℕ)
content_of has = option_map (λ held. held.bytes) has

-- what a chunk is, where this is what lies on the shelf
abbrev pub held_by : (Extent → List ℕ) → Chunk → Held
held_by written chunk = record { bytes = content_at written chunk.place; is_sure = chunk.is_sure }

-- what chunks are, wherever they lie
abbrev pub contents : (Extent → List ℕ) → Book Chunk → Book Held
contents written b = record { at = λ n. option_map (held_by written) (b.at n); floor = b.floor }
