-- What a server that lacks chunks of a tenant asks of a peer.
use Rattle.std.specs.Prelude.{◌≡◌, ℕ, ◌+◌, ◌-◌, ◌^◌, Bool, true, false, ◌&&◌, ◌==◌, min, List, [], ◌∷◌, All, Any, if◌then◌else◌}
use Rattle.gq_depot.specs.declared.answer.ListedChunk.{ListedChunk}
use Rattle.gq_depot.specs.declared.seeking.Ask.{Ask}
use Rattle.gq_depot.specs.declared.seeking.Ask.TheVariants.{Seeks, Wants}
use Rattle.gq_depot.specs.declared.seeking.Seeking.{Seeking}

-- The session that is sought, up to which number its chunks were listed, whether these are all, and which of them did not come yet.
pub record Sought : Type 0 where
  pub session : ℕ
  pub after : ℕ
  pub is_all : Bool
  pub left : List ListedChunk

abbrev pub sought_of : Seeking → Sought
sought_of s = record { session = s.session; after = s.after; is_all = s.is_all; left = s.left.items }

-- nothing was asked yet
abbrev pub first_sought : Sought
first_sought = record { session = 1; after = 0; is_all = false; left = [] }

abbrev pub is_none_left : List ListedChunk → Bool
is_none_left [] = true
is_none_left (chunk ∷ chunks) = false

-- a listing is waited for only where none is left of the one before
abbrev pub expects : Sought → (s after : ℕ) → Bool
expects it s after = is_none_left it.left && (it.session == s && it.after == after)

-- The next session is sought once all chunks of this one were listed, and none is left.
abbrev pub passes : Sought → Sought
passes it = if is_none_left it.left && it.is_all then record { session = min (it.session + 1) (2 ^ 32 - 1); after = 0; is_all = false; left = it.left } else it

abbrev pub with_listing : Sought → (left : List ListedChunk) → (after : ℕ) → (is_all : Bool) → Sought
with_listing it left after is_all = passes (record { session = it.session; after = after; is_all = is_all; left = left })

-- all but the first chunk of this number
abbrev pub without : ℕ → List ListedChunk → List ListedChunk
without n [] = []
without n (chunk ∷ chunks) = if chunk.number == n then chunks else chunk ∷ without n chunks

abbrev pub settled : Sought → (n : ℕ) → Sought
settled it n = passes (record { session = it.session; after = it.after; is_all = it.is_all; left = without n it.left })

-- A listing is asked for where none is left of the one before, and a content only where it is left.
abbrev pub IsAsk : Sought → Ask → Type 0
IsAsk it (Seeks s after) = (s ≡ it.session) × (after ≡ it.after) × (it.left ≡ [])
IsAsk it (Wants s n) = (s ≡ it.session) × Any (λ chunk. chunk.number ≡ n) it.left

abbrev pub AreAsks : Sought → List Ask → Type 0
AreAsks it asks = All (IsAsk it) asks
