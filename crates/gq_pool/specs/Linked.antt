-- How the nodes of a list point to one another.
use Rattle.std.specs.Prelude.{ℕ, List, [], ◌∷◌, drop}
use denote.RawPtr.{Ptr, null_ptr}

-- where the first node lies, or null
abbrev pub first_place : List (Ptr × List ℕ) → Ptr
first_place [] = null_ptr
first_place (n ∷ ns) = n.0

-- the bytes of the first node
abbrev pub first_bytes : List (Ptr × List ℕ) → List ℕ
first_bytes [] = []
first_bytes (n ∷ ns) = n.1

-- the bytes of the i-th node
abbrev pub bytes_at : ℕ → List (Ptr × List ℕ) → List ℕ
bytes_at i ns = first_bytes (drop i ns)
