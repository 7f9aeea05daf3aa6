-- Contents in blocks.
use Rattle.std.specs.Prelude.{ℕ, ◌+◌, ◌-◌, ◌/◌, min, List, [], ◌∷◌, ◌++◌, take}
use Rattle.gq_tag.specs.declared.TheConstants.{BLOCK_BYTES}

-- how many blocks n bytes take
abbrev pub blocks_for : ℕ → ℕ
blocks_for n = (n + (BLOCK_BYTES - 1)) / BLOCK_BYTES

-- the first n bytes of the blocks, one after another
abbrev pub content_of : ℕ → List (List ℕ) → List ℕ
content_of n [] = []
content_of n (b ∷ bs) = take (min n BLOCK_BYTES) b ++ content_of (n - BLOCK_BYTES) bs
