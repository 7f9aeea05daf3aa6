-- The longest line of a setup.
use Rattle.std.specs.Prelude.{ℕ, ◌+◌, ◌*◌, max, List, [], ◌∷◌}
use Rattle.gq_depot.specs.declared.limits.TheConstants.{MOST_CHUNK}
use Rattle.gq_setup.specs.declared.openings.ChunkRoom.{ChunkRoom}
use Rattle.gq_setup.specs.Setups.{Setup}
use Rattle.gq_wire.specs.Incoming.{longest_line}
use Rattle.gq_chunks.specs.declared.longest.TheConstants.{BESIDE_CHUNK}

-- the most bytes of a line of a chunk, where some tenant has room for chunks: two for each byte, and some
abbrev pub longest_by : List ChunkRoom → ℕ
longest_by [] = 0
longest_by (room ∷ rooms) = 2 * MOST_CHUNK + BESIDE_CHUNK

-- the most bytes of a line
abbrev pub longest_of : Setup → ℕ
longest_of setup = max (longest_line setup.plan) (longest_by setup.rooms)
