-- What a chunk takes of a tenant's room.
use Rattle.std.specs.Prelude.{ℕ, ◌+◌}
use Rattle.gq_stock.specs.declared.limits.TheConstants.{CHUNK_CHARGE}

-- what a content of so many bytes takes: these, and what stands for it in memory and in the journal
abbrev pub charge_of : (long : ℕ) → ℕ
charge_of long = long + CHUNK_CHARGE
