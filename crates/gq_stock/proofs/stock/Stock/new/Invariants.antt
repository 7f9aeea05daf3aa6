-- So many sessions so far.
use Rattle.std.proofs.Common.{◌≡◌, vec_len}
use Rattle.std.specs.Prelude.{All}
use Rattle.gq_stock.specs.Stocks.{used_in, fresh_in, IsEmpty}
use Rattle.gq_stock.proofs.stock.Stock.new.Given as goal

abbrev pub invariant-loop-session : goal.invariant-loop-session
invariant-loop-session l = (vec_len l.all ≡ l._session) × (used_in l.all.items ≡ 0) × (fresh_in l.all.items ≡ 0) × All IsEmpty l.all.items
