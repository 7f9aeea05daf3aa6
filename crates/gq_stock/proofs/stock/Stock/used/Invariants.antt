-- The sessions so far.
use Rattle.std.proofs.Common.{◌≡◌, ◌-◌, ◌^◌, take, min}
use Rattle.gq_stock.specs.Stocks.{used_in}
use Rattle.gq_stock.proofs.stock.Stock.used.Given as goal

abbrev pub invariant-loop-session : goal.invariant-loop-session
invariant-loop-session l = l.used ≡ min (used_in (take l.session-index l.session-items)) (2 ^ 64 - 1)
