-- The sessions so far.
use Rattle.std.proofs.Common.{◌≡◌, ◌-◌, ◌^◌, take, min}
use Rattle.gq_stock.specs.Stocks.{fresh_in}
use Rattle.gq_stock.proofs.stock.Stock.fresh.Given as goal

abbrev pub invariant-loop-session : goal.invariant-loop-session
invariant-loop-session l = l.fresh ≡ min (fresh_in (take l.session-index l.session-items)) (2 ^ 64 - 1)
