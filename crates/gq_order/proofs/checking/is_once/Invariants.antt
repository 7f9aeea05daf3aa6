-- What is left to be tested is the rest of the list.
use Rattle.std.proofs.Common.{◌≡◌, drop}
use Rattle.gq_laws.specs.Checks.{is_once}
use Rattle.gq_order.proofs.checking.is_once.Given as goal

abbrev pub invariant-loop-m : goal.invariant-loop-m
invariant-loop-m l = is_once (drop l.m l.order) ≡ is_once l.order
