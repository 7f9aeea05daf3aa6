-- The moments so far, and those of the operations that are left.
use Rattle.std.proofs.Common.{◌≡◌, ◌++◌, take, drop}
use Rattle.gq_history.specs.Moments.{moments, moments_after}
use Rattle.gq_history.specs.Tables.{IsTable}
use Rattle.gq_history.proofs.moments.moments.Given as goal

abbrev pub invariant-loop-place : goal.invariant-loop-place
invariant-loop-place l = record {
  table : IsTable (take l.place l.ops) l.given_up.items;
  whole : l.all.items ++ moments_after l.lines (take l.place l.ops) (drop l.place l.ops) ≡ moments l.lines l.ops;
}
