-- What is left to be looked through is the rest of the list, from here on.
use Rattle.std.proofs.Common.{◌≡◌, drop}
use Rattle.gq_order.specs.Passes.{files_from}
use Rattle.gq_order.proofs.history.files.Given as goal

abbrev pub invariant-loop-place : goal.invariant-loop-place
invariant-loop-place l = files_from l.tenant (drop l.place l.events) (drop l.place l.answers) l.left ≡ files_from l.tenant l.events l.answers l.volume
