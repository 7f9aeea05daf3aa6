-- The numbers so far are below this one.
use Rattle.std.proofs.Common.{◌<◌, All}
use Rattle.gq_shelf.proofs.files.numbers_below.Given as goal

abbrev pub invariant-loop-name : goal.invariant-loop-name
invariant-loop-name l = All (λ number. number < l.below) l.found.items
