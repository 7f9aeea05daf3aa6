-- The accounts of the tenants so far.
use Rattle.std.proofs.Common.{◌≡◌, take}
use Rattle.std.specs.Prelude.{map}
use Rattle.gq_desk.specs.Volumes.{new_account}
use Rattle.gq_desk.proofs.volumes.Desk.new.Given as goal

abbrev pub invariant-loop-row : goal.invariant-loop-row
invariant-loop-row l = l.accounts.items ≡ map new_account (take l.row-index l.row-items)
