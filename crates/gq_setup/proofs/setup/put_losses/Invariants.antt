use Rattle.std.proofs.Common.{◌≡◌, ◌++◌, take}
use Rattle.std.specs.List.{flat_map}
use Rattle.gq_setup.specs.Texts.{loss_line}
use Rattle.gq_setup.proofs.setup.put_losses.Given as goal

abbrev pub invariant-loop-place : goal.invariant-loop-place
invariant-loop-place l = l.out.items ≡ l.fn.out.items ++ flat_map loss_line (take l.place-index l.places)
