-- What is read off the events from here on.
use Rattle.gq_tag.specs.Tag.{file_place}
use Rattle.gq_order.proofs.Backwards.{Back}
use Rattle.gq_order.proofs.history.read_back.Given as goal

abbrev pub invariant-loop-place : goal.invariant-loop-place
invariant-loop-place l = Back l.file.tenant (file_place l.file) l.events l.answers l.sessions l.place l.ends.items l.ops.items
