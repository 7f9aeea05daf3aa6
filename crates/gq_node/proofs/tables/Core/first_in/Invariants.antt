-- What is left of the files decides.
use Rattle.std.proofs.Common.{◌≡◌, ◌-◌, map}
use Rattle.std.specs.Prelude.{find}
use Rattle.std.specs.List.{range_with_len}
use Rattle.gq_desk.specs.Volumes.{account_at}
use Rattle.gq_model.specs.Trace.{files_of}
use Rattle.gq_node.specs.Tables.{lacks_at}
use Rattle.gq_node.proofs.Giving.{at_place}
use Rattle.gq_node.proofs.tables.Core.first_in.Given as goal

abbrev pub invariant-loop-place : goal.invariant-loop-place
invariant-loop-place l =
    find (lacks_at l.self l.tenant) (map (at_place l.volume) (range_with_len l.place (files_of (account_at l.self.desk l.tenant).volumes l.volume - l.place)))
    ≡ find (lacks_at l.self l.tenant) (map (at_place l.volume) (range_with_len 0 (files_of (account_at l.self.desk l.tenant).volumes l.volume)))
