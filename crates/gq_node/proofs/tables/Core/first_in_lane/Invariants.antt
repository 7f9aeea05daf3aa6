-- What is left of the volumes decides.
use Rattle.std.proofs.Common.{◌≡◌, ◌-◌, length}
use Rattle.std.specs.Prelude.{find}
use Rattle.std.specs.List.{range_with_len, flat_map}
use Rattle.gq_desk.specs.Volumes.{account_at}
use Rattle.gq_node.specs.Lanes.{lacks_of_lane}
use Rattle.gq_node.specs.Tables.{lacks_at}
use Rattle.gq_node.proofs.Giving.{volume_files}
use Rattle.gq_node.proofs.tables.Core.first_in_lane.Given as goal

abbrev pub invariant-loop-volume : goal.invariant-loop-volume
invariant-loop-volume l =
    find (lacks_of_lane (lacks_at l.self l.tenant) (account_at l.self.desk l.tenant).volumes l.lane) (flat_map (volume_files (account_at l.self.desk l.tenant).volumes) (range_with_len l.volume (length (account_at l.self.desk l.tenant).volumes - l.volume)))
    ≡ find (lacks_of_lane (lacks_at l.self l.tenant) (account_at l.self.desk l.tenant).volumes l.lane) (flat_map (volume_files (account_at l.self.desk l.tenant).volumes) (range_with_len 0 (length (account_at l.self.desk l.tenant).volumes)))
