-- Of the volumes so far.
use Rattle.std.proofs.Common.{◌≡◌, ◌≤◌, ◌*◌}
use Rattle.std.specs.List.{count_by, flat_map, range_with_len}
use Rattle.gq_tag.specs.declared.TheConstants.{MOST_FILES}
use Rattle.gq_desk.specs.Volumes.{account_at}
use Rattle.gq_node.specs.Tables.{lacks_at}
use Rattle.gq_node.proofs.Giving.{volume_files}
use Rattle.gq_node.proofs.tables.Core.lacked.Given as goal

abbrev pub invariant-loop-volume : goal.invariant-loop-volume
invariant-loop-volume l =
    (l.lacked ≡ count_by (lacks_at l.self l.tenant) (flat_map (volume_files (account_at l.self.desk l.tenant).volumes) (range_with_len 0 l.volume)))
    × (l.lacked ≤ l.volume * MOST_FILES)
