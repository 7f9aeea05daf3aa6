-- All its files are in its lane.
use Rattle.std.proofs.Common.{◌∙◌, List, sym}
use Rattle.std.specs.List.{range_with_len}
use Rattle.gq_desk.specs.Volumes.{account_at}
use Rattle.gq_desk.specs.declared.volumes.VolumeRow.{VolumeRow}
use Rattle.gq_model.specs.Trace.{files_of}
use Rattle.gq_node.specs.Tables.{lacks_at}
use Rattle.gq_node.proofs.Giving.{first_of_lane, first_of_others}
use Rattle.gq_node.proofs.tables.Core.first_of.Goals as goal

pub returns-then-lane-clause-first : goal.returns-then-lane-clause-first
returns-then-lane-clause-first c =
    let volumes : List VolumeRow = (account_at c.args.self.now.desk c.args.tenant).volumes in
    sym (first_of_others (lacks_at c.args.self.now c.args.tenant) volumes c.args.lane c.args.volume (range_with_len 0 (files_of volumes c.args.volume)) (λ same. c.if-lane.true (c.lane.ensures ∙ same)))

pub returns-clause-first : goal.returns-clause-first
returns-clause-first c =
    let volumes : List VolumeRow = (account_at c.args.self.now.desk c.args.tenant).volumes in
    c.first_in.ensures.first ∙ sym (first_of_lane (lacks_at c.args.self.now c.args.tenant) volumes c.args.lane c.args.volume (range_with_len 0 (files_of volumes c.args.volume)) (sym c.lane.ensures ∙ c.if-lane.false))
