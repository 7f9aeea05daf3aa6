-- The volume that is read has the blocks of its number.
use Rattle.std.proofs.Common.{◌≡◌, ◌∙◌, ◌%◌, List, ap}
use Rattle.std.specs.Prelude.{slice_index_or}
use Rattle.gq_desk.specs.declared.volumes.VolumeRow.{VolumeRow}
use Rattle.gq_desk.specs.Volumes.{account_at}
use Rattle.gq_node.specs.Lanes.{lanes_for, blocks_of}
use Rattle.gq_node.specs.Tables.{Tables}
use Rattle.gq_node.proofs.Listing.{blocks_at}
use Rattle.gq_node.proofs.tables.Core.lane.Goals as goal

pub returns : goal.returns
returns c =
    let there : c.volumes.result.now ≡ (account_at c.args.self.now.desk c.args.tenant).volumes = c.volumes.ensures.volumes ∙ ap (λ (x : Tables). (account_at x.desk c.args.tenant).volumes) c.self.view_is in
    let blocks : (slice_index_or c.volumes.result.now c.args.volume (record { files = 0; blocks = 0 })).blocks ≡ blocks_of (account_at c.args.self.now.desk c.args.tenant).volumes c.args.volume =
    ap (λ (xs : List VolumeRow). (slice_index_or xs c.args.volume (record { files = 0; blocks = 0 })).blocks) there ∙ blocks_at (account_at c.args.self.now.desk c.args.tenant).volumes c.args.volume (record { files = 0; blocks = 0 }) c.requires.volume in
    ap (λ n. c.args.volume % n) (c.lanes_for.ensures.value ∙ ap lanes_for blocks)
