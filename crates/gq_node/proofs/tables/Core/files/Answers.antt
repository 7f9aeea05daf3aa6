-- The volume that is read has the files of its number.
use Rattle.std.proofs.Common.{◌≡◌, ◌∙◌, ◌<◌, ◌≤◌, List, length, ap, sym, subst}
use Rattle.std.specs.Prelude.{slice_index_or}
use Rattle.gq_tag.specs.declared.TheConstants.{MOST_FILES}
use Rattle.gq_desk.specs.declared.volumes.VolumeRow.{VolumeRow}
use Rattle.gq_desk.specs.declared.limits.TheConstants.{MOST_FILE_BLOCKS}
use Rattle.gq_desk.specs.Volumes.{account_at}
use Rattle.gq_node.specs.Tables.{Tables}
use Rattle.gq_node.proofs.Listing.{files_at, sized_files}
use Rattle.gq_node.proofs.tables.Core.files.Goals as goal

pub returns-clause-value : goal.returns-clause-value
returns-clause-value c =
    let there : c.volumes.result.now ≡ (account_at c.args.self.now.desk c.args.tenant).volumes = c.volumes.ensures.volumes ∙ ap (λ (x : Tables). (account_at x.desk c.args.tenant).volumes) c.self.view_is in
    ap (λ (xs : List VolumeRow). (slice_index_or xs c.args.volume (record { files = 0; blocks = 0 })).files) there ∙ files_at (account_at c.args.self.now.desk c.args.tenant).volumes c.args.volume (record { files = 0; blocks = 0 }) c.requires.volume

pub returns-clause-some : goal.returns-clause-some
returns-clause-some c =
    let there : c.volumes.result.now ≡ (account_at c.args.self.now.desk c.args.tenant).volumes = c.volumes.ensures.volumes ∙ ap (λ (x : Tables). (account_at x.desk c.args.tenant).volumes) c.self.view_is in
    let within : c.args.volume < length c.volumes.result.now = subst (λ (xs : List VolumeRow). c.args.volume < length xs) (sym there) c.requires.volume in
    subst (λ n. 0 < n) (sym (files_at c.volumes.result.now c.args.volume (record { files = 0; blocks = 0 }) within)) (sized_files MOST_FILE_BLOCKS c.volumes.result.now c.args.volume c.volumes.ensures.sized within).0

pub returns-clause-bound : goal.returns-clause-bound
returns-clause-bound c =
    let there : c.volumes.result.now ≡ (account_at c.args.self.now.desk c.args.tenant).volumes = c.volumes.ensures.volumes ∙ ap (λ (x : Tables). (account_at x.desk c.args.tenant).volumes) c.self.view_is in
    let within : c.args.volume < length c.volumes.result.now = subst (λ (xs : List VolumeRow). c.args.volume < length xs) (sym there) c.requires.volume in
    subst (λ n. n ≤ MOST_FILES) (sym (files_at c.volumes.result.now c.args.volume (record { files = 0; blocks = 0 }) within)) (sized_files MOST_FILE_BLOCKS c.volumes.result.now c.args.volume c.volumes.ensures.sized within).1
