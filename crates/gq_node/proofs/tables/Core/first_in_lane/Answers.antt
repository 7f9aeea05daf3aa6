-- One volume more.
use Rattle.std.proofs.Common.{◌≡◌, ◌∙◌, ℕ, ◌<◌, List, length, sym, ap, subst, arith}
use Rattle.std.specs.Prelude.{option_map, slice_index_or}
use Rattle.gq_tag.specs.Tag.{file_place}
use Rattle.gq_desk.specs.Volumes.{account_at}
use Rattle.gq_desk.specs.declared.volumes.VolumeRow.{VolumeRow}
use Rattle.gq_node.specs.Lacks.{Given, AllWhole}
use Rattle.gq_node.specs.Lanes.{lacks_of_lane}
use Rattle.gq_node.specs.Shape.{IsShaped}
use Rattle.gq_node.specs.Tables.{Tables, given_at, lacks_at}
use Rattle.gq_node.proofs.Lacking.{list_read}
use Rattle.gq_node.proofs.Giving.{volume_files, first_from, first_more, first_here, first_none, none_of_lane, whole_none}
use Rattle.gq_node.proofs.tables.Core.first_in_lane.Goals as goal

pub loop-volume-init : goal.loop-volume-init
loop-volume-init c =
    let w : Tables = c.args.self.now in
    let t : ℕ = c.args.tenant in
    let shaped : IsShaped w = subst IsShaped c.self.view_is c.self.invariant in
    let within : t < length w.given = subst (λ n. t < n) (sym shaped.given) c.requires in
    let its : c.index.result.now ≡ given_at w t = list_read w.given c.self.inside.lacks.items t c.index.result.now c.index.result.now (ap (λ (x : Tables). x.given) c.self.view_is) within (c.index.ensures ∙ ap (λ n. slice_index_or c.self.inside.lacks.items n c.index.result.now) c.from.ensures) in
    let whole : AllWhole (given_at w t) c.first-whole.result = subst (λ (g : Given). AllWhole g c.first-whole.result) its c.first-whole.ensures in
    let volumes : List VolumeRow = (account_at w.desk t).volumes in
    first_from (lacks_of_lane (lacks_at w t) volumes c.args.lane) (volume_files volumes) c.first-whole.result (length volumes) (λ v low there. none_of_lane (lacks_at w t) volumes c.args.lane (volume_files volumes v) (whole_none w t v shaped (whole v low) there))

pub loop-volume-preserved : goal.loop-volume-preserved
loop-volume-preserved c =
    let w : Tables = c.args.self.now in
    let volumes : List VolumeRow = (account_at w.desk c.args.tenant).volumes in
    let count : c.count_volumes-count.result ≡ length volumes = c.count_volumes-count.ensures.count in
    let below : c.loop-volume.volume < length volumes = omega arith in
    first_more (lacks_of_lane (lacks_at w c.args.tenant) volumes c.args.lane) (volume_files volumes) c.loop-volume.volume (length volumes) below (sym c.first_of.ensures.first ∙ ap (option_map file_place) c.in_default.is) ∙ c.loop-volume.invariant

pub returns-in-Some-clause-first : goal.returns-in-Some-clause-first
returns-in-Some-clause-first c =
    let w : Tables = c.args.self.now in
    let volumes : List VolumeRow = (account_at w.desk c.args.tenant).volumes in
    let count : c.count_volumes-count.result ≡ length volumes = c.count_volumes-count.ensures.count in
    let below : c.loop-volume.volume < length volumes = omega arith in
    sym (first_here (lacks_of_lane (lacks_at w c.args.tenant) volumes c.args.lane) (volume_files volumes) c.loop-volume.volume (length volumes) (file_place c.in-Some.file) below (sym c.first_of.ensures.first ∙ ap (option_map file_place) c.in-Some.is)) ∙ c.loop-volume.invariant

pub returns-clause-first : goal.returns-clause-first
returns-clause-first c =
    let w : Tables = c.args.self.now in
    let volumes : List VolumeRow = (account_at w.desk c.args.tenant).volumes in
    let count : c.count_volumes-count.result ≡ length volumes = c.count_volumes-count.ensures.count in
    sym (first_none (lacks_of_lane (lacks_at w c.args.tenant) volumes c.args.lane) (volume_files volumes) c.loop-volume.volume (length volumes) (omega arith)) ∙ c.loop-volume.invariant
