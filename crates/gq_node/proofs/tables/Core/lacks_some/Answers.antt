-- One is lacked where a first one is.
use Rattle.std.proofs.Common.{◌≡◌, ◌∙◌, false, List, refl, sym, ap, Option, Some, None}
use Rattle.std.specs.Prelude.{nat_lt, is_some, option_map}
use Rattle.gq_desk.specs.Volumes.{account_at}
use Rattle.gq_desk.specs.declared.volumes.VolumeRow.{VolumeRow}
use Rattle.gq_tag.specs.declared.FileId.{FileId}
use Rattle.gq_tag.specs.Tag.{file_place}
use Rattle.gq_node.specs.Joining.{all_files}
use Rattle.gq_node.specs.Tables.{is_new_node, lacks_at}
use Rattle.gq_node.proofs.Counting.{none_such, some_found}
use Rattle.gq_node.proofs.tables.Core.lacks_some.Goals as goal

some_place : (file : Option FileId) → is_some file ≡ is_some (option_map file_place file)
some_place None = refl
some_place (Some file) = refl

pub returns : goal.returns
returns c =
    let volumes : List VolumeRow = (account_at c.args.self.now.desk c.args.tenant).volumes in
    c.is_some.ensures
    ∙ some_place c.first_lacked.result
    ∙ ap is_some c.first_lacked.ensures.first
    ∙ some_found (lacks_at c.args.self.now c.args.tenant) (all_files volumes)

pub returns-then-not-is_new : goal.returns-then-not-is_new
returns-then-not-is_new c =
    let volumes : List VolumeRow = (account_at c.args.self.now.desk c.args.tenant).volumes in
    let old : is_new_node c.args.self.now ≡ false = sym (c.is_new.ensures 0) ∙ c.if-not-is_new.true in
    sym (ap (nat_lt 0) (none_such (lacks_at c.args.self.now c.args.tenant) (all_files volumes) (λ file. c.is_whole.ensures old c.args.tenant file)))
