-- A row of the word is the one of its name.
use Rattle.std.proofs.Common.{◌≡◌, ◌<◌, ◌∙◌, true, get_or, length, arith, sym}
use Rattle.std.specs.List.{position_from}
use Rattle.std.specs.Str.{bytes_eq}
use Rattle.std.proofs.lemmas.Option.{slice_get-get_or}
use Rattle.gq_desk.specs.Plans.{is_of}
use Rattle.gq_desk.specs.declared.plans.TenantRow.{TenantRow}
use Rattle.gq_desk.proofs.SoundRows.{found_word}
use Rattle.gq_desk.proofs.plans.Plan.likely_place.Goals as goal

pub returns-then-is-clause-place : goal.returns-then-is-clause-place
returns-then-is-clause-place c =
    let within : c.place-place.result < length c.rows-rows.result.now = omega arith in
    let row : TenantRow = get_or c.rows-rows.result.now c.place-place.result c.index-rows-place.result in
    rw (← c.rows-rows.ensures.rows) (found_word c.args.self.now.blocks c.rows-rows.result.now c.place-place.result row c.args.word.now c.rows-rows.ensures.sound.fault
    (slice_get-get_or c.rows-rows.result.now c.place-place.result c.index-rows-place.result within)
    (sym c.is.ensures ∙ c.if-is.true))
