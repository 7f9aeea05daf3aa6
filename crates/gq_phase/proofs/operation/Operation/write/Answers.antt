-- The value is fresh.
use Rattle.std.proofs.Common.{◌∙◌, ap, sym}
use Rattle.std.specs.Prelude.{option_map}
use Rattle.std.proofs.lemmas.Bool.{true≢false}
use Rattle.gq_grid.specs.Sets.{servers}
use Rattle.gq_tag.specs.Tag.{file_place}
use Rattle.gq_phase.specs.declared.operation.Task.TheVariants.{Write}
use Rattle.gq_phase.specs.Phase.{Writing}
use Rattle.gq_phase.proofs.Saying.{fresh_begins}
use Rattle.gq_phase.proofs.operation.Operation.write.Goals as goal

pub returns-clause-ok : goal.returns-clause-ok
returns-clause-ok c =
    fresh_begins c.args.grid.now (servers c.args.up) c.args.who (Write c.in_ok-share.field-0) (Writing (file_place c.args.file) c.args.bytes.now) 1 c.args.file c.args.floor
    c.begin.result.0 (servers c.in_ok-quorum.quorum) c.begin.result.1
    (ap (Writing (file_place c.args.file)) c.in_ok-share.ensures) c.requires.own (λ lists. absurd (true≢false (sym lists))) c.begin.ensures.fresh
    (sym c.collect_quorum.ensures ∙ ap (option_map servers) c.in_ok-quorum.ensures.ok_part) c.begin.ensures.asks
