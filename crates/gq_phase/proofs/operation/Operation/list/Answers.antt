-- The value is fresh.
use Rattle.std.proofs.Common.{◌∙◌, ap, sym, refl}
use Rattle.std.specs.Prelude.{option_map}
use Rattle.gq_grid.specs.Sets.{servers}
use Rattle.gq_phase.specs.declared.operation.Task.TheVariants.{List as ListFiles}
use Rattle.gq_phase.specs.Phase.{Listing}
use Rattle.gq_phase.proofs.Saying.{fresh_begins}
use Rattle.gq_phase.proofs.operation.Operation.list.Goals as goal

pub returns-clause-ok : goal.returns-clause-ok
returns-clause-ok c =
    fresh_begins c.args.grid.now (servers c.args.up) c.args.who ListFiles (Listing c.args.volume c.args.files) c.args.files (record { tenant = c.args.who.tenant; volume = c.args.volume; file = 0 }) c.args.floor
    c.begin.result.0 (servers c.in_ok-quorum.quorum) c.begin.result.1
    refl refl (λ lists. refl) c.begin.ensures.fresh
    (sym c.collect_quorum.ensures ∙ ap (option_map servers) c.in_ok-quorum.ensures.ok_part) c.begin.ensures.asks
