-- Letters of the tenant go to nodes of its plan.
use Rattle.std.proofs.Common.{List, sym, subst}
use Rattle.std.specs.Prelude.{All}
use Rattle.gq_tag.specs.declared.Message.{Message}
use Rattle.gq_node.specs.Tables.{Tables}
use Rattle.gq_parts.specs.Steps.{IsAddressed}
use Rattle.gq_parts.proofs.Taking.{with_address}
use Rattle.gq_machine.proofs.machine.NodeMachine.put_step.Goals as goal

pub put_letters-requires : goal.put_letters-requires
put_letters-requires c =
    let w : Tables = c.args.self.now.node.tables in
    subst (λ (ms : List Message). All (IsAddressed w.plan) ms) (sym c.as_slice.ensures.value) (with_address w.plan c.args.tenant c.args.out.now.letters.items c.requires.tenant c.requires.letters)
