-- The letters to the node itself are of the tenant.
use Rattle.std.specs.Prelude.{All}
use Rattle.std.proofs.Common.{◌∙◌, ◌++◌, List, ap, sym, subst}
use Rattle.std.proofs.lemmas.List.Elements.{All-filter}
use Rattle.gq_tag.specs.declared.Message.{Message}
use Rattle.gq_node.specs.Tables.{Tables}
use Rattle.gq_parts.specs.Steps.{IsOfTenant, goes_home, going_home}
use Rattle.gq_machine.proofs.machine.NodeMachine.put.Goals as goal

pub take_own-requires-clause-letters : goal.take_own-requires-clause-letters
take_own-requires-clause-letters c =
    let w : Tables = c.args.self.now.node.tables in
    let P : List Message → Type 0 = λ ms. All (IsOfTenant c.args.tenant) ms in
    let is = c.in_ok-put_step.ensures.own ∙ ap (λ ms. ms ++ going_home c.args.again w.plan w.here c.args.out.now.letters.items) c.new-own.ensures.items in
    subst P (sym is) (All-filter (goes_home c.args.again w.plan w.here) (IsOfTenant c.args.tenant) c.args.out.now.letters.items c.requires.letters)
