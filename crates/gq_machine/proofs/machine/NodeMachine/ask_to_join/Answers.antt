-- Nobody is asked where nothing is lacked.
use Rattle.std.proofs.Common.{◌≡◌, ◌++◌, [], sym, append-nil, ap, ◌∙◌, true, false}
use Rattle.gq_node.specs.Tables.{Tables}
use Rattle.gq_parts.specs.Texts.{joins_text}
use Rattle.gq_parts.specs.Steps.{some_lacks}
use Rattle.gq_parts.proofs.Lacking.{asks_nobody, asks_these}
use Rattle.gq_parts.proofs.Taking.{on_ok}
use Rattle.gq_machine.proofs.machine.NodeMachine.ask_to_join.Goals as goal

pub returns-then-not-lacks_some : goal.returns-then-not-lacks_some
returns-then-not-lacks_some c =
    let w : Tables = c.args.self.now.node.tables in
    let none : some_lacks w ≡ false = sym c.lacks_some.ensures ∙ c.if-not-lacks_some.true in
    record { own = []; told_is = sym (append-nil c.args.told.now.items); own_is = λ parts agree. asks_nobody w parts none agree }

pub returns : goal.returns
returns c =
    let w : Tables = c.args.self.now.node.tables in
    let some : some_lacks w ≡ true = sym c.lacks_some.ensures ∙ c.if-not-lacks_some.false in
    let nodes = c.in_ok-nodes.nodes.items in
    on_ok c.put_joins.result (λ told. record {
      own = joins_text w.plan w.here nodes;
      told_is = told ∙ ap (λ ns. c.args.told.now.items ++ joins_text w.plan w.here ns) c.as_slice.ensures.value;
      own_is = λ parts agree. asks_these w parts nodes some agree (c.in_ok-nodes.ensures 0);
    }) c.put_joins.ensures
