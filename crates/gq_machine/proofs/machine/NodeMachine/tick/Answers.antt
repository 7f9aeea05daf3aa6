-- Each tenant's ticks, and behind them what is asked of other nodes.
use Rattle.std.proofs.Common.{◌≡◌, subst}
use Rattle.gq_desk.specs.CheckedPlan.{CheckedPlan}
use Rattle.gq_node.specs.Sites.{Here}
use Rattle.gq_node.specs.Tables.{Tables}
use Rattle.gq_wire.specs.declared.incoming.Incoming.TheVariants.{Tick}
use Rattle.gq_parts.specs.Texts.{node_text}
use Rattle.gq_machine.proofs.machine.NodeMachine.tick.Goals as goal

pub returns : goal.returns
returns c =
    let w : Tables = c.args.self.now.node.tables in
    let m : Tables = c.tick_tenants.new.self.node.tables in
    let took = c.in_ok-tick_tenants.ensures in
    let asked = c.in_ok-ask_to_join.ensures in
    record {
      facts = took.facts;
      told = took.told;
      takes = λ bytes. took.takes;
      between = c.tick_tenants.new.told.items;
      appended = took.appended;
      own = asked.own;
      told_is = asked.told_is;
      own_is = λ parts agree.
          let P : CheckedPlan → Here → Type 0 = λ plan here. asked.own ≡ node_text plan here Tick parts in
          subst (λ plan. P plan w.here) took.takes.plan (subst (λ here. P m.plan here) took.takes.here (asked.own_is parts agree));
    }
