use Rattle.std.proofs.Common.{arith, ◌∙◌}
use Rattle.gq_keeper.proofs.Anew.{anew_of}
use Rattle.gq_keeper.proofs.renewing.make_anew.Goals as goal

pub returns : goal.returns
returns g c = anew_of g.M.Machine.recalls g.M.Machine.readable g.M.Lasting.blank g.M.Lasting.rests c.args.machine.now c.args.plan.now c.in_ok-text.text.items c.put_needed.new.facts.items c.seal_facts.new.text.items c.len-at.result c.in_ok-next.next
    c.in_ok-text.ensures (c.len-at.ensures ∙ c.in_ok-text.text.ok.0) (c.in_ok-put_needed.ensures _ c.requires) (omega (arith, c.put_needed.new.facts.small)) c.in_ok-next.ensures.text c.in_ok-next.ensures.number
