use Rattle.std.proofs.lemmas.List.{get_or_default}
use Rattle.gq_lines.proofs.Extending.{one_more}
use Rattle.gq_svg.specs.Register.{value_text}
use Rattle.gq_svg.proofs.register.put_values.Goals as goal

pub loop-value-preserved : goal.loop-value-preserved
loop-value-preserved c =
    let values = c.args.values.now in let i = c.loop-value.value-index in
    one_more (value_text c.args.ops.now) c.args.out.now.items c.loop-value.out.items c.put_value.new.out.items values i _ c.loop-value-test.true (get_or_default values i _ _ c.loop-value-test.true) c.loop-value.invariant c.in_ok-put_value.ensures
