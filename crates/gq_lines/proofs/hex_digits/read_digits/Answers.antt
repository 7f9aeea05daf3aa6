use Rattle.std.proofs.Common.{◌∙◌, sym, arith}
use Rattle.gq_lines.proofs.DigitParts.{lanes_bad, lanes_read, rest_read}
use Rattle.gq_lines.proofs.hex_digits.read_digits.Goals as goal

pub returns-then-not-are_digits : goal.returns-then-not-are_digits
returns-then-not-are_digits c =
    lanes_bad c.args.digits.now c.lanes.out c.values-values.result c.lanes.i _ c.requires (omega (arith, c.lanes.auto.out)) c.values-values.ensures (sym c.are_digits.ensures ∙ c.if-not-are_digits.true) c.lanes.invariant.read

pub lanes-preserved : goal.lanes-preserved
lanes-preserved c =
    let step = lanes_read c.args.digits.now c.lanes.out c.values-values.result c.joined.result c.lanes.i (omega (arith, c.lanes.auto.out)) (omega arith) c.values-values.ensures (sym c.are_digits.ensures ∙ c.if-not-are_digits.false) c.joined.ensures c.lanes.invariant.read in
    record { within = omega (arith, step.0); read = step.1 }

pub returns : goal.returns
returns c =
    rest_read c.args.digits.now c.lanes.out c.decode_to_slice.new.out c.lanes.i c.is_ok.result c.decode_to_slice.result (omega (arith, c.lanes.auto.out)) c.lanes.invariant.within c.lanes.invariant.read c.is_ok.ensures.value c.decode_to_slice.ensures.value
