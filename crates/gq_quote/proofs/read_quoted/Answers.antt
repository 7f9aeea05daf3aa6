use Rattle.gq_quote.proofs.Quoting.{none_read, more_read, all_read}
use Rattle.gq_quote.proofs.read_quoted.Goals as goal

pub returns-in_default-marked : goal.returns-in_default-marked
returns-in_default-marked c = none_read c.args.text.now _ c.marks.rest.now c.in-Some.end c.marks.invariant c.in-Some.ensures c.in_default-marked.ensures.byte

pub marks-preserved : goal.marks-preserved
marks-preserved c =
    more_read c.args.text.now _ _ _ c.marks.rest.now c.in-Some-marked.after.now c.in-Some.end c.in-Some-marked.byte c.marks.invariant c.in-Some.ensures c.in-Some-marked.ensures.byte c.in_ok-grow_by.ensures.items c.in_ok-grow.ensures.items

pub returns : goal.returns
returns c = all_read c.args.text.now _ _ _ c.marks.rest.now c.marks.invariant c.in_default.ensures c.in_ok-grow_by-2.ensures.items c.in_ok-bytes_of.ensures.made
