use Rattle.gq_quote.proofs.Quoting.{run_written, end_written, goes_on}
use Rattle.gq_quote.proofs.put_quoted.Goals as goal

pub marks-preserved : goal.marks-preserved
marks-preserved c = record {
  written = run_written _ _ _ _ c.args.bytes.now c.marks.rest.now c.quote_of.result.now c.in-Some.end c.marks.invariant.written c.in-Some.ensures c.in_ok-grow_by.ensures.items c.in_ok-grow_by-2.ensures.items c.quote_of.ensures;
  extends = goes_on _ _ _ _ (goes_on _ _ _ _ c.marks.invariant.extends c.in_ok-grow_by.ensures.items) c.in_ok-grow_by-2.ensures.items;
}

pub returns-clause-ok : goal.returns-clause-ok
returns-clause-ok c = end_written c.grow_by-2.result _ _ _ c.args.bytes.now c.marks.rest.now c.marks.invariant.written c.in_default.ensures c.grow_by-2.ensures.items
