use Rattle.std.proofs.Common.{◌≡◌, ◌∙◌, ◌++◌, length, sym}
use Rattle.std.proofs.lemmas.Bool.{eqb-true}
use Rattle.std.proofs.lemmas.List.{take-append-drop}
use Rattle.gq_lines.proofs.Extending.{extends_on}
use Rattle.gq_lines.proofs.Contents.{block_more, all_written}
use Rattle.gq_lines.proofs.writing.put_digits.Goals as goal

pub loop-rest-preserved : goal.loop-rest-preserved
loop-rest-preserved c =
    let parts : c.loop-rest.rest.now ≡ c.split_at.result.0.now ++ c.split_at.result.1.now = rw (c.split_at.ensures.front, c.split_at.ensures.back) (sym (take-append-drop _ c.loop-rest.rest.now)) in record {
      written = block_more _ _ _ c.args.bytes.now _ c.loop-rest.rest.now _ c.loop-rest.invariant.written c.in_ok-put_block.ensures.ok parts;
      extends = extends_on _ _ _ _ c.loop-rest.invariant.extends c.in_ok-put_block.ensures.ok;
    }

pub returns-clause-ok : goal.returns-clause-ok
returns-clause-ok c =
    all_written _ _ c.args.bytes.now c.loop-rest.rest.now c.loop-rest.invariant.written (eqb-true (length c.loop-rest.rest.now) 0 (sym c.is_empty.ensures ∙ c.loop-rest-test.false))
