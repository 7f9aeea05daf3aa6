-- The words of the body are those of its kind.
use Rattle.gq_wire.proofs.writing.put_letter.Goals as goal

pub returns-in-Store-clause-ok : goal.returns-in-Store-clause-ok
returns-in-Store-clause-ok c = rw c.in-Store.is c.put_with_copy.ensures.ok
