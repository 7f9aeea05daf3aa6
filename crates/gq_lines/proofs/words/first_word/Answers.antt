use Rattle.std.proofs.Common.{arith, sym, append-nil}
use Rattle.std.proofs.lemmas.List.{take-append-drop}
use Rattle.gq_lines.proofs.WordsLemmas.{first_word_at, one_word, whole_rest}
use Rattle.gq_lines.proofs.words.first_word.Goals as goal

pub returns-then-c-eq32-clause-words : goal.returns-then-c-eq32-clause-words
returns-then-c-eq32-clause-words c = rw whole_rest (first_word_at c.args.text.now c.loop-i.i c.loop-i-test.true c.loop-i.invariant c.if-c-eq32.true)

pub returns-then-c-eq32-clause-whole : goal.returns-then-c-eq32-clause-whole
returns-then-c-eq32-clause-whole c = rw whole_rest (sym (take-append-drop c.loop-i.i c.args.text.now))

pub returns-clause-words : goal.returns-clause-words
returns-clause-words c = one_word c.args.text.now (λ k h. c.loop-i.invariant k (omega arith))

pub returns-clause-whole : goal.returns-clause-whole
returns-clause-whole c = sym (append-nil c.args.text.now)
