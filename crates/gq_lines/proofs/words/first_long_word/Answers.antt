use Rattle.std.proofs.Common.{get_or, arith, sym, append-nil, eq-eqb}
use Rattle.std.proofs.lemmas.Bool.{eqb-true}
use Rattle.std.proofs.lemmas.List.{take-append-drop}
use Rattle.gq_lines.proofs.WordsLemmas.{first_word_at, one_word, whole_rest}
use Rattle.gq_lines.proofs.words.first_long_word.Goals as goal

pub returns-in-Some-clause-words : goal.returns-in-Some-clause-words
returns-in-Some-clause-words c =
    let is = c.in-Some.ensures in let text = c.args.text.now in
    rw whole_rest (first_word_at text c.in-Some.end is.0.high (λ k below e. is.0.before k (omega arith) below (eq-eqb (get_or text k 0) 32 e)) (eqb-true (get_or text c.in-Some.end 0) 32 is.1))

pub returns-in-Some-clause-whole : goal.returns-in-Some-clause-whole
returns-in-Some-clause-whole c = rw whole_rest (sym (take-append-drop c.in-Some.end c.args.text.now))

pub returns-in-None-clause-words : goal.returns-in-None-clause-words
returns-in-None-clause-words c = let text = c.args.text.now in one_word text (λ k below e. c.in-None.ensures k (omega arith) below (eq-eqb (get_or text k 0) 32 e))

pub returns-in-None-clause-whole : goal.returns-in-None-clause-whole
returns-in-None-clause-whole c = sym (append-nil c.args.text.now)
