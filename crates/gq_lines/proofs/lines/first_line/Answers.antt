use Rattle.std.proofs.Common.{sym, append-nil, take, ◌+◌}
use Rattle.std.proofs.lemmas.List.{take-append-drop}
use Rattle.gq_lines.proofs.WordsLemmas.{whole_rest}
use Rattle.gq_lines.proofs.LinesLemmas.{lines_of-found, lines_of-none}
use Rattle.gq_lines.proofs.lines.first_line.Goals as goal

pub returns-in-Some-clause-lines : goal.returns-in-Some-clause-lines
returns-in-Some-clause-lines c = lines_of-found c.args.text.now c.in-Some.end c.in-Some.ensures

pub returns-in-None-clause-lines : goal.returns-in-None-clause-lines
returns-in-None-clause-lines c = lines_of-none c.args.text.now c.requires c.in-None.ensures

pub returns-in-Some-clause-rest : goal.returns-in-Some-clause-rest
returns-in-Some-clause-rest c = record { front = take (c.in-Some.end + 1) c.args.text.now; is = rw whole_rest (sym (take-append-drop (c.in-Some.end + 1) c.args.text.now)) }

pub returns-in-None-clause-rest : goal.returns-in-None-clause-rest
returns-in-None-clause-rest c = record { front = c.args.text.now; is = sym (append-nil c.args.text.now) }
