use Rattle.std.proofs.Common.{◌∙◌, ap, rules}
use Rattle.std.specs.Borrow.{Bor}
use Rattle.clap.specs.Matches.{found_of}
use Rattle.clap.specs.Walk.{Text}
use Rattle.gq_words.proofs.Values.{text_read}
use Rattle.gq_words.proofs.given.text_of.Goals as goal

pub returns : goal.returns
returns c = ap (λ (s : Bor Text). s.now) c.unwrap_or.ensures ∙ text_read (found_of c.args.matches.now) c.args.id.now c.get_str.result _ c.get_str.ensures (search rules)
