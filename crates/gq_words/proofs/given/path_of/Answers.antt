use Rattle.std.proofs.Common.{◌∙◌, sym}
use Rattle.clap.specs.Matches.{found_of}
use Rattle.gq_words.proofs.Values.{first_in_rows}
use Rattle.gq_words.proofs.given.path_of.Goals as goal

pub returns : goal.returns
returns c = c.get_str.ensures ∙ sym (first_in_rows (found_of c.args.matches.now) c.args.id.now)
