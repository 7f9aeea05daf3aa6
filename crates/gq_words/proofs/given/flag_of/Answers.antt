use Rattle.clap.specs.Matches.{found_of}
use Rattle.gq_words.proofs.Values.{flag_read}
use Rattle.gq_words.proofs.given.flag_of.Goals as goal

pub returns : goal.returns
returns c = flag_read (found_of c.args.matches.now) c.args.id.now c.get_flag.result c.get_flag.ensures.none c.get_flag.ensures.value c.get_flag.ensures.other
