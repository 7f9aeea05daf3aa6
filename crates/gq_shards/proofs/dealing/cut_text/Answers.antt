use Rattle.gq_shards.proofs.Cuts.{cut_at}
use Rattle.gq_shards.proofs.dealing.cut_text.Goals as goal

pub returns-in-Some : goal.returns-in-Some
returns-in-Some c = cut_at c.args.text.now c.args.place c.in-Some.end c.in-Some.ensures
