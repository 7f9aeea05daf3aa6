use Rattle.std.proofs.Common.{◌≡◌, drop}
use Rattle.gq_setup.specs.GoingOn.{same_name, come_first}
use Rattle.gq_setup.proofs.going_on.gone_not_kept.Given as goal

abbrev pub invariant-loop-index : goal.invariant-loop-index
invariant-loop-index l = come_first same_name (drop l.index l.olds) (drop l.index l.news) ≡ come_first same_name l.olds l.news
