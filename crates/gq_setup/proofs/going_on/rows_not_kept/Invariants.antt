use Rattle.std.proofs.Common.{◌≡◌, drop}
use Rattle.gq_setup.specs.GoingOn.{row_goes_on, come_first}
use Rattle.gq_setup.proofs.going_on.rows_not_kept.Given as goal

abbrev pub invariant-loop-place : goal.invariant-loop-place
invariant-loop-place l = come_first (row_goes_on l.gone) (drop l.place l.olds) (drop l.place l.news) ≡ come_first (row_goes_on l.gone) l.olds l.news
