use Rattle.std.proofs.Common.{sym, ◌∙◌, arith}
use Rattle.gq_setup.specs.GoingOn.{same_volume}
use Rattle.gq_setup.proofs.Comparing.{none_new, not_there, not_as_wanted}
use Rattle.gq_setup.proofs.going_on.volume_not_kept.Goals as goal

pub returns-then-index-news-clause-kept : goal.returns-then-index-news-clause-kept
returns-then-index-news-clause-kept c =
    sym (none_new same_volume c.args.olds.now c.args.news.now c.loop-index.index (record { files = 0; blocks = 0 }) (omega arith) (omega arith)) ∙ c.loop-index.invariant

pub returns-then-index-news-clause-told : goal.returns-then-index-news-clause-told
returns-then-index-news-clause-told c =
    not_there same_volume c.args.olds.now c.args.news.now c.loop-index.index (record { files = 0; blocks = 0 }) c.loop-index-test.true c.if-index-news.true

pub returns-then-not-same_volume-clause-told : goal.returns-then-not-same_volume-clause-told
returns-then-not-same_volume-clause-told c =
    not_as_wanted same_volume c.args.olds.now c.args.news.now c.loop-index.index (record { files = 0; blocks = 0 }) (record { files = 0; blocks = 0 }) c.loop-index-test.true c.if-index-news.false
    (sym c.same_volume.ensures ∙ c.if-not-same_volume.true)
