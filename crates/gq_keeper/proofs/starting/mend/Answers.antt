use Rattle.std.proofs.Common.{take, ap, ◌∙◌}
use Rattle.gq_keeper.proofs.Instants.{elapses_none, elapses_only, elapses_then}
use Rattle.gq_keeper.proofs.Mended.{taken_all, none_left, while_cut, while_synced}
use Rattle.gq_keeper.proofs.starting.mend.Goals as goal

pub returns-then-at-text-clause-seen : goal.returns-then-at-text-clause-seen
returns-then-at-text-clause-seen g c = c.requires.seen ∙ taken_all c.args.text.now c.args.at c.if-at-text.true

pub returns-then-at-text-clause-synced : goal.returns-then-at-text-clause-synced
returns-then-at-text-clause-synced g c = c.requires.synced ∙ taken_all c.args.text.now c.args.at c.if-at-text.true

pub returns-then-at-text-clause-cut : goal.returns-then-at-text-clause-cut
returns-then-at-text-clause-cut g c = none_left c.args.text.now c.args.at c.if-at-text.true

pub returns-then-at-text-clause-crash : goal.returns-then-at-text-clause-crash
returns-then-at-text-clause-crash g c = elapses_none _ _ _

pub cut-requires : goal.cut-requires
cut-requires g c = rw c.requires.seen c.requires.within

pub returns-in_err-cut-clause-crash : goal.returns-in_err-cut-clause-crash
returns-in_err-cut-clause-crash g c = elapses_only _ _ _ _ _ _ c.cut.ensures.crash (λ left l. while_cut _ _ c.args.text.now left c.args.at c.requires.seen c.requires.synced l)

pub returns-in_err-sync-clause-crash : goal.returns-in_err-sync-clause-crash
returns-in_err-sync-clause-crash g c =
    elapses_then _ _ _ _ _ _ _ _ _ c.cut.ensures.crash c.sync.ensures.crash (λ left l. while_cut _ _ c.args.text.now left c.args.at c.requires.seen c.requires.synced l)
    (λ left l. while_synced _ _ c.args.text.now left c.args.at (c.in_ok-cut.ensures.seen ∙ ap (take c.args.at) c.requires.seen) (c.cut.ensures.synced ∙ ap (take c.args.at) c.requires.synced) l)

pub returns-clause-seen : goal.returns-clause-seen
returns-clause-seen g c = c.in_ok-sync.ensures.seen ∙ c.in_ok-cut.ensures.seen ∙ ap (take c.args.at) c.requires.seen

pub returns-clause-synced : goal.returns-clause-synced
returns-clause-synced g c = c.in_ok-sync.ensures.synced ∙ c.in_ok-cut.ensures.seen ∙ ap (take c.args.at) c.requires.seen

pub returns-clause-crash : goal.returns-clause-crash
returns-clause-crash g c =
    elapses_then _ _ _ _ _ _ _ _ _ c.cut.ensures.crash c.sync.ensures.crash (λ left l. while_cut _ _ c.args.text.now left c.args.at c.requires.seen c.requires.synced l)
    (λ left l. while_synced _ _ c.args.text.now left c.args.at (c.in_ok-cut.ensures.seen ∙ ap (take c.args.at) c.requires.seen) (c.cut.ensures.synced ∙ ap (take c.args.at) c.requires.synced) l)
