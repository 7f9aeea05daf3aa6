-- A line about a tenant that the plan has.
use Rattle.std.proofs.Common.{sym, subst}
use Rattle.gq_lines.specs.Words.{words_after}
use Rattle.gq_wire.specs.Incoming.{FitsPlan}
use Rattle.gq_wire.proofs.Arriving.{behind_fits, ok_more}
use Rattle.gq_wire.proofs.incoming.node_words.Goals as goal

pub returns-in-Some-find_word-clause-fits : goal.returns-in-Some-find_word-clause-fits
returns-in-Some-find_word-clause-fits c =
    ok_more c.behind_name.result _ (FitsPlan c.args.plan.now)
    (λ x is. subst (FitsPlan c.args.plan.now) (sym is) (behind_fits c.args.plan.now c.args.here c.args.from c.in-Some-find_word.tenant (words_after c.in-Some.rest.now) c.in-Some-find_word.ensures.within))
    c.behind_name.ensures
