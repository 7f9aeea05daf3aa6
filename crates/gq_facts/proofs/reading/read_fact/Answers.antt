-- The fact is that of the line's words, and the tenant's.
use Rattle.std.proofs.Common.{◌≡◌, ◌<◌, ◌∷◌, length, sym, ap, subst, ◌∙◌}
use Rattle.std.specs.Prelude.{IfSome}
use Rattle.std.proofs.lemmas.Result.{IfOk-weaker}
use Rattle.gq_lines.specs.Words.{words_of, words_after}
use Rattle.gq_node.specs.Recalling.{tenant_of}
use Rattle.gq_facts.specs.Facts.{fact_by}
use Rattle.gq_facts.proofs.Arriving.{fact_arrives, fact_within}
use Rattle.gq_facts.proofs.reading.read_fact.Goals as goal

pub returns-clause-fact : goal.returns-clause-fact
returns-clause-fact c =
    let verb = c.first_word.result.0.now in
    rw (← (fact_arrives c.args.plan.now (words_of c.args.line.now) (words_after c.in-Some.rest.now) verb c.in-Some.name.now c.in-Some-find_word.tenant
    (c.first_word.ensures.words ∙ ap (λ ws. verb ∷ ws) c.in-Some.ensures) (sym c.find_word.ensures.place ∙ c.in-Some-find_word.is)))
    c.own_fact.ensures

pub returns-clause-tenant : goal.returns-clause-tenant
returns-clause-tenant c =
    let tenants = length c.args.plan.now.rows in
    let tenant = c.in-Some-find_word.tenant in
    let verb = c.first_word.result.0.now in
    let words = words_after c.in-Some.rest.now in
    IfOk-weaker c.own_fact.result (λ fact. fact ≡ fact_by verb tenant words) (λ fact. IfSome fact (λ f. tenant_of f < tenants))
    (λ fact is. subst (λ f. IfSome f (λ g. tenant_of g < tenants)) (sym is) (fact_within tenants tenant verb words c.in-Some-find_word.ensures.within)) c.own_fact.ensures
