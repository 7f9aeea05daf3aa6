use Rattle.std.proofs.Common.{rules, ◌≡◌, ℕ, Some, None, refl, ap}
use Rattle.gq_phase.specs.declared.Heard.TheVariants.{Stale, Noted, Next, Done}
use Rattle.gq_model.specs.declared.said.Said.TheVariants.{Round}
use Rattle.gq_session.specs.Works.{Work}
use Rattle.gq_session.proofs.Hearings.{hears-some}
use Rattle.gq_session.proofs.client.Client.hear.Goals as goal

pub returns-in-Stale-clause-hears : goal.returns-in-Stale-clause-hears
returns-in-Stale-clause-hears c =
    let had : c.args.self.now.current ≡ Some c.in-Some.operation = search rules in
    hears-some _ c.in-Some.operation _ _ _ _ _ _ had (record {
      heard = Stale;
      after = c.hear.new.self;
      hears = rw c.in-Stale.is at c.in-Ok.ensures.hears;
      floor = rw c.in-Stale.is at c.in-Ok.ensures.floor;
      told = c.quiet-in-Stale.ensures.said;
      sent = c.quiet-in-Stale.ensures.messages;
      left = refl;
    })

pub returns-in-Noted-clause-hears : goal.returns-in-Noted-clause-hears
returns-in-Noted-clause-hears c =
    let had : c.args.self.now.current ≡ Some c.in-Some.operation = search rules in
    hears-some _ c.in-Some.operation _ _ _ _ _ _ had (record {
      heard = Noted;
      after = c.hear.new.self;
      hears = rw c.in-Noted.is at c.in-Ok.ensures.hears;
      floor = rw c.in-Noted.is at c.in-Ok.ensures.floor;
      told = c.quiet-in-Noted.ensures.said;
      sent = c.quiet-in-Noted.ensures.messages;
      left = refl;
    })

pub returns-in-Next-clause-hears : goal.returns-in-Next-clause-hears
returns-in-Next-clause-hears c =
    let had : c.args.self.now.current ≡ Some c.in-Some.operation = search rules in
    hears-some _ c.in-Some.operation _ _ _ _ _ _ had (record {
      heard = Next c.in-Next.round c.in-Next.tag c.in-Next.messages;
      after = c.hear.new.self;
      hears = rw c.in-Next.is at c.in-Ok.ensures.hears;
      floor = rw c.in-Next.is at c.in-Ok.ensures.floor;
      told = ap (λ (n : ℕ). Round c.in-Next.round c.in-Next.tag n) c.len.ensures.len;
      sent = refl;
      left = refl;
    })

pub returns-in-Done-clause-hears : goal.returns-in-Done-clause-hears
returns-in-Done-clause-hears c =
    let had : c.args.self.now.current ≡ Some c.in-Some.operation = search rules in
    let work : ℕ → Work = λ last. record { begun = c.args.self.now.op; round = c.args.self.now.round; last = last; operation = None } in
    hears-some _ c.in-Some.operation _ _ _ _ _ _ had (record {
      heard = Done c.in-Done.outcome;
      after = c.hear.new.self;
      hears = rw c.in-Done.is at c.in-Ok.ensures.hears;
      floor = rw c.in-Done.is at c.in-Ok.ensures.floor;
      told = c.quiet-in-Done.ensures.said;
      sent = c.quiet-in-Done.ensures.messages;
      left = ap work c.floor-self.ensures;
    })
