-- A new node lacks the files, and then its sessions begin where they have to.
use Rattle.std.proofs.Common.{◌∙◌, ◌<◌, length, ap, sym, subst}
use Rattle.std.specs.Prelude.{nat_lt}
use Rattle.gq_desk.specs.CheckedPlan.{CheckedPlan}
use Rattle.gq_replace.specs.Plans.{generation}
use Rattle.gq_node.specs.Sites.{Here}
use Rattle.gq_node.proofs.Bereaving.{bereaves, bereaves_not}
use Rattle.gq_node.proofs.tables.Core.lack.Goals as goal

pub returns-then-not-is_new : goal.returns-then-not-is_new
returns-then-not-is_new c =
    record { begins = bereaves_not c.args.self.now c.args.tenant (record { volumes = c.args.volumes; losses = c.args.losses }) (sym (c.is_new.ensures 0) ∙ c.if-not-is_new.true) c.requires.first }

pub reserve_all-requires-clause-tenant : goal.reserve_all-requires-clause-tenant
reserve_all-requires-clause-tenant c = subst (λ (p : CheckedPlan). c.args.tenant < length p.rows) (sym c.in_ok-lose.ensures.loses.plan) c.requires.tenant

pub reserve_all-requires-clause-new : goal.reserve_all-requires-clause-new
reserve_all-requires-clause-new c = ap (λ (h : Here). nat_lt 0 (generation h.node)) c.in_ok-lose.ensures.loses.here ∙ sym (c.is_new.ensures 0) ∙ c.if-not-is_new.false

pub returns : goal.returns
returns c =
    record { begins = bereaves c.args.self.now c.lose.new.self c.reserve_all.new.self c.args.tenant (record { volumes = c.args.volumes; losses = c.args.losses }) c.in_ok-lose.ensures.loses c.reserve_all.ensures }
