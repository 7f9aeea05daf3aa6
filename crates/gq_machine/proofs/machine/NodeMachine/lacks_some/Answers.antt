-- One tenant after another.
use Rattle.std.proofs.Common.{◌≡◌, ◌∙◌, ℕ, ◌<◌, Bool, length, sym, ap, subst}
use Rattle.std.specs.Prelude.{nat_lt}
use Rattle.gq_desk.specs.CheckedPlan.{CheckedPlan}
use Rattle.gq_desk.specs.Volumes.{account_at}
use Rattle.gq_node.specs.Joining.{lacked_files}
use Rattle.gq_node.specs.Tables.{Tables, lacks_at}
use Rattle.gq_parts.proofs.Lacking.{one_lacks, none_more}
use Rattle.gq_machine.proofs.machine.NodeMachine.lacks_some.Goals as goal

-- whether the tenant at place t lacks a file
abbrev lacks_at_all : Tables → ℕ → Bool
lacks_at_all w t = nat_lt 0 (lacked_files (lacks_at w t) (account_at w.desk t).volumes)

pub returns-then-lacks_some : goal.returns-then-lacks_some
returns-then-lacks_some c =
    let w : Tables = c.args.self.now.node.tables in
    let tenants : c.tenants-tenants.result ≡ length w.plan.rows = c.tenants-tenants.ensures.value ∙ ap (λ (p : CheckedPlan). length p.rows) c.plan.ensures in
    let within : c.loop-place.place < length w.plan.rows = subst (λ n. c.loop-place.place < n) tenants c.loop-place-test.true in
    sym (one_lacks (lacks_at_all w) (length w.plan.rows) c.loop-place.place within (sym c.lacks_some.ensures ∙ c.if-lacks_some.true))

pub loop-place-preserved : goal.loop-place-preserved
loop-place-preserved c = none_more (lacks_at_all c.args.self.now.node.tables) c.loop-place.place c.loop-place.invariant (sym c.lacks_some.ensures ∙ c.if-lacks_some.false)
