-- What holds of the processes of a history.
use Rattle.std.specs.Prelude.{◌≡◌, ℕ, ◌≤◌, List, None}
use Rattle.gq_tag.specs.Tag.{File}
use Rattle.gq_desk.specs.CheckedPlan.{CheckedPlan}
use Rattle.gq_desk.specs.Plans.{plan_fault}
use Rattle.gq_desk.specs.declared.limits.TheConstants.{MOST_SESSIONS}
use Rattle.gq_model.specs.declared.events.Event.{Event}
use Rattle.gq_laws.specs.declared.ops.Op.{Op}
use Rattle.gq_laws.specs.Operations.{At}
use Rattle.gq_laws.specs.Tenants.{tenant_operations}
use Rattle.gq_history.specs.Moments.{given_up, process}

-- the operation's session is one that a plan may have
pub record IsOfPlan (a : Op) : Type 0 where
  pub least : 1 ≤ a.session
  pub most : a.session ≤ MOST_SESSIONS

-- so is that of each operation which is read off a run of all tenants of a plan without a fault
abbrev pub AllOfPlan : Type 0
AllOfPlan = (plan : CheckedPlan) (events : List Event) (t : ℕ) (file : File) (place : ℕ) (a : Op) → plan_fault plan.blocks plan.rows ≡ None → At (tenant_operations plan events t file) place a → IsOfPlan a

-- two operations are of one process only where they are of one session, and it gave up the same operation last
abbrev pub ProcessesDiffer : Type 0
ProcessesDiffer = (before behind : List Op) (a b : Op) → IsOfPlan a → IsOfPlan b → process before a ≡ process behind b → (a.session ≡ b.session) × (given_up a.session before ≡ given_up b.session behind)
