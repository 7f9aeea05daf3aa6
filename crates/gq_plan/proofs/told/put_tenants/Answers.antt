use Rattle.gq_plan.specs.PlanWords.{tenant_text}
use Rattle.gq_plan.proofs.Ranges.{text_more}
use Rattle.gq_plan.proofs.told.put_tenants.Goals as goal

pub loop-tenant-preserved : goal.loop-tenant-preserved
loop-tenant-preserved c = text_more (tenant_text c.args.setup.now) c.args.out.now.items c.loop-tenant.out.items c.put_tenant.new.out.items c.loop-tenant.tenant c.loop-tenant.invariant c.in_ok-put_tenant.ensures
