use Rattle.gq_plan.specs.Leaving.{freed_text}
use Rattle.gq_plan.proofs.Ranges.{text_more}
use Rattle.gq_plan.proofs.leaving.put_leavers.Goals as goal

pub loop-tenant-preserved : goal.loop-tenant-preserved
loop-tenant-preserved c = text_more (freed_text c.args.before.now c.args.after.now) c.args.out.now.items c.loop-tenant.out.items c.put_leaver.new.out.items c.loop-tenant.tenant c.loop-tenant.invariant c.in_ok-put_leaver.ensures
