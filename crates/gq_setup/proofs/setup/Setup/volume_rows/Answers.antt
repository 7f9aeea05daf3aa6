use Rattle.std.proofs.Common.{◌<◌, length, sym, ap, ◌∙◌, subst}
use Rattle.gq_setup.specs.Setups.{Setup}
use Rattle.gq_setup.proofs.LineByLine.{holdings-length}
use Rattle.gq_setup.proofs.setup.Setup.volume_rows.Goals as goal

pub volumes-requires : goal.volumes-requires
volumes-requires c =
    subst (λ n. c.args.tenant < n) (sym (ap length c.self.invariant.0 ∙ holdings-length c.self.inside.plan c.self.inside.openings.items))
    (subst (λ (s : Setup). c.args.tenant < length s.plan.rows) (sym c.self.view_is) c.requires)
