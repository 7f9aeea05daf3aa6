use Rattle.std.proofs.Common.{length, ap, sym, ◌∙◌}
use Rattle.std.proofs.lemmas.List.{length-map}
use Rattle.gq_live.proofs.NoVolumes.{store_accounts-empty}
use Rattle.gq_live.proofs.serving.add_all.Goals as goal

pub loop-opening-init : goal.loop-opening-init
loop-opening-init g c =
    let rows = c.args.plan.now.rows in
    (c.requires ∙ (store_accounts-empty rows ∙ sym c.in_ok-desk.ensures), ap length c.in_ok-desk.ensures ∙ length-map rows _)
