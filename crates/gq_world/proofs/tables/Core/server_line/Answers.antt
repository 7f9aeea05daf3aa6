-- The servers go on.
use Rattle.std.proofs.Common.{ap, sym, subst, arith}
use Rattle.gq_model.specs.declared.events.Event.TheVariants.{Server}
use Rattle.gq_model.specs.declared.events.ServerLine.TheVariants.{Lost as ServerLost}
use Rattle.gq_world.specs.Tables.{Tables, up_in, gone_in}
use Rattle.gq_world.specs.Machine.{Advances}
use Rattle.gq_world.proofs.ServerLines.{down_advances, up_advances, still_advances, lost_advances, repaired_advances}
use Rattle.gq_world.proofs.LossWords.{loss_refused, lost_told}
use Rattle.gq_world.proofs.tables.Core.server_line.Goals as goal

pub remove-requires : goal.remove-requires
remove-requires c = let within = c.in-None.ensures.inside in omega arith

pub insert-requires : goal.insert-requires
insert-requires c = let within = c.in-None-refusal.ensures.inside in omega arith

pub returns-in-None-clause-advances : goal.returns-in-None-clause-advances
returns-in-None-clause-advances c =
    let P : Tables → Type 0 = λ new. Advances c.args.self.now (Server c.args.line.now) new in
    subst P (sym (ap (λ (w : Tables). record w { up = c.remove.new.self.up }) c.self.view_is))
    (rw c.in-Down.is (down_advances c.args.self.now c.remove.new.self.up c.in-Down.server
    (rw (ap (λ (w : Tables). w.up) c.self.view_is) at c.remove.ensures.up)
    c.in-None.ensures.inside c.in-None.ensures.word))

pub returns-in-None-refusal-clause-advances : goal.returns-in-None-refusal-clause-advances
returns-in-None-refusal-clause-advances c =
    let P : Tables → Type 0 = λ new. Advances c.args.self.now (Server c.args.line.now) new in
    subst P (sym (ap (λ (w : Tables). record w { up = c.insert.new.self.up }) c.self-in-Up.view_is))
    (rw c.in-Up.is (up_advances c.args.self.now c.insert.new.self.up c.in-Up.server
    (rw (ap (λ (w : Tables). w.up) c.self-in-Up.view_is) at c.insert.ensures.up)
    c.in-None-refusal.ensures.inside c.in-None-refusal.ensures.word))

pub returns-in-Some-loss_refusal-clause-advances : goal.returns-in-Some-loss_refusal-clause-advances
returns-in-Some-loss_refusal-clause-advances c =
    let w : Tables = c.args.self.now in
    rw c.in-Lost.is (still_advances w (ServerLost c.in-Lost.server) (loss_refused w.plan.grid (up_in w.plan.grid w.up) (gone_in w.plan.grid w.kept) c.in-Lost.server c.in-Some-loss_refusal.word c.in-Some-loss_refusal.ensures.word))

pub returns-in-None-loss_refusal-clause-advances : goal.returns-in-None-loss_refusal-clause-advances
returns-in-None-loss_refusal-clause-advances c =
    let w : Tables = c.args.self.now in
    rw c.in-Lost.is (lost_advances w c.lose_server.new.self c.in-Lost.server c.lose_server.ensures c.in-None-loss_refusal.ensures.inside
    (lost_told w.plan.grid (up_in w.plan.grid w.up) (gone_in w.plan.grid w.kept) c.in-Lost.server c.in-None-loss_refusal.ensures.word))

pub returns-in-Ok-clause-advances : goal.returns-in-Ok-clause-advances
returns-in-Ok-clause-advances c =
    rw c.in-Repaired.is (repaired_advances c.args.self.now c.repair.new.self c.in-Repaired.server c.in-Ok.peer c.repair.ensures c.in-Ok.ensures.peer)
