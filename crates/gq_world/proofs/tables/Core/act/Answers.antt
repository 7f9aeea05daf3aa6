-- Lines that leave the tables as they are.
use Rattle.std.proofs.Common.{Ok, Err}
use Rattle.std.specs.Prelude.{Result}
use Rattle.std.specs.Result.{OnOk}
use Rattle.gq_world.proofs.Quiet.{bad_acts, quorum_acts, volumes_acts}
use Rattle.gq_world.proofs.tables.Core.act.Goals as goal

pub returns-in-Bad-clause-acts : goal.returns-in-Bad-clause-acts
returns-in-Bad-clause-acts c = rw c.in-Bad.is (bad_acts c.args.self.now c.args.tenant)

pub returns-in-Quorum-clause-acts : goal.returns-in-Quorum-clause-acts
returns-in-Quorum-clause-acts c = rw c.in-Quorum.is (quorum_acts c.args.self.now c.args.tenant)

pub returns-in-Volumes-clause-acts : goal.returns-in-Volumes-clause-acts
returns-in-Volumes-clause-acts c = by c.volumes.result (rw c.in-Volumes.is (volumes_acts c.args.self.now c.args.tenant))
  where
    by : {X E P : Type 0} (r : Result X E) → P → OnOk r P
    by (Ok x) p = p
    by (Err e) p = tt
