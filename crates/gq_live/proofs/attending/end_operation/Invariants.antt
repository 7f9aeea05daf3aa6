use Rattle.gq_session.specs.Attending.{GivesUpWhereStuck}
use Rattle.gq_live.proofs.attending.end_operation.Given as goal

abbrev pub invariant-loop : goal.invariant-loop
invariant-loop g l = GivesUpWhereStuck l.fn.session.entries → GivesUpWhereStuck l.session.entries
