use Rattle.gq_chunks.proofs.FactsBack.{facts_read_back, facts_stand_in_batches}
use Rattle.gq_chunks.proofs.ranges.put_sound_fact.Goals as goal

pub returns-clause-stands : goal.returns-clause-stands
returns-clause-stands c = (
  facts_read_back c.args.plan.now c.args.tenant c.args.fact.now c.requires.sound c.requires.tenant c.fact_fits.ensures,
  facts_stand_in_batches c.args.plan.now c.args.tenant c.args.fact.now c.requires.sound c.requires.tenant c.fact_fits.ensures,
)
