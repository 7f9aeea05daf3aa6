use Rattle.gq_laws.proofs.laws.tagged.Goals as goal
use Rattle.gq_laws.proofs.AllTagged.{all_tagged, all_places_tagged}

pub returns : goal.returns
returns c = record {
  runs = all_tagged;
  places = all_places_tagged;
}
