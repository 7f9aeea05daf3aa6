use Rattle.std.proofs.Common.{◌∙◌, ap}
use Rattle.gq_shelf.specs.Places.{content_at}
use Rattle.gq_shelf.proofs.Clean.{read_lies, vouched_goes_on}
use Rattle.gq_shelf.proofs.place.Place.vouch.Goals as goal

pub returns-in-Shelved-clause-bytes : goal.returns-in-Shelved-clause-bytes
returns-in-Shelved-clause-bytes g c written is clean = ap (content_at written) c.in-Shelved.is ∙ read_lies _ _ c.in-Shelved.extent c.args.bytes.now written (c.vouch.ensures.read is) clean

pub returns-in-Shelved-clause-goes_on : goal.returns-in-Shelved-clause-goes_on
returns-in-Shelved-clause-goes_on g c = vouched_goes_on c.vouch.result _ _ c.in-Shelved.extent c.args.bytes.now c.vouch.ensures.read c.vouch.ensures.untouched
