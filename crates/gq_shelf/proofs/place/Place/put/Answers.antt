use Rattle.gq_shelf.proofs.Clean.{put_lies, put_goes_on}
use Rattle.gq_shelf.proofs.place.Place.put.Goals as goal

pub returns-clause-bytes : goal.returns-clause-bytes
returns-clause-bytes g c written clean = put_lies _ _ c.in_ok-extent.extent c.args.bytes.now written c.in_ok-extent.ensures.put clean

pub returns-clause-goes_on : goal.returns-clause-goes_on
returns-clause-goes_on g c = put_goes_on _ _ c.in_ok-extent.extent c.args.bytes.now c.in_ok-extent.ensures.put
