use Rattle.std.proofs.Common.{◌∙◌, ap}
use Rattle.gq_shelf.specs.Places.{content_at}
use Rattle.gq_shelf.proofs.Clean.{read_lies, read_goes_on}
use Rattle.gq_shelf.proofs.place.Place.read.Goals as goal

pub returns-in_ok-found-in-Shelved-clause-bytes : goal.returns-in_ok-found-in-Shelved-clause-bytes
returns-in_ok-found-in-Shelved-clause-bytes g c written clean = ap (content_at written) c.in-Shelved.is ∙ read_lies _ _ c.in-Shelved.extent c.in_ok-found-in-Shelved.found written c.in_ok-found-in-Shelved.ensures.read clean

pub returns-in_ok-found-in-Shelved-clause-goes_on : goal.returns-in_ok-found-in-Shelved-clause-goes_on
returns-in_ok-found-in-Shelved-clause-goes_on g c = read_goes_on _ _ c.in-Shelved.extent c.in_ok-found-in-Shelved.found c.in_ok-found-in-Shelved.ensures.read
