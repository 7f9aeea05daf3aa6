use Rattle.gq_page.proofs.PagesBack.{pages_read_back}
use Rattle.gq_page.proofs.laws.pages_read_back.Goals as goal

pub returns : goal.returns
returns c = pages_read_back
