use Rattle.gq_wire.proofs.TransfersBack.{transfers_read_back, joins_read_back, forms_read_back}
use Rattle.gq_wire.proofs.laws.transfers_read_back.Goals as goal

pub returns : goal.returns
returns c = record { transfers = transfers_read_back; joins = joins_read_back; forms = forms_read_back }
