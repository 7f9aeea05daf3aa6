use Rattle.gq_wire.proofs.RequestsBack.{requests_read_back, writes_read_back, plans_read_back, looks_read_back}
use Rattle.gq_wire.proofs.laws.requests_read_back.Goals as goal

pub returns : goal.returns
returns c = record { requests = requests_read_back; writes = writes_read_back; plans = plans_read_back; looks = looks_read_back }
