use Rattle.client_protocol.proofs.Unique.{one_reading}
use Rattle.client_protocol.proofs.laws.one_reading.Goals as goal

pub returns : goal.returns
returns c = one_reading
