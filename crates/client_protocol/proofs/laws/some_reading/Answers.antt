use Rattle.client_protocol.proofs.Exists.{some_reading}
use Rattle.client_protocol.proofs.laws.some_reading.Goals as goal

pub returns : goal.returns
returns c = some_reading
