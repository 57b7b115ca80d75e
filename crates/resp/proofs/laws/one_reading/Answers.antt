use Rattle.resp.proofs.FaultLemmas.{one_reading}
use Rattle.resp.proofs.laws.one_reading.Goals as goal

pub returns : goal.returns
returns c = one_reading
