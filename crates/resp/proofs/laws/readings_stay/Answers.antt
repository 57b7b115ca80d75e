use Rattle.resp.proofs.FaultLemmas.{readings_stay}
use Rattle.resp.proofs.laws.readings_stay.Goals as goal

pub returns : goal.returns
returns c = readings_stay
