use Rattle.timed_bins.proofs.RowLemmas.{clears_to}
use Rattle.timed_bins.proofs.deadlines.Deadlines.change.Goals as goal

pub returns-in-None : goal.returns-in-None
returns-in-None g c = rw c.in-None.is (clears_to _ _ _ c.clear.ensures)
