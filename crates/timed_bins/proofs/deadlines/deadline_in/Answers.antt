use Rattle.timed_bins.proofs.RowLemmas.{none_in_empty}
use Rattle.timed_bins.proofs.deadlines.deadline_in.Goals as goal

-- there are no bins
pub returns-in-None : goal.returns-in-None
returns-in-None g c = rw c.in-None.is (none_in_empty _)
