use Rattle.timed_bins.proofs.RowLemmas.{none_listed}
use Rattle.timed_bins.proofs.deadlines.Deadlines.new.Goals as goal

pub invariant_of-result : goal.invariant_of-result
invariant_of-result g c = none_listed _
