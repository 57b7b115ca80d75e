use Rattle.timed_bins.proofs.StateLemmas.{of_put}
use Rattle.timed_bins.proofs.timed.TimedAnyBins.put.Goals as goal

pub invariant_of-self : goal.invariant_of-self
invariant_of-self g c = of_put _ _ c.self.invariant c.put.result _ _ _ c.put.ensures.ok c.put.ensures.err
