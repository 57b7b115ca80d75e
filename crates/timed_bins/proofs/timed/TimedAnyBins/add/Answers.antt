use Rattle.timed_bins.proofs.StateLemmas.{of_put}
use Rattle.timed_bins.proofs.timed.TimedAnyBins.add.Goals as goal

pub invariant_of-self : goal.invariant_of-self
invariant_of-self g c = of_put _ _ c.self.invariant c.add.result _ _ _ c.add.ensures.ok c.add.ensures.err
