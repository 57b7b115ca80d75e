use Rattle.timed_bins.proofs.StateLemmas.{of_taken}
use Rattle.timed_bins.proofs.timed.Timed.take.Goals as goal

pub invariant_of-self : goal.invariant_of-self
invariant_of-self g c = of_taken _ _ c.self.invariant _ _ _ c.discard.ensures.others c.clear.ensures
