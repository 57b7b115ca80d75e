use Rattle.std.proofs.Common.{refl}
use Rattle.bins.proofs.ToldLemmas.{twice_bins}
use Rattle.bins.proofs.told_size.ToldSize.count_entries.Goals as goal

pub invariant_of-self : goal.invariant_of-self
invariant_of-self c = twice_bins _ c.self.invariant (c.if-is_crowded.ensures.exact.0 refl).1
