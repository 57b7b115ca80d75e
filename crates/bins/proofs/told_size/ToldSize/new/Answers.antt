use Rattle.std.proofs.Common.{refl, arith}
use Rattle.bins.proofs.told_size.ToldSize.new.Goals as goal

pub invariant_of-result : goal.invariant_of-result
invariant_of-result c = ((3, refl), omega arith, omega arith)
