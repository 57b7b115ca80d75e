use Rattle.std.proofs.Common.{arith}
use Rattle.value_ranges.proofs.BitLemmas.{ones_over_is}
use Rattle.value_ranges.proofs.bits.ones_over.Goals as goal

pub returns-else-n-eq0-clause-ones : goal.returns-else-n-eq0-clause-ones
returns-else-n-eq0-clause-ones c = let t = ones_over_is c.args.n (omega arith) in (t.0, t.1.1.1)

pub returns-else-n-eq0-clause-above : goal.returns-else-n-eq0-clause-above
returns-else-n-eq0-clause-above c = let t = ones_over_is c.args.n (omega arith) in omega (arith, t.1.1.0, t.1.1.1)
