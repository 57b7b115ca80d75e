use Rattle.std.proofs.Common.{arith}
use Rattle.value_ranges.proofs.WordLemmas.{unsigned_part}
use Rattle.value_ranges.proofs.BitLemmas.{or_within}
use Rattle.value_ranges.proofs.bits.or.Goals as goal

pub returns : goal.returns
returns c = λ x y p q. c.unsigned.ensures.holds _ (rw c.max.ensures (or_within x y _ _ _ _ _ (omega arith) c.ones_over.ensures.ones (unsigned_part x _ _ _ _ p) (unsigned_part y _ _ _ _ q) (omega (arith, c.ones_over.ensures.above))))
