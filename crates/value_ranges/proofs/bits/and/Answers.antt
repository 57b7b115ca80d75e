use Rattle.std.proofs.Common.{arith}
use Rattle.value_ranges.proofs.BitLemmas.{and_within}
use Rattle.value_ranges.proofs.bits.and.Goals as goal

pub returns-clause-holds : goal.returns-clause-holds
returns-clause-holds c = λ x y p q. c.unsigned.ensures.holds _ (rw c.min.ensures (and_within x y _ _ (omega arith) p.umax q.umax))
