use Rattle.std.proofs.Common.{arith}
use Rattle.value_ranges.proofs.BitLemmas.{xor_within}
use Rattle.value_ranges.proofs.bits.xor.Goals as goal

pub returns : goal.returns
returns c = λ x y p q. c.unsigned.ensures.holds _ (xor_within x y _ _ _ (omega arith) c.ones_over.ensures.ones p.umax q.umax (omega (arith, c.ones_over.ensures.above)))
