use Rattle.std.proofs.Common.{arith}
use Rattle.value_ranges.proofs.WordLemmas.{unsigned_part}
use Rattle.value_ranges.proofs.ProductLemmas.{quotient_within, quotient_up_to}
use Rattle.value_ranges.proofs.products.divide.Goals as goal

pub returns-then-b-ge1 : goal.returns-then-b-ge1
returns-then-b-ge1 c = λ x y p q. c.unsigned.ensures.holds _ (quotient_within x y _ _ _ _ (omega arith) (unsigned_part x _ _ _ _ p) (omega arith) (unsigned_part y _ _ _ _ q))

pub returns-else-b-ge1 : goal.returns-else-b-ge1
returns-else-b-ge1 c = λ x y p q. c.unsigned-else-b-ge1.ensures.holds _ (quotient_up_to x y _ (omega arith) p.umax)
