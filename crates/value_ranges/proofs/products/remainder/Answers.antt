use Rattle.std.proofs.Common.{arith}
use Rattle.value_ranges.proofs.ProductLemmas.{remainder_within, remainder_up_to}
use Rattle.value_ranges.proofs.products.remainder.Goals as goal

pub returns-then-b-ge1 : goal.returns-then-b-ge1
returns-then-b-ge1 c = λ x y p q. c.unsigned.ensures.holds _ (rw c.min.ensures (remainder_within x y _ _ (omega arith) p.umax (omega arith) q.umax))

pub returns-else-b-ge1 : goal.returns-else-b-ge1
returns-else-b-ge1 c = λ x y p q. c.unsigned-else-b-ge1.ensures.holds _ (remainder_up_to x y _ (omega arith) p.umax)
