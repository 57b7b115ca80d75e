use Rattle.std.proofs.Common.{arith}
use Rattle.std.proofs.lemmas.Nat.{pow_pos}
use Rattle.value_ranges.proofs.WordLemmas.{unsigned_part}
use Rattle.value_ranges.proofs.ShiftLemmas.{shr_within, shr_up_to}
use Rattle.value_ranges.proofs.shifts.shift_right.Goals as goal

pub returns-in-Some : goal.returns-in-Some
returns-in-Some c = λ x y p q. rw (c.in-Some.ensures.only y q, ← c.shift_amount-amount.ensures.value) (c.unsigned-in-Some.ensures.holds _ (shr_within x _ _ _ (pow_pos _) (omega arith) (unsigned_part x _ _ _ _ p)))

pub returns-in-None : goal.returns-in-None
returns-in-None c = λ x y p q. c.unsigned.ensures.holds _ (shr_up_to x _ _ (omega arith) p.umax)
