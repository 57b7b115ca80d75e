use Rattle.std.proofs.Common.{arith}
use Rattle.bpf_model.proofs.ArithmeticLaws.{signed_right_below}
use Rattle.value_ranges.proofs.ShiftLemmas.{right_word}
use Rattle.value_ranges.proofs.shifts.shift_right_signed.Goals as goal

pub returns-then-a-lt2147483648 : goal.returns-then-a-lt2147483648
returns-then-a-lt2147483648 c = λ x y p q. let h = rw c.in-W32.is at (c.shift_right.ensures x y p q) in rw (c.in-W32.is, right_word x y (omega arith)) h

pub returns-else-a-lt2147483648 : goal.returns-else-a-lt2147483648
returns-else-a-lt2147483648 c = λ x y p q. c.any.ensures _ (signed_right_below c.args.width x y)
