use Rattle.std.proofs.Common.{arith}
use Rattle.std.proofs.lemmas.Int.{ints}
use Rattle.value_ranges.proofs.WordLemmas.{signed_part}
use Rattle.value_ranges.proofs.SumLemmas.{difference_within, read_within}
use Rattle.value_ranges.proofs.sums.signed_double_word_differences.Goals as goal

pub returns-in-Some-Some : goal.returns-in-Some-Some
returns-in-Some-Some c = λ x y p q.
    let low = c.in-Some-Some.ensures in
    let high = c.in-Some-Some.ensures' in
    read_within _ c.in-Some-Some.low c.in-Some-Some.high _ _ (low.1, low.0) (high.1, high.0)
    (λ f g. difference_within x y _ _ _ _ _ _ (signed_part x _ _ _ _ p) (signed_part y _ _ _ _ q) (omega (arith, ints, low.1)) (omega (arith, ints, high.1)) f g)

pub returns-in_default : goal.returns-in_default
returns-in_default c = λ x y p q. c.all_signed.ensures _ (omega arith)
