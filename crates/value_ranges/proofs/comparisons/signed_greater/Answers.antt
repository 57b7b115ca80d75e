use Rattle.std.proofs.Common.{arith, rules}
use Rattle.std.proofs.lemmas.Int.{ints, clamps}
use Rattle.value_ranges.proofs.WordLemmas.{with_minimum, with_maximum}
use Rattle.value_ranges.proofs.comparisons.signed_greater.Goals as goal

pub returns : goal.returns
returns c = λ x y p q e. c.both.ensures x y
    (with_minimum x _ _ _ _ _ (search rules) (c.of.ensures x p) (omega (arith, ints, clamps)))
    (with_maximum y _ _ _ _ _ (search rules) (c.of-2.ensures y q) (omega (arith, ints, clamps)))
