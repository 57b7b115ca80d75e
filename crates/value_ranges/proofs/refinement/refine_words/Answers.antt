use Rattle.std.proofs.Common.{arith}
use Rattle.std.proofs.lemmas.Bool.Decides.{nat_tests}
use Rattle.std.proofs.lemmas.Int.{ints}
use Rattle.value_ranges.proofs.ConditionLemmas.{holds_double}
use Rattle.value_ranges.proofs.refinement.refine_words.Goals as goal

pub returns-in-Lt : goal.returns-in-Lt
returns-in-Lt c = λ x y p q h. c.swapped.ensures y x (c.greater-in-Lt.ensures y x q p (grind (arith, nat_tests, ints)))

pub returns-in-Le : goal.returns-in-Le
returns-in-Le c = λ x y p q h. c.swapped-in-Le.ensures y x (c.at_least-in-Le.ensures y x q p (grind (arith, nat_tests, ints)))

pub returns-in-SLt : goal.returns-in-SLt
returns-in-SLt c = λ x y p q h. c.swapped-in-SLt.ensures y x (c.signed_greater-in-SLt.ensures y x q p (grind (arith, nat_tests, ints)))

pub returns-in-SLe : goal.returns-in-SLe
returns-in-SLe c = λ x y p q h. c.swapped-in-SLe.ensures y x (c.signed_at_least-in-SLe.ensures y x q p (grind (arith, nat_tests, ints)))

pub returns-in-CommonBit : goal.returns-in-CommonBit
returns-in-CommonBit c = λ x y p q h. c.kept.ensures x y p q (rw (holds_double c.args.condition x y p.word q.word) h)
