use Rattle.std.proofs.Common.{arith}
use Rattle.std.proofs.lemmas.Bool.Decides.{nat_tests}
use Rattle.value_ranges.proofs.MoveLemmas.{extended_low}
use Rattle.value_ranges.proofs.moves.sign_extend.Goals as goal

pub returns-in-None-clause-holds : goal.returns-in-None-clause-holds
returns-in-None-clause-holds c = λ x p. rw (← extended_low c.args.extension c.width.result x c.width.ensures p.word) (c.extend_low.ensures _ (c.low.ensures.holds x p))

pub returns-in-None-clause-single : goal.returns-in-None-clause-single
returns-in-None-clause-single c = λ x s. absurd (grind (arith, nat_tests, c.in-None.is, c.single_value.ensures.value))
