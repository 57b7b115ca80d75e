use Rattle.std.proofs.Common.{arith}
use Rattle.bpf_model.specs.declared.operations.AluOp.TheVariants.{SDiv, SMod}
use Rattle.bpf_model.proofs.ArithmeticLaws.{low_value_below}
use Rattle.value_ranges.proofs.results.alu_low.Goals as goal

pub returns-in-SDiv-clause-holds : goal.returns-in-SDiv-clause-holds
returns-in-SDiv-clause-holds c = λ x y p q. rw c.in-SDiv.is (c.any.ensures _ (low_value_below SDiv c.args.width x y (omega (arith, c.requires.first)) (omega (arith, c.requires.second))))

pub returns-in-SMod-clause-holds : goal.returns-in-SMod-clause-holds
returns-in-SMod-clause-holds c = λ x y p q. rw c.in-SMod.is (c.any-in-SMod.ensures _ (low_value_below SMod c.args.width x y (omega (arith, c.requires.first)) (omega (arith, c.requires.second))))
