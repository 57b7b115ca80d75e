use Rattle.std.proofs.Common.{rules}
use Rattle.value_ranges.proofs.comparisons.equal.Goals as goal

pub returns : goal.returns
returns c = λ x y p q e. c.both.ensures x y (search rules) (search rules)
