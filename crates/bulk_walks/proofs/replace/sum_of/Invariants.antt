use Rattle.std.proofs.Common.{take}
use Rattle.bulk_walks.specs.Turns.{AreSums}
use Rattle.bulk_walks.proofs.replace.sum_of.Given as goal

-- the sums of the counts so far
abbrev pub invariant-loop-counts : goal.invariant-loop-counts
invariant-loop-counts l = AreSums (take l.counts-index l.answers) l.total
