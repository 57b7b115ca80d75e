use Rattle.std.proofs.Common.{take}
use Rattle.bulk_walks.specs.Merges.{CountsAdd}
use Rattle.bulk_walks.proofs.merging.total_of.Given as goal

-- the sums of the counts so far
abbrev pub invariant-loop-answers : goal.invariant-loop-answers
invariant-loop-answers l = CountsAdd (take l.answers-index l.all) l.total
