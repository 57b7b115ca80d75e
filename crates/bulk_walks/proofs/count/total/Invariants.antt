use Rattle.std.proofs.Common.{◌≡◌, take, sum_by}
use Rattle.bulk_walks.proofs.count.total.Given as goal

-- the sum of the counts so far
abbrev pub invariant-loop-count : goal.invariant-loop-count
invariant-loop-count l = l.sum ≡ sum_by (λ n. n) (take l.count-index l.counts)
