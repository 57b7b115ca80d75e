use Rattle.std.proofs.Common.{◌≤◌, length}
use Rattle.bins.proofs.index.Chains.likely.Given as goal

-- the link leads to a position, or to none
abbrev pub invariant-loop-link : goal.invariant-loop-link
invariant-loop-link l = l.link ≤ length l.self.records.hashes

abbrev pub decreases-loop-link : goal.decreases-loop-link
decreases-loop-link l = l.link
