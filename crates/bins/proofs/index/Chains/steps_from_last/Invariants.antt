use Rattle.std.proofs.Common.{◌≤◌, ◌+◌, length}
use Rattle.bins.proofs.index.Chains.steps_from_last.Given as goal

-- the positions that were counted come after those that are left
abbrev pub invariant-loop-at : goal.invariant-loop-at
invariant-loop-at l = l.steps + l.at ≤ length l.self.records.hashes

abbrev pub decreases-loop-at : goal.decreases-loop-at
decreases-loop-at l = l.at
