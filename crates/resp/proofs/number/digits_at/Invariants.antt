-- the digits so far, and what is left
use Rattle.std.proofs.Common.{◌≡◌, ◌≤◌, ◌+◌, ◌++◌, length, decimal}
use Rattle.resp.proofs.number.digits_at.Given as goal

abbrev pub invariant-loop-digit : goal.invariant-loop-digit
invariant-loop-digit l = (l.fn.bytes ≡ decimal l.n ++ l.rest) × (l.n ≤ l.fn.most + 9)

abbrev pub decreases-loop-digit : goal.decreases-loop-digit
decreases-loop-digit l = length l.rest
