use Rattle.std.proofs.Common.{◌≡◌}
use Rattle.map_tests.proofs.calls.timed.first_broken.Given as goal

-- the pass serves the same map
abbrev pub invariant-loop-number : goal.invariant-loop-number
invariant-loop-number g l = l.pass.map ≡ l.fn.pass.map
