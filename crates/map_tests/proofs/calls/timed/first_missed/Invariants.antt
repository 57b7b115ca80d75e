use Rattle.std.proofs.Common.{◌≡◌}
use Rattle.map_tests.proofs.calls.timed.first_missed.Given as goal

-- the pass serves the same map
abbrev pub invariant-loop-now : goal.invariant-loop-now
invariant-loop-now g l = l.pass.map ≡ l.fn.pass.map
