use Rattle.std.proofs.Common.{◌≡◌}
use Rattle.session_tests.proofs.crew_sessions.at_work.make_calls.Given as goal

-- the pass serves the same map
abbrev pub invariant-loop-number : goal.invariant-loop-number
invariant-loop-number g l = l.pass.map ≡ l.fn.pass.map
