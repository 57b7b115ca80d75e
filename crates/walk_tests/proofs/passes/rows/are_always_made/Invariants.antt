use Rattle.std.proofs.Common.{◌≡◌}
use Rattle.walk_tests.proofs.passes.rows.are_always_made.Given as goal

-- the pass serves the same map
abbrev pub invariant-loop : goal.invariant-loop
invariant-loop l = l.pass.map ≡ l.fn.pass.map
