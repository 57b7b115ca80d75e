use Rattle.std.proofs.Common.{◌≡◌}
use Rattle.walk_tests.proofs.passes.many.tried.Given as goal

-- the pass serves the same map
abbrev pub invariant-loop : goal.invariant-loop
invariant-loop l = l.pass.map ≡ l.fn.pass.map
