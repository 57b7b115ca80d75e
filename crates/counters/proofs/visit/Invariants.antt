use Rattle.std.proofs.Common.{◌≡◌}
use Rattle.counters.proofs.visit.Given as goal

-- the pass serves the same map
abbrev pub invariant-loop : goal.invariant-loop
invariant-loop g l = l.pass.map ≡ l.fn.pass.map
