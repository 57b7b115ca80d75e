use Rattle.std.proofs.Common.{◌≡◌}
use Rattle.bench.proofs.calls.make_calls.Given as goal

-- the pass serves the same map
abbrev pub invariant-loop-turn : goal.invariant-loop-turn
invariant-loop-turn g l = l.pass.map ≡ l.fn.pass.map
