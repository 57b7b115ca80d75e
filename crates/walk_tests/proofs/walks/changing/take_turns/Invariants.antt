use Rattle.std.proofs.Common.{◌≡◌}
use Rattle.walk_tests.proofs.walks.changing.take_turns.Given as goal

-- the pass serves the same map
abbrev pub invariant-loop-turn : goal.invariant-loop-turn
invariant-loop-turn g l = l.pass.map ≡ l.fn.pass.map
