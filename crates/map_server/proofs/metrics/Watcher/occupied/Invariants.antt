use Rattle.std.proofs.Common.{◌≡◌}
use Rattle.map_server.proofs.metrics.Watcher.occupied.Given as goal

abbrev pub invariant-loop-stripe : goal.invariant-loop-stripe
invariant-loop-stripe g l = l.pass.map ≡ l.self.map.now
