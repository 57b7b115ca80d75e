use Rattle.std.proofs.Common.{◌≡◌}
use Rattle.map_server.proofs.metrics.Watcher.answer_waiting.Given as goal

abbrev pub invariant-loop : goal.invariant-loop
invariant-loop g l = l.watch.pass.map ≡ l.self.map.now
