use Rattle.std.proofs.Common.{◌≤◌}
use Rattle.map_server.proofs.metrics.Watcher.asked_of.Given as goal

abbrev pub invariant-loop : goal.invariant-loop
invariant-loop g l = l.length ≤ 4096
