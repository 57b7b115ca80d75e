-- the lines of the clients so far
use Rattle.redis_service.specs.Clients.{AreLines, IsAny}
use Rattle.redis_service.proofs.clients.all_lines.Given as goal

abbrev pub invariant-loop-worker : goal.invariant-loop-worker
invariant-loop-worker g l = AreLines IsAny l.moment.time l.text.items
