-- the lines of the clients so far
use Rattle.redis_service.specs.Clients.{AreLines, IsAny}
use Rattle.redis_service.proofs.clients.add_worker.Given as goal

abbrev pub invariant-loop-seat : goal.invariant-loop-seat
invariant-loop-seat g l = AreLines IsAny l.moment.time l.text.items
