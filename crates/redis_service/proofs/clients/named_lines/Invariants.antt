-- the lines of the words so far
use Rattle.redis_commands.specs.Commands.{texts}
use Rattle.redis_service.specs.Clients.{AreLines, IsNamed}
use Rattle.redis_service.proofs.clients.named_lines.Given as goal

abbrev pub invariant-loop-word : goal.invariant-loop-word
invariant-loop-word g l = AreLines (IsNamed (texts l.words)) l.moment.time l.text.items
