-- the texts so far
use Rattle.std.proofs.Common.{◌≡◌, take}
use Rattle.redis_commands.specs.Commands.{texts}
use Rattle.redis_service.specs.Server.{joined}
use Rattle.redis_service.proofs.server.joined.Given as goal

abbrev pub invariant-loop-part : goal.invariant-loop-part
invariant-loop-part l = l.text.items ≡ joined (texts (take l.part-index l.parts))
