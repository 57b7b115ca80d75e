use Rattle.std.proofs.Common.{◌≡◌, drop}
use Rattle.redis_commands.specs.Commands.{texts}
use Rattle.redis_commands.specs.Clients.{are_numbers}
use Rattle.redis_commands.proofs.clients.are_numbers.Given as goal

-- the words so far are numbers
abbrev pub invariant-loop-word : goal.invariant-loop-word
invariant-loop-word l = are_numbers (texts (drop l.word-index l.words)) ≡ are_numbers (texts l.words)
