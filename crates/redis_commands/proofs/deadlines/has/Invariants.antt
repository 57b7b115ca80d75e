use Rattle.std.proofs.Common.{◌≡◌, drop}
use Rattle.redis_commands.specs.Commands.{texts}
use Rattle.redis_commands.specs.Deadlines.{has}
use Rattle.redis_commands.proofs.deadlines.has.Given as goal

-- none of the words so far is this one
abbrev pub invariant-loop-word : goal.invariant-loop-word
invariant-loop-word l = has l.name (texts (drop l.word-index l.words)) ≡ has l.name (texts l.words)
