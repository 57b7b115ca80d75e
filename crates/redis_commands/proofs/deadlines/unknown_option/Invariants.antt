use Rattle.std.proofs.Common.{◌≡◌, drop}
use Rattle.redis_commands.specs.Commands.{texts}
use Rattle.redis_commands.specs.Deadlines.{unknown_option}
use Rattle.redis_commands.proofs.deadlines.unknown_option.Given as goal

-- each of the words so far is an option
abbrev pub invariant-loop-word : goal.invariant-loop-word
invariant-loop-word l = unknown_option (texts (drop l.word-index l.words)) ≡ unknown_option (texts l.words)
