use Rattle.std.proofs.Common.{◌≡◌, drop}
use Rattle.redis_commands.specs.Commands.{texts}
use Rattle.redis_commands.specs.Table.{has_long_value}
use Rattle.redis_commands.proofs.asking.has_long_value.Given as goal

-- none of the arguments so far is too long
abbrev pub invariant-loop-argument : goal.invariant-loop-argument
invariant-loop-argument l = has_long_value (texts (drop l.argument-index l.arguments)) ≡ has_long_value (texts l.arguments)
