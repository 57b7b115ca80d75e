use Rattle.std.proofs.Common.{◌≡◌, drop}
use Rattle.redis_commands.specs.Commands.{texts}
use Rattle.redis_commands.specs.Table.{has_long_key}
use Rattle.redis_commands.proofs.keyed.has_long_key.Given as goal

-- none of the keys so far is too long
abbrev pub invariant-loop-key : goal.invariant-loop-key
invariant-loop-key l = has_long_key (texts (drop l.key-index l.keys)) ≡ has_long_key (texts l.keys)
