use Rattle.std.proofs.Common.{◌≡◌, drop}
use Rattle.redis_commands.specs.Options.{is_client_name}
use Rattle.redis_commands.proofs.options.is_client_name.Given as goal

-- the bytes so far may stand in a name
abbrev pub invariant-loop-b : goal.invariant-loop-b
invariant-loop-b l = is_client_name (drop l.b-index l.name) ≡ is_client_name l.name
