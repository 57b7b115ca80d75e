use Rattle.std.proofs.Common.{◌≡◌, take}
use Rattle.redis_scripts.specs.Scripts.{digits_in}
use Rattle.redis_scripts.proofs.reading.digits_in.Given as goal

-- the digits so far
abbrev pub invariant-loop-c : goal.invariant-loop-c
invariant-loop-c l = l.digits.items ≡ digits_in (take l.c-index l.code)
