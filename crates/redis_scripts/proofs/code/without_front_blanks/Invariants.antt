use Rattle.std.proofs.Common.{◌≡◌, length}
use Rattle.redis_scripts.specs.Code.{without_front_blanks}
use Rattle.redis_scripts.proofs.code.without_front_blanks.Given as goal

-- only blanks were left out
abbrev pub invariant-loop-rest : goal.invariant-loop-rest
invariant-loop-rest l = without_front_blanks l.fn.text ≡ without_front_blanks l.rest

abbrev pub decreases-loop-rest : goal.decreases-loop-rest
decreases-loop-rest l = length l.rest
