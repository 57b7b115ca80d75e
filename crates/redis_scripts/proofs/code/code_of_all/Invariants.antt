use Rattle.std.proofs.Common.{◌≡◌, ◌++◌, length, option_copied}
use Rattle.redis_scripts.specs.Pieces.{pieces_after}
use Rattle.redis_scripts.specs.Code.{code_of_all}
use Rattle.redis_scripts.proofs.code.code_of_all.Given as goal

-- the code so far, and that of the lines that are left
abbrev pub invariant-loop-rest : goal.invariant-loop-rest
invariant-loop-rest l = l.code.items ++ code_of_all (pieces_after 10 (option_copied l.rest)) ≡ code_of_all (pieces_after 10 (option_copied l.fn.lines))

abbrev pub decreases-loop-rest : goal.decreases-loop-rest
decreases-loop-rest l = length (pieces_after 10 (option_copied l.rest))
