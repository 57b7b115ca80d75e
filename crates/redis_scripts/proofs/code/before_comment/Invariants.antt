use Rattle.std.proofs.Common.{◌≡◌, ◌++◌, take, drop}
use Rattle.redis_scripts.specs.Code.{before_comment}
use Rattle.redis_scripts.proofs.code.before_comment.Given as goal

-- no comment begins before this place
abbrev pub invariant-loop-place : goal.invariant-loop-place
invariant-loop-place l = before_comment l.line ≡ take l.place l.line ++ before_comment (drop l.place l.line)
