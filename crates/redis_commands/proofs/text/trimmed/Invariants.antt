use Rattle.std.proofs.Common.{◌≡◌, length}
use Rattle.redis_commands.specs.Texts.{trimmed}
use Rattle.redis_commands.proofs.text.trimmed.Given as goal

-- what was left out are ends of lines
abbrev pub invariant-loop-left : goal.invariant-loop-left
invariant-loop-left l = trimmed l.left ≡ trimmed l.text

abbrev pub decreases-loop-left : goal.decreases-loop-left
decreases-loop-left l = length l.left
