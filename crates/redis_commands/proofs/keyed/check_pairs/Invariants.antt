use Rattle.std.proofs.Common.{◌≡◌, length}
use Rattle.redis_commands.specs.Commands.{texts}
use Rattle.redis_commands.specs.Table.{long_word}
use Rattle.redis_commands.proofs.keyed.check_pairs.Given as goal

-- none of the words so far is too long
abbrev pub invariant-loop-left : goal.invariant-loop-left
invariant-loop-left l = long_word (texts l.left) ≡ long_word (texts l.words)

abbrev pub decreases-loop-left : goal.decreases-loop-left
decreases-loop-left l = length l.left
