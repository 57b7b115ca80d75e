use Rattle.std.proofs.Common.{◌≡◌, ◌+◌, ◌≤◌, length}
use Rattle.redis_commands.specs.Matching.{class_length_after}
use Rattle.redis_commands.proofs.glob.class_length.Given as goal

-- the bytes that are left, and those that the class takes of them
abbrev pub invariant-loop-left : goal.invariant-loop-left
invariant-loop-left l =
    (class_length_after 0 l.class + length l.left ≡ length l.class + class_length_after 0 l.left) × (length l.left ≤ length l.class)

abbrev pub decreases-loop-left : goal.decreases-loop-left
decreases-loop-left l = length l.left
