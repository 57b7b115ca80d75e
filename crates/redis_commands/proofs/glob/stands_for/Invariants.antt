use Rattle.std.proofs.Common.{◌≡◌, ◌+◌, length}
use Rattle.redis_commands.specs.Matching.{stand_for, pieces_after}
use Rattle.redis_commands.specs.Places.{some_place}
use Rattle.redis_commands.proofs.glob.stands_for.Given as goal

-- from the reached places on the pieces that are left decide
abbrev pub invariant-loop-left : goal.invariant-loop-left
invariant-loop-left l =
    (some_place (stand_for (pieces_after 0 l.left)) l.places l.text ≡ some_place (stand_for (pieces_after 0 l.pattern)) l.initial.places l.text)
    × (length l.places ≡ length l.text + 1)

abbrev pub decreases-loop-left : goal.decreases-loop-left
decreases-loop-left l = length l.left
