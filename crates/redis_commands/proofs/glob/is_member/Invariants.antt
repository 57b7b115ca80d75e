use Rattle.std.proofs.Common.{◌≡◌, length}
use Rattle.redis_commands.specs.Matching.{is_member_after}
use Rattle.redis_commands.proofs.glob.is_member.Given as goal

-- the byte is in none of the members so far
abbrev pub invariant-loop-left : goal.invariant-loop-left
invariant-loop-left l = is_member_after 0 l.left l.b ≡ is_member_after 0 l.class l.b

abbrev pub decreases-loop-left : goal.decreases-loop-left
decreases-loop-left l = length l.left
