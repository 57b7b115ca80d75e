use Rattle.std.proofs.Common.{◌+◌, ◌-◌, ◌*◌}
use Rattle.bulk_walks.proofs.halving.+halving.Given as goal

abbrev pub decreases-place_all : goal.decreases-place_all
decreases-place_all g l = 8 * l.threads

abbrev pub decreases-place_apart : goal.decreases-place_apart
decreases-place_apart g l = 8 * l.threads + 2

abbrev pub decreases-place_apart-work : goal.decreases-place_apart-work
decreases-place_apart-work g l = 8 * l.threads + 1

abbrev pub decreases-place_both : goal.decreases-place_both
decreases-place_both g l = 8 * l.threads - 1

abbrev pub decreases-place_both-first : goal.decreases-place_both-first
decreases-place_both-first g l = 8 * l.half + 1

abbrev pub decreases-place_both-second : goal.decreases-place_both-second
decreases-place_both-second g l = 8 * l.others + 3
