use Rattle.std.proofs.Common.{◌+◌, ◌*◌, length}
use Rattle.workers.proofs.apart.+from.Given as goal

abbrev pub decreases-each_from : goal.decreases-each_from
decreases-each_from g l = 4 * length l.s.now

abbrev pub decreases-both : goal.decreases-both
decreases-both g l = 4 * length l.rest.now + 3

abbrev pub decreases-both-back : goal.decreases-both-back
decreases-both-back g l = 4 * length l.rest.now + 1
