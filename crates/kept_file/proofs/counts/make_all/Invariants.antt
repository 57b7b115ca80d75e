use Rattle.std.proofs.Common.{length}
use Rattle.kept_file.proofs.counts.make_all.Given as goal

-- each change takes two bytes at least
abbrev pub decreases-loop-rest : goal.decreases-loop-rest
decreases-loop-rest l = length l.rest
