use Rattle.std.proofs.Common.{length}
use Rattle.timed_bins.specs.Agendas.{AreListed, entries_of}
use Rattle.timed_bins.proofs.deadlines.find_in.Given as goal

abbrev pub invariant-loop-at : goal.invariant-loop-at
invariant-loop-at g l = AreListed (entries_of g.B.Bins.table l.times) l.agenda

abbrev pub decreases-loop-at : goal.decreases-loop-at
decreases-loop-at g l = length l.agenda
