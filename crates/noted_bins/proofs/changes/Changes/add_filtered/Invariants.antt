use Rattle.timed_bins.specs.Deadlines.{timed_table}
use Rattle.noted_bins.specs.Taking.{HandsOutPresent}
use Rattle.noted_bins.proofs.FilterLemmas.{HasFirst}
use Rattle.noted_bins.proofs.changes.Changes.add_filtered.Given as goal

abbrev pub invariant-loop-position : goal.invariant-loop-position
invariant-loop-position g l =
    (hands : HandsOutPresent (timed_table (g.T.Bins.table l.bins) (g.T.TimedBins.deadline l.bins) (g.T.TimedBins.latest l.bins)) l.initial.self l.self)
    × HasFirst l.filter l.entries l.from l.position hands.rows
