use Rattle.std.proofs.Common.{◌≡◌, ◌+◌, ◌++◌, List, length}
use Rattle.timed_bins.specs.Deadlines.{timed_table}
use Rattle.noted_bins.specs.Hands.{HandsOut}
use Rattle.noted_bins.specs.Rows.{Row}
use Rattle.noted_bins.proofs.noted.take_listed.Given as goal

abbrev pub invariant-loop-handed : goal.invariant-loop-handed
invariant-loop-handed g l =
    ((rows : List Row) × ((l.changes ≡ l.initial.changes ++ rows)
    × HandsOut l.initial.notes (timed_table (g.T.Bins.table l.bins) (g.T.TimedBins.deadline l.bins) (g.T.TimedBins.latest l.bins)) rows l.notes))
    × (length l.changes ≡ length l.initial.changes + l.handed)
    × (l.handed ≡ 0 → (l.changes ≡ l.initial.changes) × (l.notes ≡ l.initial.notes))
