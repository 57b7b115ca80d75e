use Rattle.std.proofs.Common.{◌≡◌, ◌≤◌, ◌+◌, ◌-◌, ◌++◌, length, drop, vec_len, vec_capacity}
use Rattle.noted_bins.specs.Marks.{marks_of}
use Rattle.noted_bins.proofs.changes.add_marks.Given as goal

abbrev pub invariant-loop-position : goal.invariant-loop-position
invariant-loop-position g l =
    (l.marks.items ++ marks_of (g.T.TimedBins.deadline l.bins) (drop l.position l.entries) ≡ l.initial.marks.items ++ marks_of (g.T.TimedBins.deadline l.bins) (drop l.from l.entries))
    × (vec_len l.marks + (length l.entries - l.position) ≤ vec_capacity l.marks)
