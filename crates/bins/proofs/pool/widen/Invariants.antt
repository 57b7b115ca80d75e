use Rattle.std.proofs.Common.{◌<◌, ◌≤◌, ℕ}
use Rattle.bins.specs.Rows.{AreWider, width_at}
use Rattle.bins.proofs.pool.widen.Given as goal

-- the first lists have room
abbrev pub invariant-loop-step : goal.invariant-loop-step
invariant-loop-step l = record {
  wider : AreWider l.fn.widths.items l.widths.items;
  room : (step : ℕ) → step < l.step → l.many ≤ (width_at l.widths.items step).limit;
}
