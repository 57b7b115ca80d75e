use Rattle.std.proofs.Common.{◌≡◌, ℕ}
use Rattle.bins.specs.Rows.{total, width_at}
use Rattle.bins.proofs.pool.count_used.Given as goal

-- the sum so far
abbrev pub invariant-loop-step : goal.invariant-loop-step
invariant-loop-step l = l.many ≡ total l.step (λ (step : ℕ). (width_at l.widths.items step).segments)
