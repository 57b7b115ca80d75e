use Rattle.std.proofs.Common.{◌≡◌, ◌≤◌, ◌-◌, ℕ, length, slice_index, vec_capacity}
use Rattle.bins.proofs.index.first_heads.Given as goal

-- no bin so far has a position
abbrev pub invariant-loop-heads : goal.invariant-loop-heads
invariant-loop-heads l = record {
  few : length l.heads.items ≤ 8;
  room : 8 ≤ vec_capacity l.heads;
  none : (bin : ℕ) → slice_index l.heads.items bin ≡ 0;
}

abbrev pub decreases-loop-heads : goal.decreases-loop-heads
decreases-loop-heads l = 8 - length l.heads.items
