use Rattle.std.proofs.Common.{◌≡◌, ◌+◌, ◌≤◌, length, vec_capacity}
use Rattle.bins.proofs.pool.append_segments.Given as goal

-- this many segments are there, and the list has room for all wanted ones
abbrev pub invariant-loop-count : goal.invariant-loop-count
invariant-loop-count l = record {
  counted : l.used + length l.free.items ≡ l._count;
  more : length l.fn.free.items ≤ length l.free.items;
  pool : l.used + length l.free.items ≤ vec_capacity l.free;
  room : l.wanted ≤ vec_capacity l.free;
}
