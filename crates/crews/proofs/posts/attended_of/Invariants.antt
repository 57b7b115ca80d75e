use Rattle.std.proofs.Common.{◌≡◌, ◌≤◌, map, vec_len, vec_capacity, Some}
use Rattle.crews.proofs.posts.attended_of.Given as goal

abbrev pub invariant-loop-seat : goal.invariant-loop-seat
invariant-loop-seat g l = record {
  left : map Some l.back.items ≡ l.yielded;
  room : vec_len l.fn.seats ≤ vec_capacity l.back;
}
