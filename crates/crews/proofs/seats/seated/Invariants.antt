use Rattle.std.proofs.Common.{◌≡◌, ◌≤◌, map, vec_len, vec_capacity, Some}
use Rattle.crews.proofs.seats.seated.Given as goal

abbrev pub invariant-loop-one : goal.invariant-loop-one
invariant-loop-one g l = record {
  seated : l.seats.items ≡ map Some l.yielded;
  room : vec_len l.fn.all ≤ vec_capacity l.seats;
}
