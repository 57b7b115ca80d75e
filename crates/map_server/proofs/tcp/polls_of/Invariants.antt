use Rattle.std.proofs.Common.{◌≡◌, vec_len}
use Rattle.map_server.proofs.tcp.polls_of.Given as goal

abbrev pub invariant-loop : goal.invariant-loop
invariant-loop g l = vec_len l.polls ≡ l.counter
