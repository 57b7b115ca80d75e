use Rattle.std.proofs.Common.{◌≡◌, vec_len}
use Rattle.map_server.proofs.quotas.Quotas.new.Given as goal

abbrev pub invariant-loop : goal.invariant-loop
invariant-loop l = vec_len l.begun ≡ l.counter
