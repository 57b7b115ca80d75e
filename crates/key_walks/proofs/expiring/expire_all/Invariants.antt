use Rattle.std.proofs.Common.{◌≡◌}
use Rattle.bin_stripes.specs.Passes.{ServesSameMap}
use Rattle.key_walks.proofs.ExpiryLemmas.{TookSoFar}
use Rattle.key_walks.proofs.expiring.expire_all.Given as goal

-- each look so far took an entry away
abbrev pub invariant-loop : goal.invariant-loop
invariant-loop g l = record {
  map : l.pass.map ≡ l.fn.pass.map;
  same : ServesSameMap l.fn.pass l.pass;
  took : TookSoFar l.now l.fn.pass l.stripe l.pass;
}
