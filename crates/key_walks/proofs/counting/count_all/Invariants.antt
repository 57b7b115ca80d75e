use Rattle.std.proofs.Common.{◌≡◌}
use Rattle.bin_stripes.specs.Passes.{ServesSameMap}
use Rattle.key_walks.proofs.ChainLemmas.{Counted}
use Rattle.key_walks.proofs.counting.count_all.Given as goal

-- the stripes so far were counted
abbrev pub invariant-loop-stripe : goal.invariant-loop-stripe
invariant-loop-stripe g l = record {
  map : l.pass.map ≡ l.fn.pass.map;
  same : ServesSameMap l.fn.pass l.pass;
  done : Counted l.stripe l.fn.pass l.count l.pass;
}
