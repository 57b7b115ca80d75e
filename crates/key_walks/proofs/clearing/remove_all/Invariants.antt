use Rattle.std.proofs.Common.{◌≡◌}
use Rattle.bin_stripes.specs.Passes.{ServesSameMap}
use Rattle.key_walks.proofs.ClearingLemmas.{Cleared}
use Rattle.key_walks.proofs.clearing.remove_all.Given as goal

-- the stripes so far were cleared
abbrev pub invariant-loop-stripe : goal.invariant-loop-stripe
invariant-loop-stripe g l = record {
  map : l.pass.map ≡ l.fn.pass.map;
  same : ServesSameMap l.fn.pass l.pass;
  done : Cleared l.stripe l.fn.pass l.pass;
}
