use Rattle.std.proofs.Common.{◌≡◌}
use Rattle.bin_stripes.specs.Passes.{ServesSameMap}
use Rattle.redis_service.proofs.SweepLemmas.{Swept}
use Rattle.redis_service.proofs.sweeper.Sweeper.sweep.Given as goal

-- the stripes so far were swept
abbrev pub invariant-loop-stripe : goal.invariant-loop-stripe
invariant-loop-stripe g l = record {
  map : l.pass.map ≡ l.fn.pass.map;
  same : ServesSameMap l.fn.pass l.pass;
  done : Swept l.now l.stripe l.fn.pass l.next l.is_more l.pass;
}
