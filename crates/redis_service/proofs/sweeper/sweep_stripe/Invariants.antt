use Rattle.std.proofs.Common.{◌≡◌, ◌+◌, ℕ}
use Rattle.bin_stripes.specs.Passes.{ServesSameMap}
use Rattle.redis_service.proofs.SweepLemmas.{TookOften}
use Rattle.redis_service.proofs.sweeper.sweep_stripe.Given as goal

-- each look so far took an entry away
abbrev pub invariant-loop : goal.invariant-loop
invariant-loop g l = record {
  map : l.pass.map ≡ l.fn.pass.map;
  same : ServesSameMap l.fn.pass l.pass;
  took : (often : ℕ) × ((l.counter ≡ often + 1) × TookOften l.now l.fn.pass l.stripe often l.pass);
}
