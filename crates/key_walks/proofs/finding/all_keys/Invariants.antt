use Rattle.std.proofs.Common.{◌≡◌}
use Rattle.bin_stripes.specs.Passes.{ServesSameMap}
use Rattle.key_walks.proofs.FindingLemmas.{Found}
use Rattle.key_walks.proofs.finding.all_keys.Given as goal

-- the stripes so far were scanned
abbrev pub invariant-loop-stripe : goal.invariant-loop-stripe
invariant-loop-stripe g l = record {
  map : l.pass.map ≡ l.fn.pass.map;
  same : ServesSameMap l.fn.pass l.pass;
  done : Found l.now l.stripe l.fn.pass l.keys.items l.pass;
}
