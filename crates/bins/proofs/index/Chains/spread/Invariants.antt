use Rattle.std.proofs.Common.{◌≡◌}
use Rattle.bins.specs.Chains.{AreChained}
use Rattle.bins.proofs.index.Chains.spread.Given as goal

-- the hashes stay, and are chained
abbrev pub invariant-loop : goal.invariant-loop
invariant-loop l = record {
  chained : AreChained l.self;
  hashes : l.self.records.hashes ≡ l.fn.self.records.hashes;
}
