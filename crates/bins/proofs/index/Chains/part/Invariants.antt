use Rattle.std.proofs.Common.{◌≡◌, ◌<◌, ◌≤◌, ◌+◌, ◌-◌, length}
use Rattle.bins.specs.Chains.{AreLinkedBy, bins_of}
use Rattle.bins.proofs.ChainParts.{between}
use Rattle.bins.proofs.index.Chains.part.Given as goal

-- the positions from `at` on have been divided
abbrev pub invariant-loop-at : goal.invariant-loop-at
invariant-loop-at l = record {
  half : l.self.half ≡ l.fn.self.half;
  hashes : l.self.records.hashes ≡ l.fn.self.records.hashes;
  nexts : length l.self.records.nexts ≡ length l.fn.self.records.nexts;
  bins : length l.self.heads.items ≡ length l.fn.self.heads.items;
  range : l.at ≤ length l.self.records.nexts;
  there : 0 < l.at → bins_of l.fn.self.half l.into l.fn.self.records.hashes (l.at - 1) ≡ l.from;
  linked : AreLinkedBy (between (bins_of l.fn.self.half l.into l.fn.self.records.hashes) (bins_of l.fn.self.half (l.into + 1) l.fn.self.records.hashes) l.at) l.self;
}

abbrev pub decreases-loop-at : goal.decreases-loop-at
decreases-loop-at l = l.at
