use Rattle.std.proofs.Common.{◌≡◌, ◌≢◌, ◌<◌, ◌≤◌, ◌-◌, ℕ, length, slice_index}
use Rattle.bins.specs.Chains.{IsLast, bin_of, bins_of}
use Rattle.bins.proofs.index.Chains.find_from.Given as goal

-- no position that was passed has the hash, and the next one is in its bin
abbrev pub invariant-loop-at : goal.invariant-loop-at
invariant-loop-at l = record {
  range : l.at ≤ length l.self.records.hashes;
  passed : (n : ℕ) → n ≤ length l.self.records.hashes
      → IsLast (bins_of l.self.half (length l.self.heads.items) l.self.records.hashes) n (bin_of l.self.half (length l.self.heads.items) l.hash) l.first
      → (l.at ≤ n) × ((j : ℕ) → l.at ≤ j → j < n → slice_index l.self.records.hashes j ≢ l.hash)
      × (0 < l.at → bins_of l.self.half (length l.self.heads.items) l.self.records.hashes (l.at - 1) ≡ bin_of l.self.half (length l.self.heads.items) l.hash);
}

abbrev pub decreases-loop-at : goal.decreases-loop-at
decreases-loop-at l = l.at
