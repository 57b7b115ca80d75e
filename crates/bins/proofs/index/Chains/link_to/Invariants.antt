use Rattle.std.proofs.Common.{◌≡◌, ℕ, length}
use Rattle.bins.specs.Chains.{Links, IsLink, follow}
use Rattle.bins.proofs.ChainMoves.{Reaches}
use Rattle.bins.proofs.index.Chains.link_to.Given as goal

-- this link leads on, and was reached from the bin's head
abbrev pub invariant-loop-link : goal.invariant-loop-link
invariant-loop-link l = record {
  leads : l.at ≡ follow l.self.heads.items l.self.records.nexts l.link;
  is_link : IsLink l.self l.link;
  reached : (bins : ℕ → ℕ) → Links bins (length l.self.records.nexts) l.self.heads.items l.self.records.nexts
      → Reaches bins (length l.self.records.nexts) l.bin l.position l.link;
}

abbrev pub decreases-loop-link : goal.decreases-loop-link
decreases-loop-link l = l.at
