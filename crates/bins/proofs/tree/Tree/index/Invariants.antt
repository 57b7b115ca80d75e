use Rattle.std.proofs.Common.{◌≡◌, map, take}
use Rattle.bins.specs.Mixed.{mixed}
use Rattle.bins.proofs.tree.Tree.index.Given as goal

-- the keys so far are hashed
abbrev pub invariant-loop-position : goal.invariant-loop-position
invariant-loop-position l = record {
  hashes : l.index.hashes ≡ map (mixed l.index.seed) (take l.position l.rows.keys);
}
