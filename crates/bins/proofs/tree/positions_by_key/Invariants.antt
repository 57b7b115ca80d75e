use Rattle.std.proofs.Common.{take}
use Rattle.bins.specs.Trees.{Locates}
use Rattle.bins.proofs.tree.positions_by_key.Given as goal

-- the keys so far are located
abbrev pub invariant-loop-position : goal.invariant-loop-position
invariant-loop-position l = Locates l.positions (take l.position l.rows.keys)
