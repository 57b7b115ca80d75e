use Rattle.std.proofs.Common.{◌≡◌, map, take}
use Rattle.bins.specs.Table.{Entry}
use Rattle.key_walks.proofs.finding.keys_of.Given as goal

-- the keys of the first ones
abbrev pub invariant-loop-position : goal.invariant-loop-position
invariant-loop-position l = l.keys.items ≡ map (λ (entry : Entry). entry.0) (take l.position l.found)
