use Rattle.std.proofs.Common.{◌≡◌, take}
use Rattle.bins.proofs.merged_entries.MergedEntries.copied.Given as goal

-- the first entries were copied
abbrev pub invariant-loop-position : goal.invariant-loop-position
invariant-loop-position l = l.copies ≡ take l.position l.self
