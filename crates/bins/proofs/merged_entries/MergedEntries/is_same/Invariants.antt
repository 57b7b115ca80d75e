use Rattle.std.proofs.Common.{◌≡◌, take}
use Rattle.bins.proofs.merged_entries.MergedEntries.is_same.Given as goal

-- the first entries are the same
abbrev pub invariant-loop-position : goal.invariant-loop-position
invariant-loop-position l = take l.position l.self ≡ take l.position l.other
