use Rattle.std.proofs.Common.{◌≡◌, ◌++◌, length, take}
use Rattle.noted_bins.proofs.packed_entries.PackedEntries.add_all.Given as goal

abbrev pub invariant-loop-position : goal.invariant-loop-position
invariant-loop-position l = (l.self ≡ l.initial.self ++ take l.position l.entries) × (l.before ≡ length l.initial.self)
