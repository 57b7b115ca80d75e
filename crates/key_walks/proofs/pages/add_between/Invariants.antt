use Rattle.std.proofs.Common.{◌≡◌, ◌++◌, map, filter, take}
use Rattle.bins.specs.Table.{Entry}
use Rattle.key_walks.specs.Places.{stands_in}
use Rattle.key_walks.proofs.pages.add_between.Given as goal

-- those among the first ones were added
abbrev pub invariant-loop-position : goal.invariant-loop-position
invariant-loop-position l =
    l.keys.items ≡ l.fn.keys.items ++ map (λ (entry : Entry). entry.0) (filter (λ (entry : Entry). stands_in l.stripe l.from l.until entry.0) (take l.position l.found))
