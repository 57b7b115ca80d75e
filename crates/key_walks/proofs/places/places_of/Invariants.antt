use Rattle.std.proofs.Common.{◌≡◌, map, take}
use Rattle.bins.specs.Table.{Entry}
use Rattle.key_walks.specs.Places.{place_of}
use Rattle.key_walks.proofs.places.places_of.Given as goal

-- the places of the first ones
abbrev pub invariant-loop-position : goal.invariant-loop-position
invariant-loop-position l = l.places.items ≡ map (λ (entry : Entry). place_of l.stripe entry.0) (take l.position l.found)
