-- The order of a heap of deadlines.
use Rattle.std.specs.Prelude.{ℕ, List, map}
use Rattle.std.specs.declared.cmp.Ordering.{Ordering}
use Rattle.std.specs.declared.cmp.Reverse.{Reverse}
use Rattle.std.specs.Ordering.{nat_cmp, ordering_then}
use Rattle.bins.specs.Table.{by_bytes}
use Rattle.timed_bins.specs.Agendas.{Due}

-- later deadlines come first, and among equal ones smaller keys
abbrev pub later_first : Reverse ℕ × List ℕ → Reverse ℕ × List ℕ → Ordering
later_first one other = ordering_then (nat_cmp other.0.0 one.0.0) (by_bytes one.1 other.1)

-- the deadlines with their keys
abbrev pub dues_in : List (Reverse ℕ × List ℕ) → List Due
dues_in items = map (λ item. (item.0.0, item.1)) items
