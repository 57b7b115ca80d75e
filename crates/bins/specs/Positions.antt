-- Positions among entries that are sorted by key.
use Rattle.std.specs.Prelude.{◌≡◌, ℕ, List, HoldsAt}
use Rattle.std.specs.List.Sorted.{IsPartitionPoint}
use Rattle.std.specs.declared.cmp.Ordering.TheVariants.{Less, Equal, Greater}
use Rattle.bins.specs.Table.{Entry, by_bytes}

-- the entry at position i has the key
abbrev pub IsAt : List Entry → List ℕ → ℕ → Type 0
IsAt entries key i = HoldsAt (λ entry. by_bytes entry.0 key ≡ Equal) entries i

-- the key would go to position i: smaller keys stand before it, and greater keys from it on
abbrev pub IsGapFor : List Entry → List ℕ → ℕ → Type 0
IsGapFor entries key i =
    IsPartitionPoint (λ entry. by_bytes entry.0 key ≡ Less) (λ entry. by_bytes entry.0 key ≡ Greater) entries i
