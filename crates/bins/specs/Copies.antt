-- Copies of a table's entries, in any order.
use Rattle.std.specs.Prelude.{◌≡◌, ℕ, Bool, List, ◌++◌, length, sum_by}
use Rattle.std.specs.List.{range_with_len}
use Rattle.std.specs.Ordering.{is_lt}
use Rattle.std.specs.FinMap as map
use Rattle.bins.specs.KeptRows.{string_at}
use Rattle.bins.specs.Table.{Entry, Table, by_bytes}

-- one list has each entry as often as the other: however you weigh entries, the sums agree
abbrev pub WeighSame : List Entry → List Entry → Type 0
WeighSame one other = (weight : Entry → ℕ) → sum_by weight one ≡ sum_by weight other

-- each of the table's entries, once
abbrev pub AreCopies : Table → List Entry → Type 0
AreCopies table copies = WeighSame copies (map.entries table)

-- copies of the table's entries were added to a list
pub record AddsCopies (table : Table) (old new : List Entry) : Type 0 where
  pub copies : List Entry
  pub are : AreCopies table copies
  pub added : new ≡ old ++ copies

-- one entry comes before the other, by their keys
abbrev pub comes_before : Entry → Entry → Bool
comes_before one other = is_lt (by_bytes one.0 other.0)

-- all positions of a list
abbrev pub positions_of : List (List ℕ) → List ℕ
positions_of keys = range_with_len 0 (length keys)

-- the key at one position comes before the key at the other
abbrev pub is_before : List (List ℕ) → ℕ → ℕ → Bool
is_before keys one other = is_lt (by_bytes (string_at keys one) (string_at keys other))
