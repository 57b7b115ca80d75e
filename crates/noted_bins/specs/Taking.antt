-- Rows that were added to a list of changes.
use Rattle.std.specs.Prelude.{◌≡◌, ◌⊎◌, ℕ, Bool, true, false, List, [], ◌++◌, None, slice_index_or}
use Rattle.std.specs.List.{All}
use Rattle.std.specs.FinMap as finite
use Rattle.bins.specs.Ranks.{IsOneOf, rank_in}
use Rattle.bins.specs.declared.ranks.Ranks.{Ranks}
use Rattle.timed_bins.specs.Deadlines.{TimedTable}
use Rattle.noted_bins.specs.Notes.{is_filtered}
use Rattle.noted_bins.specs.Rows.{Row, has_row, row_of}
use Rattle.noted_bins.specs.Tours.{TourKeys, is_ahead}

-- the row at a position
abbrev pub row_at : List Row → ℕ → Row
row_at rows position = slice_index_or rows position ([], None)

-- rows of all entries were added
pub record HandsOutAll (table : TimedTable) (old new : List Row) : Type 0 where
  pub rows : List Row
  pub added : new ≡ old ++ rows
  pub present : All (λ (row : Row). row.1 ≡ row_of table row.0) rows
  pub known : (key : List ℕ) → (has_row rows key ≡ true) ⊎ (finite.get table.table key ≡ None)

-- rows of some entries were added
pub record HandsOutPresent (table : TimedTable) (old new : List Row) : Type 0 where
  pub rows : List Row
  pub added : new ≡ old ++ rows
  pub present : All (λ (row : Row). row.1 ≡ row_of table row.0) rows

-- .. and each entry whose key a filter may have is among them, if its rank is one of these
pub record HandsOutAt (table : TimedTable) (order : List (List ℕ)) (filter : List Bool) (ranks : Ranks) (old new : List Row) : Type 0 where
  pub handed : HandsOutPresent table old new
  pub known : (key : List ℕ) → is_filtered filter table.table key ≡ true → IsOneOf ranks (rank_in order key) → has_row handed.rows key ≡ true

-- .. and each entry whose key a filter may have had, and has no more, is among them
pub record HandsOutFiltered (table : TimedTable) (old_filter new_filter : List Bool) (old new : List Row) : Type 0 where
  pub handed : HandsOutPresent table old new
  pub known : (key : List ℕ) → is_filtered new_filter table.table key ≡ false → is_filtered old_filter table.table key ≡ true → has_row handed.rows key ≡ true

-- .. and each key that a tour was to hand out, and is no longer, is among them
pub record HandsOutAhead (table : TimedTable) (order : List (List ℕ)) (old_tour new_tour : TourKeys) (old new : List Row) : Type 0 where
  pub handed : HandsOutPresent table old new
  pub known : (key : List ℕ) → is_ahead new_tour order table.table key ≡ false → is_ahead old_tour order table.table key ≡ true → has_row handed.rows key ≡ true
