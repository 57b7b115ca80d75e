-- Rows of some noted keys.
use Rattle.std.specs.Prelude.{◌≡◌, ◌⊎◌, ℕ, true, false, List, Option, Some, None}
use Rattle.std.specs.List.{All}
use Rattle.timed_bins.specs.declared.timing.Timing.{Timing}
use Rattle.timed_bins.specs.declared.timing.TimedReply.{TimedReply}
use Rattle.timed_bins.specs.Deadlines.{TimedTable}
use Rattle.noted_bins.specs.Notes.{NotedKeys, is_noted}
use Rattle.noted_bins.specs.Rows.{Row, has_row, row_of}

-- these rows are what is there of keys that were noted; a key that is no longer noted has one
pub record HandsOut (old : NotedKeys) (table : TimedTable) (rows : List Row) (new : NotedKeys) : Type 0 where
  pub all : new.all ≡ false
  pub present : All (λ (row : Row). row.1 ≡ row_of table row.0) rows
  pub known : (key : List ℕ) → is_noted new table.table key ≡ false → (has_row rows key ≡ true) ⊎ (is_noted old table.table key ≡ false)

-- a call with this reply left the key's entry and its deadline as they were, if its method only reads
abbrev pub LeavesSame : Option Timing → TimedReply → Type 0
LeavesSame None timed = Unit {0}
LeavesSame (Some timing) timed = (timed.was_over ≡ false) × (timed.before ≡ timed.after)
