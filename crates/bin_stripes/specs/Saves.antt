-- Saves of a stripe, and what the rows that they handed out come to.
use Rattle.std.specs.Prelude.{◌≡◌, ℕ, ◌≤◌, Bool, true, false, if◌then◌else◌, IsSome, List, [], ◌∷◌, ◌++◌, length, All}
use Rattle.std.specs.FinMap as finmap
use Rattle.stripe_rule.specs.declared.view.Event.{Event}
use Rattle.stripe_rule.specs.declared.view.View.{View}
use Rattle.stripe_rule.specs.Gains.{seen_of}
use Rattle.bins.specs.Table.{Table}
use Rattle.atomic_methods.specs.Hashes.{stripe_of}
use Rattle.timed_bins.specs.Deadlines.{TimedTable}
use Rattle.noted_bins.specs.declared.taken.Taken.{Taken}
use Rattle.noted_bins.specs.Rows.{Row, row_of, values_of, put_rows}
use Rattle.noted_bins.specs.Notes.{CoversValues, is_all, is_anew, is_some}
use Rattle.bin_stripes.specs.declared.ghost_action.GhostAction.{GhostAction}
use Rattle.bin_stripes.specs.Actions.{Action, called, scanned, replaced, saved}
use Rattle.bin_stripes.specs.Histories.{Leaves}
use Rattle.bin_stripes.specs.Passes.{PassState, stripes_of}
use Rattle.bin_stripes.specs.Invoked.{Makes}

-- what the rows handed out so far come to, after one more action; a save may begin anew
abbrev pub kept_after : Table → Action → Table
kept_after kept (called invocation reply) = kept
kept_after kept (scanned entries) = kept
kept_after kept (replaced key program arg outcome) = kept
kept_after kept (saved taken rows) = put_rows (if is_anew taken then finmap.empty else kept) rows

-- .. after more events
abbrev pub kept_from : Table → List (Event GhostAction) → Table
kept_from kept [] = kept
kept_from kept (event ∷ events) = kept_from (kept_after kept event.action.action) events

-- what the rows that these events handed out come to, put into an empty table in their order
abbrev pub kept_in : List (Event GhostAction) → Table
kept_in events = kept_from finmap.empty events

-- what the rule knows of a stripe's bins beside its events: what was handed out of each key that isn't noted is what it has
abbrev pub keeps : {B : Type 0} → (B → Table) → (B → List ℕ → Bool) → ℕ → List (Event GhostAction) → B → Type 0
keeps content noted k events bins = CoversValues (noted bins) (content bins) (kept_in events)

-- the events leave the table of these bins, and the rule knows the rest of them
pub record LeavesBins {B : Type 0} (content : B → Table) (noted : B → List ℕ → Bool) (stripes k : ℕ)
    (events : List (Event GhostAction)) (bins : B) : Type 0 where
  pub table : Leaves stripes k events (content bins)
  pub kept : keeps content noted k events bins

-- the pass made one save of the stripe k, in one hold of it, which came to `taken`. Its rows were added to the list, each with
-- the deadline that its key then had. If it left no key noted, all rows that were handed out of the stripe come to its table
pub record SavesStripe (old : PassState) (k : ℕ) (before after : List Row) (taken : Taken) (new : PassState) : Type 0 where
  pub rows : List Row
  pub added : after ≡ before ++ rows
  pub makes : Makes old k (saved taken (values_of rows) ∷ []) new
  pub bins : TimedTable
  pub found : Leaves (stripes_of old.map) k (seen_of old.view k ++ makes.here.between) bins.table
  pub present : All (λ row. row.1 ≡ row_of bins row.0) rows
  pub of_stripe : All (λ row. IsSome row.1 → stripe_of (stripes_of old.map) row.0 ≡ k) rows
  pub whole : is_some taken ≡ false → Leaves (stripes_of old.map) k (seen_of new.view k) (kept_in (seen_of new.view k))

-- the events seen of the stripe k of this many leave some table, and if this has at most `most` entries, all of them were taken
abbrev pub TakesAllEntries : ℕ → ℕ → ℕ → Taken → View GhostAction → Type 0
TakesAllEntries stripes k most taken view =
    (table : Table) × Leaves stripes k (seen_of view k) table × (length (finmap.entries table) ≤ most → is_all taken ≡ true)
