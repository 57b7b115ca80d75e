-- The result of the last call on a map.
use Rattle.std.specs.Prelude.{◌≡◌, ℕ, ◌<◌, List, [], ◌++◌, length}
use Rattle.std.specs.FinMap as finmap
use Rattle.stripe_rule.specs.declared.view.Event.{Event}
use Rattle.stripe_rule.specs.History.{AreOthers}
use Rattle.stripe_rule.specs.Gains.{seen_of}
use Rattle.bins.specs.Table.{Entry, Table}
use Rattle.atomic_methods.specs.Whole.{whole, stripe_at}
use Rattle.bin_stripes.specs.declared.ghost_action.GhostAction.{GhostAction}
use Rattle.bin_stripes.specs.AllSeen.{CarriesAll}
use Rattle.bin_stripes.specs.Histories.{Leaves}
use Rattle.bin_stripes.specs.Passes.{PassState, stripes_of}

-- the entries, in key order, that a legal list of each stripe leaves; the list begins with what the pass has seen, and the
-- rest are others' events; if the pass carries all numbers, the list is exactly what it has seen
pub record Closes (pass : PassState) (entries : List Entry) : Type 0 where
  pub tables : List Table
  pub one_each : length tables ≡ stripes_of pass.map
  pub between : ℕ → List (Event GhostAction)
  pub others : (k : ℕ) → k < stripes_of pass.map → AreOthers pass.view.numbers (between k)
  pub left : (k : ℕ) → k < stripes_of pass.map
      → Leaves (stripes_of pass.map) k (seen_of pass.view k ++ between k) (stripe_at tables k)
  pub whole_seen : CarriesAll pass.view
      → (k : ℕ) → k < stripes_of pass.map → between k ≡ []
  pub entries_are : entries ≡ finmap.entries (whole tables)
