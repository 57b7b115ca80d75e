-- What a file has of a stripe, and changes of stripes.
use Rattle.std.specs.Prelude.{◌≡◌, ◌==◌, ℕ, List, filter, map}
use Rattle.std.specs.FinMap as finite
use Rattle.sqlite.specs.State.{State}
use Rattle.bins.specs.Table.{Table}
use Rattle.noted_bins.specs.Rows.{put_rows, values_of}
use Rattle.kept_file.specs.Changes.{Change}
use Rattle.kept_file.specs.Content.{ChangesOf, batches_of}
use Rattle.kept_file.specs.Rows.{kept_number}

-- the table after these changes, of none
abbrev pub table_of : List Change → Table
table_of changes = put_rows finite.empty (values_of changes)

-- the changes that the file has of the stripe k come to this table
pub record HasStripe (file : State) (k : ℕ) (table : Table) : Type 0 where
  pub changes : List Change
  pub are : ChangesOf (kept_number k) (batches_of file) changes
  pub come_to : table ≡ table_of changes

-- a change of a stripe
abbrev pub StripeChange : Type 0
StripeChange = ℕ × Change

-- a batch's changes, each with the batch's stripe
abbrev pub with_stripe : ℕ → List Change → List StripeChange
with_stripe stripe changes = map (λ (change : Change). (stripe, change)) changes

-- without their stripes
abbrev pub changes_in : List StripeChange → List Change
changes_in all = map (λ (it : StripeChange). it.1) all

-- those of the stripe k
abbrev pub of_stripe : ℕ → List StripeChange → List Change
of_stripe k all = changes_in (filter (λ (it : StripeChange). it.0 == kept_number k) all)
