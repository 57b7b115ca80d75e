-- What a call of a save does.
use Rattle.std.specs.Prelude.{◌≡◌, ℕ, List, [], ◌∷◌, Ok}
use Rattle.sqlite.specs.Held.{Held}
use Rattle.sqlite.specs.State.{State, ExecutesInside, Shown}
use Rattle.sqlite.specs.Order.{Row}
use Rattle.sqlite.specs.Tree.{rowid}
use Rattle.kept_file.specs.Rows.{number}
use Rattle.kept_file.specs.declared.schema.TheConstants.{NUMBERS, REMOVE}

-- the statement of this text, with these parameters, was made in the transaction
abbrev pub Makes : List ℕ → Row → State → State → Type 0
Makes text params old new = (count : ℕ) × ExecutesInside 0 text params old new (Ok count)

-- what a connection over the store S shows is `shown`
module _ {S : Type 0} (shown : Held S → State) where
  -- the batch with the number of each row was removed, one after the other
  unfoldable pub Removes : List Row → Held S → Held S → Type 0
  Removes [] old new = new ≡ old
  Removes (row ∷ rows) old new = (mid : Held S) × Makes REMOVE.now (rowid row ∷ []) (shown old) (shown mid) × Removes rows mid new

  -- the numbers of a stripe's batches were asked for, and just these batches were removed
  pub record Clears (stripe : ℕ) (old new : Held S) : Type 0 where
    pub numbers : List Row
    pub mid : Held S
    pub asked : Shown NUMBERS.now (number stripe ∷ []) (shown old) (shown mid) numbers
    pub removed : Removes numbers mid new
