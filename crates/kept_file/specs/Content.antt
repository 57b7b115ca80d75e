-- The batches that a file has, and the changes of a stripe in them.
use Rattle.std.specs.Prelude.{◌≡◌, ℕ, Bool, not, List, [], ◌∷◌, ◌++◌, map, filter, IsTrue}
use Rattle.std.specs.List.{AllByRecursion}
use Rattle.std.specs.Ordering.{is_eq}
use Rattle.sqlite.specs.Effect.{IsDatabase}
use Rattle.sqlite.specs.Order.{Row, column, value_cmp}
use Rattle.sqlite.specs.Start.{FindsIn}
use Rattle.sqlite.specs.State.{IsLive, Opens, State, Shown}
use Rattle.sqlite_wal.specs.Recovery.{Image}
use Rattle.sqlite.specs.Tree.{rowid, IsTable}
use Rattle.sqlite.specs.View.{is_int}
use Rattle.sqlite.specs.declared.types.Value.TheVariants.{Blob}
use Rattle.kept_file.specs.Changes.{Change, Spells}
use Rattle.kept_file.specs.Rows.{number}
use Rattle.kept_file.specs.Tables.{kept_objects, kept_schema, batches_tree}
use Rattle.kept_file.specs.declared.tables.TheConstants.{OBJECTS}

-- the file has the tables that a new file is given, and obeys them; its batches are in the order of their numbers
pub record HasTables (file : State) : Type 0 where
  pub tables : file.now.schema ≡ kept_schema
  pub sound : IsDatabase file.now
  pub ordered : IsTable (file.now.trees batches_tree)
  pub numbered : AllByRecursion (λ row. IsTrue (is_int (rowid row))) (file.now.trees batches_tree)

-- its list of its objects is that of a new file
abbrev pub ListsKept : State → Type 0
ListsKept file = Shown OBJECTS.now [] file file kept_objects

-- the database was just opened, over files that an opening found so
pub record IsJustOpened (file : State) : Type 0 where
  pub image : Image
  pub found : FindsIn image file
  pub opened : Opens file
  pub live : IsLive file

-- the number, the stripe and the changes of a stored batch
abbrev pub batch_in : Row → Row
batch_in stored = rowid stored ∷ column stored 2 ∷ column stored 3 ∷ []

-- the file's batches, in the order of their numbers
abbrev pub batches_of : State → List Row
batches_of file = map batch_in (file.now.trees batches_tree)

-- the file has these batches, and the tables of a new file
pub record HasBatches (file : State) (batches : List Row) : Type 0 where
  pub tables : HasTables file
  pub are : batches_of file ≡ batches

-- the batch is of this stripe
abbrev pub is_of : ℕ → Row → Bool
is_of stripe batch = is_eq (value_cmp (column batch 1) (number stripe))

-- those of other stripes
abbrev pub others_of : ℕ → List Row → List Row
others_of stripe batches = filter (λ batch. not (is_of stripe batch)) batches

-- a batch of this stripe with these bytes comes after all others
pub record Appends (stripe : ℕ) (bytes : List ℕ) (old new : State) : Type 0 where
  pub batch : Row
  pub of_stripe : column batch 1 ≡ number stripe
  pub has_bytes : column batch 2 ≡ Blob bytes
  pub appended : HasBatches new (batches_of old ++ batch ∷ [])

-- what the batches spell, one after the other
unfoldable pub Joins : List Row → List Change → Type 0
Joins [] changes = changes ≡ []
Joins (batch ∷ batches) changes =
    (bytes : List ℕ) × (first : List Change) × (more : List Change) × (column batch 2 ≡ Blob bytes) × Spells bytes first × (changes ≡ first ++ more) × Joins batches more

-- the changes of a stripe in these batches, in their order
abbrev pub ChangesOf : ℕ → List Row → List Change → Type 0
ChangesOf stripe batches = Joins (filter (is_of stripe) batches)
