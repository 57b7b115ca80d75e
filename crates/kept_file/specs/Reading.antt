-- What is read of a file: the answers of the queries for its batches, its programs and its scripts.
use Rattle.std.specs.Prelude.{◌≡◌, ◌≤◌, Bool, true, false, ℕ, List, [], ◌∷◌, ◌++◌, map, None, Ok}
use Rattle.std.specs.List.{AllByRecursion}
use Rattle.sqlite_resolve.specs.declared.compiled.Compiled.{Compiled}
use Rattle.sqlite.specs.Given.{HasGiven}
use Rattle.sqlite.specs.Held.{Held, state}
use Rattle.sqlite.specs.Listing.{understood}
use Rattle.sqlite.specs.Order.{Row, column}
use Rattle.sqlite.specs.Schema.{Schema}
use Rattle.sqlite.specs.State.{State, IsUnchanged, Shown}
use Rattle.sqlite.specs.Store.{Ghosts}
use Rattle.sqlite.specs.Tree.{rowid, IsTable}
use Rattle.sqlite.specs.declared.types.Value.TheVariants.{Blob}
use Rattle.kept_file.specs.Rows.{batch_row, number, program_row}
use Rattle.kept_file.specs.declared.batches.KeptBatch.{KeptBatch}
use Rattle.kept_file.specs.declared.batches.TheConstants.{BATCHES}
use Rattle.kept_file.specs.declared.rows.KeptProgram.{KeptProgram}
use Rattle.kept_file.specs.declared.rows.TheConstants.{PROGRAMS, SCRIPTS}

-- the row of a batch
abbrev pub row_of : KeptBatch → Row
row_of batch = batch_row batch.number batch.stripe batch.bytes.items

-- the query for the batches shows just these rows, in this order
abbrev pub ShowsBatches : State → List Row → Type 0
ShowsBatches file rows = Shown BATCHES.now [] file file rows

-- the row of a program
abbrev pub row_of_program : KeptProgram → Row
row_of_program program = program_row program.number program.sizes program.bytes.items

-- it has these programs and no others, in the order of their numbers
abbrev pub HasPrograms : State → List KeptProgram → Type 0
HasPrograms file programs = Shown PROGRAMS.now [] file file (map row_of_program programs)

-- it has the scripts of these texts and no others, in the order in which they were loaded
pub record HasScripts (file : State) (texts : List (List ℕ)) : Type 0 where
  pub rows : List Row
  pub shown : Shown SCRIPTS.now [] file file rows
  pub texts_are : map (λ (row : Row). column row 1) rows ≡ map Blob texts

-- whatever tables there are, the text shows no rows of a write, and asks for no time
abbrev pub OnlyReads : List ℕ → Type 0
OnlyReads text = (schema : Schema) (c : Compiled) → understood schema text ≡ Ok c → (c.returning ≡ None) × (c.formats ≡ [])

-- the numbers of these batches rise, up to this one
pub record RisesTo (rows : List Row) (last : ℕ) : Type 0 where
  pub rising : IsTable rows
  pub below : AllByRecursion (λ row. (at : ℕ) × (rowid row ≡ number at) × (at ≤ last)) rows

module _ {S : Type 0} (g : Ghosts S) where
  -- a reading that began with the file as at the start has handed out these batches, and has changed nothing
  abbrev pub HandedOut : Held S → Held S → List Row → Type 0
  HandedOut start now rows = HasGiven g BATCHES.now [] now rows × IsUnchanged (state g start) (state g now)

  -- then it hands out one more, or the query shows just these
  abbrev pub GoesOn : Held S → Held S → List Row → Bool → Row → Type 0
  GoesOn start now rows true row = HandedOut start now (rows ++ row ∷ [])
  GoesOn start now rows false row = ShowsBatches (state g start) rows × IsUnchanged (state g start) (state g now)

  -- what one step of a reading comes to, if it found a batch or none
  abbrev pub HandsOut : Held S → Held S → Bool → Row → Type 0
  HandsOut old new found row = (start : Held S) (rows : List Row) → HandedOut start old rows → GoesOn start new rows found row
