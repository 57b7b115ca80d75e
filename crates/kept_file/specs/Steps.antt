-- The steps of a save.
use mathlib.Core.Logic.{inl, inr}
use Rattle.std.specs.Prelude.{ℕ, List, [], ◌∷◌, ◌⊎◌}
use Rattle.sqlite.specs.Held.{Held}
use Rattle.sqlite.specs.State.{State}
use Rattle.bpf_model.specs.declared.input.Sizes.{Sizes}
use Rattle.sqlite.specs.Order.{Row}
use Rattle.sqlite.specs.declared.types.Value.TheVariants.{Blob}
use Rattle.kept_file.specs.Rows.{kept_number, number, program_row, stripes_row}
use Rattle.kept_file.specs.Saves.{Clears, Makes}
use Rattle.kept_file.specs.declared.schema.TheConstants.{APPEND, PROGRAM, SCRIPT, SET}

-- a text of SQL, with its parameters
abbrev pub Statement : Type 0
Statement = List ℕ × Row

-- a step: all batches of a stripe go, or a statement is made
abbrev pub Step : Type 0
Step = ℕ ⊎ Statement

-- the step was made, by a connection that shows `shown`
abbrev pub MakesStep : {S : Type 0} → (Held S → State) → Step → Held S → Held S → Type 0
MakesStep shown (inl stripe) old new = Clears shown (kept_number stripe) old new
MakesStep shown (inr statement) old new = Makes statement.0 statement.1 (shown old) (shown new)

-- all batches of a stripe go
abbrev pub clearing : ℕ → Step
clearing stripe = inl stripe

-- a batch of a stripe comes, after all others
abbrev pub appending : ℕ → List ℕ → Step
appending stripe bytes = inr (APPEND.now, number (kept_number stripe) ∷ Blob bytes ∷ [])

-- the number of stripes is noted
abbrev pub noting_stripes : ℕ → Step
noting_stripes count = inr (SET.now, stripes_row (kept_number count))

-- a script comes
abbrev pub adding_script : List ℕ → Step
adding_script text = inr (SCRIPT.now, Blob text ∷ [])

-- a program comes
abbrev pub adding_program : ℕ → Sizes → List ℕ → Step
adding_program at sizes bytes = inr (PROGRAM.now, program_row (kept_number at) sizes bytes)
