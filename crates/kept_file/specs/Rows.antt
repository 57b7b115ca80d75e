-- Rows of the tables.
use Rattle.std.specs.Prelude.{ℕ, ◌-◌, ◌^◌, List, [], ◌∷◌, pos, min, codes}
use Rattle.bpf_model.specs.declared.input.Sizes.{Sizes}
use Rattle.sqlite.specs.Order.{Row}
use Rattle.sqlite.specs.declared.types.Value.{Value}
use Rattle.sqlite.specs.declared.types.Value.TheVariants.{Int, Text, Blob}

-- a number is kept as it is, or as the greatest that a file can have
abbrev pub kept_number : ℕ → ℕ
kept_number n = min n (2 ^ 63 - 1)

abbrev pub number : ℕ → Value
number n = Int (pos n)

-- a batch: its number, its stripe and the bytes of its changes
abbrev pub batch_row : ℕ → ℕ → List ℕ → Row
batch_row at stripe bytes = number at ∷ number stripe ∷ Blob bytes ∷ []

-- a program's number, its four sizes and its bytes
abbrev pub program_row : ℕ → Sizes → List ℕ → Row
program_row at sizes bytes = number at ∷ number sizes.key ∷ number sizes.old ∷ number sizes.arg ∷ number sizes.result ∷ Blob bytes ∷ []

-- the setting that says how many stripes the map has
abbrev pub stripes_row : ℕ → Row
stripes_row count = Text (codes "stripes") ∷ number count ∷ []
