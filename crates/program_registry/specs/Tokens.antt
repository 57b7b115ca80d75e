-- What a token says: its registry, its program and its number.
use Rattle.std.specs.Prelude.{ℕ}
use Rattle.boxcar.specs.Table.{Shows}
use Rattle.verifier.specs.Checked.{Checked}
use Rattle.program_registry.specs.declared.registry.Registry.{Registry}
use Rattle.program_registry.specs.declared.registry.ProgramToken.{ProgramToken}

-- the registry gave the token
abbrev pub IsOf : Registry → ProgramToken → Type 0
IsOf registry token = Shows registry.programs token.place

abbrev pub program_of : ProgramToken → Checked
program_of token = token.place.value

abbrev pub token_number : ProgramToken → ℕ
token_number token = token.place.index
