-- What a refusal of hex text says of the text.
use Rattle.std.specs.Prelude.{ℕ, List}
use Rattle.map_commands.specs.declared.hex.HexFault.{HexFault}
use Rattle.map_commands.specs.declared.hex.HexFault.TheVariants.{NotHex, NoMemory}
use Rattle.map_commands.specs.Hex.{IsFault}

-- the fault is at the byte that is named; want of memory says nothing
abbrev pub TellsFault : HexFault → List ℕ → Type 0
TellsFault (NotHex place) text = IsFault text place
TellsFault NoMemory text = Unit {0}
