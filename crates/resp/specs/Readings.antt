-- What bytes begin with.
use Rattle.std.specs.Prelude.{◌≡◌, ℕ, List, ◌++◌}
use Rattle.resp.specs.declared.fault.RespFault.{RespFault}
use Rattle.resp.specs.Grammar.{Spells, IsIgnored, IsBegun, IsFaulty}

-- a command with these words, or none, and the bytes after it; a part of a command; or a fault
pub data Reading : Type 0 where
  command : List (List ℕ) → List ℕ → Reading
  nothing : List ℕ → Reading
  part : Reading
  faulty : RespFault → Reading

abbrev pub IsReading : List ℕ → Reading → Type 0
IsReading bytes (command words rest) = (front : List ℕ) × Spells words front × (bytes ≡ front ++ rest)
IsReading bytes (nothing rest) = (front : List ℕ) × IsIgnored front × (bytes ≡ front ++ rest)
IsReading bytes part = IsBegun bytes
IsReading bytes (faulty fault) = IsFaulty fault bytes

-- the reading after more bytes came
abbrev pub with_more : Reading → List ℕ → Reading
with_more (command words rest) more = command words (rest ++ more)
with_more (nothing rest) more = nothing (rest ++ more)
with_more part more = part
with_more (faulty fault) more = faulty fault
