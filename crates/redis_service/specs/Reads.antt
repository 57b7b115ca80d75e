-- What a reader read.
use Rattle.std.specs.Prelude.{◌≡◌, ◌<◌, ℕ, List, ◌++◌, length, Result, Ok, Err}
use Rattle.resp.specs.Grammar.{Spells, IsIgnored, IsBegun, IsFaulty}
use Rattle.resp.specs.declared.command.Next.{Next}
use Rattle.resp.specs.declared.command.Next.TheVariants.{Command, Nothing, More}
use Rattle.resp.specs.declared.fault.NextFault.{NextFault}
use Rattle.resp.specs.declared.fault.NextFault.TheVariants.{Faulty, NoMemory}

-- of these bytes some were read, which are so; the rest follows them
abbrev pub Takes : List ℕ → List ℕ → (List ℕ → Type 0) → Type 0
Takes bytes rest Is = (read : List ℕ) × (bytes ≡ read ++ rest) × Is read

-- what the bytes begin with, the words of a command, and what was not read
abbrev pub ReadsNext : Result Next NextFault → List ℕ → List (List ℕ) → List ℕ → Type 0
ReadsNext (Ok (Command after)) bytes words rest = Takes bytes rest (Spells words) × (length rest < length bytes)
ReadsNext (Ok (Nothing after)) bytes words rest = Takes bytes rest IsIgnored × (length rest < length bytes)
ReadsNext (Ok More) bytes words rest = IsBegun bytes × (rest ≡ bytes)
ReadsNext (Err (Faulty fault)) bytes words rest = IsFaulty fault bytes × (rest ≡ bytes)
ReadsNext (Err NoMemory) bytes words rest = rest ≡ bytes
