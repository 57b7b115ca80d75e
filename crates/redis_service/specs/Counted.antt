-- What was counted, by kinds.
use Rattle.std.specs.Prelude.{◌≡◌, ℕ, List, ◌++◌, flat_map, decimal, codes}
use Rattle.redis_service.specs.Lines.{line_end}

-- how often a command came that has this name
pub record Calls : Type 0 where
  pub name : List ℕ
  pub calls : ℕ

abbrev pub calls_line : Calls → List ℕ
calls_line one = codes "cmdstat_" ++ one.name ++ codes ":calls=" ++ decimal one.calls ++ line_end

-- the lines of some commands
abbrev pub AreCalls : List ℕ → Type 0
AreCalls text = (all : List Calls) × (text ≡ flat_map calls_line all)
