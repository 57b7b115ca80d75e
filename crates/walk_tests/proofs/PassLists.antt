-- Passes of a map.
use Rattle.std.proofs.Common.{◌≡◌}
use Rattle.atomic_table.specs.Seated.{TableId}
use Rattle.bin_stripes.specs.Passes.{PassState}

-- the pass serves the map
abbrev pub IsOf : TableId → PassState → Type 0
IsOf id pass = pass.map ≡ id
