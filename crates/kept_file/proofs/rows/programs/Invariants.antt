use Rattle.std.proofs.Common.{◌≡◌, map, take}
use Rattle.kept_file.specs.Reading.{row_of_program}
use Rattle.kept_file.proofs.rows.programs.Given as goal

-- the programs so far are of the first rows
abbrev pub invariant-rows : goal.invariant-rows
invariant-rows g l = map row_of_program l.programs.items ≡ take l.row-index l.row-items
