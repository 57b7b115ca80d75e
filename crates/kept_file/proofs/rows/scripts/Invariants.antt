use Rattle.std.proofs.Common.{◌≡◌, map, take}
use Rattle.sqlite.specs.Order.{Row, column}
use Rattle.sqlite.specs.declared.types.Value.TheVariants.{Blob}
use Rattle.kept_file.proofs.rows.scripts.Given as goal

-- the texts so far are of the first rows
abbrev pub invariant-rows : goal.invariant-rows
invariant-rows g l = map (λ text. Blob text.items) l.scripts.items ≡ map (λ (row : Row). column row 1) (take l.row-index l.row-items)
